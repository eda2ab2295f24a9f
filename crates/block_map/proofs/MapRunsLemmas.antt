-- Runs of calls on a block map, and the damage that they may name.
use Rattle.std.proofs.Common.{◌≡◌, ℕ, refl, sym, subst, inl, inr}
use Rattle.std.specs.Prelude.{Option, Some, None}
use Rattle.store_api.specs.Frame.{NoPage}
use Rattle.store_api.specs.RunsOverPages.{RunsOverPages}
use Rattle.store_api.specs.Works.{Steady}
use Rattle.store_api.specs.declared.fault.Damage.{Damage}
use Rattle.store_api.specs.declared.fault.StoreFault.{StoreFault}
use Rattle.store_api.specs.declared.fault.StoreFault.TheVariants.{Damaged}
use Rattle.store_api.specs.declared.pages.Pages.{Ghosts}
use Rattle.store_api.proofs.RunsOverPagesLemmas.{runs_damage, runs_then, runs_wider}
use Rattle.entry_tree.specs.Forest.{Forest}
use Rattle.entry_tree.specs.HeldTrees.{BreaksTree, HoldsTree, IsTreePage}
use Rattle.entry_tree.specs.declared.tree.Tree.{Tree}
use Rattle.entry_tree.proofs.ReadLeafLemmas.{breaks_still, holds_still, tree_page_still}
use Rattle.block_map.specs.BlockMaps.{BreaksMapTree, IsMapForm}

module _ {S : Type 0} {g : Ghosts S} where
  -- a run that meets damage
  pub runs_named : {Mine Kind : ℕ → Type 0} {Breaks : Damage → Type 0} {old new : S} (tree : Tree) (fault : StoreFault) → fault ≡ Damaged (record { page = tree.root; rule = 6 })
      → RunsOverPages g Mine Kind Breaks old new None → Breaks (record { page = tree.root; rule = 6 }) → RunsOverPages g Mine Kind Breaks old new (Some fault)
  runs_named {Mine} {Kind} {Breaks} {old} {new} tree fault is run breaks =
      subst (λ (f : StoreFault). RunsOverPages g Mine Kind Breaks old new (Some f)) (sym is) (runs_damage run breaks)

  -- a run that finds that the map hasn't its form, or what was expected of it
  pub runs_map_broken : {Mine Kind : ℕ → Type 0} {old new : S} (tree : Tree) (Expected : Forest → Type 0) (fault : StoreFault) → fault ≡ Damaged (record { page = tree.root; rule = 6 })
      → RunsOverPages g Mine Kind (BreaksMapTree g old tree Expected) old new None → ((t : Forest) → HoldsTree g old tree t → IsMapForm t → Expected t → ⊥)
      → RunsOverPages g Mine Kind (BreaksMapTree g old tree Expected) old new (Some fault)
  runs_map_broken tree Expected fault is run broken = runs_named tree fault is run (inr (record { page = refl; rule = refl; broken = broken }))

  -- a run on the tree alone
  pub runs_in_tree : {Mine Kind : ℕ → Type 0} {old new : S} {fault : Option StoreFault} (tree : Tree) (Expected : Forest → Type 0) → RunsOverPages g Mine Kind (BreaksTree g old tree) old new fault
      → RunsOverPages g Mine Kind (BreaksMapTree g old tree Expected) old new fault
  runs_in_tree tree Expected run = runs_wider run (λ p there mine. mine) (λ p kind. kind) (λ damage b. inl b)

  -- damage that is named later
  pub breaks_map_still : {s mid : S} {tree : Tree} (Early Late : Forest → Type 0) (damage : Damage) → Steady g s mid → (g.state mid).work ≡ (g.state s).work
      → ((t : Forest) → HoldsTree g s tree t → Early t → Late t) → BreaksMapTree g mid tree Late damage → BreaksMapTree g s tree Early damage
  breaks_map_still Early Late damage steady same narrow (inl b) = inl (breaks_still damage steady same b)
  breaks_map_still Early Late damage steady same narrow (inr b) = inr (record {
    page = b.page;
    rule = b.rule;
    broken = λ t h form early. b.broken t (holds_still steady same h) form (narrow t h early);
  })

  -- one reading call more
  pub runs_map_on : {old mid new : S} {fault : Option StoreFault} (tree : Tree) (Early Late : Forest → Type 0) → RunsOverPages g NoPage (IsTreePage g old tree) (BreaksMapTree g old tree Early) old mid None
      → (g.state mid).work ≡ (g.state old).work → ((t : Forest) → HoldsTree g old tree t → Early t → Late t)
      → RunsOverPages g NoPage (IsTreePage g mid tree) (BreaksMapTree g mid tree Late) mid new fault → RunsOverPages g NoPage (IsTreePage g old tree) (BreaksMapTree g old tree Early) old new fault
  runs_map_on tree Early Late first same narrow second =
      runs_then first second (λ p there none. absurd none) (λ p is. tree_page_still p first.works.steady same is) (λ damage b. breaks_map_still Early Late damage first.works.steady same narrow b)
