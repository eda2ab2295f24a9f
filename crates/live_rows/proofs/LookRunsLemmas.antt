-- Runs of looks into a record index and the block map of its table, and the damage that they may name.
use Rattle.std.proofs.Common.{◌≡◌, ℕ, inl, inr}
use Rattle.std.specs.Prelude.{Option, None}
use Rattle.store_api.specs.Frame.{NoPage}
use Rattle.store_api.specs.RunsOverPages.{RunsOverPages}
use Rattle.store_api.specs.Works.{Steady}
use Rattle.store_api.specs.declared.fault.StoreFault.{StoreFault}
use Rattle.store_api.specs.declared.pages.Pages.{Ghosts}
use Rattle.store_api.proofs.FrameLemmas.{touches_same}
use Rattle.store_api.proofs.RunsOverPagesLemmas.{runs_then, runs_wider}
use Rattle.mdc_ast.specs.declared.definition.TableDef.{TableDef}
use Rattle.entry_tree.specs.Forest.{Forest}
use Rattle.entry_tree.specs.HeldTrees.{IsTreePage}
use Rattle.entry_tree.specs.declared.tree.Tree.{Tree}
use Rattle.block_map.specs.BlockMaps.{AnyMap, BreaksMapTree}
use Rattle.block_map.proofs.MapRunsLemmas.{breaks_map_still}
use Rattle.table_trees.specs.TableTrees.{TreePlace, map_place, place_of_tree}
use Rattle.table_trees.specs.TreesBeside.{BreaksTreeAt, HoldsTreeAt, IsTreePageAt}
use Rattle.table_trees.proofs.SideBySideLemmas.{tree_still}
use Rattle.table_trees.proofs.TreesBesideLemmas.{holds_at}
use Rattle.record_index.specs.RecordIndexes.{place_of_record_index}
use Rattle.live_rows.specs.LiveRids.{BreaksMapAt}
use Rattle.live_rows.specs.Twins.{BreaksLook, IsLookPage}

-- what looks into the two trees do
abbrev pub Looks : {S : Type 0} → Ghosts S → TableDef → ℕ → S → S → Option StoreFault → Type 0
Looks g def index old new fault = RunsOverPages g NoPage (IsLookPage g old def index) (BreaksLook g old def index) old new fault

module _ {S : Type 0} {g : Ghosts S} where
  -- a tree at a place stays where the work does
  pub at_still : (old mid : S) (place : TreePlace) (t : Forest) → Steady g old mid → (g.state mid).work ≡ (g.state old).work → HoldsTreeAt g old place t → HoldsTreeAt g mid place t
  at_still old mid place t steady same held = tree_still (λ (q : ℕ). ⊥) old mid place t held (touches_same steady.is_told same) steady.is_told (λ q l mine. mine)

  -- a call on the block map, in words of its place
  pub runs_map_at : {old new : S} {fault : Option StoreFault} (tree : Tree) (place : TreePlace) → place_of_tree tree ≡ place → RunsOverPages g NoPage (IsTreePage g old tree) (BreaksMapTree g old tree AnyMap) old new fault
      → RunsOverPages g NoPage (IsTreePageAt g old place) (BreaksMapAt g old place) old new fault
  runs_map_at {old = old} tree place is run =
      runs_wider run (λ p there none. none) (λ p mine t held. mine t (holds_at old tree place t is held)) (λ damage b. record { tree = tree; at = is; is = b })

  -- one look more: into the index, and into the block map
  pub look_at_index : (def : TableDef) (index : ℕ) (old mid new : S) (fault : Option StoreFault) → Looks g def index old mid None → (g.state mid).work ≡ (g.state old).work
      → RunsOverPages g NoPage (IsTreePageAt g mid (place_of_record_index def index)) (BreaksTreeAt g mid (place_of_record_index def index)) mid new fault → Looks g def index old new fault
  look_at_index def index old mid new fault first same second =
      let place = place_of_record_index def index in
      let steady = first.works.steady in
      runs_then first second (λ p there none. absurd none) (λ p is. inl (λ t held. is t (at_still old mid place t steady same held)))
      (λ damage b. inl (record { page = b.page; rule = b.rule; broken = λ t held. b.broken t (at_still old mid place t steady same held) }))

  pub look_at_map : (def : TableDef) (index : ℕ) (tree : Tree) (old mid new : S) (fault : Option StoreFault) → place_of_tree tree ≡ map_place def → Looks g def index old mid None → (g.state mid).work ≡ (g.state old).work
      → RunsOverPages g NoPage (IsTreePage g mid tree) (BreaksMapTree g mid tree AnyMap) mid new fault → Looks g def index old new fault
  look_at_map def index tree old mid new fault at first same second =
      let place = map_place def in
      let steady = first.works.steady in
      runs_then first second (λ p there none. absurd none) (λ p is. inr (λ t held. is t (holds_at mid tree place t at (at_still old mid place t steady same held))))
      (λ damage b. inr (record { tree = tree; at = at; is = breaks_map_still AnyMap AnyMap damage steady same (λ t held any. any) b }))
