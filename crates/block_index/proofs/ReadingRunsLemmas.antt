-- Runs of calls that read one tree, one after another.
use Rattle.std.proofs.Common.{◌≡◌, ℕ, refl, subst, sym}
use Rattle.std.specs.Prelude.{IfErr, OnOk, Option, Result, Some, None, Ok, Err}
use Rattle.store_api.specs.Causes.{fault_of}
use Rattle.store_api.specs.Frame.{NoPage}
use Rattle.store_api.specs.RunsOverPages.{RunsOverPages}
use Rattle.store_api.specs.declared.fault.Damage.{Damage}
use Rattle.store_api.specs.declared.fault.StoreFault.{StoreFault}
use Rattle.store_api.specs.declared.fault.StoreFault.TheVariants.{Damaged, Memory}
use Rattle.store_api.specs.declared.pages.Pages.{Ghosts}
use Rattle.store_api.proofs.RunsOverPagesLemmas.{runs_damage, runs_memory, runs_then}
use Rattle.entry_tree.specs.Forest.{Forest}
use Rattle.entry_tree.specs.HeldTrees.{BreaksTree, HoldsTree, IsTreePage}
use Rattle.entry_tree.specs.declared.tree.Tree.{Tree}
use Rattle.entry_tree.proofs.ReadLeafLemmas.{breaks_still, tree_page_still}

-- what a call that reads a tree does
abbrev pub ReadsTree : {S : Type 0} → Ghosts S → Tree → S → S → Option StoreFault → Type 0
ReadsTree g tree old new fault = RunsOverPages g NoPage (IsTreePage g old tree) (BreaksTree g old tree) old new fault

module _ {S : Type 0} (g : Ghosts S) where
  -- one call more
  pub reads_more : (tree : Tree) (old mid new : S) (fault : Option StoreFault) → ReadsTree g tree old mid None → (g.state mid).work ≡ (g.state old).work → ReadsTree g tree mid new fault → ReadsTree g tree old new fault
  reads_more tree old mid new fault first same second =
      runs_then first second (λ p there none. absurd none) (λ p is. tree_page_still p first.works.steady same is) (λ damage b. breaks_still damage first.works.steady same b)

  -- a call that finds that the tree hasn't its form
  pub reads_broken : (tree : Tree) (old new : S) (fault : StoreFault) → fault ≡ Damaged (record { page = tree.root; rule = 4 }) → ReadsTree g tree old new None → ((t : Forest) → HoldsTree g old tree t → ⊥)
      → ReadsTree g tree old new (Some fault)
  reads_broken tree old new fault is run broken =
      subst (λ (f : StoreFault). ReadsTree g tree old new (Some f)) (sym is) (runs_damage run (record { page = refl; rule = refl; broken = broken }))

  -- a call behind it that may want memory
  pub runs_or_memory : {X : Type 0} {Mine Kind : ℕ → Type 0} {Breaks : Damage → Type 0} (old new : S) (result : Result X StoreFault) → IfErr result (λ fault. fault ≡ Memory) → RunsOverPages g Mine Kind Breaks old new None
      → RunsOverPages g Mine Kind Breaks old new (fault_of result)
  runs_or_memory old new (Ok x) memory run = run
  runs_or_memory {Mine = Mine} {Kind = Kind} {Breaks = Breaks} old new (Err fault) memory run = subst (λ (f : StoreFault). RunsOverPages g Mine Kind Breaks old new (Some f)) (sym memory) (runs_memory run)

-- what holds anyway holds where a call succeeds
pub on_ok_anyway : {X E Q : Type 0} (result : Result X E) → Q → OnOk result Q
on_ok_anyway (Ok x) q = q
on_ok_anyway (Err e) q = tt
