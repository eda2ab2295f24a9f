use Rattle.std.proofs.Common.{◌∙◌, refl, subst, sym}
use Rattle.std.specs.Prelude.{Contains}
use Rattle.std.proofs.lemmas.Result.{IfOk-weaker}
use Rattle.store_api.proofs.RunsOverPagesLemmas.{runs_exit, runs_none, runs_wider}
use Rattle.entry_tree.specs.Forest.{leaf_entries}
use Rattle.mdc_sound.proofs.ElementsLemmas.{contains_entry, entry_in}
use Rattle.block_rows.specs.HeldRows.{placed_row}
use Rattle.file_check.proofs.RowEntriesLemmas.{entry_width, holds_told, unless_tree}
use Rattle.file_check.proofs.UnlessLemmas.{runs_to_memory}
use Rattle.file_check.proofs.block_entries.has_entry.Goals as goal

pub returns-in_err-entry-clause-runs : goal.returns-in_err-entry-clause-runs
returns-in_err-entry-clause-runs g c = runs_exit c.from_residual.result c.from_residual.ensures.1 (runs_to_memory _ c.in_err-entry.ensures.memory runs_none)

pub has-requires-clause-width : goal.has-requires-clause-width
has-requires-clause-width g c =
    entry_width c.args.def.now c.args.index.now (placed_row c.args.hit.now) c.deref.result.now c.requires.index c.requires.read (c.deref.ensures.value ∙ c.in_ok-entry.ensures.entry)

pub returns-clause-has : goal.returns-clause-has
returns-clause-has g c =
    IfOk-weaker c.has.result _ _
    (λ there has told tree stands.
    let entry = c.deref.ensures.value ∙ c.in_ok-entry.ensures.entry in
    let held = holds_told c.args.pages.now (g.P.Pages.state c.args.pages.now).work c.args.index.now.tree tree told refl stands in (
      λ yes. subst (Contains (leaf_entries tree)) entry (contains_entry (leaf_entries tree) c.deref.result.now ((has tree held).0 yes)),
      λ listed. (has tree held).1 (entry_in (leaf_entries tree) c.deref.result.now (subst (Contains (leaf_entries tree)) (sym entry) listed)),
    ))
    c.has.ensures.has

pub returns-clause-runs : goal.returns-clause-runs
returns-clause-runs g c =
    runs_wider c.has.ensures.runs (λ p there mine. mine) (λ p is. tt) (λ damage b. unless_tree c.args.pages.now c.args.pages.now c.args.index.now.tree damage refl refl b)
