use Rattle.std.proofs.Common.{◌≡◌, ◌+◌, ◌∙◌, ap, arith, false, subst, suc}
use Rattle.std.specs.Prelude.{Some}
use Rattle.std.proofs.lemmas.Option.{slice_get-get_or}
use Rattle.store_api.proofs.RunsOverPagesLemmas.{runs_exit_as}
use Rattle.extent_map.specs.Damages.{store_part_of}
use Rattle.entry_tree.proofs.ClaimsLemmas.{if_err_by}
use Rattle.record_index.proofs.IndexesLemmas.{has_indexes}
use Rattle.row_entries.proofs.EnteringLemmas.{IsEntering, added_all, entered_all, entering_none, entering_runs, entering_skips, enters_next, full_there}
use Rattle.row_entries.proofs.RowKeysLemmas.{keys_at, there_at}
use Rattle.row_entries.proofs.entering.enter_chosen.Goals as goal

pub loop-index-init : goal.loop-index-init
loop-index-init g c =
    entering_none g.P.Pages c.args.shape c.args.notes.now c.args.pages.now c.args.def.now c.args.row.now c.args.rid c.args.chosen.now c.requires.one_each

pub loop-index-preserved-then-not-chosen-index : goal.loop-index-preserved-then-not-chosen-index
loop-index-preserved-then-not-chosen-index g c =
    let next : suc c.loop-index.index ≡ c.loop-index.index + 1 = omega arith in
    subst (IsEntering g.P.Pages c.args.shape c.args.notes.now c.loop-index.notes c.args.pages.now c.loop-index.pages c.args.def.now c.args.row.now c.args.rid c.args.chosen.now) next
    (entering_skips g.P.Pages c.args.shape c.args.notes.now c.args.pages.now c.args.def.now c.args.row.now c.args.rid c.args.chosen.now c.loop-index.notes c.loop-index.pages c.loop-index.index (slice_get-get_or c.args.chosen.now c.loop-index.index false (omega (arith, c.loop-index-test.true)) ∙ ap Some c.if-not-chosen-index.true) c.loop-index.invariant)

pub add_row-requires-clause-indexes : goal.add_row-requires-clause-indexes
add_row-requires-clause-indexes g c =
    has_indexes c.args.def.now.number c.args.def.now c.requires.defined

pub add_row-requires-clause-row : goal.add_row-requires-clause-row
add_row-requires-clause-row g c =
    keys_at c.args.def.now c.args.row.now.values c.loop-index.index c.requires.row (omega (arith, c.requires.one_each, c.loop-index-test.true))

pub returns-in_err-add_row-clause-full : goal.returns-in_err-add_row-clause-full
returns-in_err-add_row-clause-full g c =
    let which = there_at c.args.def.now.indexes c.loop-index.index (omega (arith, c.requires.one_each, c.loop-index-test.true)) in
    if_err_by c.from_residual.result c.in_err-add_row.field-0.0 _ c.from_residual.ensures.1
    (full_there g.P.Pages c.args.shape c.args.notes.now c.args.pages.now c.args.def.now c.args.row.now c.args.rid c.args.chosen.now c.loop-index.notes c.loop-index.pages c.loop-index.index which.0 (slice_get-get_or c.args.chosen.now c.loop-index.index false (omega (arith, c.loop-index-test.true)) ∙ ap Some c.if-not-chosen-index.false) which.1 c.loop-index.invariant
    _ c.in_err-add_row.field-0.0 c.in_err-add_row.ensures.full c.in_err-add_row.ensures.asks)

pub returns-in_err-add_row-clause-runs : goal.returns-in_err-add_row-clause-runs
returns-in_err-add_row-clause-runs g c =
    let which = there_at c.args.def.now.indexes c.loop-index.index (omega (arith, c.requires.one_each, c.loop-index-test.true)) in
    runs_exit_as store_part_of c.from_residual.result c.from_residual.ensures.1
    (entering_runs g.P.Pages c.args.shape c.args.notes.now c.args.pages.now c.args.def.now c.args.row.now c.args.rid c.args.chosen.now c.loop-index.notes c.loop-index.pages c.loop-index.index which.0 (slice_get-get_or c.args.chosen.now c.loop-index.index false (omega (arith, c.loop-index-test.true)) ∙ ap Some c.if-not-chosen-index.false) which.1 c.loop-index.invariant
    c.add_row.new.pages (store_part_of c.in_err-add_row.field-0.0) c.in_err-add_row.ensures.runs)

pub loop-index-preserved : goal.loop-index-preserved
loop-index-preserved g c =
    let which = there_at c.args.def.now.indexes c.loop-index.index (omega (arith, c.requires.one_each, c.loop-index-test.true)) in
    let next : suc c.loop-index.index ≡ c.loop-index.index + 1 = omega arith in
    subst (IsEntering g.P.Pages c.args.shape c.args.notes.now c.add_row.new.notes c.args.pages.now c.add_row.new.pages c.args.def.now c.args.row.now c.args.rid c.args.chosen.now) next
    (enters_next g.P.Pages c.args.shape c.args.notes.now c.args.pages.now c.args.def.now c.args.row.now c.args.rid c.args.chosen.now c.loop-index.notes c.loop-index.pages c.loop-index.index which.0 (slice_get-get_or c.args.chosen.now c.loop-index.index false (omega (arith, c.loop-index-test.true)) ∙ ap Some c.if-not-chosen-index.false) which.1 c.loop-index.invariant
    c.add_row.new.notes c.add_row.new.pages c.in_ok-add_row.ensures.adds c.in_ok-add_row.ensures.makes c.in_ok-add_row.ensures.grows c.in_ok-add_row.ensures.runs)

pub returns-clause-enters : goal.returns-clause-enters
returns-clause-enters g c =
    entered_all g.P.Pages c.args.shape c.args.notes.now c.args.pages.now c.args.def.now c.args.row.now c.args.rid c.args.chosen.now c.loop-index.notes c.loop-index.pages c.loop-index.index
    (omega (arith, c.loop-index-test.false, c.loop-index.auto.index-end)) c.loop-index.invariant

pub returns-clause-makes : goal.returns-clause-makes
returns-clause-makes g c =
    added_all g.P.Pages c.args.shape c.args.notes.now c.args.pages.now c.args.def.now c.args.row.now c.args.rid c.args.chosen.now c.loop-index.notes c.loop-index.pages c.loop-index.index
    (omega (arith, c.loop-index-test.false, c.loop-index.auto.index-end)) c.loop-index.invariant
