use Rattle.std.proofs.Common.{◌≡◌, ◌+◌, ◌∙◌, ap, arith, false, subst, suc}
use Rattle.std.specs.Prelude.{Some}
use Rattle.std.proofs.lemmas.Option.{slice_get-get_or}
use Rattle.store_api.proofs.RunsOverPagesLemmas.{runs_exit}
use Rattle.record_index.proofs.IndexesLemmas.{has_indexes}
use Rattle.row_entries.proofs.LeavingLemmas.{IsLeaving, leaves_next, leaving_none, leaving_runs, leaving_skips, left_all, removed_all}
use Rattle.row_entries.proofs.RowKeysLemmas.{keys_at, there_at}
use Rattle.row_entries.proofs.leaving.leave_chosen.Goals as goal

pub loop-index-init : goal.loop-index-init
loop-index-init g c =
    leaving_none g.P.Pages c.args.shape c.args.notes.now c.args.pages.now c.args.def.now c.args.row.now c.args.rid c.args.chosen.now c.requires.one_each

pub loop-index-preserved-then-not-chosen-index : goal.loop-index-preserved-then-not-chosen-index
loop-index-preserved-then-not-chosen-index g c =
    let next : suc c.loop-index.index ≡ c.loop-index.index + 1 = omega arith in
    subst (IsLeaving g.P.Pages c.args.shape c.args.notes.now c.loop-index.notes c.args.pages.now c.loop-index.pages c.args.def.now c.args.row.now c.args.rid c.args.chosen.now) next
    (leaving_skips g.P.Pages c.args.shape c.args.notes.now c.args.pages.now c.args.def.now c.args.row.now c.args.rid c.args.chosen.now c.loop-index.notes c.loop-index.pages c.loop-index.index (slice_get-get_or c.args.chosen.now c.loop-index.index false (omega (arith, c.loop-index-test.true)) ∙ ap Some c.if-not-chosen-index.true) c.loop-index.invariant)

pub drop_row-requires-clause-indexes : goal.drop_row-requires-clause-indexes
drop_row-requires-clause-indexes g c =
    has_indexes c.args.def.now.number c.args.def.now c.requires.defined

pub drop_row-requires-clause-row : goal.drop_row-requires-clause-row
drop_row-requires-clause-row g c =
    keys_at c.args.def.now c.args.row.now.values c.loop-index.index c.requires.row (omega (arith, c.requires.one_each, c.loop-index-test.true))

pub returns-in_err-drop_row-clause-runs : goal.returns-in_err-drop_row-clause-runs
returns-in_err-drop_row-clause-runs g c =
    let which = there_at c.args.def.now.indexes c.loop-index.index (omega (arith, c.requires.one_each, c.loop-index-test.true)) in
    runs_exit c.from_residual.result c.from_residual.ensures.1
    (leaving_runs g.P.Pages c.args.shape c.args.notes.now c.args.pages.now c.args.def.now c.args.row.now c.args.rid c.args.chosen.now c.loop-index.notes c.loop-index.pages c.loop-index.index which.0 (slice_get-get_or c.args.chosen.now c.loop-index.index false (omega (arith, c.loop-index-test.true)) ∙ ap Some c.if-not-chosen-index.false) which.1 c.loop-index.invariant
    c.drop_row.new.pages (Some c.in_err-drop_row.field-0.0) c.in_err-drop_row.ensures.runs)

pub loop-index-preserved : goal.loop-index-preserved
loop-index-preserved g c =
    let which = there_at c.args.def.now.indexes c.loop-index.index (omega (arith, c.requires.one_each, c.loop-index-test.true)) in
    let next : suc c.loop-index.index ≡ c.loop-index.index + 1 = omega arith in
    subst (IsLeaving g.P.Pages c.args.shape c.args.notes.now c.drop_row.new.notes c.args.pages.now c.drop_row.new.pages c.args.def.now c.args.row.now c.args.rid c.args.chosen.now) next
    (leaves_next g.P.Pages c.args.shape c.args.notes.now c.args.pages.now c.args.def.now c.args.row.now c.args.rid c.args.chosen.now c.loop-index.notes c.loop-index.pages c.loop-index.index which.0 (slice_get-get_or c.args.chosen.now c.loop-index.index false (omega (arith, c.loop-index-test.true)) ∙ ap Some c.if-not-chosen-index.false) which.1 c.loop-index.invariant
    c.drop_row.new.notes c.drop_row.new.pages c.in_ok-drop_row.ensures.drops c.in_ok-drop_row.ensures.makes c.in_ok-drop_row.ensures.count c.in_ok-drop_row.ensures.runs)

pub returns-clause-leaves : goal.returns-clause-leaves
returns-clause-leaves g c =
    left_all g.P.Pages c.args.shape c.args.notes.now c.args.pages.now c.args.def.now c.args.row.now c.args.rid c.args.chosen.now c.loop-index.notes c.loop-index.pages c.loop-index.index
    (omega (arith, c.loop-index-test.false, c.loop-index.auto.index-end)) c.loop-index.invariant

pub returns-clause-makes : goal.returns-clause-makes
returns-clause-makes g c =
    removed_all g.P.Pages c.args.shape c.args.notes.now c.args.pages.now c.args.def.now c.args.row.now c.args.rid c.args.chosen.now c.loop-index.notes c.loop-index.pages c.loop-index.index
    (omega (arith, c.loop-index-test.false, c.loop-index.auto.index-end)) c.loop-index.invariant
