use Rattle.std.proofs.Common.{◌≡◌, subst}
use Rattle.std.specs.Prelude.{List, None, Option, Some, slice_index_or}
use Rattle.mdc_ast.specs.declared.row.Row.{Row}
use Rattle.store_api.proofs.RunsOverPagesLemmas.{runs_exit}
use Rattle.block_rows.specs.HeldRows.{IsFilledSlot}
use Rattle.block_rows.specs.SeenRows.{SeesSlot}
use Rattle.mdc_sound.specs.StandingTable.{pages_of}
use Rattle.table_blocks.proofs.BrokenRunsLemmas.{runs_broken}
use Rattle.table_blocks.proofs.SeenSlotsLemmas.{filled_seen, row_seen}
use Rattle.table_blocks.proofs.SuchSlotsLemmas.{empty_there, runs_such}
use Rattle.table_blocks.proofs.overwriting.put_filled.Goals as goal

pub returns-in_err-put_slot-clause-runs : goal.returns-in_err-put_slot-clause-runs
returns-in_err-put_slot-clause-runs g c =
    let slot = c.args.rid.slot in
    runs_exit c.from_residual.result c.from_residual.ensures.1
    (runs_such c.args.shape c.args.pages.now c.args.def.now c.args.rid.block (λ (slots : List (Option Row)). (row : Row) × (slice_index_or slots slot None ≡ Some row)) (λ p is. is) c.requires.within
    c.in_err-put_slot.ensures.runs)

pub returns-then-not-branch-clause-runs : goal.returns-then-not-branch-clause-runs
returns-then-not-branch-clause-runs g c =
    let slot = c.args.rid.slot in
    runs_broken c.miscounted.result c.miscounted.ensures
    (runs_such c.args.shape c.args.pages.now c.args.def.now c.args.rid.block (λ (slots : List (Option Row)). (row : Row) × (slice_index_or slots slot None ≡ Some row)) (λ p is. is) c.requires.within
    c.in_ok-put_slot.ensures.runs)
    (empty_there c.args.shape c.args.pages.now c.args.def.now c.args.rid.block slot
    (λ slots held. subst (IsFilledSlot slots slot) c.if-not-branch.true (filled_seen (c.in_ok-put_slot.ensures.seen held.told) held)))

pub returns-clause-runs : goal.returns-clause-runs
returns-clause-runs g c =
    let slot = c.args.rid.slot in
    runs_such c.args.shape c.args.pages.now c.args.def.now c.args.rid.block (λ (slots : List (Option Row)). (row : Row) × (slice_index_or slots slot None ≡ Some row)) (λ p is. is) c.requires.within
    c.in_ok-put_slot.ensures.runs

pub returns-clause-seen : goal.returns-clause-seen
returns-clause-seen g c = λ told.
    row_seen (SeesSlot c.args.shape (pages_of g.P.Pages c.args.pages.now) c.args.def.now c.args.rid) c.in_ok-put_slot.field-0 c.if-not-branch.false (c.in_ok-put_slot.ensures.seen told)
