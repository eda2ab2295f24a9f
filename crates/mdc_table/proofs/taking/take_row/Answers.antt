use Rattle.std.proofs.Common.{None, Some, arith, inl, inr, refl}
use Rattle.store_api.proofs.RunsOverPagesLemmas.{runs_exit, runs_none}
use Rattle.free_space.specs.RoomNotes.{room_of}
use Rattle.free_space.proofs.TableRunsLemmas.{runs_broken}
use Rattle.mdc_table.proofs.KeptBlocksLemmas.{keeps_in_block, runs_of_block}
use Rattle.mdc_table.proofs.TakingRowsLemmas.{not_this_row_there, row_taken_noted, taken_anywhere}
use Rattle.mdc_table.proofs.taking.take_row.Goals.{then-rid-shape-via-then-rid-shape, then-rid-shape-via-else-rid-shape+then-from-slots}
use Rattle.mdc_table.proofs.taking.take_row.Goals as goal

pub returns-then-rid-shape-clause-runs : goal.returns-then-rid-shape-clause-runs
returns-then-rid-shape-clause-runs g c =
    runs_broken c.unmapped.result c.unmapped.ensures runs_none
    (not_this_row_there c.args.shape c.args.pages.now c.args.def.now c.args.rid c.args.row.now (elim c.then-rid-shape.branch [
      | then-rid-shape-via-then-rid-shape w ↦ inl w.if-rid-shape.true
      | then-rid-shape-via-else-rid-shape+then-from-slots w ↦ inr (omega (arith, w.if-from-slots.true, w.from.ensures, c.block_slots-slots.ensures))
    ]))

pub returns-in_err-left-clause-stay : goal.returns-in_err-left-clause-stay
returns-in_err-left-clause-stay g c owners forests st =
    keeps_in_block c.args.shape c.args.pages.now c.args.pages.now c.take_row.new.pages c.args.def.now owners forests refl refl st c.args.rid.block c.in_err-left.ensures.runs.touches

pub returns-in_err-left-clause-runs : goal.returns-in_err-left-clause-runs
returns-in_err-left-clause-runs g c =
    runs_exit c.from_residual.result c.from_residual.ensures.1 (runs_of_block c.args.shape c.args.def.now {fault = Some c.in_err-left.field-0.0} c.args.rid.block c.in_err-left.ensures.runs)

pub returns-clause-takes : goal.returns-clause-takes
returns-clause-takes g c owners forests st has =
    let shape = c.args.shape in
    let old = c.args.pages.now in
    let new = c.take_row.new.pages in
    let before = c.args.notes.now in
    let noted = c.take_row.new.notes in
    let def = c.args.def.now in
    let taken = c.in_ok-left.ensures in
    let empties = taken.takes owners forests st has in
    record {
      leaves = taken_anywhere shape before noted old new def c.args.rid c.args.row.now owners forests empties;
      makes = taken.makes owners forests st;
      takes = λ ready.
          row_taken_noted shape before noted old new def c.args.rid c.args.row.now owners forests (room_of c.args.rooms.now) (room_of c.note_taken.new.rooms) c.in_ok-left.left c.block_slots-slots.result
          c.block_slots-slots.ensures ready empties (taken.left owners forests st) c.note_taken.ensures.notes;
    }

pub returns-clause-stay : goal.returns-clause-stay
returns-clause-stay g c owners forests st =
    keeps_in_block c.args.shape c.args.pages.now c.args.pages.now c.take_row.new.pages c.args.def.now owners forests refl refl st c.args.rid.block c.in_ok-left.ensures.runs.touches

pub returns-clause-runs : goal.returns-clause-runs
returns-clause-runs g c = runs_of_block c.args.shape c.args.def.now {fault = None} c.args.rid.block c.in_ok-left.ensures.runs

pub returns-clause-seen : goal.returns-clause-seen
returns-clause-seen g c = c.in_ok-left.ensures.seen
