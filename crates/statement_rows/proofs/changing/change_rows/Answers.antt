use Rattle.std.proofs.Common.{◌+◌, arith, drop, refl}
use Rattle.std.proofs.Math.ListN.{drop_of_length-le}
use Rattle.store_api.proofs.RunsOverPagesLemmas.{runs_exit_as}
use Rattle.extent_map.specs.Damages.{store_part_of}
use Rattle.entry_tree.proofs.ClaimsLemmas.{if_err_by}
use Rattle.free_space.specs.RoomNotes.{room_of}
use Rattle.statement_rows.proofs.TurningStepsLemmas.{full_at_one, runs_one, turning_at, turning_begins, turning_ends, turning_goes_on}
use Rattle.statement_rows.proofs.changing.change_rows.Goals as goal

pub loop-one-init : goal.loop-one-init
loop-one-init g c = record {
  turning = turning_begins g.P.Pages c.args.shape c.args.notes.now (room_of c.args.rooms.now) c.args.pages.now c.args.def.now c.args.turned.now;
  idle = λ none. refl;
}

pub returns-in_err-to-clause-full : goal.returns-in_err-to-clause-full
returns-in_err-to-clause-full g c =
    let all = c.args.turned.now in
    let i = c.loop-one.one-index in
    let one = c.one-item.result in
    let fault = c.in_err-to.field-0.0 in
    let turning =
    turning_at g.P.Pages c.args.shape c.args.notes.now (room_of c.args.rooms.now) c.args.pages.now c.args.def.now all c.loop-one.notes (room_of c.loop-one.rooms) c.loop-one.pages i one c.loop-one.invariant.turning c.loop-one-test.true
    c.one-item.is in
    if_err_by c.from_residual.result fault _ c.from_residual.ensures.1
    (full_at_one g.P.Pages c.args.shape c.args.notes.now (room_of c.args.rooms.now) c.args.pages.now c.args.def.now all c.loop-one.notes (room_of c.loop-one.rooms) c.loop-one.pages one (drop (i + 1) all) turning fault
    c.in_err-to.ensures.full)

pub returns-in_err-to-clause-runs : goal.returns-in_err-to-clause-runs
returns-in_err-to-clause-runs g c =
    let all = c.args.turned.now in
    let i = c.loop-one.one-index in
    let one = c.one-item.result in
    let turning =
    turning_at g.P.Pages c.args.shape c.args.notes.now (room_of c.args.rooms.now) c.args.pages.now c.args.def.now all c.loop-one.notes (room_of c.loop-one.rooms) c.loop-one.pages i one c.loop-one.invariant.turning c.loop-one-test.true
    c.one-item.is in
    runs_exit_as store_part_of c.from_residual.result c.from_residual.ensures.1
    (runs_one g.P.Pages c.args.shape c.args.notes.now (room_of c.args.rooms.now) c.args.pages.now c.args.def.now all c.loop-one.notes (room_of c.loop-one.rooms) c.loop-one.pages one (drop (i + 1) all) turning c.change_row.new.pages
    (store_part_of c.in_err-to.field-0.0) c.in_err-to.ensures.runs)

pub loop-one-preserved : goal.loop-one-preserved
loop-one-preserved g c =
    let all = c.args.turned.now in
    let i = c.loop-one.one-index in
    let one = c.one-item.result in
    let turning =
    turning_at g.P.Pages c.args.shape c.args.notes.now (room_of c.args.rooms.now) c.args.pages.now c.args.def.now all c.loop-one.notes (room_of c.loop-one.rooms) c.loop-one.pages i one c.loop-one.invariant.turning c.loop-one-test.true
    c.one-item.is in
    let said = c.in_ok-to.ensures in
    record {
      turning = turning_goes_on g.P.Pages c.args.shape c.args.notes.now (room_of c.args.rooms.now) c.args.pages.now c.args.def.now all c.loop-one.notes (room_of c.loop-one.rooms) c.loop-one.pages one (drop (i + 1) all) turning
          c.change_row.new.notes (room_of c.change_row.new.rooms) c.change_row.new.pages c.in_ok-to.to said.runs said.changes;
      idle = λ none. absurd (omega (arith, none, c.loop-one-test.true));
    }

pub returns-clause-changes : goal.returns-clause-changes
returns-clause-changes g c owners forests ready has =
    let all = c.args.turned.now in
    turning_ends g.P.Pages c.args.shape c.args.notes.now (room_of c.args.rooms.now) c.args.pages.now c.args.def.now all c.loop-one.notes (room_of c.loop-one.rooms) c.loop-one.pages (drop c.loop-one.one-index all) c.loop-one.invariant.turning
    (drop_of_length-le all c.loop-one-test.false) owners forests ready has
