use Rattle.std.proofs.Common.{List, None}
use Rattle.std.specs.Prelude.{Contains, Option}
use Rattle.mdc_ast.specs.declared.row.Row.{Row}
use Rattle.store_api.proofs.RunsOverPagesLemmas.{runs_exit}
use Rattle.table_blocks.proofs.FilledRoomLemmas.{CountsRow, fills_room, room_space, runs_room}
use Rattle.table_blocks.proofs.MapOfTableLemmas.{runs_on_map}
use Rattle.table_blocks.proofs.SeatsLemmas.{counts_seat}
use Rattle.table_blocks.proofs.SuchSlotsLemmas.{runs_such}
use Rattle.table_blocks.proofs.filling.put_in_seat.Given.{Over}
use Rattle.table_blocks.proofs.filling.put_in_seat.Goals.{In_ok-count_found}
use Rattle.table_blocks.proofs.filling.put_in_seat.Goals as goal

-- the line counts the row
counted : (g : Over) (c : In_ok-count_found g) → CountsRow g.P.Pages c.args.shape c.args.pages.now c.count_found.new.pages c.args.def.now c.args.rid.block c.args.map.now.tree c.args.line.now.row.rows
counted g c =
    let row = c.in_ok-count_found.ensures in
    counts_seat c.args.shape c.args.def.now c.args.rid.block c.requires.defined c.requires.within c.args.map.now.tree c.requires.root c.args.map.now.seven c.requires.seat row.more row.count row.runs

pub count_found-requires-clause-found : goal.count_found-requires-clause-found
count_found-requires-clause-found g c = c.requires.seat.stands

pub count_found-requires-clause-few : goal.count_found-requires-clause-few
count_found-requires-clause-few g c = c.requires.seat.few

pub put_slot-requires-clause-slot : goal.put_slot-requires-clause-slot
put_slot-requires-clause-slot g c = c.requires.seat.below

pub returns-in_err-count_found-clause-runs : goal.returns-in_err-count_found-clause-runs
returns-in_err-count_found-clause-runs g c =
    runs_exit c.from_residual.result c.from_residual.ensures.1
    (runs_on_map c.args.shape c.args.pages.now c.args.def.now c.requires.defined c.args.map.now.tree c.requires.root c.args.map.now.seven c.args.rid.block c.in_err-count_found.ensures.runs)

pub returns-in_err-put_slot-clause-runs : goal.returns-in_err-put_slot-clause-runs
returns-in_err-put_slot-clause-runs g c =
    runs_exit c.from_residual-in_err-put_slot.result c.from_residual-in_err-put_slot.ensures.1
    (runs_room (counted g (goal.at.returns-in_err-put_slot-clause-runs g c).In_ok-count_found) c.put_slot.new.pages
    (runs_such c.args.shape c.count_found.new.pages c.args.def.now c.args.rid.block (λ (slots : List (Option Row)). Contains slots None) (λ p is. is) c.requires.within c.in_err-put_slot.ensures.runs))

pub returns-clause-fills : goal.returns-clause-fills
returns-clause-fills g c =
    let put = c.in_ok-put_slot.ensures in
    fills_room (counted g (goal.at.returns-clause-fills g c).In_ok-count_found) c.args.row.now c.put_slot.new.pages c.args.rid.slot
    (runs_such c.args.shape c.count_found.new.pages c.args.def.now c.args.rid.block (λ (slots : List (Option Row)). Contains slots None) (λ p is. is) c.requires.within put.runs) put.count c.requires.seat.seats c.requires.fits put.puts

pub returns-clause-makes : goal.returns-clause-makes
returns-clause-makes g c =
    let put = c.in_ok-put_slot.ensures in
    room_space (counted g (goal.at.returns-clause-makes g c).In_ok-count_found) c.args.row.now c.put_slot.new.pages c.args.rid.slot
    (runs_such c.args.shape c.count_found.new.pages c.args.def.now c.args.rid.block (λ (slots : List (Option Row)). Contains slots None) (λ p is. is) c.requires.within put.runs) put.count c.requires.seat.seats

pub returns-clause-runs : goal.returns-clause-runs
returns-clause-runs g c =
    runs_room (counted g (goal.at.returns-clause-runs g c).In_ok-count_found) c.put_slot.new.pages
    (runs_such c.args.shape c.count_found.new.pages c.args.def.now c.args.rid.block (λ (slots : List (Option Row)). Contains slots None) (λ p is. is) c.requires.within c.in_ok-put_slot.ensures.runs)
