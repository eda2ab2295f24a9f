use Rattle.std.proofs.Common.{◌≡◌, Some, ap, subst}
use Rattle.store_api.proofs.RunsOverPagesLemmas.{runs_exit_as}
use Rattle.extent_map.specs.Damages.{store_part_of}
use Rattle.entry_tree.proofs.ClaimsLemmas.{if_err_by}
use Rattle.mdc_sound.specs.StandingTable.{RoomNote, spots_of}
use Rattle.free_space.specs.FoundRoom.{FindsRoom}
use Rattle.free_space.specs.RoomNotes.{room_of}
use Rattle.mdc_table.proofs.NextBlocksLemmas.{runs_in_space}
use Rattle.mdc_table.proofs.SearchedRoomLemmas.{SearchesRoom, block_anywhere, block_makes, block_placed, block_run, block_stays, next_anywhere, next_full, next_makes, next_placed, next_run, next_stays}
use Rattle.mdc_table.proofs.placing.place_by_search.Given.{Over}
use Rattle.mdc_table.proofs.placing.place_by_search.Goals.{In_ok-line}
use Rattle.mdc_table.proofs.placing.place_by_search.Goals as goal

-- what all exits behind the search see of it
searched : (g : Over) (c : In_ok-line g) → SearchesRoom g.P.Pages c.args.shape c.args.pages.now c.find_room.new.pages c.args.def.now c.args.row.now c.args.rooms.now c.args.key.now c.in_ok-line.field-0
searched g c =
    let def = c.args.def.now in
    let row = c.args.row.now in
    let noted_from : c.of-from.result.first ≡ (room_of c.args.rooms.now c.args.key.now).from = ap (λ (n : RoomNote). n.from) c.of-from.ensures in
    record {
      defined = c.requires.defined;
      fits = c.requires.fits;
      of_cell = c.requires.key;
      same = c.find_room.ensures.same;
      run = c.in_ok-line.ensures.runs;
      finds = λ owners forests st.
          subst (λ n. FindsRoom def (spots_of g.P.Pages c.args.shape c.args.pages.now def owners forests) forests.map row n c.in_ok-line.field-0) noted_from
          (c.in_ok-line.ensures.finds owners forests row st c.requires.fits.values c.requires.key);
    }

pub returns-in_err-line-clause-runs : goal.returns-in_err-line-clause-runs
returns-in_err-line-clause-runs g c =
    runs_exit_as store_part_of c.from_residual.result c.from_residual.ensures.1
    (runs_in_space c.args.shape c.args.def.now {fault = Some c.in_err-line.field-0.0} c.in_err-line.ensures.runs)

-- ---- no block has room

pub returns-in_err-block-clause-full : goal.returns-in_err-block-clause-full
returns-in_err-block-clause-full g c =
    let begun = c.in_err-block.ensures in
    if_err_by c.from_residual-in_err-block.result c.in_err-block.field-0.0 _ c.from_residual-in_err-block.ensures.1
    (next_full (searched g (goal.at.returns-in_err-block-clause-full g c).In_ok-line) c.in_default.is c.args.notes.now c.begin_block.new.pages c.in_err-block.field-0.0 begun.full begun.runs_full)

pub returns-in_err-block-clause-runs : goal.returns-in_err-block-clause-runs
returns-in_err-block-clause-runs g c =
    runs_exit_as store_part_of c.from_residual-in_err-block.result c.from_residual-in_err-block.ensures.1
    (next_run (searched g (goal.at.returns-in_err-block-clause-runs g c).In_ok-line) {fault = store_part_of c.in_err-block.field-0.0} c.in_err-block.ensures.runs)

pub returns-in_default-clause-places : goal.returns-in_default-clause-places
returns-in_default-clause-places g c owners forests st =
    let search = searched g (goal.at.returns-in_default-clause-places g c).In_ok-line in
    let before = c.args.notes.now in
    let noted = c.begin_block.new.notes in
    let new = c.begin_block.new.pages in
    let block = c.in_ok-block.block in
    let begun = c.in_ok-block.ensures in
    record {
      anywhere = next_anywhere search before noted new block begun.begins begun.free owners forests st;
      stay = next_stays search new block begun.stay owners forests st;
      places = next_placed search c.in_default.is before noted new c.note.new.self block begun.begins c.note.ensures owners forests;
      makes = next_makes search before new block begun.makes owners forests;
    }

pub returns-in_default-clause-runs : goal.returns-in_default-clause-runs
returns-in_default-clause-runs g c = next_run (searched g (goal.at.returns-in_default-clause-runs g c).In_ok-line) c.in_ok-block.ensures.runs

-- ---- a block was found

pub returns-in_err-put_in_block-clause-runs : goal.returns-in_err-put_in_block-clause-runs
returns-in_err-put_in_block-clause-runs g c =
    runs_exit_as store_part_of c.from_residual-in_err-put_in_block.result c.from_residual-in_err-put_in_block.ensures.1
    (block_run (searched g (goal.at.returns-in_err-put_in_block-clause-runs g c).In_ok-line) c.in-Some.line c.in-Some.is {fault = Some c.in_err-put_in_block.field-0.0} c.in_err-put_in_block.ensures.runs)

pub returns-clause-places : goal.returns-clause-places
returns-clause-places g c owners forests st =
    let search = searched g (goal.at.returns-clause-places g c).In_ok-line in
    let line = c.in-Some.line in
    let notes = c.args.notes.now in
    let new = c.put_in_block.new.pages in
    let rid = c.in_ok-put_in_block.field-0 in
    let put = c.in_ok-put_in_block.ensures in
    record {
      anywhere = block_anywhere search line c.in-Some.is notes new rid put.block (put.fills notes) owners forests st;
      stay = block_stays search line c.in-Some.is new rid.block put.block put.runs.touches owners forests st;
      places = block_placed search line c.in-Some.is notes new c.note-2.new.self rid put.block (put.fills notes) c.note-2.ensures owners forests;
      makes = block_makes search line c.in-Some.is notes new rid.block put.block put.makes owners forests;
    }

pub returns-clause-runs : goal.returns-clause-runs
returns-clause-runs g c = block_run (searched g (goal.at.returns-clause-runs g c).In_ok-line) c.in-Some.line c.in-Some.is c.in_ok-put_in_block.ensures.runs
