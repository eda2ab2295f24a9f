use Rattle.std.proofs.Common.{◌≡◌, None, Some, refl, subst, sym, ◌∙◌}
use Rattle.std.proofs.lemmas.Result.{IfOk-weaker}
use Rattle.store_api.specs.RunsOverPages.{RunsOverPages}
use Rattle.store_api.proofs.RunsOverPagesLemmas.{runs_exit_as, runs_memory, runs_none}
use Rattle.extent_map.specs.Damages.{store_part_of}
use Rattle.block_index.proofs.CellsLemmas.{keys_of_fitting}
use Rattle.table_trees.specs.RowCells.{cell_places}
use Rattle.mdc_sound.specs.StandingTable.{BreaksTable, IsTableSpace, KeepsBlocksBut}
use Rattle.mdc_sound.proofs.DefinitionTreesLemmas.{has_block_indexes}
use Rattle.mdc_sound.proofs.StandingTableLemmas.{stands_same}
use Rattle.free_space.specs.RoomNotes.{note_of, room_of}
use Rattle.mdc_table.proofs.AnyPlaceLemmas.{filled_anywhere}
use Rattle.mdc_table.proofs.KeptBlocksLemmas.{if_some_at, keeps_in_block}
use Rattle.mdc_table.proofs.LaterPlacesLemmas.{in_table_along, no_place_result_along}
use Rattle.mdc_table.proofs.NextBlocksLemmas.{runs_of_place, runs_space_behind}
use Rattle.mdc_table.proofs.PlacingRowsLemmas.{placed_where_noted}
use Rattle.mdc_table.proofs.RowSpaceLemmas.{block_makes_along}
use Rattle.mdc_table.proofs.placing.place_row.Goals as goal

pub cell_key-requires-clause-parts : goal.cell_key-requires-clause-parts
cell_key-requires-clause-parts g c = (has_block_indexes c.args.def.now.number c.args.def.now c.requires.defined).composite.key

pub cell_key-requires-clause-values : goal.cell_key-requires-clause-values
cell_key-requires-clause-values g c =
    let def = c.args.def.now in
    keys_of_fitting def.columns (cell_places def) c.args.row.now.values (has_block_indexes def.number def c.requires.defined).composite.key.there c.requires.fits.values

pub returns-in_err-key-clause-runs : goal.returns-in_err-key-clause-runs
returns-in_err-key-clause-runs g c =
    let shape = c.args.shape in
    let def = c.args.def.now in
    let s = c.args.pages.now in
    runs_exit_as store_part_of c.from_residual.result c.from_residual.ensures.1
    (subst (λ fault. RunsOverPages g.P.Pages (IsTableSpace g.P.Pages shape s def) (IsTableSpace g.P.Pages shape s def) (BreaksTable g.P.Pages shape s def) s s (Some fault)) (sym c.in_err-key.ensures.memory)
    (runs_memory runs_none))

pub returns-in_err-rid-clause-runs : goal.returns-in_err-rid-clause-runs
returns-in_err-rid-clause-runs g c =
    runs_exit_as store_part_of c.from_residual-in_err-rid.result c.from_residual-in_err-rid.ensures.1
    (runs_of_place c.args.shape c.args.def.now {fault = Some c.in_err-rid.field-0.0} c.of-room.result.first c.in_err-rid.ensures.runs)

pub returns-in-Some-clause-places : goal.returns-in-Some-clause-places
returns-in-Some-clause-places g c owners forests st =
    let shape = c.args.shape in
    let s = c.args.pages.now in
    let new = c.put_where_noted.new.pages in
    let notes = c.args.notes.now in
    let def = c.args.def.now in
    let row = c.args.row.now in
    let is = c.deref.ensures.value ∙ c.in_ok-key.ensures.key in
    let note = note_of c.of-room.result in
    let rid = c.in-Some.rid in
    let at = if_some_at _ c.in_ok-rid.field-0 rid c.in-Some.is c.in_ok-rid.ensures.block in
    let fills = if_some_at _ c.in_ok-rid.field-0 rid c.in-Some.is c.in_ok-rid.ensures.fills notes owners forests st in
    record {
      anywhere = filled_anywhere shape def row notes s s new refl refl owners forests note.from rid at fills.0 fills.1;
      stay = subst (λ block. KeepsBlocksBut g.P.Pages shape s new def owners (λ other. other ≡ block)) (sym at) (keeps_in_block shape s s new def owners forests refl refl st note.from c.in_ok-rid.ensures.runs.touches);
      places = λ ready.
          placed_where_noted shape notes s def owners forests row (room_of c.args.rooms.now) c.requires.defined c.requires.fits ready c.deref.result.now is note c.of-room.ensures
          (if_some_at _ c.in_ok-rid.field-0 rid c.in-Some.is c.in_ok-rid.ensures.known) new rid at fills.0 fills.1;
      makes = λ ready. block_makes_along g.P.Pages shape s s new def row refl refl owners forests note.from rid.block at (if_some_at _ c.in_ok-rid.field-0 rid c.in-Some.is c.in_ok-rid.ensures.makes owners forests st);
    }

pub returns-in-Some-clause-runs : goal.returns-in-Some-clause-runs
returns-in-Some-clause-runs g c =
    runs_of_place c.args.shape c.args.def.now {fault = None} c.of-room.result.first c.in_ok-rid.ensures.runs

pub returns-clause-places : goal.returns-clause-places
returns-clause-places g c =
    let shape = c.args.shape in
    let s = c.args.pages.now in
    let mid = c.put_where_noted.new.pages in
    let def = c.args.def.now in
    let told = c.in_ok-rid.ensures.runs.works.steady.is_told in
    let same = c.in_ok-rid.ensures.kept c.in_default.is in
    IfOk-weaker c.place_by_search.result _ _
    (λ rid placed owners forests st.
    in_table_along g.P.Pages shape c.args.notes.now c.place_by_search.new.notes s mid c.place_by_search.new.pages def told same (room_of c.args.rooms.now) (room_of c.place_by_search.new.rooms) c.args.row.now rid owners forests
    (placed owners forests (stands_same shape s mid def owners forests told same st)))
    c.place_by_search.ensures.places

pub returns-clause-full : goal.returns-clause-full
returns-clause-full g c =
    no_place_result_along g.P.Pages c.args.shape c.args.notes.now c.place_by_search.new.notes c.args.pages.now c.put_where_noted.new.pages c.place_by_search.new.pages c.args.def.now c.in_ok-rid.ensures.runs.works.steady.is_told
    (c.in_ok-rid.ensures.kept c.in_default.is) (room_of c.args.rooms.now) c.args.row.now c.place_by_search.result c.place_by_search.ensures.full

pub returns-clause-runs : goal.returns-clause-runs
returns-clause-runs g c =
    let shape = c.args.shape in
    let def = c.args.def.now in
    runs_space_behind shape def (c.in_ok-rid.ensures.kept c.in_default.is) (runs_of_place shape def {fault = None} c.of-room.result.first c.in_ok-rid.ensures.runs) c.place_by_search.ensures.runs
