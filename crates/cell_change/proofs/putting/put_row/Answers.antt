use Rattle.store_api.proofs.RunsOverPagesLemmas.{runs_exit_as}
use Rattle.extent_map.specs.Damages.{store_part_of}
use Rattle.entry_tree.proofs.ClaimsLemmas.{if_err_by}
use Rattle.mdc_sound.specs.StandingTable.{pages_of, spots_of}
use Rattle.row_entries.proofs.RowKeysLemmas.{keys_of_fitting_row}
use Rattle.cell_change.specs.ExpectedTables.{HasSoundIndexes}
use Rattle.cell_change.proofs.ChangedRowLemmas.{full_as}
use Rattle.cell_change.proofs.PuttingRowsLemmas.{entering_full, inserts, placing_full, runs_entered, runs_standing}
use Rattle.cell_change.proofs.putting.put_row.Goals as goal

pub returns-in_err-rid-clause-full : goal.returns-in_err-rid-clause-full
returns-in_err-rid-clause-full g c =
    let shape = c.args.shape in
    let old = c.args.pages.now in
    let def = c.args.def.now in
    let fault = c.in_err-rid.field-0.0 in
    if_err_by c.from_residual.result fault _ c.from_residual.ensures.1
    (full_as fault _ _ (λ cap is. (is.0, λ owners forests ready. placing_full shape (pages_of g.P.Pages old) def (spots_of g.P.Pages shape old def owners forests) c.args.row.now (is.1 owners forests ready).runs_full))
    c.in_err-rid.ensures.full)

pub returns-in_err-rid-clause-runs : goal.returns-in_err-rid-clause-runs
returns-in_err-rid-clause-runs g c =
    runs_exit_as store_part_of c.from_residual.result c.from_residual.ensures.1
    (runs_standing g.P.Pages c.args.shape c.args.pages.now c.args.def.now (HasSoundIndexes g.P.Pages c.args.shape c.args.pages.now c.args.def.now) c.in_err-rid.ensures.runs)

pub enter_row-requires-clause-row : goal.enter_row-requires-clause-row
enter_row-requires-clause-row g c = keys_of_fitting_row c.args.def.now c.args.row.now c.requires.defined c.requires.fits

pub returns-in_err-enter_row-clause-full : goal.returns-in_err-enter_row-clause-full
returns-in_err-enter_row-clause-full g c =
    let shape = c.args.shape in
    let old = c.args.pages.now in
    let middle = c.place_row.new.pages in
    let def = c.args.def.now in
    let fault = c.in_err-enter_row.field-0.0 in
    if_err_by c.from_residual-in_err-enter_row.result fault _ c.from_residual-in_err-enter_row.ensures.1
    (full_as fault _ _ (λ cap is. (
      is.0,
      λ owners forests ready.
          let placed = c.in_ok-rid.ensures.places owners forests ready.stands in
          let places = placed.places ready in
          entering_full g.P.Pages shape old middle def c.args.row.now c.in_ok-rid.rid owners forests ready placed
          (is.1 places.owners_now places.forests_now places.changes.stands (places.changes.notes ready.notes)),
    ))
    c.in_err-enter_row.ensures.full)

pub returns-in_err-enter_row-clause-runs : goal.returns-in_err-enter_row-clause-runs
returns-in_err-enter_row-clause-runs g c =
    runs_exit_as store_part_of c.from_residual-in_err-enter_row.result c.from_residual-in_err-enter_row.ensures.1
    (runs_entered g.P.Pages c.args.shape c.args.pages.now c.args.def.now c.place_row.new.pages c.args.row.now c.in_ok-rid.rid c.requires.defined
    (keys_of_fitting_row c.args.def.now c.args.row.now c.requires.defined c.requires.fits) c.in_ok-rid.ensures.places c.in_ok-rid.ensures.runs c.in_err-enter_row.ensures.runs)

pub returns-clause-inserts : goal.returns-clause-inserts
returns-clause-inserts g c owners forests ready =
    let placed = c.in_ok-rid.ensures.places owners forests ready.stands in
    let places = placed.places ready in
    let entered = c.in_ok-enter_row.ensures in
    inserts g.P.Pages c.args.shape c.args.pages.now c.place_row.new.pages c.args.def.now c.args.row.now c.in_ok-rid.rid owners forests ready placed c.enter_row.new.pages
    (entered.enters places.owners_now places.forests_now places.changes.stands) c.requires.defined c.in_ok-rid.ensures.runs.works.no_shorter entered.runs.works.no_shorter
    (entered.makes places.owners_now places.forests_now places.changes.stands (places.changes.notes ready.notes))

pub returns-clause-runs : goal.returns-clause-runs
returns-clause-runs g c =
    runs_entered g.P.Pages c.args.shape c.args.pages.now c.args.def.now c.place_row.new.pages c.args.row.now c.in_ok-rid.rid c.requires.defined
    (keys_of_fitting_row c.args.def.now c.args.row.now c.requires.defined c.requires.fits) c.in_ok-rid.ensures.places c.in_ok-rid.ensures.runs c.in_ok-enter_row.ensures.runs
