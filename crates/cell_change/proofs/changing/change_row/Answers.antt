use Rattle.std.proofs.Common.{arith}
use Rattle.std.proofs.lemmas.Result.{IfErr-weaker, IfOk-weaker}
use Rattle.mdc_ast.proofs.FitsLemmas.{length-fits_all}
use Rattle.store_api.proofs.RunsOverPagesLemmas.{runs_exit_as}
use Rattle.extent_map.specs.Damages.{store_part_of}
use Rattle.table_trees.specs.RowCells.{AreOfOneCell}
use Rattle.mdc_table.proofs.ReadValuesLemmas.{read_length}
use Rattle.table_blocks.specs.BlockSteps.{HasThisRow}
use Rattle.cell_change.proofs.MovedRunsLemmas.{runs_moved, runs_within}
use Rattle.cell_change.proofs.ChangedRowLemmas.{full_as, moves, ready_then}
use Rattle.cell_change.proofs.ChangedSpaceLemmas.{moves_makes, update_full}
use Rattle.cell_change.proofs.OneTableLemmas.{touches_of_expected}
use Rattle.cell_change.proofs.StandsForRowLemmas.{database_changed}
use Rattle.cell_change.proofs.changing.change_row.Given.{Over}
use Rattle.cell_change.proofs.changing.change_row.Goals as goal

pub are_of_one_cell-requires-clause-a : goal.are_of_one_cell-requires-clause-a
are_of_one_cell-requires-clause-a g c = read_length c.args.def.now.columns c.args.was.now c.requires.was

pub are_of_one_cell-requires-clause-b : goal.are_of_one_cell-requires-clause-b
are_of_one_cell-requires-clause-b g c = omega (arith, length-fits_all c.args.def.now.columns c.args.is.now.values c.requires.fits.values)

-- ---- in its place

pub returns-then-are_of_one_cell-clause-changes : goal.returns-then-are_of_one_cell-clause-changes
returns-then-are_of_one_cell-clause-changes g c owners forests ready has =
    let shape = c.args.shape in
    let old = c.args.pages.now in
    let new = c.rewrite_row.new.pages in
    let def = c.args.def.now in
    let runs = c.in_ok-rewrite_row.ensures.runs in
    let table = c.in_ok-rewrite_row.ensures.changes owners forests ready has in
    record {
      table = table;
      database = database_changed g.P.Pages shape old new def owners forests ready.stands
          (touches_of_expected g.P.Pages shape old new def (HasThisRow g.P.Pages shape old def c.args.rid c.args.was.now) owners forests ready.stands has runs.touches)
          runs.works.no_shorter c.args.was.now c.args.is.now c.args.rid c.args.rid table c.requires.number;
    }

-- ---- taken out, and then put

-- the cells differ there
cells_apart : (g : Over) (c : goal.After-put_row g) → AreOfOneCell c.args.def.now c.args.was.now.values c.args.is.now.values → ⊥
cells_apart g c cell = let yes = c.are_of_one_cell.ensures.1 cell in let no = c.if-are_of_one_cell.false in cc

pub returns-in_err-delete_row-clause-runs : goal.returns-in_err-delete_row-clause-runs
returns-in_err-delete_row-clause-runs g c =
    runs_exit_as store_part_of c.from_residual-in_err-delete_row.result c.from_residual-in_err-delete_row.ensures.1
    (runs_within g.P.Pages c.args.shape c.args.pages.now c.args.def.now c.args.rid c.args.was.now c.in_err-delete_row.ensures.runs)

pub returns-clause-full : goal.returns-clause-full
returns-clause-full g c =
    IfErr-weaker c.put_row.result _ _ (λ fault. full_as fault _ _ (λ cap is. (
      is.0,
      λ owners forests ready has.
          let shape = c.args.shape in
          let old = c.args.pages.now in
          let middle = c.delete_row.new.pages in
          let def = c.args.def.now in
          let was = c.args.was.now in
          let out = (c.in_ok-delete_row.ensures.deletes owners forests ready.stands has).table in
          update_full g.P.Pages shape old middle def was c.args.is.now c.args.rid owners forests out (cells_apart g c) ready.stands
          (is.1 out.owners_now out.forests_now (ready_then g.P.Pages shape old middle def was c.args.rid owners forests out ready)),
    )))
    c.put_row.ensures.full

pub returns-clause-runs : goal.returns-clause-runs
returns-clause-runs g c =
    runs_moved g.P.Pages c.args.shape c.args.pages.now c.args.def.now c.args.rid c.args.was.now c.delete_row.new.pages c.in_ok-delete_row.ensures.deletes c.in_ok-delete_row.ensures.runs c.put_row.ensures.runs

pub returns-clause-changes : goal.returns-clause-changes
returns-clause-changes g c =
    IfOk-weaker c.put_row.result _ _ (λ to inserts owners forests ready has.
    let shape = c.args.shape in
    let old = c.args.pages.now in
    let middle = c.delete_row.new.pages in
    let new = c.put_row.new.pages in
    let def = c.args.def.now in
    let was = c.args.was.now in
    let is = c.args.is.now in
    let rid = c.args.rid in
    let deleted = c.in_ok-delete_row.ensures in
    let out = (deleted.deletes owners forests ready.stands has).table in
    let put = inserts out.owners_now out.forests_now (ready_then g.P.Pages shape old middle def was rid owners forests out ready) in
    let table = moves g.P.Pages shape old middle def was rid owners forests out new is to put ready.stands (cells_apart g c) deleted.runs.works.no_shorter c.put_row.ensures.runs.works.no_shorter
    (moves_makes g.P.Pages shape old middle def was is rid owners forests out (cells_apart g c) new to put) (deleted.stay owners forests ready.stands) in
    let runs = returns-clause-runs g c in
    record {
      table = table;
      database = database_changed g.P.Pages shape old new def owners forests ready.stands
          (touches_of_expected g.P.Pages shape old new def (HasThisRow g.P.Pages shape old def rid was) owners forests ready.stands has runs.touches) runs.works.no_shorter was is rid to table
          c.requires.number;
    })
    c.put_row.ensures.inserts

pub returns-clause-seen : goal.returns-clause-seen
returns-clause-seen g c =
    IfOk-weaker c.put_row.result _ _ (λ to inserts told apart indexes. let row = c.in_ok-delete_row.ensures.seen told apart indexes in (row.0, row.1.slot)) c.put_row.ensures.inserts

pub returns-clause-seen_kept : goal.returns-clause-seen_kept
returns-clause-seen_kept g c = IfOk-weaker c.put_row.result _ _ (λ to inserts told cell. absurd (cells_apart g c cell)) c.put_row.ensures.inserts

pub returns-clause-seen_standing : goal.returns-clause-seen_standing
returns-clause-seen_standing g c =
    IfOk-weaker c.put_row.result _ _ (λ to inserts apart owners forests st. let row = c.in_ok-delete_row.ensures.seen_standing apart owners forests st in (row.0, row.1.slot)) c.put_row.ensures.inserts

pub returns-in_err-rewrite_row-clause-runs : goal.returns-in_err-rewrite_row-clause-runs
returns-in_err-rewrite_row-clause-runs g c =
    runs_exit_as store_part_of c.from_residual.result c.from_residual.ensures.1
    c.in_err-rewrite_row.ensures.runs

pub returns-then-are_of_one_cell-clause-runs : goal.returns-then-are_of_one_cell-clause-runs
returns-then-are_of_one_cell-clause-runs g c = c.in_ok-rewrite_row.ensures.runs
