use Rattle.std.proofs.Common.{Some}
use Rattle.std.proofs.lemmas.Result.{IfErr-weaker, on_ok_weaker}
use Rattle.store_api.specs.Causes.{store_fault_in}
use Rattle.store_api.proofs.RunsOverPagesLemmas.{runs_exit_as}
use Rattle.extent_map.specs.Damages.{store_part_of}
use Rattle.mdc_sound.proofs.ChangedRowsLemmas.{some_slots}
use Rattle.mdc_sound.proofs.DefinitionTreesLemmas.{has_block_indexes}
use Rattle.table_blocks.proofs.BeginningSpaceLemmas.{filling_full, filling_makes}
use Rattle.table_blocks.proofs.FillBegunLemmas.{PutsFirstRow, fills_listed, full_listed, row_keys, run_before, run_listing, run_putting, run_wiping}
use Rattle.table_blocks.proofs.beginning.fill_begun.Given.{Over}
use Rattle.table_blocks.proofs.beginning.fill_begun.Goals.{In_ok-put_slot}
use Rattle.table_blocks.proofs.beginning.fill_begun.Goals as goal

-- the row lies in the lowest slot of the block, which is listed next
put : (g : Over) (c : In_ok-put_slot g)
    → PutsFirstRow g.P.Pages c.args.shape c.args.pages.now c.wipe_block.new.pages c.put_slot.new.pages c.args.def.now c.args.block c.args.row.now c.in_ok-cell.cell
put g c =
    let wiped = c.in_ok-wipe_block.ensures in
    let slot = c.in_ok-put_slot.ensures in
    record {
      low = c.requires.within;
      wipes = wiped.runs;
      wipe_count = wiped.count;
      empty = wiped.wipes;
      puts = slot.runs;
      put_count = slot.count;
      has = slot.puts;
      small = c.ranges.block.fits;
      defined = c.requires.defined;
      fits = c.requires.fits;
      of_row = c.in_ok-cell.ensures.cell;
    }

pub cell_of-requires : goal.cell_of-requires
cell_of-requires g c = record { keys = row_keys c.args.def.now c.args.row.now c.requires.defined c.requires.fits }

pub returns-in_err-cell-clause-runs : goal.returns-in_err-cell-clause-runs
returns-in_err-cell-clause-runs g c =
    runs_exit_as store_part_of c.from_residual.result c.from_residual.ensures.1
    (run_before c.args.shape c.args.def.now c.args.block c.args.pages.now c.in_err-cell.field-0.0 c.in_err-cell.ensures.memory)

pub returns-in_err-wipe_block-clause-runs : goal.returns-in_err-wipe_block-clause-runs
returns-in_err-wipe_block-clause-runs g c =
    runs_exit_as store_part_of c.from_residual-in_err-wipe_block.result c.from_residual-in_err-wipe_block.ensures.1
    (run_wiping c.args.shape c.args.def.now c.args.block c.args.pages.now c.wipe_block.new.pages (Some c.in_err-wipe_block.field-0.0) c.requires.within c.in_err-wipe_block.ensures.runs)

pub returns-in_err-put_slot-clause-runs : goal.returns-in_err-put_slot-clause-runs
returns-in_err-put_slot-clause-runs g c =
    runs_exit_as store_part_of c.from_residual-in_err-put_slot.result c.from_residual-in_err-put_slot.ensures.1
    (run_putting c.args.shape c.args.def.now c.args.block c.args.pages.now c.wipe_block.new.pages c.put_slot.new.pages (Some c.in_err-put_slot.field-0.0) c.requires.within
    c.in_ok-wipe_block.ensures.runs c.in_ok-wipe_block.ensures.count c.in_ok-wipe_block.ensures.wipes c.in_err-put_slot.ensures.runs)

pub put_slot-requires-clause-slot : goal.put_slot-requires-clause-slot
put_slot-requires-clause-slot g c = some_slots c.args.shape c.args.def.now.number c.args.def.now c.requires.defined

pub list_block-requires-clause-indexes : goal.list_block-requires-clause-indexes
list_block-requires-clause-indexes g c = has_block_indexes c.args.def.now.number c.args.def.now c.requires.defined

pub returns-clause-fills : goal.returns-clause-fills
returns-clause-fills g c =
    let listed = c.list_block.ensures in
    fills_listed (put g (goal.at.returns-clause-fills g c).In_ok-put_slot) c.args.notes.now c.list_block.new.notes c.list_block.new.pages c.list_block.result listed.lists listed.grows listed.runs

pub returns-clause-full : goal.returns-clause-full
returns-clause-full g c =
    full_listed (put g (goal.at.returns-clause-full g c).In_ok-put_slot) c.args.notes.now c.list_block.new.notes c.list_block.new.pages c.list_block.result c.list_block.ensures.full

pub returns-clause-makes : goal.returns-clause-makes
returns-clause-makes g c =
    on_ok_weaker c.list_block.result (filling_makes (put g (goal.at.returns-clause-makes g c).In_ok-put_slot) c.args.notes.now c.list_block.new.pages) c.list_block.ensures.makes

pub returns-clause-runs_full : goal.returns-clause-runs_full
returns-clause-runs_full g c =
    IfErr-weaker c.list_block.result _ _ (filling_full (put g (goal.at.returns-clause-runs_full g c).In_ok-put_slot) c.args.notes.now) c.list_block.ensures.runs_full

pub returns-clause-runs : goal.returns-clause-runs
returns-clause-runs g c =
    run_listing (put g (goal.at.returns-clause-runs g c).In_ok-put_slot) c.args.notes.now c.list_block.new.pages (store_fault_in store_part_of c.list_block.result) c.list_block.ensures.runs
