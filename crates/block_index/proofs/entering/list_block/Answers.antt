use Rattle.std.proofs.Common.{ap, arith, length, subst, sym}
use Rattle.std.specs.Prelude.{Some}
use Rattle.store_api.specs.RunsOverPages.{RunsOverPages}
use Rattle.store_api.proofs.RunsOverPagesLemmas.{runs_exit_as, runs_memory, runs_none}
use Rattle.extent_map.specs.Damages.{store_part_of}
use Rattle.entry_tree.proofs.ClaimsLemmas.{if_err_by}
use Rattle.table_trees.specs.TableTrees.{block_index_places, place_of_tree}
use Rattle.table_trees.specs.TreesBeside.{IsSpaceOfTrees}
use Rattle.block_index.specs.Cells.{cell_entries}
use Rattle.block_index.specs.Listing.{BreaksListing}
use Rattle.block_index.proofs.CellsLemmas.{entry_at, entry_width, length-dimension_entries}
use Rattle.block_index.proofs.ListingLemmas.{all_listed, all_added, entering_runs, enters_next, fills_there, listing_none, runs_full_there}
use Rattle.block_index.proofs.entering.list_block.Goals as goal

pub returns-in_err-entries-clause-runs : goal.returns-in_err-entries-clause-runs
returns-in_err-entries-clause-runs g c =
    runs_exit_as store_part_of c.from_residual.result c.from_residual.ensures.1 (subst (λ fault. RunsOverPages g.P.Pages (IsSpaceOfTrees g.P.Pages c.args.shape c.args.pages.now (block_index_places c.args.def.now)) (IsSpaceOfTrees g.P.Pages c.args.shape c.args.pages.now (block_index_places c.args.def.now))
    (BreaksListing g.P.Pages c.args.shape c.args.notes.now c.args.pages.now c.args.def.now c.args.cell.now.values c.args.block) c.args.pages.now c.args.pages.now (Some fault)) (sym c.in_err-entries.ensures.memory) (runs_memory runs_none))

pub block_index_tree-tree-requires-clause-there : goal.block_index_tree-tree-requires-clause-there
block_index_tree-tree-requires-clause-there g c =
    omega (arith, c.loop-i-test.true, c.len-i-end.ensures, ap length c.in_ok-entries.ensures.entries, length-dimension_entries c.args.def.now.columns c.args.def.now.dims c.args.cell.now.values c.args.block)

pub enter-requires-clause-width : goal.enter-requires-clause-width
enter-requires-clause-width g c =
    entry_width c.args.def.now c.args.cell.now.values c.args.block c.loop-i.i (place_of_tree c.block_index_tree-tree.result) c.bytes.result.now c.requires.indexes c.requires.cell c.block_index_tree-tree.ensures
    (entry_at c.in_ok-entries.entries.items (cell_entries c.args.def.now c.args.cell.now.values c.args.block) c.loop-i.i c.index.result.now c.bytes.result.now c.in_ok-entries.ensures.entries (omega (arith, c.loop-i-test.true, c.len-i-end.ensures)) c.index.ensures c.bytes.ensures)

pub returns-in_err-enter-clause-full : goal.returns-in_err-enter-clause-full
returns-in_err-enter-clause-full g c =
    if_err_by c.from_residual-in_err-enter.result c.in_err-enter.field-0.0 _ c.from_residual-in_err-enter.ensures.1
    (fills_there c.args.shape c.args.notes.now c.loop-i.notes c.enter.new.notes c.args.pages.now c.loop-i.pages c.enter.new.pages c.args.def.now c.args.cell.now.values c.args.block c.loop-i.i c.block_index_tree-tree.result c.bytes.result.now c.block_index_tree-tree.ensures (entry_at c.in_ok-entries.entries.items (cell_entries c.args.def.now c.args.cell.now.values c.args.block) c.loop-i.i c.index.result.now c.bytes.result.now c.in_ok-entries.ensures.entries (omega (arith, c.loop-i-test.true, c.len-i-end.ensures)) c.index.ensures c.bytes.ensures)
    c.in_err-enter.field-0.0 c.loop-i.invariant c.in_err-enter.ensures.full)

pub returns-in_err-enter-clause-runs_full : goal.returns-in_err-enter-clause-runs_full
returns-in_err-enter-clause-runs_full g c =
    if_err_by c.from_residual-in_err-enter.result c.in_err-enter.field-0.0 _ c.from_residual-in_err-enter.ensures.1
    (runs_full_there c.args.shape c.args.notes.now c.loop-i.notes c.enter.new.notes c.args.pages.now c.loop-i.pages c.enter.new.pages c.args.def.now c.args.cell.now.values c.args.block c.loop-i.i c.block_index_tree-tree.result c.bytes.result.now c.block_index_tree-tree.ensures (entry_at c.in_ok-entries.entries.items (cell_entries c.args.def.now c.args.cell.now.values c.args.block) c.loop-i.i c.index.result.now c.bytes.result.now c.in_ok-entries.ensures.entries (omega (arith, c.loop-i-test.true, c.len-i-end.ensures)) c.index.ensures c.bytes.ensures)
    c.in_err-enter.field-0.0 c.loop-i.invariant c.in_err-enter.ensures.full)

pub returns-in_err-enter-clause-runs : goal.returns-in_err-enter-clause-runs
returns-in_err-enter-clause-runs g c =
    runs_exit_as store_part_of c.from_residual-in_err-enter.result c.from_residual-in_err-enter.ensures.1
    (entering_runs g.P.Pages c.args.shape c.args.notes.now c.args.pages.now c.args.def.now c.args.cell.now.values c.args.block c.loop-i.notes c.loop-i.pages c.loop-i.i c.block_index_tree-tree.result c.bytes.result.now c.block_index_tree-tree.ensures (entry_at c.in_ok-entries.entries.items (cell_entries c.args.def.now c.args.cell.now.values c.args.block) c.loop-i.i c.index.result.now c.bytes.result.now c.in_ok-entries.ensures.entries (omega (arith, c.loop-i-test.true, c.len-i-end.ensures)) c.index.ensures c.bytes.ensures)
    c.enter.new.pages (store_part_of c.in_err-enter.field-0.0) c.loop-i.invariant.done c.loop-i.invariant.runs c.in_err-enter.ensures.runs)

pub loop-i-preserved : goal.loop-i-preserved
loop-i-preserved g c =
    enters_next c.args.shape c.args.notes.now c.loop-i.notes c.enter.new.notes c.args.pages.now c.loop-i.pages c.enter.new.pages c.args.def.now c.args.cell.now.values c.args.block c.loop-i.i c.block_index_tree-tree.result c.bytes.result.now c.block_index_tree-tree.ensures (entry_at c.in_ok-entries.entries.items (cell_entries c.args.def.now c.args.cell.now.values c.args.block) c.loop-i.i c.index.result.now c.bytes.result.now c.in_ok-entries.ensures.entries (omega (arith, c.loop-i-test.true, c.len-i-end.ensures)) c.index.ensures c.bytes.ensures)
    c.loop-i.invariant c.in_ok-enter.ensures.adds c.in_ok-enter.ensures.runs

pub returns-clause-lists : goal.returns-clause-lists
returns-clause-lists g c =
    all_listed c.args.shape c.args.notes.now c.loop-i.notes c.args.pages.now c.loop-i.pages c.args.def.now c.args.cell.now.values c.args.block c.loop-i.i
    (omega (arith, c.loop-i-test.false, c.loop-i.auto.i-end, c.len-i-end.ensures, ap length c.in_ok-entries.ensures.entries)) c.loop-i.invariant

pub returns-clause-makes : goal.returns-clause-makes
returns-clause-makes g c =
    all_added c.args.shape c.args.notes.now c.loop-i.notes c.args.pages.now c.loop-i.pages c.args.def.now c.args.cell.now.values c.args.block c.loop-i.i
    (omega (arith, c.loop-i-test.false, c.loop-i.auto.i-end, c.len-i-end.ensures, ap length c.in_ok-entries.ensures.entries)) c.loop-i.invariant

pub loop-i-init : goal.loop-i-init
loop-i-init g c = listing_none g.P.Pages c.args.shape c.args.notes.now c.args.pages.now c.args.def.now c.args.cell.now.values c.args.block
