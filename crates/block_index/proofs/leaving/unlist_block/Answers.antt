use Rattle.std.proofs.Common.{ap, arith, length, subst, sym}
use Rattle.std.specs.Prelude.{Some}
use Rattle.store_api.specs.RunsOverPages.{RunsOverPages}
use Rattle.store_api.proofs.RunsOverPagesLemmas.{runs_exit, runs_memory, runs_none}
use Rattle.table_trees.specs.TableTrees.{block_index_places, place_of_tree}
use Rattle.table_trees.specs.TreesBeside.{IsTreesOrMapPage}
use Rattle.block_index.specs.Cells.{cell_entries}
use Rattle.block_index.specs.Listing.{BreaksUnlisting}
use Rattle.block_index.proofs.CellsLemmas.{entry_at, entry_width, length-dimension_entries}
use Rattle.block_index.proofs.ListingLemmas.{all_unlisted, all_removed, leaves_next, leaving_runs, unlisting_none}
use Rattle.block_index.proofs.leaving.unlist_block.Goals as goal

pub returns-in_err-entries-clause-runs : goal.returns-in_err-entries-clause-runs
returns-in_err-entries-clause-runs g c =
    runs_exit c.from_residual.result c.from_residual.ensures.1 (subst (λ fault. RunsOverPages g.P.Pages (IsTreesOrMapPage g.P.Pages c.args.shape c.args.pages.now (block_index_places c.args.def.now)) (IsTreesOrMapPage g.P.Pages c.args.shape c.args.pages.now (block_index_places c.args.def.now))
    (BreaksUnlisting g.P.Pages c.args.shape c.args.notes.now c.args.pages.now c.args.def.now c.args.cell.now.values c.args.block) c.args.pages.now c.args.pages.now (Some fault)) (sym c.in_err-entries.ensures.memory) (runs_memory runs_none))

pub block_index_tree-tree-requires-clause-there : goal.block_index_tree-tree-requires-clause-there
block_index_tree-tree-requires-clause-there g c =
    omega (arith, c.loop-i-test.true, c.len-i-end.ensures, ap length c.in_ok-entries.ensures.entries, length-dimension_entries c.args.def.now.columns c.args.def.now.dims c.args.cell.now.values c.args.block)

pub leave-requires-clause-width : goal.leave-requires-clause-width
leave-requires-clause-width g c =
    entry_width c.args.def.now c.args.cell.now.values c.args.block c.loop-i.i (place_of_tree c.block_index_tree-tree.result) c.bytes.result.now c.requires.indexes c.requires.cell c.block_index_tree-tree.ensures
    (entry_at c.in_ok-entries.entries.items (cell_entries c.args.def.now c.args.cell.now.values c.args.block) c.loop-i.i c.index.result.now c.bytes.result.now c.in_ok-entries.ensures.entries (omega (arith, c.loop-i-test.true, c.len-i-end.ensures)) c.index.ensures c.bytes.ensures)

pub returns-in_err-leave-clause-runs : goal.returns-in_err-leave-clause-runs
returns-in_err-leave-clause-runs g c =
    runs_exit c.from_residual-in_err-leave.result c.from_residual-in_err-leave.ensures.1
    (leaving_runs g.P.Pages c.args.shape c.args.notes.now c.args.pages.now c.args.def.now c.args.cell.now.values c.args.block c.loop-i.notes c.loop-i.pages c.loop-i.i c.block_index_tree-tree.result c.bytes.result.now c.block_index_tree-tree.ensures (entry_at c.in_ok-entries.entries.items (cell_entries c.args.def.now c.args.cell.now.values c.args.block) c.loop-i.i c.index.result.now c.bytes.result.now c.in_ok-entries.ensures.entries (omega (arith, c.loop-i-test.true, c.len-i-end.ensures)) c.index.ensures c.bytes.ensures)
    c.leave.new.pages (Some c.in_err-leave.field-0.0) c.loop-i.invariant.done c.loop-i.invariant.runs c.in_err-leave.ensures.runs)

pub loop-i-preserved : goal.loop-i-preserved
loop-i-preserved g c =
    leaves_next c.args.shape c.args.notes.now c.loop-i.notes c.leave.new.notes c.args.pages.now c.loop-i.pages c.leave.new.pages c.args.def.now c.args.cell.now.values c.args.block c.loop-i.i c.block_index_tree-tree.result c.bytes.result.now c.block_index_tree-tree.ensures (entry_at c.in_ok-entries.entries.items (cell_entries c.args.def.now c.args.cell.now.values c.args.block) c.loop-i.i c.index.result.now c.bytes.result.now c.in_ok-entries.ensures.entries (omega (arith, c.loop-i-test.true, c.len-i-end.ensures)) c.index.ensures c.bytes.ensures)
    c.loop-i.invariant c.in_ok-leave.ensures.count c.in_ok-leave.ensures.removes c.in_ok-leave.ensures.runs

pub returns-clause-unlists : goal.returns-clause-unlists
returns-clause-unlists g c =
    all_unlisted c.args.shape c.args.notes.now c.loop-i.notes c.args.pages.now c.loop-i.pages c.args.def.now c.args.cell.now.values c.args.block c.loop-i.i
    (omega (arith, c.loop-i-test.false, c.loop-i.auto.i-end, c.len-i-end.ensures, ap length c.in_ok-entries.ensures.entries)) c.loop-i.invariant

pub returns-clause-makes : goal.returns-clause-makes
returns-clause-makes g c =
    all_removed c.args.shape c.args.notes.now c.loop-i.notes c.args.pages.now c.loop-i.pages c.args.def.now c.args.cell.now.values c.args.block c.loop-i.i
    (omega (arith, c.loop-i-test.false, c.loop-i.auto.i-end, c.len-i-end.ensures, ap length c.in_ok-entries.ensures.entries)) c.loop-i.invariant

pub loop-i-init : goal.loop-i-init
loop-i-init g c = unlisting_none g.P.Pages c.args.shape c.args.notes.now c.args.pages.now c.args.def.now c.args.cell.now.values c.args.block
