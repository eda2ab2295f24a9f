use Rattle.std.proofs.Common.{◌≡◌, List, None, false}
use Rattle.entry_tree.specs.Forest.{Forest, leaf_entries}
use Rattle.entry_tree.specs.HeldTrees.{HoldsTree}
use Rattle.entry_tree.specs.Reading.{BoundFits}
use Rattle.block_index.specs.ListedCells.{AreCellEntries, IsListedTo}
use Rattle.block_index.specs.Reading.{entries_left, room_above}
use Rattle.block_index.specs.declared.listed_cells.CellBlock.{CellBlock}
use Rattle.block_index.proofs.ReadingRunsLemmas.{ReadsTree}
use Rattle.block_index.proofs.listed_cells.walk_cells.Given as goal

-- what was found so far, and the cells of what is left from the bound on, are all cells
abbrev pub invariant-leaves : goal.invariant-leaves
invariant-leaves g l = record {
  same : (g.P.Pages.state l.pages).work ≡ (g.P.Pages.state l.fn.pages).work;
  going : (g.P.Pages.state l.pages).ended ≡ false;
  runs : ReadsTree g.P.Pages l.tree l.fn.pages l.pages None;
  fits : BoundFits l.tree.width l.bound;
  read : (t : Forest) → HoldsTree g.P.Pages l.fn.pages l.tree t → (all : List CellBlock) → AreCellEntries l.def (leaf_entries t) all → IsListedTo l.def (entries_left (leaf_entries t) l.bound) l.found all;
}

-- how much room there is above the bound
abbrev pub decreases-leaves : goal.decreases-leaves
decreases-leaves g l = room_above l.tree.width l.bound
