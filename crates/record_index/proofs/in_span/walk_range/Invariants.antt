use Rattle.std.proofs.Common.{◌≡◌, ◌+◌, ◌++◌, ◌<◌, ◌^◌, None, false, length}
use Rattle.std.specs.Prelude.{map}
use Rattle.std.specs.List.{AllByRecursion}
use Rattle.entry_tree.specs.Forest.{Forest, leaf_entries}
use Rattle.entry_tree.specs.HeldTrees.{HoldsTree}
use Rattle.entry_tree.specs.Reading.{BoundFits}
use Rattle.block_index.specs.PartRanges.{entries_until, walked}
use Rattle.block_index.specs.Reading.{entries_left, room_above}
use Rattle.block_index.proofs.ReadingRunsLemmas.{ReadsTree}
use Rattle.record_index.specs.FoundRids.{rid_in_entry, rid_of_number}
use Rattle.record_index.proofs.in_span.walk_range.Given as goal

-- what was taken so far, and what is left from the bound on, make up the walk
abbrev pub invariant-leaves : goal.invariant-leaves
invariant-leaves g l = record {
  same : (g.P.Pages.state l.pages).work ≡ (g.P.Pages.state l.fn.pages).work;
  going : (g.P.Pages.state l.pages).ended ≡ false;
  runs : ReadsTree g.P.Pages l.tree l.fn.pages l.pages None;
  fits : BoundFits l.tree.width l.bound;
  small : AllByRecursion (λ rid_number. rid_number < 2 ^ 48) l.numbers.items;
  taken : (t : Forest) → HoldsTree g.P.Pages l.fn.pages l.tree t → map rid_in_entry (walked l.tree.width l.range (leaf_entries t)) ≡ map rid_of_number l.numbers.items ++ map rid_in_entry (entries_until l.range (entries_left (leaf_entries t) l.bound));
  counted : (t : Forest) → HoldsTree g.P.Pages l.fn.pages l.tree t → l.fn.entries + length (walked l.tree.width l.range (leaf_entries t)) ≡ l.entries + length (entries_until l.range (entries_left (leaf_entries t) l.bound));
}

-- how much room there is above the bound
abbrev pub decreases-leaves : goal.decreases-leaves
decreases-leaves g l = room_above l.tree.width l.bound
