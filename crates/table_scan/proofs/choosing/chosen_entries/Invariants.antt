use Rattle.std.proofs.Common.{◌≡◌, take}
use Rattle.std.specs.List.{AllByRecursion}
use Rattle.table_scan.specs.Choices.{IsChoiceOf, blocks_chosen, blocks_that_may}
use Rattle.table_scan.proofs.choosing.chosen_entries.Given as goal

-- the entries so far that list a block under such a cell were chosen
abbrev pub invariant-loop-at : goal.invariant-loop-at
invariant-loop-at l = record {
  so_far : blocks_chosen l.chosen.items ≡ blocks_that_may l.def l.pred (take l.at l.entries);
  each : AllByRecursion (IsChoiceOf l.def l.pred l.entries) l.chosen.items;
}
