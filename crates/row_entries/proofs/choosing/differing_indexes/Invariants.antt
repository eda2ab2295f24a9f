use Rattle.std.proofs.Common.{◌≡◌, take, length}
use Rattle.row_entries.specs.ChosenIndexes.{differing_chosen}
use Rattle.row_entries.proofs.choosing.differing_indexes.Given as goal

abbrev pub invariant-loop-index : goal.invariant-loop-index
invariant-loop-index l = (length l.chosen ≡ 8) × (take l.index l.chosen ≡ take l.index (differing_chosen l.def l.a l.b))
