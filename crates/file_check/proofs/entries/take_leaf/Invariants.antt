use Rattle.std.proofs.Common.{◌≡◌, ◌++◌, take}
use Rattle.file_check.proofs.entries.take_leaf.Given as goal

-- those before the one at hand were put there
abbrev pub invariant-loop-i : goal.invariant-loop-i
invariant-loop-i l = l.entries ≡ l.initial.entries ++ take l.i l.leaf
