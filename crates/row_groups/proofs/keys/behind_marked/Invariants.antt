use Rattle.std.proofs.Common.{◌≡◌, ◌++◌, flat_map, take}
use Rattle.row_groups.specs.Keys.{marked}
use Rattle.row_groups.proofs.keys.behind_marked.Given as goal

abbrev pub invariant-loop-byte : goal.invariant-loop-byte
invariant-loop-byte l = l.key ≡ flat_map marked (take l.byte-index l.text) ++ l.left
