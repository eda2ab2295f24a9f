use Rattle.std.proofs.Common.{◌≡◌, false}
use Rattle.std.specs.List.{AllAdjacentBelow}
use Rattle.file_check.proofs.differing.do_neighbours_differ.Given as goal

-- the values so far differ from those before them
abbrev pub invariant-loop-i : goal.invariant-loop-i
invariant-loop-i g l = AllAdjacentBelow (λ a b. g.T.PartialEq.eq b a ≡ false) l.values l.i
