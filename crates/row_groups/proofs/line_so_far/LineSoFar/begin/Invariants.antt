use Rattle.std.proofs.Common.{◌≡◌, [], map, take}
use Rattle.row_groups.specs.Adding.{seen}
use Rattle.row_groups.specs.Lines.{shown_of}
use Rattle.row_groups.proofs.line_so_far.LineSoFar.begin.Given as goal

abbrev pub invariant-loop-out : goal.invariant-loop-out
invariant-loop-out l = map seen l.tallies.items ≡ map (λ out. shown_of out l.first []) (take l.out-index l.out-items)
