use Rattle.std.proofs.Common.{◌≡◌, drop, length, map}
use Rattle.std.specs.Vec.Iter.{into_iter_items}
use Rattle.row_groups.specs.Adding.{seen}
use Rattle.row_groups.proofs.SumLemmas.{ClosesSo}
use Rattle.row_groups.proofs.line_so_far.LineSoFar.close.Given as goal

abbrev pub invariant-loop-out : goal.invariant-loop-out
invariant-loop-out l = length l.fn.self.line.shows ≡ length l.outs → ClosesSo l.outs l.fn.self.line.shows l.shows (drop l.out-index l.outs) (map seen (into_iter_items l.tallies))
