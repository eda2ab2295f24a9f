use Rattle.std.specs.Vec.Iter.{into_iter_items}
use Rattle.row_groups.specs.Adding.{lines_in}
use Rattle.row_groups.specs.Answers.{AreWide}
use Rattle.row_groups.proofs.SumLemmas.{LinesCloseSo}
use Rattle.row_groups.proofs.closing.close_lines.Given as goal

abbrev pub invariant-loop-line : goal.invariant-loop-line
invariant-loop-line l = AreWide l.outs (lines_in l.fn.lines.items) → LinesCloseSo l.outs (lines_in l.fn.lines.items) l.closed (lines_in (into_iter_items l.line-iterator))
