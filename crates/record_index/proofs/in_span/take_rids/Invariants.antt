use Rattle.record_index.proofs.RangesLemmas.{IsTaking}
use Rattle.record_index.proofs.in_span.take_rids.Given as goal

abbrev pub invariant-loop-i : goal.invariant-loop-i
invariant-loop-i g l = IsTaking l.range l.leaf l.i l.initial.numbers.items l.numbers.items l.initial.entries l.entries
