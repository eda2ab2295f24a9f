use Rattle.record_index.proofs.RisingRidsLemmas.{IsRisenRids}
use Rattle.record_index.proofs.in_span.rising.Given as goal

abbrev pub invariant-loop-rid_number : goal.invariant-loop-rid_number
invariant-loop-rid_number l = IsRisenRids l.rid_number-items l.rid_number-index l.from l.rids
