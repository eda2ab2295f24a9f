use Rattle.std.proofs.Common.{◌≡◌, length}
use Rattle.plan_chooser.proofs.NarrowingLemmas.{ComesBehind}
use Rattle.plan_chooser.proofs.narrowing.narrow.Given as goal

abbrev pub invariant-loop-i : goal.invariant-loop-i
invariant-loop-i l = record {
  same : l.spans ≡ l.initial.spans;
  end : l.i-end ≡ length l.initial.spans;
  behind : ComesBehind l.more l.spans l.i;
}
