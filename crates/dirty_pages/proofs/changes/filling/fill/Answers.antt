-- One page more is there.
use Rattle.std.proofs.Common.{arith, ◌∙◌}
use Rattle.dirty_pages.proofs.Steps.{still_there}
use Rattle.dirty_pages.proofs.changes.filling.fill.Goals as goal

pub loop-p-preserved : goal.loop-p-preserved
loop-p-preserved c = record {
  reached = omega (arith, c.loop-p.invariant.reached);
  zeros = λ q. c.fill_one.ensures.zeros c.args.from q c.loop-p.invariant.reached ∙ c.loop-p.invariant.zeros q;
  below = λ q lt. c.fill_one.ensures.apart q (λ same. let le = c.loop-p.invariant.reached in omega arith) ∙ c.loop-p.invariant.below q lt;
  behind = λ q le. c.fill_one.ensures.apart q (λ same. omega arith) ∙ c.loop-p.invariant.behind q (omega arith);
  filled = λ q le lt. still_there c.loop-p.table c.fill_one.new.table c.loop-p.p q c.fill_one.ensures.apart c.in_ok-fill_one.ensures.there (λ before. c.loop-p.invariant.filled q le before) lt;
}
