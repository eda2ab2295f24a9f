use Rattle.std.proofs.Common.{arith, suc, ◌+◌, ◌-◌, ◌≡◌}
use Rattle.store_api.proofs.FetchingLemmas.{once_then}
use Rattle.store_api.proofs.RunsOverPagesLemmas.{still_holds, runs_more, runs_exit}
use Rattle.store_api_tests.proofs.firsts.sum.Goals as goal

pub returns-in_err-byte-clause-once : goal.returns-in_err-byte-clause-once
returns-in_err-byte-clause-once g c = once_then c.loop-i.invariant.once c.first_byte.ensures.once (omega arith) (omega arith) (omega arith)

pub returns-in_err-byte-clause-runs : goal.returns-in_err-byte-clause-runs
returns-in_err-byte-clause-runs g c = runs_exit c.from_residual.result c.from_residual.ensures.1 (runs_more c.loop-i.invariant.runs c.in_err-byte.ensures.runs (omega arith) (omega arith))

pub loop-i-preserved : goal.loop-i-preserved
loop-i-preserved g c = record {
  fits = omega arith;
  value = λ part holds.
      let k = c.loop-i.i - c.args.a in
      let next : c.loop-i.i + 1 - c.args.a ≡ suc k = omega arith in
      let at : c.args.a + k ≡ c.loop-i.i = omega arith in
      let byte = c.in_ok-byte.ensures.value (part c.loop-i.i) (still_holds c.loop-i.invariant.runs (λ none. none) (holds.each c.loop-i.i (omega arith) (omega arith))) in
      rw (next, at) (cc (c.loop-i.invariant.value part holds, byte));
  once = once_then c.loop-i.invariant.once c.first_byte.ensures.once (omega arith) (omega arith) (omega arith);
  runs = runs_more c.loop-i.invariant.runs c.in_ok-byte.ensures.runs (omega arith) (omega arith);
}
