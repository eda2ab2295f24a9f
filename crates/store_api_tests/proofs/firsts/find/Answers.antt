use Rattle.std.proofs.Common.{arith, ◌≡◌, inl, inr, ap, sym, ◌∙◌, get_or}
use Rattle.std.proofs.lemmas.Bool.{cases_lt}
use Rattle.store_api.proofs.FetchingLemmas.{once_then}
use Rattle.store_api.proofs.RunsOverPagesLemmas.{still_holds, runs_more, runs_exit}
use Rattle.store_api_tests.proofs.firsts.find.Goals as goal

pub returns-in_err-first-clause-once : goal.returns-in_err-first-clause-once
returns-in_err-first-clause-once g c = once_then c.loop-i.invariant.once c.first_byte.ensures.once (omega arith) (omega arith) (omega arith)

pub returns-in_err-first-clause-runs : goal.returns-in_err-first-clause-runs
returns-in_err-first-clause-runs g c = runs_exit c.from_residual.result c.from_residual.ensures.1 (runs_more c.loop-i.invariant.runs c.in_err-first.ensures.runs (omega arith) (omega arith))

pub returns-then-first-byte-clause-once : goal.returns-then-first-byte-clause-once
returns-then-first-byte-clause-once g c = once_then c.loop-i.invariant.once c.first_byte.ensures.once (omega arith) (omega arith) (omega arith)

pub returns-then-first-byte-clause-runs : goal.returns-then-first-byte-clause-runs
returns-then-first-byte-clause-runs g c = runs_more c.loop-i.invariant.runs c.in_ok-first.ensures.runs (omega arith) (omega arith)

pub loop-i-preserved : goal.loop-i-preserved
loop-i-preserved g c = record {
  none = λ part holds p low high same. elim (cases_lt p c.loop-i.i) [
    | inl before ↦ c.loop-i.invariant.none part holds p low before same
    | inr after ↦ let at : p ≡ c.loop-i.i = omega arith in
        c.if-first-byte.false (c.in_ok-first.ensures.value (part c.loop-i.i) (still_holds c.loop-i.invariant.runs (λ none. none) (holds.each c.loop-i.i (omega arith) (omega arith))) ∙ ap (λ q. get_or (part q) 0 0) (sym at) ∙ same)
  ];
  once = once_then c.loop-i.invariant.once c.first_byte.ensures.once (omega arith) (omega arith) (omega arith);
  runs = runs_more c.loop-i.invariant.runs c.in_ok-first.ensures.runs (omega arith) (omega arith);
}
