use Rattle.store_api.proofs.RunsOverPagesLemmas.{runs_on}
use Rattle.store_api.specs.declared.fault.StoreFault.TheVariants.{Device, Memory}
use Rattle.file_check.proofs.VerdictsLemmas.{damage_untold, runs_handed_on, runs_with_verdict}
use Rattle.file_check.proofs.checking.check.Goals as goal

pub returns-in-Ok : goal.returns-in-Ok
returns-in-Ok g c = record { verdict = c.in-Ok.ensures.verdict; same = c.judge_rules.ensures.same; runs = runs_on c.in-Ok.ensures.runs }

pub returns-in-Err-Damaged : goal.returns-in-Err-Damaged
returns-in-Err-Damaged g c = record {
  verdict = λ told. absurd (damage_untold c.in-Err-Damaged.field-0 c.in-Err-Damaged.damage c.in-Err-Damaged.field-0-is c.in-Err-Damaged.ensures.runs told);
  same = c.judge_rules.ensures.same;
  runs = runs_with_verdict c.in-Err-Damaged.field-0 c.in-Err-Damaged.damage c.in-Err-Damaged.field-0-is c.in-Err-Damaged.ensures.runs;
}

pub returns-in-Err-Device : goal.returns-in-Err-Device
returns-in-Err-Device g c = record {
  verdict = tt;
  same = c.judge_rules.ensures.same;
  runs = runs_handed_on c.in-Err-Device.field-0 Device c.in-Err-Device.field-0-is (λ damage is. absurd (cc)) c.in-Err-Device.ensures.runs;
}

pub returns-in-Err-Memory : goal.returns-in-Err-Memory
returns-in-Err-Memory g c = record {
  verdict = tt;
  same = c.judge_rules.ensures.same;
  runs = runs_handed_on c.in-Err-Memory.field-0 Memory c.in-Err-Memory.field-0-is (λ damage is. absurd (cc)) c.in-Err-Memory.ensures.runs;
}
