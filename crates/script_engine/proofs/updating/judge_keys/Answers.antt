use Rattle.std.proofs.Common.{◌∙◌, ap, refl, sym}
use Rattle.std.proofs.lemmas.Result.{IfOk-weaker}
use Rattle.store_api.proofs.RunsOverPagesLemmas.{runs_none}
use Rattle.script_engine.specs.SetKeys.{sets_unique}
use Rattle.script_engine.proofs.updating.judge_keys.Goals as goal

pub returns-then-not-sets_unique-clause-judges : goal.returns-then-not-sets_unique-clause-judges
returns-then-not-sets_unique-clause-judges g c =
    let unset = sym (ap (sets_unique c.args.sets.now) c.as_slice.ensures) ∙ sym c.sets_unique.ensures ∙ c.if-not-sets_unique.true in
    (λ is. absurd (cc (unset, is)), λ is. refl)

pub returns-then-not-sets_unique-clause-runs : goal.returns-then-not-sets_unique-clause-runs
returns-then-not-sets_unique-clause-runs g c = runs_none

pub returns-clause-judges : goal.returns-clause-judges
returns-clause-judges g c =
    let set = sym (ap (sets_unique c.args.sets.now) c.as_slice.ensures) ∙ sym c.sets_unique.ensures ∙ c.if-not-sets_unique.false in
    IfOk-weaker c.judge_turned.result _ _ (λ refusal judges. (λ is. judges, λ is. absurd (cc (set, is)))) c.judge_turned.ensures.judges
