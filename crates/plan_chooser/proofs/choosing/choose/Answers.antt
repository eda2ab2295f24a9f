use Rattle.std.proofs.lemmas.Result.{IfOk-weaker}
use Rattle.plan_chooser.proofs.JoinLemmas.{chosen}
use Rattle.plan_chooser.proofs.choosing.choose.Goals as goal

pub returns : goal.returns
returns c =
    IfOk-weaker c.plan_of_cover.result _ _
    (λ plan made. chosen c.args.def.now c.args.mode c.in-Some.pred c.args.pred.now c.in_ok-cover.field-0 plan c.in-Some.is c.in_default-mode.not-Scan c.in_ok-cover.ensures made)
    c.plan_of_cover.ensures
