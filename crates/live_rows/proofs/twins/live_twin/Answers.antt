use Rattle.std.proofs.lemmas.Result.{IfOk-weaker}
use Rattle.live_rows.proofs.StandingTwinsLemmas.{named_is_twin}
use Rattle.live_rows.proofs.twins.live_twin.Goals as goal

pub returns-clause-twin : goal.returns-clause-twin
returns-clause-twin g c =
    IfOk-weaker c.find_live_twin.result _ _ (λ twin named. named_is_twin c.args.pages.now c.args.def.now c.args.index c.args.values.now c.args.but.now twin c.requires.indexes c.requires.there c.requires.values named) c.find_live_twin.ensures.named
