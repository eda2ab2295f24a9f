use Rattle.std.proofs.Common.{refl}
use Rattle.store_api.proofs.FetchingLemmas.{only_wider}
use Rattle.script_engine.proofs.AnsweringAnewLemmas.{answers_along}
use Rattle.script_engine.proofs.RetryingLemmas.{tries_along}
use Rattle.script_engine.proofs.damage.try_again.Goals as goal

pub returns-in-Sound-clause-answers : goal.returns-in-Sound-clause-answers
returns-in-Sound-clause-answers g c =
    answers_along g.P.Pages c.args.stmt.now c.args.pages.now c.check.new.pages c.try_reloaded.new.pages c.check.ensures.same c.try_reloaded.result c.args.tables.now c.try_reloaded.new.tables
    c.in_ok-damage.ensures.runs.works.steady.is_told c.try_reloaded.ensures.answers

pub returns-in-Sound-clause-tries : goal.returns-in-Sound-clause-tries
returns-in-Sound-clause-tries g c =
    tries_along g.P.Pages c.args.stmt.now c.try_reloaded.result c.args.pages.now c.check.new.pages c.try_reloaded.new.pages c.args.tables.now c.args.tables.now c.try_reloaded.new.tables c.in_ok-damage.ensures.runs.works.steady
    (c.in_ok-damage.ensures.runs.cause.device.still (λ e. absurd (cc))) (only_wider c.in_ok-damage.ensures.runs.brings (λ p any. tt)) (record { pages = c.check.ensures.same; catalog = refl }) refl refl c.try_reloaded.ensures.tries
