use Rattle.std.proofs.Common.{◌≡◌, ◌++◌, ap, subst, rules, ◌∙◌}
use Rattle.statement_meaning.specs.Texts.{outcome_text}
use Rattle.store_api.specs.Calls.{TellsPart}
use Rattle.mdc_outside.proofs.Answering.{on_err}
use Rattle.session.proofs.AnsweringLemmas.{tells_part-none, tells_part-any_hand}
use Rattle.session.proofs.script.answering.tell_outcome.Goals as goal

pub returns-in_err-tell-clause-err : goal.returns-in_err-tell-clause-err
returns-in_err-tell-clause-err g c =
    let text : c.bytes.result.now ≡ outcome_text c.args.outcome.now = search rules in
    on_err c.from_residual.result (tells_part-any_hand (outcome_text c.args.outcome.now) (g.S.Pages.state c.args.engine.now.store) (g.S.Pages.state c.tell.new.self.store)
    (subst (λ bytes. TellsPart bytes (g.S.Pages.state c.args.engine.now.store) (g.S.Pages.state c.tell.new.self.store)) text c.in_err-tell.ensures.err))

pub returns-in_err-outcome_bytes-clause-err : goal.returns-in_err-outcome_bytes-clause-err
returns-in_err-outcome_bytes-clause-err g c = on_err c.from_residual-in_err-outcome_bytes.result (tells_part-none (outcome_text c.args.outcome.now) (g.S.Pages.state c.args.engine.now.store))

pub returns-in_err-tell-2-clause-err : goal.returns-in_err-tell-2-clause-err
returns-in_err-tell-2-clause-err g c =
    let text : c.as_slice.result.now ≡ outcome_text c.args.outcome.now =
    c.as_slice.ensures.value ∙ (c.in_ok-outcome_bytes.ensures.ok ∙ ap (λ bytes. bytes ++ outcome_text c.args.outcome.now) c.clear.ensures.items) in
    on_err c.from_residual-in_err-tell-2.result (tells_part-any_hand (outcome_text c.args.outcome.now) (g.S.Pages.state c.args.engine.now.store) (g.S.Pages.state c.tell-2.new.self.store)
    (subst (λ bytes. TellsPart bytes (g.S.Pages.state c.args.engine.now.store) (g.S.Pages.state c.tell-2.new.self.store)) text c.in_err-tell-2.ensures.err))
