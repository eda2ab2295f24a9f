use Rattle.session.proofs.HandedLemmas.{handed}
use Rattle.session.proofs.TurnEndsLemmas.{turns_settled, turns_unsettled}
use Rattle.session.proofs.script.serving.answer.Goals as goal

pub returns-in_err-refused : goal.returns-in_err-refused
returns-in_err-refused g c = rw (handed c.from_residual.result _ c.from_residual.ensures.1) (record { turns = c.in_err-refused.ensures.turns })

pub returns-in_err-settle : goal.returns-in_err-settle
returns-in_err-settle g c =
    rw (handed c.from_residual-in_err-settle.result _ c.from_residual-in_err-settle.ensures.1) (record {
      turns = turns_unsettled g.S.Pages _ c.in_ok-refused.refused c.in_err-settle.field-0.0 c.args.engine.now c.answer_item.new.engine c.settle.new.self c.in_ok-refused.ensures.turns c.in_err-settle.ensures.settles;
    })

pub returns : goal.returns
returns g c = record {
  turns = turns_settled g.S.Pages _ c.in_ok-refused.refused c.args.engine.now c.answer_item.new.engine c.settle.new.self c.in_ok-refused.ensures.turns c.in_ok-settle.ensures.settles;
}
