use Rattle.sql_reader.specs.Item.{item_of}
use Rattle.session.proofs.HandedLemmas.{handed}
use Rattle.session.proofs.TurnEndsLemmas.{turns_told, turns_unanswered, turns_untold}
use Rattle.session.proofs.script.serving.answer_item.Goals as goal

pub returns-in_err-outcome : goal.returns-in_err-outcome
returns-in_err-outcome g c =
    rw (handed c.from_residual.result _ c.from_residual.ensures.1) (record { turns = turns_unanswered g.S.Pages (item_of c.args.read) c.in_err-outcome.field-0.0 c.args.engine.now c.outcome_of.new.engine c.in_err-outcome.ensures.answers })

pub returns-in_err-tell_outcome : goal.returns-in_err-tell_outcome
returns-in_err-tell_outcome g c =
    let tells = c.in_err-tell_outcome.ensures in
    rw (handed c.from_residual-in_err-tell_outcome.result _ c.from_residual-in_err-tell_outcome.ensures.1) (record {
      turns = turns_untold g.S.Pages (item_of c.args.read) c.in_ok-outcome.outcome c.args.engine.now c.outcome_of.new.engine c.tell_outcome.new.engine c.in_ok-outcome.ensures.answers c.in_err-tell_outcome.field-0.0 (record {
        ok = tells.ok;
        err = tells.err;
        cause = tells.cause;
        stays = tells.stays;
        held = tells.held;
        ready = tells.ready;
        may = tells.may;
        unsaid = tells.unsaid;
        disk_faults = tells.disk_faults;
        time = tells.time;
        at_rest = tells.rests;
      });
    })

pub returns : goal.returns
returns g c =
    let tells = c.in_ok-tell_outcome.ensures in
    record {
      turns = turns_told g.S.Pages (item_of c.args.read) c.in_ok-outcome.outcome c.args.engine.now c.outcome_of.new.engine c.tell_outcome.new.engine c.in_ok-outcome.ensures.answers c.is_refused.result c.is_refused.ensures (record {
        ok = tells.ok;
        err = tells.err;
        cause = tells.cause;
        stays = tells.stays;
        held = tells.held;
        ready = tells.ready;
        may = tells.may;
        unsaid = tells.unsaid;
        disk_faults = tells.disk_faults;
        time = tells.time;
        at_rest = tells.rests;
      });
    }
