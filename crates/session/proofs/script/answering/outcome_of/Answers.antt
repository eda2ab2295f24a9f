use Rattle.std.proofs.Common.{Ok, ap, subst, sym, ◌∙◌}
use Rattle.mdc_ast.specs.declared.reply.Outcome.TheVariants as said
use Rattle.mdc_ast.specs.Reading.{Item, Statement}
use Rattle.sql_reader.specs.Item.{item_of}
use Rattle.session.specs.script.Answering.{AnswersItem}
use Rattle.session.proofs.AnsweringLemmas.{answers_executed, answers_refused}
use Rattle.session.proofs.script.answering.outcome_of.Goals as goal

pub returns-in-Stmt : goal.returns-in-Stmt
returns-in-Stmt g c =
    let call = c.execute.ensures in
    record {
      answers = subst (λ (item : Item). AnswersItem g.S.Pages item c.execute.result c.args.engine.now c.execute.new.self) (ap Statement c.get.ensures ∙ sym (ap item_of c.in-Stmt.is))
          (answers_executed g.S.Pages c.get.result.now c.args.engine.now c.execute.new.self c.requires.may c.execute.result
          (record {
            steps = call.steps;
            leaves = λ ready. record { time = call.left ready; base = call.base ready };
            fetches = call.fetches;
            lists = call.lists;
            pages = call.brings.pages;
            brought = call.brings.brought;
            any = call.any;
            may = call.may;
            damaged = call.damaged;
            shape = call.shape;
            outside = record {
              device = call.device;
              say_faults = call.say_faults;
              is_told = call.is_told;
              told = call.told;
              beside = call.beside;
              time = call.time;
              rests = λ law going. call.rests;
            };
            rests = call.rests;
          }));
    }

pub returns-in-Refused : goal.returns-in-Refused
returns-in-Refused g c = record {
  answers = subst (λ (item : Item). AnswersItem g.S.Pages item (Ok (said.Refused c.in-Refused.refusal)) c.args.engine.now c.args.engine.now) (sym (ap item_of c.in-Refused.is))
      (answers_refused g.S.Pages c.in-Refused.refusal c.args.engine.now c.requires.may);
}
