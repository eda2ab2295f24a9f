use Rattle.std.proofs.Common.{Ok, sym, subst, ◌∙◌}
use Rattle.mdc_ast.specs.declared.reply.Outcome.TheVariants as said
use Rattle.mdc_ast.specs.declared.reply.Reply.TheVariants as reply
use Rattle.statement_meaning.specs.declared.settings.Settings.{Settings}
use Rattle.script_engine.specs.OnAnyPages.{ExecutesOnAny}
use Rattle.script_engine.specs.Turns.{Executes}
use Rattle.script_engine.proofs.SettingLemmas.{set_any, set_done, set_refused, set_refused_any}
use Rattle.script_engine.proofs.engine.Engine.set.Goals as goal

pub returns-then-not-takes : goal.returns-then-not-takes
returns-then-not-takes g c =
    let untaken = sym c.takes.ensures ∙ c.if-not-takes.true in
    record {
      executes = λ stmt is. set_refused g.S.Pages c.args.self.now stmt c.args.setting is c.not_built.result c.not_built.ensures untaken c.requires.may;
      any = λ stmt is going. set_refused_any g.S.Pages c.args.self.now stmt c.args.setting is c.not_built.result c.not_built.ensures untaken
          (set_refused g.S.Pages c.args.self.now stmt c.args.setting is c.not_built.result c.not_built.ensures untaken c.requires.may) going;
    }

pub returns : goal.returns
returns g c =
    let taken = sym c.takes.ensures ∙ c.if-not-takes.false in
    record {
      executes = λ stmt is. subst (λ (settings : Settings). Executes g.S.Pages stmt (Ok (said.Done reply.Done)) c.args.self.now (record c.args.self.now { tables = record c.args.self.now.tables { settings = settings } }))
          (sym c.on-self.ensures) (set_done g.S.Pages c.args.self.now stmt c.args.setting is taken c.requires.may);
      any = λ stmt is going. subst (λ (settings : Settings). ExecutesOnAny g.S.Pages stmt (Ok (said.Done reply.Done)) c.args.self.now (record c.args.self.now { tables = record c.args.self.now.tables { settings = settings } }))
          (sym c.on-self.ensures) (set_any g.S.Pages c.args.self.now stmt c.args.setting is taken (set_done g.S.Pages c.args.self.now stmt c.args.setting is taken c.requires.may) going);
    }
