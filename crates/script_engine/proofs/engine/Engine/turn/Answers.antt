use Rattle.std.proofs.Common.{Ok, ap, sym, subst, ◌∙◌}
use Rattle.mdc_ast.specs.declared.statement.Stmt.{Stmt}
use Rattle.script_engine.specs.OnAnyPages.{ExecutesOnAny}
use Rattle.script_engine.specs.Roles.{role_in}
use Rattle.script_engine.specs.Turns.{Executes}
use Rattle.script_engine.proofs.TurnsLemmas.{is_begin, is_commit, is_rollback}
use Rattle.script_engine.proofs.engine.Engine.turn.Goals as goal

pub returns-in-Begin : goal.returns-in-Begin
returns-in-Begin g c =
    let begins = sym (is_begin c.args.stmt.now (sym (ap role_in c.in-Begin.is) ∙ c.class_of.ensures)) in
    record {
      executes = subst (λ (stmt : Stmt). Executes g.S.Pages stmt (Ok c.begin.result) c.args.self.now c.begin.new.self) begins c.begin.ensures.executes;
      any = λ going. subst (λ (stmt : Stmt). ExecutesOnAny g.S.Pages stmt (Ok c.begin.result) c.args.self.now c.begin.new.self) begins (c.begin.ensures.any going);
    }

pub returns-in-Commit-clause-any : goal.returns-in-Commit-clause-any
returns-in-Commit-clause-any g c going =
    subst (λ (stmt : Stmt). ExecutesOnAny g.S.Pages stmt c.commit.result c.args.self.now c.commit.new.self) (sym (is_commit c.args.stmt.now (sym (ap role_in c.in-Commit.is) ∙ c.class_of.ensures))) (c.commit.ensures.any going)

pub returns-in-Rollback-clause-any : goal.returns-in-Rollback-clause-any
returns-in-Rollback-clause-any g c going =
    subst (λ (stmt : Stmt). ExecutesOnAny g.S.Pages stmt c.roll_back.result c.args.self.now c.roll_back.new.self) (sym (is_rollback c.args.stmt.now (sym (ap role_in c.in-Rollback.is) ∙ c.class_of.ensures))) (c.roll_back.ensures.any going)
