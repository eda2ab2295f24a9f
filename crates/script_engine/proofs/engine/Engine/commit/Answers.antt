use Rattle.std.proofs.Common.{ap, refl, sym, ◌∙◌}
use Rattle.mdc_ast.specs.declared.reply.Outcome.TheVariants as said
use Rattle.mdc_ast.specs.declared.statement.Stmt.TheVariants as statement
use Rattle.script_engine.specs.Controls.{answer_in_state}
use Rattle.script_engine.proofs.OnAnyLemmas.{any_out_of_state, commit_stops_any, committed_any}
use Rattle.script_engine.proofs.TurnsLemmas.{commit_done, commit_stops}
use Rattle.script_engine.proofs.engine.Engine.commit.Goals as goal

pub returns-then-not-self-clause-any : goal.returns-then-not-self-clause-any
returns-then-not-self-clause-any g c going =
    any_out_of_state g.S.Pages statement.Commit c.args.self.now c.not_in_state.result refl (λ e. absurd (cc)) going (ap said.Refused c.not_in_state.ensures ∙ sym (ap answer_in_state c.if-not-self.true)) refl

pub returns-in_err-commit_work : goal.returns-in_err-commit_work
returns-in_err-commit_work g c = record {
  executes = commit_stops g.S.Pages c.from_residual.result c.in_err-commit_work.field-0.0 c.args.self.now c.commit_work.new.store c.requires.may c.if-not-self.false c.from_residual.ensures.1 c.in_err-commit_work.ensures.commits c.commit_work.ensures.rests c.in_err-commit_work.ensures.exact;
  any = commit_stops_any g.S.Pages c.from_residual.result c.in_err-commit_work.field-0.0 c.args.self.now c.commit_work.new.store c.if-not-self.false c.from_residual.ensures.1 c.in_err-commit_work.ensures.commits c.in_err-commit_work.ensures.exact;
}

pub returns : goal.returns
returns g c =
    let does = commit_done g.S.Pages c.args.self.now c.commit_work.new.store c.requires.may c.if-not-self.false c.in_ok-commit_work.ensures.commits c.commit_work.ensures.rests in
    record { executes = does; any = committed_any g.S.Pages c.args.self.now c.commit_work.new.store c.in_ok-commit_work.ensures.commits does }
