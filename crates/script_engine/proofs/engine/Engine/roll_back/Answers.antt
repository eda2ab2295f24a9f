use Rattle.std.proofs.Common.{Err, ap, refl, sym, ◌∙◌}
use Rattle.mdc_ast.specs.declared.reply.Outcome.TheVariants as said
use Rattle.mdc_ast.specs.declared.statement.Stmt.TheVariants as statement
use Rattle.script_engine.specs.Controls.{answer_in_state}
use Rattle.script_engine.proofs.OnAnyLemmas.{any_out_of_state, roll_back_stops_any, rolled_back_any}
use Rattle.script_engine.proofs.TurnsLemmas.{roll_back_stops, rolled_back_done}
use Rattle.script_engine.proofs.engine.Engine.roll_back.Goals as goal

pub returns-then-not-self-clause-any : goal.returns-then-not-self-clause-any
returns-then-not-self-clause-any g c going =
    any_out_of_state g.S.Pages statement.Rollback c.args.self.now c.not_in_state.result refl (λ e. absurd (cc)) going (ap said.Refused c.not_in_state.ensures ∙ sym (ap answer_in_state c.if-not-self.true)) refl

pub returns-in_err-self : goal.returns-in_err-self
returns-in_err-self g c = record {
  executes = roll_back_stops g.S.Pages c.from_residual.result c.in_err-self.field-0.0 c.args.self.now c.go_back.new.store c.go_back.new.tables c.requires.may c.from_residual.ensures.1 c.in_err-self.ensures.reloads
      (λ damage e. c.in_err-self.ensures.damaged damage (ap Err e)) c.in_err-self.ensures.exact;
  any = roll_back_stops_any g.S.Pages c.from_residual.result c.in_err-self.field-0.0 c.args.self.now c.go_back.new.store c.go_back.new.tables c.from_residual.ensures.1 c.in_err-self.ensures.reloads c.in_err-self.ensures.exact;
}

pub returns : goal.returns
returns g c =
    let does = rolled_back_done g.S.Pages c.args.self.now c.go_back.new.store c.go_back.new.tables c.in_ok-self.field-0 c.requires.may c.if-not-self.false c.in_ok-self.ensures.reloads in
    record { executes = does; any = rolled_back_any g.S.Pages c.args.self.now c.go_back.new.store c.go_back.new.tables c.in_ok-self.field-0 c.in_ok-self.ensures.reloads does }
