use Rattle.std.proofs.Common.{ap, not, refl, sym, ◌∙◌}
use Rattle.mdc_ast.specs.declared.reply.Outcome.TheVariants as said
use Rattle.mdc_ast.specs.declared.statement.Stmt.TheVariants as statement
use Rattle.script_engine.specs.Controls.{answer_in_state}
use Rattle.script_engine.proofs.OnAnyLemmas.{any_out_of_state, begun_any}
use Rattle.script_engine.proofs.engine.Engine.begin.Goals as goal

pub returns-then-self-clause-any : goal.returns-then-self-clause-any
returns-then-self-clause-any g c going =
    any_out_of_state g.S.Pages statement.Begin c.args.self.now c.not_in_state.result refl (λ e. absurd (cc)) going
    (ap said.Refused c.not_in_state.ensures ∙ sym (ap (λ b. answer_in_state (not b)) c.if-self.true)) refl

pub returns-clause-any : goal.returns-clause-any
returns-clause-any g c = begun_any g.S.Pages c.args.self.now c.if-self.false
