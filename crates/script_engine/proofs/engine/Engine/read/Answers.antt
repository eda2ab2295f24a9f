use Rattle.std.proofs.Common.{ap, refl}
use Rattle.mdc_ast.specs.declared.reply.Outcome.TheVariants as said
use Rattle.statement_meaning.specs.Built.{are_built}
use Rattle.script_engine.specs.Roles.{role_of}
use Rattle.script_engine.proofs.OnAnyLemmas.{any_refused, read_any}
use Rattle.script_engine.proofs.TurnsLemmas.{answers_other, read_tried, sets_other, tried_reading}
use Rattle.script_engine.proofs.engine.Engine.read.Goals as goal

pub returns-then-not-self-clause-any : goal.returns-then-not-self-clause-any
returns-then-not-self-clause-any g c going =
    any_refused g.S.Pages c.args.stmt.now c.args.self.now c.not_built.result going
    (answers_other c.args.self.now.is_open (role_of c.args.stmt.now) (said.Refused c.not_built.result) (tried_reading (role_of c.args.stmt.now) c.requires.reading))
    (λ form. ap said.Refused c.not_built.ensures) (λ other form. ap said.Refused c.not_built.ensures)
    (sets_other (role_of c.args.stmt.now) (are_built c.args.self.now.tables.catalog) c.args.self.now.tables.settings (said.Refused c.not_built.result) c.args.self.now.tables.settings (tried_reading (role_of c.args.stmt.now) c.requires.reading) refl)

pub returns : goal.returns
returns g c =
    let tried = c.try_exactly.ensures.tries in
    let does = read_tried g.S.Pages c.try_exactly.result c.args.self.now c.try_exactly.new.pages c.try_exactly.new.tables c.args.stmt.now c.requires.reading c.requires.may c.if-not-self.false tried c.try_exactly.ensures.exact in
    record {
      executes = does;
      any = read_any g.S.Pages c.try_exactly.result c.args.self.now c.try_exactly.new.pages c.try_exactly.new.tables c.args.stmt.now c.requires.reading c.if-not-self.false tried c.try_exactly.ensures.exact does;
    }
