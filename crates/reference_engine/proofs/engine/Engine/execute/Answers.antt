use Rattle.std.proofs.Common.{subst}
use Rattle.statement_meaning.specs.Built.{IsBuiltDatabase}
use Rattle.statement_meaning.specs.Session.{Session}
use Rattle.reference_engine.proofs.SessionsLemmas.{refused_stays}
use Rattle.reference_engine.proofs.engine.Engine.execute.Goals as goal

pub returns-clause-refused : goal.returns-clause-refused
returns-clause-refused c refusal is = refused_stays c.args.stmt.now c.turn-said.result c.args.self.now c.turn-said.new.self refusal c.turn-said.ensures is

pub returns-clause-valid : goal.returns-clause-valid
returns-clause-valid c = (
  subst (λ (session : Session). IsBuiltDatabase session.working) c.self.view_is c.self.invariant.0,
  subst (λ (session : Session). IsBuiltDatabase session.working) c.self-2.view_is c.self-2.invariant.0,
)
