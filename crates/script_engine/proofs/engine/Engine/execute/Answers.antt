use Rattle.std.proofs.Common.{sym, subst}
use Rattle.std.specs.Prelude.{IsTrue}
use Rattle.script_engine.proofs.engine.Engine.execute.Goals as goal

pub returns-clause-rests : goal.returns-clause-rests
returns-clause-rests g c = c.turn.ensures.executes.outside.rests (λ s. g.met.S.Pages.earlier s) c.requires.may.going

pub returns-clause-left : goal.returns-clause-left
returns-clause-left g c ready = (c.turn.ensures.executes.leaves ready).time

pub returns-clause-base : goal.returns-clause-base
returns-clause-base g c ready = (c.turn.ensures.executes.leaves ready).base

pub returns-clause-breaks : goal.returns-clause-breaks
returns-clause-breaks g c damage is told = c.turn.ensures.executes.exact damage is (subst IsTrue (sym c.turn.ensures.executes.outside.is_told) told)
