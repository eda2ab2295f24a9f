use Rattle.std.proofs.Common.{refl, sym, ◌∙◌}
use Rattle.sql_reader.proofs.Stranging.{strange_there, strange_nowhere}
use Rattle.sql_reader.proofs.strange.strange_outside.Goals as goal

pub returns-then-is_strange : goal.returns-then-is_strange
returns-then-is_strange c = strange_there c.args.statement.now c.loop-rest.rest.now c.loop-rest.within _ c.in-len1-up.len_at_least (sym c.is_strange.ensures ∙ c.if-is_strange.true) refl refl c.loop-rest.invariant

pub returns : goal.returns
returns c = strange_nowhere c.args.statement.now c.loop-rest.rest.now c.loop-rest.within c.in_default.len_below c.loop-rest.invariant
