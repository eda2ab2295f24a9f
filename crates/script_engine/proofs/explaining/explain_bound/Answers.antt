use Rattle.std.proofs.Common.{subst}
use Rattle.row_checks.specs.Served.{IsServed}
use Rattle.script_engine.proofs.explaining.explain_bound.Goals as goal

pub explain_query-requires-clause-there : goal.explain_query-requires-clause-there
explain_query-requires-clause-there g c = subst (IsServed c.args.tables.now.catalog) c.in-Some.ensures c.requires.there
