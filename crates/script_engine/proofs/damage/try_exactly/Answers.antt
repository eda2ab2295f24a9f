use Rattle.std.proofs.Common.{Err, ap, subst, ◌∙◌}
use Rattle.store_api.specs.declared.shape.Shape.{Shape}
use Rattle.script_engine.specs.Breaking.{NamesExactly}
use Rattle.script_engine.proofs.RetryingLemmas.{tries_again}
use Rattle.script_engine.proofs.damage.try_exactly.Goals as goal

pub returns-in-Err-Damaged-clause-exact : goal.returns-in-Err-Damaged-clause-exact
returns-in-Err-Damaged-clause-exact g c =
    subst (λ (shape : Shape). NamesExactly g.P.Pages shape c.try_again.result c.try_again.new.pages) c.try_statement.ensures.tries.tries.shape c.try_again.ensures.exact

pub returns-in-Err-Damaged-clause-tries : goal.returns-in-Err-Damaged-clause-tries
returns-in-Err-Damaged-clause-tries g c =
    tries_again g.P.Pages c.args.stmt.now c.try_statement.result c.try_again.result c.in-Err-Damaged.field-0-0 c.args.pages.now c.try_statement.new.pages c.try_again.new.pages c.args.tables.now c.try_statement.new.tables
    c.try_again.new.tables (c.in-Err-Damaged.is ∙ ap Err c.in-Err-Damaged.field-0-is) c.try_statement.ensures.tries c.try_again.ensures.tries
