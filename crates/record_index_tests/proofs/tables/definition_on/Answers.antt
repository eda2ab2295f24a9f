use Rattle.std.proofs.Common.{subst}
use Rattle.std.specs.Prelude.{Option, Ok}
use Rattle.mdc_ast.specs.declared.definition.TableDef.{TableDef}
use Rattle.table_page.specs.PageAnswers.{TellsTable}
use Rattle.record_index.proofs.IndexesLemmas.{has_indexes}
use Rattle.record_index_tests.proofs.tables.definition_on.Goals as goal

pub returns-in-Some : goal.returns-in-Some
returns-in-Some c = let told = subst (λ (o : Option TableDef). TellsTable 0 c.args.page.now (Ok o)) c.in-Some.is c.in_ok-found.ensures.told in has_indexes 0 c.in-Some.def told.limits
