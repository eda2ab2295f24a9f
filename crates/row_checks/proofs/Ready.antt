-- A statement that nothing is said against may be done on the rows of a database, once it is bound.
use Rattle.std.proofs.Common.{◌≡◌, ℕ, List, [], ◌∷◌, refl, subst}
use Rattle.std.specs.Prelude.{Option, Some, None, IsTrue, IsSome}
use Rattle.std.specs.List.{AllByRecursion}
use Rattle.mdc_ast.specs.declared.bound.Bound.{Bound}
use Rattle.mdc_ast.specs.declared.bound.Bound.TheVariants as bound
use Rattle.mdc_ast.specs.declared.definition.TableDef.{TableDef}
use Rattle.mdc_ast.specs.declared.predicate.Pred.{Pred}
use Rattle.mdc_ast.specs.declared.row.Row.{Row}
use Rattle.mdc_ast.specs.declared.statement.Stmt.{Stmt}
use Rattle.statement_meaning.specs.Binding.{bound_of}
use Rattle.mdc_ast.specs.Database.{Database, PlainTable, defs_of, fits_all, table_at}
use Rattle.mdc_ast.specs.ValidDatabase.{IsValid}
use Rattle.mdc_ast.specs.Definitions.{def_at}
use Rattle.statement_meaning.specs.Judged.{judged_of}
use Rattle.statement_meaning.specs.Judging.{in_order}
use Rattle.statement_meaning.proofs.BuiltLemmas.{values_fit}
use Rattle.statement_meaning.proofs.DatabaseLemmas.{def_at-defs_of, def_of, rows_are_valid}
use Rattle.mdc_ast.proofs.TestsLemmas.{and_true}
use Rattle.row_checks.proofs.KindsLemmas.{kinds_of_fitting}
use Rattle.row_checks.proofs.ServedLemmas.{serves}
use Rattle.row_checks.specs.Executing.{IsThere, MayBeDone}
use Rattle.row_filter.specs.Filtering.{may_filter}
use Rattle.row_checks.specs.Filtering.{are_filterable}
use Rattle.row_checks.specs.Served.{IsDefined, IsServed, MayGainIndex, MayJudge}

-- a predicate may be judged on rows that fit
filterable : (pred : Option Pred) (def : TableDef) (rows : List Row) → MayJudge pred def → AllByRecursion (λ row. IsTrue (fits_all def.columns row.values)) rows → IsTrue (are_filterable pred rows)
filterable pred def [] judge fit = refl
filterable pred def (row ∷ rows) judge fit =
    and_true (may_filter pred row.values) _ (judge.judged row.values (kinds_of_fitting def.columns row.values fit.0)) (filterable pred def rows judge fit.1)

-- so it may on the rows of a valid database
where_ready : (db : Database) (place : ℕ) (table : PlainTable) (pred : Option Pred) → IsValid db → table_at db place ≡ Some table → MayJudge pred table.def → IsTrue (are_filterable pred table.rows)
where_ready db place table pred valid at judge = filterable pred table.def table.rows judge (values_fit table.def table.rows (rows_are_valid db place table valid.tables at).fitting)

-- a table that is defined is there
there_as : (db : Database) (place : ℕ) (P : TableDef → Type 0) (Q : PlainTable → Type 0) → IsDefined (def_at (defs_of db) place) P →
    ((table : PlainTable) → table_at db place ≡ Some table → P table.def → Q table) → IsThere (table_at db place) Q
there_as db place P Q defined ready = by_table (table_at db place) refl (subst (λ found. IsDefined found P) (def_at-defs_of db place) defined)
  where
    by_table : (found : Option PlainTable) → table_at db place ≡ found → IsDefined (def_of found) P → IsThere found Q
    by_table None at h = h
    by_table (Some table) at h = ready table at h

is_there : (found : Option PlainTable) → IsSome (def_of found) → IsSome found
is_there None h = h
is_there (Some table) h = refl

is_defined_some : (P : TableDef → Type 0) (found : Option TableDef) → IsDefined found P → IsSome found
is_defined_some P None h = absurd h
is_defined_some P (Some def) h = refl

-- what the definitions serve may be done on the rows
done_if_served : (db : Database) (statement : Bound) → IsValid db → IsServed (defs_of db) statement → MayBeDone db statement
done_if_served db (bound.CreateTable def) valid served = served.0
done_if_served db (bound.CreateIndex place index) valid served =
    is_there (table_at db place) (is_defined_some (MayGainIndex index) (def_of (table_at db place)) (subst (λ found. IsDefined found (MayGainIndex index)) (def_at-defs_of db place) served.0))
done_if_served db (bound.DropIndex place index) valid served = there_as db place _ _ served (λ table at lose. record { within = lose.within })
done_if_served db (bound.DropTable place) valid served = is_there (table_at db place) (subst IsSome (def_at-defs_of db place) served)
done_if_served db (bound.Insert place tuples) valid served = there_as db place _ _ served (λ table at put. record { wide = put.wide })
done_if_served db (bound.Update place sets pred) valid served =
    there_as db place _ _ served (λ table at set. record { within = set.within; filterable = where_ready db place table pred valid at set.judge })
done_if_served db (bound.Delete place pred) valid served = there_as db place _ _ served (λ table at judge. record { filterable = where_ready db place table pred valid at judge })
done_if_served db (bound.Query select) valid served =
    there_as db select.table _ _ served (λ table at show. record { shown = show.shown; filterable = where_ready db select.table table select.pred valid at show.judge })
done_if_served db (bound.Explain select) valid served =
    there_as db select.table _ _ served (λ table at judge. record { filterable = where_ready db select.table table select.pred valid at judge })
done_if_served db (bound.Reclaim place) valid served = is_there (table_at db place) (subst IsSome (def_at-defs_of db place) served)
done_if_served db statement valid served = tt

-- once it is bound it may be done
pub ready : (db : Database) (statement : Stmt) → IsValid db → in_order (judged_of (defs_of db) statement) ≡ [] → MayBeDone db (bound_of (defs_of db) statement)
ready db statement valid said = done_if_served db (bound_of (defs_of db) statement) valid (serves (defs_of db) statement said)
