-- What a bound statement needs of the database that it is done on, and how its end is answered.
use Rattle.std.specs.Prelude.{ℕ, ◌<◌, List, length, Bool, ◌==◌, IsTrue, IsSome, Option, Some, None}
use Rattle.std.specs.List.{list_all}
use Rattle.mdc_values.specs.declared.value.Value.{Value}
use Rattle.mdc_ast.specs.declared.bound.Bound.{Bound}
use Rattle.mdc_ast.specs.declared.bound.Bound.TheVariants as bound
use Rattle.mdc_ast.specs.declared.bound.BoundOut.{BoundOut}
use Rattle.mdc_ast.specs.declared.bound.BoundSet.{BoundSet}
use Rattle.mdc_ast.specs.declared.predicate.Pred.{Pred}
use Rattle.mdc_ast.specs.declared.reply.Outcome.{Outcome}
use Rattle.mdc_ast.specs.declared.reply.Outcome.TheVariants as outcome
use Rattle.mdc_ast.specs.Database.{Database, PlainTable, defs_of, table_at}
use Rattle.mdc_ast.specs.Definitions.{empty_place}
use Rattle.statement_meaning.specs.Doing.{causes_of_rows, effect}
use Rattle.statement_meaning.specs.Step.{Answer, Refused, Replied, step_by}
use Rattle.row_checks.specs.Filtering.{are_filterable}
use Rattle.answer_text.specs.Lines.{are_outs_within}
use Rattle.row_checks.specs.RowChange.{are_within}

-- what a bound statement does, and how it ends
abbrev pub done : Database → Bound → Database × Answer
done db statement = step_by db (causes_of_rows db statement) (effect db statement)

-- the answer that an outcome says
abbrev pub answer_of : Outcome → Answer
answer_of (outcome.Done reply) = Replied reply
answer_of (outcome.Refused refusal) = Refused refusal

-- each tuple has that many values
abbrev pub are_tuples_wide : ℕ → List (List Value) → Bool
are_tuples_wide width tuples = list_all (λ tuple. length tuple == width) tuples

-- ---- what is needed

-- a table is there, of which this holds
abbrev pub IsThere : Option PlainTable → (PlainTable → Type 0) → Type 0
IsThere None P = ⊥
IsThere (Some table) P = P table

-- each tuple has a value for each column
pub record MayInsert (tuples : List (List Value)) (table : PlainTable) : Type 0 where
  pub wide : IsTrue (are_tuples_wide (length table.def.columns) tuples)

-- the predicate may be judged on each row
pub record MayFilter (pred : Option Pred) (table : PlainTable) : Type 0 where
  pub filterable : IsTrue (are_filterable pred table.rows)

-- and the items name columns that are there
pub record MayUpdate (sets : List BoundSet) (pred : Option Pred) (table : PlainTable) : Type 0 where
  pub within : IsTrue (are_within (length table.def.columns) sets)
  pub filterable : IsTrue (are_filterable pred table.rows)

-- the predicate may be judged on each row, and what is shown is there
pub record MayShow (outs : List BoundOut) (pred : Option Pred) (table : PlainTable) : Type 0 where
  pub shown : IsTrue (are_outs_within (length table.def.columns) outs)
  pub filterable : IsTrue (are_filterable pred table.rows)

-- the table has a record index in that place
pub record MayDropIndex (index : ℕ) (table : PlainTable) : Type 0 where
  pub within : index < length table.def.indexes

-- what a bound statement needs of the database
abbrev pub MayBeDone : Database → Bound → Type 0
MayBeDone db (bound.CreateTable def) = IsSome (empty_place (defs_of db))
MayBeDone db (bound.CreateIndex place index) = IsSome (table_at db place)
MayBeDone db (bound.DropIndex place index) = IsThere (table_at db place) (MayDropIndex index)
MayBeDone db (bound.DropTable place) = IsSome (table_at db place)
MayBeDone db (bound.Insert place tuples) = IsThere (table_at db place) (MayInsert tuples)
MayBeDone db (bound.Update place sets pred) = IsThere (table_at db place) (MayUpdate sets pred)
MayBeDone db (bound.Delete place pred) = IsThere (table_at db place) (MayFilter pred)
MayBeDone db (bound.Query select) = IsThere (table_at db select.table) (MayShow select.outs select.pred)
MayBeDone db (bound.Explain select) = IsThere (table_at db select.table) (MayFilter select.pred)
MayBeDone db (bound.Reclaim place) = IsSome (table_at db place)
MayBeDone db statement = Unit {0}
