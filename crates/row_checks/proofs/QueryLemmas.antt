-- How a query ends: with its lines, or refused for the first sum outside BIGINT.
use Rattle.std.proofs.Common.{◌≡◌, ◌∙◌, ◌<◌, ◌+◌, ℕ, zero, suc, List, [], ◌∷◌, ◌++◌, ap, sym, arith, append-nil, filter, Some}
use Rattle.std.specs.Prelude.{All, Option}
use Rattle.std.proofs.lemmas.List.Kept.{AllPairs-cons, AllPairs-filter}
use Rattle.mdc_ast.specs.declared.bound.Bound.TheVariants as bound
use Rattle.mdc_ast.specs.declared.bound.BoundSelect.{BoundSelect}
use Rattle.mdc_ast.specs.declared.name.Name.{Name}
use Rattle.mdc_ast.specs.declared.reply.Reply.TheVariants as reply
use Rattle.mdc_ast.specs.declared.row.Row.{Row}
use Rattle.mdc_ast.specs.Database.{Database, PlainTable, table_at}
use Rattle.mdc_ast.specs.Truth.{qualifies}
use Rattle.mdc_ast.specs.ValidDatabase.{RiseFrom}
use Rattle.row_groups.specs.Shape.{shape_of}
use Rattle.statement_meaning.specs.Cause.{Cause, Overflow, refusal_of}
use Rattle.statement_meaning.specs.Doing.{causes_of_rows, columns_at, effect, hits}
use Rattle.statement_meaning.specs.Judging.{of_some}
use Rattle.statement_meaning.specs.Queries.{lines_of, sum_causes}
use Rattle.statement_meaning.specs.Step.{Answer, Refused, Replied, step_by}
use Rattle.answer_text.specs.Answering.{GivesLines, Rise}
use Rattle.row_checks.specs.Executing.{done}

-- ---- rows of a valid table rise, and so do those that qualify

all_above : (n m : ℕ) (rows : List Row) (next : ℕ) → n < m → RiseFrom m rows next → All (λ row. n < row.number) rows
all_above n m [] next low rise i d within = absurd (omega (arith, within))
all_above n m (row ∷ rows) next low rise zero d within = omega (arith, low, rise.0)
all_above n m (row ∷ rows) next low rise (suc i) d within = all_above n (row.number + 1) rows next (omega (arith, low, rise.0)) rise.1 i d (omega (arith, within))

rise_of : (n : ℕ) (rows : List Row) (next : ℕ) → RiseFrom n rows next → Rise rows
rise_of n [] next rise = λ i j d low within. absurd (omega (arith, low, within))
rise_of n (row ∷ rows) next rise =
    AllPairs-cons (λ (a b : Row). a.number < b.number) row rows (all_above row.number (row.number + 1) rows next (omega arith) rise.1) (rise_of (row.number + 1) rows next rise.1)

pub qualifying_rise : (select : BoundSelect) (rows : List Row) → Rise rows → Rise (filter (λ row. qualifies select.pred row.values) rows)
qualifying_rise select rows rise = AllPairs-filter (λ (a b : Row). a.number < b.number) (λ (row : Row). qualifies select.pred row.values) rows rise

pub valid_rise : (select : BoundSelect) (n : ℕ) (rows : List Row) (next : ℕ) → RiseFrom n rows next → Rise (filter (λ row. qualifies select.pred row.values) rows)
valid_rise select n rows next rise = qualifying_rise select rows (rise_of n rows next rise)

-- ---- its end

module _ (db : Database) (select : BoundSelect) (table : PlainTable) (at : table_at db select.table ≡ Some table) where
  abbrev found : List Row
  found = filter (λ row. qualifies select.pred row.values) table.rows

  -- what is said against it is said of its sums
  causes_are : causes_of_rows db (bound.Query select) ≡ sum_causes table.def.columns (shape_of select) found
  causes_are =
      let sums : List Cause = of_some (table_at db select.table) (λ (there : PlainTable). sum_causes there.def.columns (shape_of select) (hits select.pred (Some there))) in
      append-nil (sums ++ []) ∙ append-nil sums
      ∙ ap (λ (there : Option PlainTable). of_some there (λ (one : PlainTable). sum_causes one.def.columns (shape_of select) (hits select.pred (Some one)))) at

  lines_are : lines_of (columns_at (table_at db select.table)) (shape_of select) (hits select.pred (table_at db select.table)) ≡ lines_of table.def.columns (shape_of select) found
  lines_are = ap (λ (there : Option PlainTable). lines_of (columns_at there) (shape_of select) (hits select.pred there)) at

  pub query_replies : (text : List ℕ) → GivesLines table.def.columns (shape_of select) found text
      → ◌≡◌ {A = Database × Answer} (done db (bound.Query select)) (db, Replied (reply.Lines text))
  query_replies text gives =
      ap (λ causes. step_by db causes (effect db (bound.Query select))) (causes_are ∙ gives.whole)
      ∙ ap (λ t. (db, Replied (reply.Lines t))) (lines_are ∙ sym gives.text_is)

  pub query_refused : (name : Name) (more : List Cause) → sum_causes table.def.columns (shape_of select) found ≡ Overflow name ∷ more
      → ◌≡◌ {A = Database × Answer} (done db (bound.Query select)) (db, Refused (refusal_of (Overflow name)))
  query_refused name more said = ap (λ causes. step_by db causes (effect db (bound.Query select))) (causes_are ∙ said)
