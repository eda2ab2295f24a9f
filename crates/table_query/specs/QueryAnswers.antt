-- What a query of a table answers, by the rows of the table that qualify.
use Rattle.std.specs.Prelude.{◌≡◌, List, ◌∷◌, map, Option, Some, None, IsPermutation, Result, MatchResult, ℕ}
use Rattle.mdc_ast.specs.declared.bound.BoundSelect.{BoundSelect}
use Rattle.mdc_ast.specs.declared.definition.ColumnDef.{ColumnDef}
use Rattle.mdc_ast.specs.declared.definition.TableDef.{TableDef}
use Rattle.mdc_ast.specs.declared.predicate.Pred.{Pred}
use Rattle.mdc_ast.specs.declared.row.Row.{Row}
use Rattle.store_api.specs.declared.fault.StoreFault.{StoreFault}
use Rattle.store_api.specs.declared.pages.Pages.{Ghosts}
use Rattle.store_api.specs.declared.shape.Shape.{Shape}
use Rattle.block_rows.specs.HeldRows.{qualifying}
use Rattle.mdc_sound.specs.StandingTable.{TableForests, pages_of}
use Rattle.mdc_sound.specs.TableRows.{rows_in_table}
use Rattle.row_groups.specs.Shape.{shape_of}
use Rattle.statement_meaning.specs.Cause.{Cause, Overflow}
use Rattle.statement_meaning.specs.Queries.{sum_causes}
use Rattle.answer_text.specs.Answering.{GivesLines, Rise}
use Rattle.table_query.specs.declared.fault.QueryFault.{QueryFault}
use Rattle.table_query.specs.declared.fault.QueryFault.TheVariants as fault

-- These are the rows of the table that qualify, by rising number, no two with the same.
pub record AreQueryRows {S : Type 0} (g : Ghosts S) (shape : Shape) (s : S) (def : TableDef) (pred : Option Pred) (forests : TableForests) (rows : List Row) : Type 0 where
  pub found : IsPermutation (map (λ placed. placed.row) (qualifying pred (rows_in_table shape (pages_of g s) def forests.map))) rows
  pub rise : Rise rows

-- the fault of the store, where that is why there are no lines
abbrev pub store_part_of : QueryFault → Option StoreFault
store_part_of (fault.Overflow name) = None
store_part_of (fault.Store store) = Some store

-- Overflow names the column of the first sum outside BIGINT
abbrev pub IsFirstOverflow : List ColumnDef → BoundSelect → List Row → QueryFault → Type 0
IsFirstOverflow columns select rows (fault.Overflow name) = (more : List Cause) × (sum_causes columns (shape_of select) rows ≡ Overflow name ∷ more)
IsFirstOverflow columns select rows (fault.Store store) = Unit {0}

-- the text of the lines that these rows give, or the column of the first sum outside BIGINT
abbrev pub AnswersQuery : List ColumnDef → BoundSelect → List Row → Result (List ℕ) QueryFault → Type 0
AnswersQuery columns select rows result = MatchResult result (GivesLines columns (shape_of select) rows) (IsFirstOverflow columns select rows)
