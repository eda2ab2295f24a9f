-- What a query answers of the rows that it found, and what is said against its sums (docs/SQL.md, "SELECT").
use Rattle.std.specs.Prelude.{ℕ, List, [], ◌∷◌, ◌++◌, map, flat_map, length, Option, Some, None, slice_get, codes}
use Rattle.std.specs.Fmt.{decimal}
use Rattle.mdc_values.specs.declared.value.Value.TheVariants.{Null, Int}
use Rattle.mdc_values.specs.Printing.{printed}
use Rattle.mdc_ast.specs.declared.bound.BoundOut.{BoundOut}
use Rattle.mdc_ast.specs.declared.bound.BoundOut.TheVariants as out
use Rattle.mdc_ast.specs.declared.definition.ColumnDef.{ColumnDef}
use Rattle.mdc_ast.specs.declared.row.Row.{Row}
use Rattle.row_groups.specs.declared.line.Line.{Line}
use Rattle.row_groups.specs.declared.line.Shown.{Shown}
use Rattle.row_groups.specs.declared.line.Shown.TheVariants as show
use Rattle.row_groups.specs.Answers.{cut, outgrown_sums}
use Rattle.row_groups.specs.Lines.{made_lines}
use Rattle.row_groups.specs.Numbers.{values_of}
use Rattle.row_groups.specs.Ordering.{is_before, ordered}
use Rattle.row_groups.specs.Shape.{Shape}
use Rattle.statement_meaning.specs.Cause.{Cause, Overflow}

-- ---- lines as texts

-- the texts with a bar between two of them, as one line
abbrev pub line : List (List ℕ) → List ℕ
line [] = 10 ∷ []
line (text ∷ []) = text ++ 10 ∷ []
line (text ∷ next ∷ texts) = text ++ 124 ∷ line (next ∷ texts)

-- the name of a column that is there
abbrev pub name_of : Option ColumnDef → List ℕ
name_of None = []
name_of (Some column) = column.name.0

-- an aggregate of a column, by its word with a parenthesis
abbrev pub aggregate_name : List ℕ → List ColumnDef → ℕ → List ℕ
aggregate_name word columns column = word ++ name_of (slice_get columns column) ++ codes ")"

-- what stands above a column of the reply
abbrev pub heading : List ColumnDef → BoundOut → List ℕ
heading columns (out.Column column) = name_of (slice_get columns column)
heading columns out.CountAll = codes "COUNT(*)"
heading columns (out.Count column) = aggregate_name (codes "COUNT(") columns column
heading columns (out.Sum column) = aggregate_name (codes "SUM(") columns column
heading columns (out.Min column) = aggregate_name (codes "MIN(") columns column
heading columns (out.Max column) = aggregate_name (codes "MAX(") columns column

-- what a place of a line shows; a sum of no values is a null
abbrev pub shown_text : Shown → List ℕ
shown_text (show.Value value) = printed value
shown_text (show.Count n) = decimal n
shown_text (show.Sum None) = printed Null
shown_text (show.Sum (Some total)) = printed (Int total)

-- ---- the answer

-- the lines of rows by rising number, in order and cut
abbrev pub answered : Shape → List Row → List Line
answered shape rows = cut shape.first (ordered (is_before shape.order) (made_lines shape (values_of rows)))

-- a line of names, then these lines, and their number
abbrev pub lines_text : List ColumnDef → List BoundOut → List Line → List ℕ
lines_text columns outs lines =
    line (map (heading columns) outs) ++ flat_map (λ (l : Line). line (map shown_text l.shows)) lines ++ decimal (length lines) ++ codes " ROWS\n"

-- the text of a query that found these rows
abbrev pub lines_of : List ColumnDef → Shape → List Row → List ℕ
lines_of columns shape rows = lines_text columns shape.outs (answered shape rows)

-- ---- what is said against it

-- 37 of the sum of a column
abbrev pub sum_cause : List ColumnDef → ℕ → Cause
sum_cause columns column = Overflow (record { 0 = name_of (slice_get columns column) })

-- 37 of each sum outside BIGINT, by the order of the groups and there by that of the list, also of a line that would be cut
abbrev pub sum_causes : List ColumnDef → Shape → List Row → List Cause
sum_causes columns shape rows = map (sum_cause columns) (outgrown_sums shape.outs (made_lines shape (values_of rows)))
