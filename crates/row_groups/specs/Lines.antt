-- The lines that a query with aggregates and GROUP BY makes of the rows that it found, each a list of values.
use Rattle.std.specs.Prelude.{ℕ, ℤ, ◌+ℤ◌, List, [], ◌∷◌, map, filter, length, fold, Bool, true, false, not, if◌then◌else◌, Option, Some, None}
use Rattle.std.specs.List.{list_all, list_any}
use Rattle.mdc_values.specs.declared.value.Value.{Value}
use Rattle.mdc_values.specs.declared.value.Value.TheVariants as value
use Rattle.mdc_ast.specs.declared.bound.BoundOut.{BoundOut}
use Rattle.mdc_ast.specs.declared.bound.BoundOut.TheVariants as out
use Rattle.mdc_ast.specs.Truth.{value_at}
use Rattle.mdc_ast.specs.Database.{is_null}
use Rattle.row_groups.specs.declared.grouping.Grouping.{Grouping}
use Rattle.row_groups.specs.declared.grouping.Grouping.TheVariants.{EachRow, AllRows, ByValues}
use Rattle.row_groups.specs.declared.line.Line.{Line}
use Rattle.row_groups.specs.declared.line.Shown.{Shown}
use Rattle.row_groups.specs.declared.line.Shown.TheVariants as shown
use Rattle.row_groups.specs.Firsts.{firsts, group_of}
use Rattle.row_groups.specs.Shape.{Shape}
use Rattle.row_groups.specs.Values.{belong_together, greater, lesser, number_in}

-- ---- groups

-- an aggregate
abbrev pub is_aggregate : BoundOut → Bool
is_aggregate (out.Column column) = false
is_aggregate aggregate = true

-- With GROUP BY the rows with equal values share a line; without it all rows share one where an aggregate is shown, and else
-- each row has its own (Db2, "select-clause").
abbrev pub grouping_of : List BoundOut → List ℕ → Grouping
grouping_of outs [] = if list_any is_aggregate outs then AllRows else EachRow
grouping_of outs (column ∷ columns) = ByValues

-- rows share lines
abbrev pub are_shared : Grouping → Bool
are_shared EachRow = false
are_shared grouping = true

-- the same of a query
abbrev pub shares_lines : Shape → Bool
shares_lines shape = are_shared (grouping_of shape.outs shape.group)

-- two rows have the same values in the columns of GROUP BY
abbrev pub are_grouped : List ℕ → List Value → List Value → Bool
are_grouped columns a b = list_all (λ column. belong_together (value_at a column) (value_at b column)) columns

-- ---- what stands in a line

-- the values of a column without the nulls, which aggregates leave out (Db2, "Aggregate functions")
abbrev pub known : ℕ → List (List Value) → List Value
known column rows = filter (λ value. not (is_null value)) (map (λ row. value_at row column) rows)

-- one more value in a sum, which begins with nothing
abbrev pub plus : Option ℤ → Value → Option ℤ
plus None value = Some (number_in value)
plus (Some total) value = Some (total +ℤ number_in value)

-- the sum of the values, as large as it is: none where there is no value (Db2, "SUM")
abbrev pub sum_of : List Value → Option ℤ
sum_of values = fold plus None values

-- What a place of a line shows of a group: a column the value in its first row, COUNT(*) the number of rows, COUNT(c) that of the
-- values, and the others their sum, the least and the greatest, which is null where there is no value (Db2, "COUNT", "MIN", "MAX").
abbrev pub shown_of : BoundOut → List Value → List (List Value) → Shown
shown_of (out.Column column) first rows = shown.Value (value_at first column)
shown_of out.CountAll first rows = shown.Count (length rows)
shown_of (out.Count column) first rows = shown.Count (length (known column rows))
shown_of (out.Sum column) first rows = shown.Sum (sum_of (known column rows))
shown_of (out.Min column) first rows = shown.Value (fold lesser value.Null (known column rows))
shown_of (out.Max column) first rows = shown.Value (fold greater value.Null (known column rows))

-- the line of a group: the values of its first row that it is ordered by, and what it shows; the first row is none where all are one group
abbrev pub line_of : Shape → List Value → List (List Value) → Line
line_of shape first rows = record {
  sorts = map (λ part. value_at first part.column) shape.order;
  shows = map (λ out. shown_of out first rows) shape.outs;
}

-- the lines of groups by values, in the order of the rows with which they begin: each shows all rows with the values of that one
abbrev pub group_lines : Shape → List (List Value) → List Line
group_lines shape rows = map (λ row. line_of shape row (group_of (are_grouped shape.group) rows row)) (firsts (are_grouped shape.group) rows)

-- the lines: one for each row, exactly one for all, or one for each group
abbrev pub lines_by : Grouping → Shape → List (List Value) → List Line
lines_by EachRow shape rows = map (λ row. line_of shape row (row ∷ [])) rows
lines_by AllRows shape rows = line_of shape [] rows ∷ []
lines_by ByValues shape rows = group_lines shape rows

-- the lines of a query before they are ordered and cut
abbrev pub made_lines : Shape → List (List Value) → List Line
made_lines shape rows = lines_by (grouping_of shape.outs shape.group) shape rows
