-- The lines of a query as far as rows have come.
use Rattle.std.specs.Prelude.{◌≡◌, ℕ, ◌+◌, List, [], ◌∷◌, ◌++◌, length, is_none, ◌&&◌, map, flat_map, Bool, true, false, ◌==◌, nat_lt, codes}
use Rattle.std.specs.Fmt.{decimal}
use Rattle.std.specs.List.{list_all}
use Rattle.mdc_values.specs.declared.value.Value.{Value}
use Rattle.mdc_values.specs.Printing.{printed}
use Rattle.mdc_ast.specs.declared.bound.BoundOut.{BoundOut}
use Rattle.mdc_ast.specs.declared.bound.BoundOut.TheVariants as out
use Rattle.mdc_ast.specs.declared.bound.BoundSelect.{BoundSelect}
use Rattle.mdc_ast.specs.declared.definition.ColumnDef.{ColumnDef}
use Rattle.mdc_ast.specs.declared.row.Row.{Row}
use Rattle.mdc_ast.specs.Truth.{value_at}
use Rattle.statement_meaning.specs.Queries.{heading, line}

-- ---- a query without aggregate, GROUP BY, ORDER BY and FETCH FIRST: a line for each row

-- what stands in a column of the line of a row
abbrev pub entry : List Value → BoundOut → List ℕ
entry values (out.Column column) = printed (value_at values column)
entry values aggregate = []

-- what they show, the text so far, and the number of rows so far
pub record LinesSoFar : Type 0 where
  pub outs : List BoundOut
  pub text : List ℕ
  pub rows : ℕ

-- the line of the names, and a line for each of these rows
abbrev pub lines_shown : List ColumnDef → List BoundOut → List Row → LinesSoFar
lines_shown columns outs rows = record {
  outs = outs;
  text = line (map (heading columns) outs) ++ flat_map (λ row. line (map (entry row.values) outs)) rows;
  rows = length rows;
}

-- one more line, of a row with these values
abbrev pub with_line : List Value → LinesSoFar → LinesSoFar
with_line values lines = record lines { text = lines.text ++ line (map (entry values) lines.outs); rows = lines.rows + 1 }

-- the whole text: the lines, and the number of rows
abbrev pub closed_lines : LinesSoFar → List ℕ
closed_lines lines = lines.text ++ decimal lines.rows ++ codes " ROWS\n"

-- a column as it is, and no COUNT, SUM, MIN or MAX
abbrev pub is_column_out : BoundOut → Bool
is_column_out (out.Column column) = true
is_column_out aggregate = false

-- an empty list, as GROUP BY and ORDER BY have where they aren't written
abbrev pub is_nothing : {X : Type 0} → List X → Bool
is_nothing [] = true
is_nothing (x ∷ xs) = false

-- a query without aggregate, GROUP BY, ORDER BY and FETCH FIRST
abbrev pub is_plain_select : BoundSelect → Bool
is_plain_select select = list_all is_column_out select.outs && is_nothing select.group && is_nothing select.order && is_none select.first

-- ---- what may be shown

-- the column of what is shown is one of the first so many
abbrev pub is_out_within : ℕ → BoundOut → Bool
is_out_within width (out.Column column) = nat_lt column width
is_out_within width out.CountAll = true
is_out_within width (out.Count column) = nat_lt column width
is_out_within width (out.Sum column) = nat_lt column width
is_out_within width (out.Min column) = nat_lt column width
is_out_within width (out.Max column) = nat_lt column width

-- each column that is shown is one of the first so many
abbrev pub are_outs_within : ℕ → List BoundOut → Bool
are_outs_within width outs = list_all (is_out_within width) outs

-- each row has that many values
abbrev pub are_rows_wide : ℕ → List Row → Bool
are_rows_wide width rows = list_all (λ row. length row.values == width) rows
