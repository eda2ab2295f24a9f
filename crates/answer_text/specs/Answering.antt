-- The lines of any query as far as rows have come, and what they give in the end.
use Rattle.std.specs.Prelude.{◌≡◌, ◌<◌, ℕ, AllPairs, List, [], ◌∷◌, IsTrue, map}
use Rattle.mdc_ast.specs.declared.bound.BoundOut.{BoundOut}
use Rattle.mdc_ast.specs.declared.bound.BoundSelect.{BoundSelect}
use Rattle.mdc_ast.specs.declared.definition.ColumnDef.{ColumnDef}
use Rattle.mdc_ast.specs.declared.row.Row.{Row}
use Rattle.row_groups.specs.Gathering.{AreGroupsOf}
use Rattle.row_groups.specs.Shape.{Shape, shape_of}
use Rattle.statement_meaning.specs.Cause.{Cause, Overflow}
use Rattle.statement_meaning.specs.Queries.{heading, line, lines_of, sum_causes}
use Rattle.answer_text.specs.Lines.{is_plain_select, lines_shown}
use Rattle.answer_text.specs.declared.fault.AnswerFault.{AnswerFault}
use Rattle.answer_text.specs.declared.fault.AnswerFault.TheVariants as fault
use Rattle.answer_text.specs.declared.query_lines.QueryLines.{QueryLines}
use Rattle.answer_text.specs.declared.query_lines.QueryLines.TheVariants.{Plain, Grouped}

-- what is shown of each row as it comes, and nothing where rows are gathered first
abbrev pub outs_at_once : QueryLines → List BoundOut
outs_at_once (Plain lines) = lines.outs
outs_at_once (Grouped columns text groups) = []

-- the lines that a query of these columns makes of these rows, so far
abbrev pub AreLinesOf : List ColumnDef → BoundSelect → List Row → QueryLines → Type 0
AreLinesOf columns select rows (Plain lines) = IsTrue (is_plain_select select) × (lines ≡ lines_shown columns select.outs rows)
AreLinesOf columns select rows (Grouped of text groups) =
    (of.now ≡ columns) × (text.items ≡ line (map (heading columns) select.outs)) × AreGroupsOf (shape_of select) rows groups

-- row numbers rise
abbrev pub Rise : List Row → Type 0
Rise rows = AllPairs (λ a b. a.number < b.number) rows

-- the text of the lines, where no sum is outside BIGINT
pub record GivesLines (columns : List ColumnDef) (shape : Shape) (rows : List Row) (text : List ℕ) : Type 0 where
  pub whole : sum_causes columns shape rows ≡ []
  pub text_is : text ≡ lines_of columns shape rows

-- Overflow names the column of the first sum outside BIGINT
abbrev pub IsFirstOverflow : List ColumnDef → Shape → List Row → AnswerFault → Type 0
IsFirstOverflow columns shape rows (fault.Overflow name) = (more : List Cause) × (sum_causes columns shape rows ≡ Overflow name ∷ more)
IsFirstOverflow columns shape rows fault.Memory = Unit {0}
