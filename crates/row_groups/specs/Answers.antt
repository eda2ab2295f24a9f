-- What a query answers.
use Rattle.std.specs.Prelude.{◌≡◌, ℕ, List, [], ◌∷◌, ◌++◌, flat_map, length, take, if◌then◌else◌, Option, Some, None, slice_get}
use Rattle.std.specs.List.{AllByRecursion}
use Rattle.mdc_values.specs.Fitting.{in_bigint}
use Rattle.mdc_ast.specs.declared.bound.BoundOut.{BoundOut}
use Rattle.mdc_ast.specs.declared.bound.BoundOut.TheVariants as out
use Rattle.mdc_ast.specs.declared.row.Row.{Row}
use Rattle.row_groups.specs.declared.fault.GroupFault.{GroupFault}
use Rattle.row_groups.specs.declared.fault.GroupFault.TheVariants.{Overflow, Memory}
use Rattle.row_groups.specs.declared.line.Line.{Line}
use Rattle.row_groups.specs.declared.line.Shown.{Shown}
use Rattle.row_groups.specs.declared.line.Shown.TheVariants as shown
use Rattle.row_groups.specs.Lines.{made_lines}
use Rattle.row_groups.specs.Numbers.{by_number, values_of}
use Rattle.row_groups.specs.Ordering.{is_before, ordered}
use Rattle.row_groups.specs.Shape.{Shape}

-- a whole sum outside BIGINT, by the column of its SUM (Db2, "SUM": the sum must be within the range of its type)
abbrev pub outgrown : BoundOut → Shown → List ℕ
outgrown (out.Sum column) (shown.Sum (Some total)) = if in_bigint total then [] else (column ∷ [])
outgrown out shown = []

-- those of a line, in list order
abbrev pub outgrown_in : List BoundOut → List Shown → List ℕ
outgrown_in [] shows = []
outgrown_in (out ∷ outs) [] = []
outgrown_in (out ∷ outs) (shown ∷ shows) = outgrown out shown ++ outgrown_in outs shows

-- those of all lines, in the order of the groups
abbrev pub outgrown_sums : List BoundOut → List Line → List ℕ
outgrown_sums outs lines = flat_map (λ line. outgrown_in outs line.shows) lines

-- each line has a place for each entry of the list
abbrev pub AreWide : List BoundOut → List Line → Type 0
AreWide outs lines = AllByRecursion (λ line. length line.shows ≡ length outs) lines

-- FETCH FIRST: the first so many lines (Db2, "fetch-clause")
abbrev pub cut : Option ℕ → List Line → List Line
cut None lines = lines
cut (Some n) lines = take n lines

-- lines in order, and then cut, where no sum is outside BIGINT
pub record AnswersLines (shape : Shape) (lines answer : List Line) : Type 0 where
  pub whole : outgrown_sums shape.outs lines ≡ []
  pub same : answer ≡ cut shape.first (ordered (is_before shape.order) lines)

-- the answer to a query of this shape that found these rows
abbrev pub IsAnswer : Shape → List Row → List Line → Type 0
IsAnswer shape rows answer = AnswersLines shape (made_lines shape (values_of (by_number rows))) answer

-- Overflow names the first of these columns
abbrev pub IsOutgrown : List ℕ → GroupFault → Type 0
IsOutgrown columns (Overflow column) = slice_get columns 0 ≡ Some column
IsOutgrown columns Memory = Unit {0}

-- Overflow names the column of the first SUM that is outside BIGINT, also of a line that would be cut
abbrev pub IsFault : Shape → List Row → GroupFault → Type 0
IsFault shape rows fault = IsOutgrown (outgrown_sums shape.outs (made_lines shape (values_of (by_number rows)))) fault
