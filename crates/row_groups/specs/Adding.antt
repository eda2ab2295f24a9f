-- One more row behind a line, as a body adds it: the line of the rows with that one.
use Rattle.std.specs.Prelude.{ℕ, ℤ, pos, ◌+ℤ◌, ◌*ℤ◌, Option, Some, None, nat_lt, ◌+◌, Bool, List, [], ◌∷◌, map, if◌then◌else◌}
use Rattle.mdc_values.specs.declared.value.Value.{Value}
use Rattle.mdc_ast.specs.declared.bound.BoundOut.{BoundOut}
use Rattle.mdc_ast.specs.declared.bound.BoundOut.TheVariants as out
use Rattle.mdc_ast.specs.declared.row.Row.{Row}
use Rattle.mdc_ast.specs.Truth.{value_at}
use Rattle.mdc_ast.specs.Database.{is_null}
use Rattle.row_groups.specs.declared.line.Line.{Line}
use Rattle.row_groups.specs.declared.line.Shown.{Shown}
use Rattle.row_groups.specs.declared.line.Shown.TheVariants as shown
use Rattle.row_groups.specs.declared.tally.Tally.{Tally}
use Rattle.row_groups.specs.declared.tally.Tally.TheVariants as tally
use Rattle.row_groups.specs.Lines.{line_of, plus}
use Rattle.row_groups.specs.Shape.{Shape}
use Rattle.row_groups.specs.Values.{greater, lesser, number_in}

-- what a tally would show
abbrev pub seen : Tally → Shown
seen (tally.Kept value) = shown.Value value
seen (tally.Count n) = shown.Count n
seen (tally.Sum total) = shown.Sum total

-- one more row in a place
abbrev pub added : BoundOut → Shown → List Value → Shown
added out.CountAll (shown.Count n) row = shown.Count (n + 1)
added (out.Count column) (shown.Count n) row = if is_null (value_at row column) then shown.Count n else shown.Count (n + 1)
added (out.Sum column) (shown.Sum total) row = if is_null (value_at row column) then shown.Sum total else shown.Sum (plus total (value_at row column))
added (out.Min column) (shown.Value best) row = if is_null (value_at row column) then shown.Value best else shown.Value (lesser best (value_at row column))
added (out.Max column) (shown.Value best) row = if is_null (value_at row column) then shown.Value best else shown.Value (greater best (value_at row column))
added out shown row = shown

-- a place of a line that begins with this row: columns show its values
abbrev pub begun : BoundOut → Shown → List Value → Shown
begun (out.Column column) was row = shown.Value (value_at row column)
begun out was row = was

-- the same in all places
abbrev pub in_places : (BoundOut → Shown → List Value → Shown) → List BoundOut → List Shown → List Value → List Shown
in_places change [] shows row = shows
in_places change (out ∷ outs) [] row = []
in_places change (out ∷ outs) (shown ∷ shows) row = change out shown row ∷ in_places change outs shows row

-- one more row behind a line
abbrev pub with_row : List BoundOut → Line → List Value → Line
with_row outs line row = record line { shows = in_places added outs line.shows row }

-- a line that begins with this row
abbrev pub begun_with : Shape → Line → List Value → Line
begun_with shape line row = record {
  sorts = map (λ part. value_at row part.column) shape.order;
  shows = in_places begun shape.outs line.shows row;
}

-- a line, and the number of its first row
pub record Numbered : Type 0 where
  pub number : ℕ
  pub line : Line

-- the lines
abbrev pub lines_in : List Numbered → List Line
lines_in numbered = map (λ (one : Numbered). one.line) numbered

-- the line of one row
abbrev pub line_of_row : Shape → Row → Numbered
line_of_row shape row = record { number = row.number; line = line_of shape row.values (row.values ∷ []) }

-- one more row behind a line, which begins with it where its number is lower
abbrev pub joined : Shape → Numbered → Row → Numbered
joined shape one row =
    if nat_lt row.number one.number then record { number = row.number; line = begun_with shape (with_row shape.outs one.line row.values) row.values }
    else record { number = one.number; line = with_row shape.outs one.line row.values }

-- a line begins before another
abbrev pub is_numbered_lower : Numbered → Numbered → Bool
is_numbered_lower a b = nat_lt a.number b.number

-- ---- many rows with the same values

-- a value n times in a sum
abbrev pub plus_many : Option ℤ → ℕ → Value → Option ℤ
plus_many None n value = Some (number_in value *ℤ pos n)
plus_many (Some total) n value = Some (total +ℤ number_in value *ℤ pos n)

-- n rows in a place
abbrev pub many_added : ℕ → BoundOut → Shown → List Value → Shown
many_added n out.CountAll (shown.Count m) row = shown.Count (m + n)
many_added n (out.Count column) (shown.Count m) row = if is_null (value_at row column) then shown.Count m else shown.Count (m + n)
many_added n (out.Sum column) (shown.Sum total) row = if is_null (value_at row column) then shown.Sum total else shown.Sum (plus_many total n (value_at row column))
many_added n (out.Min column) (shown.Value best) row = if is_null (value_at row column) then shown.Value best else shown.Value (lesser best (value_at row column))
many_added n (out.Max column) (shown.Value best) row = if is_null (value_at row column) then shown.Value best else shown.Value (greater best (value_at row column))
many_added n out shown row = shown

-- n rows behind a line
abbrev pub with_rows : ℕ → List BoundOut → Line → List Value → Line
with_rows n outs line row = record line { shows = in_places (many_added n) outs line.shows row }

-- the line of n rows, of which this is the first
abbrev pub line_of_many : Shape → ℕ → Row → Numbered
line_of_many shape n row = record { number = row.number; line = with_rows n shape.outs (line_of shape row.values []) row.values }

-- n rows behind a line, which begins with this one where its number is lower
abbrev pub joined_many : Shape → ℕ → Numbered → Row → Numbered
joined_many shape n one row =
    if nat_lt row.number one.number then record { number = row.number; line = begun_with shape (with_rows n shape.outs one.line row.values) row.values }
    else record { number = one.number; line = with_rows n shape.outs one.line row.values }
