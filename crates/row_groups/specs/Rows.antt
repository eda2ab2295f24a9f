-- Worked rows, checked by computing: what a query answers of rows that were found.
use Rattle.std.specs.Prelude.{◌≡◌, ℕ, pos, neg_ℤ, List, [], ◌∷◌, map, Bool, true, false, Option, Some, None, codes, refl}
use Prim.Native.String.{String}
use Rattle.mdc_values.specs.declared.value.Value.{Value}
use Rattle.mdc_values.specs.declared.value.Value.TheVariants.{Null, Int, Text}
use Rattle.mdc_ast.specs.declared.bound.BoundOut.{BoundOut}
use Rattle.mdc_ast.specs.declared.bound.BoundOut.TheVariants as out
use Rattle.mdc_ast.specs.declared.row.Row.{Row}
use Rattle.row_groups.specs.declared.line.Shown.{Shown}
use Rattle.row_groups.specs.declared.line.Shown.TheVariants as show
use Rattle.row_groups.specs.Answers.{cut, outgrown_sums}
use Rattle.row_groups.specs.Lines.{made_lines}
use Rattle.row_groups.specs.Numbers.{by_number, values_of}
use Rattle.row_groups.specs.Ordering.{is_before, ordered}
use Rattle.row_groups.specs.Shape.{Shape}

abbrev text : String → Value
text s = Text (codes s)

abbrev number : ℕ → Value
number n = Int (pos n)

abbrev value : Value → Shown
value v = show.Value v

abbrev count : ℕ → Shown
count n = show.Count n

abbrev sum : ℕ → Shown
sum n = show.Sum (Some (pos n))

abbrev no_sum : Shown
no_sum = show.Sum None

-- what is shown, in order and cut
abbrev shown_lines : Shape → List (List Value) → List (List Shown)
shown_lines shape rows = map (λ line. line.shows) (cut shape.first (ordered (is_before shape.order) (made_lines shape rows)))

-- the columns of sums that are too large
abbrev too_large : Shape → List (List Value) → List ℕ
too_large shape rows = outgrown_sums shape.outs (made_lines shape rows)

-- all aggregates of column 1
abbrev aggregates : List BoundOut
aggregates = out.CountAll ∷ out.Count 1 ∷ out.Sum 1 ∷ out.Min 1 ∷ out.Max 1 ∷ []

-- without GROUP BY
abbrev of_all : Shape
of_all = record { outs = aggregates; group = []; order = []; first = None }

-- by column 0
abbrev by_first : Shape
by_first = record { outs = out.Column 0 ∷ aggregates; group = 0 ∷ []; order = []; first = None }

-- without GROUP BY there is one line of no rows, and with it none
line_of_no_rows : shown_lines of_all [] ≡ (count 0 ∷ count 0 ∷ no_sum ∷ value Null ∷ value Null ∷ []) ∷ []
line_of_no_rows = refl

no_rows_no_groups : shown_lines by_first [] ≡ []
no_rows_no_groups = refl

-- a null is a row and no value
nulls_left_out : shown_lines of_all ((Null ∷ Null ∷ []) ∷ (Null ∷ number 7 ∷ []) ∷ (Null ∷ number 2 ∷ []) ∷ []) ≡ (count 3 ∷ count 2 ∷ sum 9 ∷ value (number 2) ∷ value (number 7) ∷ []) ∷ []
nulls_left_out = refl

-- of texts that differ in blanks at their ends MIN shows the shorter and MAX the longer, in whatever order they come
blanks_at_the_end : shown_lines of_all ((Null ∷ text "a " ∷ []) ∷ (Null ∷ text "a" ∷ []) ∷ []) ≡ shown_lines of_all ((Null ∷ text "a" ∷ []) ∷ (Null ∷ text "a " ∷ []) ∷ [])
blanks_at_the_end = refl

-- groups by the order of their first rows; blanks at the end of a text say nothing, and a null is with a null
groups_by_first_rows : shown_lines by_first ((text "W" ∷ number 1 ∷ []) ∷ (Null ∷ number 2 ∷ []) ∷ (text "W  " ∷ Null ∷ []) ∷ (text "E" ∷ Null ∷ []) ∷ (Null ∷ number 8 ∷ []) ∷ [])
    ≡ (value (text "W") ∷ count 2 ∷ count 1 ∷ sum 1 ∷ value (number 1) ∷ value (number 1) ∷ [])
    ∷ (value Null ∷ count 2 ∷ count 2 ∷ sum 10 ∷ value (number 2) ∷ value (number 8) ∷ [])
    ∷ (value (text "E") ∷ count 1 ∷ count 0 ∷ no_sum ∷ value Null ∷ value Null ∷ []) ∷ []
groups_by_first_rows = refl

-- rows in the order of column 0, and of those that tie the first so many
abbrev by_order : Bool → Option ℕ → Shape
by_order descending first = record { outs = out.Column 1 ∷ []; group = []; order = record { column = 0; descending = descending } ∷ []; first = first }

abbrev ties : List (List Value)
ties = (number 2 ∷ number 1 ∷ []) ∷ (Null ∷ number 2 ∷ []) ∷ (number 1 ∷ number 3 ∷ []) ∷ (number 2 ∷ number 4 ∷ []) ∷ (Null ∷ number 5 ∷ []) ∷ []

ascending : shown_lines (by_order false None) ties ≡ map (λ n. value (number n) ∷ []) (3 ∷ 1 ∷ 4 ∷ 2 ∷ 5 ∷ [])
ascending = refl

-- under DESC nulls come first, and ties still keep their order
descending : shown_lines (by_order true None) ties ≡ map (λ n. value (number n) ∷ []) (2 ∷ 5 ∷ 1 ∷ 4 ∷ 3 ∷ [])
descending = refl

-- FETCH FIRST cuts what is in order
fetched : shown_lines (by_order false (Some 2)) ties ≡ map (λ n. value (number n) ∷ []) (3 ∷ 1 ∷ [])
fetched = refl

-- the whole sum counts: 9223372036854775807 and 1 are too much, and with -1 besides they aren't
too_much : too_large of_all ((Null ∷ number 9223372036854775807 ∷ []) ∷ (Null ∷ number 1 ∷ []) ∷ []) ≡ 1 ∷ []
too_much = refl

back_again : too_large of_all ((Null ∷ number 9223372036854775807 ∷ []) ∷ (Null ∷ number 1 ∷ []) ∷ (Null ∷ Int (neg_ℤ (pos 1)) ∷ []) ∷ []) ≡ []
back_again = refl

-- by the first group, and there by the list: the group of 2 comes first, though the one of 1 is ordered before it, and it alone is fetched
abbrev two_sums : Shape
two_sums = record { outs = out.Sum 2 ∷ out.Sum 1 ∷ []; group = 0 ∷ []; order = record { column = 0; descending = false } ∷ []; first = Some 1 }

first_group_first : too_large two_sums
    ((number 2 ∷ number 9223372036854775807 ∷ number 0 ∷ []) ∷ (number 1 ∷ number 0 ∷ number 9223372036854775808 ∷ []) ∷ (number 2 ∷ number 1 ∷ number 0 ∷ []) ∷ []) ≡ 1 ∷ 2 ∷ []
first_group_first = refl

-- rows in whatever order they came, by rising number
abbrev row : ℕ → Value → Row
row n v = record { number = n; values = v ∷ [] }

by_rising_number : values_of (by_number (row 7 (text "C") ∷ row 2 (text "A") ∷ row 5 (text "B") ∷ [])) ≡ (text "A" ∷ []) ∷ (text "B" ∷ []) ∷ (text "C" ∷ []) ∷ []
by_rising_number = refl
