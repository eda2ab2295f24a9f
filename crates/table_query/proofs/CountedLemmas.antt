-- Of a query that counts rows alone, any rows of one number make the same line.
use Rattle.std.proofs.Common.{◌≡◌, ℕ, zero, suc, ◌<◌, ◌+◌, List, [], ◌∷◌, ◌++◌, length, map, Bool, true, false, cond, ◌&&◌, refl, sym, ap, ◌∙◌, arith}
use Rattle.std.specs.Prelude.{IsTrue, OnOk, Result, nat_lt}
use Rattle.std.specs.List.{AllByRecursion, list_all, list_any, range_with_len}
use Rattle.std.proofs.lemmas.Bool.Decides.{nat_tests}
use Rattle.std.proofs.lemmas.List.{length-map}
use Rattle.std.proofs.lemmas.List.FromFn.{get_or-map-range_with_len, length-map-range_with_len}
use Rattle.mdc_values.specs.declared.value.Value.{Value}
use Rattle.mdc_ast.specs.declared.bound.BoundOut.{BoundOut}
use Rattle.mdc_ast.specs.declared.bound.BoundOut.TheVariants as out
use Rattle.mdc_ast.specs.declared.row.Row.{Row}
use Rattle.mdc_ast.specs.Truth.{value_at}
use Rattle.mdc_ast.proofs.TestsLemmas.{both}
use Rattle.row_groups.specs.declared.grouping.Grouping.{Grouping}
use Rattle.row_groups.specs.declared.grouping.Grouping.TheVariants.{EachRow, AllRows, ByValues}
use Rattle.row_groups.specs.declared.line.Shown.{Shown}
use Rattle.row_groups.specs.declared.line.Shown.TheVariants as shown
use Rattle.row_groups.specs.Gathering.{AreGroupsOf, GroupsSoFar}
use Rattle.row_groups.specs.Lines.{are_shared, grouping_of, is_aggregate, lines_by, made_lines, shares_lines, shown_of}
use Rattle.row_groups.specs.Naming.{AgreeInNamed, AreAlike, lowest_of}
use Rattle.row_groups.specs.Numbers.{values_of}
use Rattle.row_groups.specs.Shape.{Shape}
use Rattle.row_groups.proofs.NamingLemmas.{itself_agrees}
use Rattle.answer_text.specs.Answering.{Rise}
use Rattle.answer_text.specs.Lines.{is_nothing}
use Rattle.table_query.specs.Counted.{counts_rows_alone, is_count_all, rows_counted}

-- ---- rows without values

-- one with this number
abbrev made : ℕ → Row
made number = record { number = number; values = [] }

lowest : (a n : ℕ) → lowest_of (made a) (map made (range_with_len (a + 1) n)) ≡ a
lowest a zero = refl
lowest a (suc n) =
    let later : lowest_of (made (a + 1)) (map made (range_with_len (a + 1 + 1) n)) ≡ a + 1 = lowest (a + 1) n in
    let above : nat_lt (a + 1) a ≡ false = grind (arith, nat_tests) in
    rw (later, above) refl

all_alike : (shape : Shape) (a n : ℕ) → AllByRecursion (λ (one : Row). AgreeInNamed shape one (record { number = one.number; values = [] })) (map made (range_with_len a n))
all_alike shape a zero = tt
all_alike shape a (suc n) = (itself_agrees shape (made a), all_alike shape (a + 1) n)

-- added at once to none
pub counted_added : {X E : Type 0} (result : Result X E) (shape : Shape) (count : ℕ) (old new : GroupsSoFar) → (count ≡ 0 → ⊥)
    → ((rows more : List Row) (row : Row) → AreGroupsOf shape rows old → AreAlike shape 0 count [] row more → OnOk result (AreGroupsOf shape (rows ++ row ∷ more) new)) → AreGroupsOf shape [] old
    → OnOk result (AreGroupsOf shape (rows_counted count) new)
counted_added result shape zero old new some adds are = absurd (some refl)
counted_added result shape (suc n) old new some adds are =
    adds [] (map made (range_with_len 1 n)) (made 0) are (record {
      many = ap suc (length-map-range_with_len made 1 n);
      first = lowest 0 n;
      agree = all_alike shape 0 (suc n);
    })

-- their numbers rise
pub counted_rise : (count : ℕ) → Rise (rows_counted count)
counted_rise count i j d low within =
    let high : j < count = omega (arith, within, length-map-range_with_len made 0 count) in
    omega (
      arith,
      low,
      ap (λ (row : Row). row.number) (get_or-map-range_with_len made 0 count i i d (omega (arith, low, high)) (omega arith)),
      ap (λ (row : Row). row.number) (get_or-map-range_with_len made 0 count j j d high (omega arith)),
    )

pub length-counted : (count : ℕ) → length (rows_counted count) ≡ count
length-counted count = length-map-range_with_len made 0 count

-- ---- the line of any rows

counts_same : (outs : List BoundOut) (rows others : List (List Value)) → IsTrue (list_all is_count_all outs) → length rows ≡ length others
    → map (λ o. shown_of o [] rows) outs ≡ map (λ o. shown_of o [] others) outs
counts_same [] rows others counts same = refl
counts_same (out.CountAll ∷ outs) rows others counts same =
    let here : ◌≡◌ {A = Shown} (shown.Count (length rows)) (shown.Count (length others)) = ap shown.Count same in
    let rest = counts_same outs rows others counts same in cc
counts_same (out.Column column ∷ outs) rows others counts same = absurd (cc)
counts_same (out.Count column ∷ outs) rows others counts same = absurd (cc)
counts_same (out.Sum column ∷ outs) rows others counts same = absurd (cc)
counts_same (out.Min column ∷ outs) rows others counts same = absurd (cc)
counts_same (out.Max column ∷ outs) rows others counts same = absurd (cc)

-- without GROUP BY
not_by_values : (outs : List BoundOut) (group : List ℕ) → IsTrue (is_nothing group) → grouping_of outs group ≡ ByValues → ⊥
not_by_values outs [] none is = at (list_any is_aggregate outs) is
  where
    at : (b : Bool) → cond b AllRows EachRow ≡ ByValues → ⊥
    at true is = cc
    at false is = cc
not_by_values outs (column ∷ columns) none is = absurd (cc)

pub counted_lines : (shape : Shape) (rows others : List Row) → IsTrue (counts_rows_alone shape) → IsTrue (shares_lines shape) → length rows ≡ length others
    → made_lines shape (values_of rows) ≡ made_lines shape (values_of others)
counted_lines shape rows others counts shares same =
    let two = both (list_all is_count_all shape.outs && is_nothing shape.group) (is_nothing shape.order) counts in
    let one = both (list_all is_count_all shape.outs) (is_nothing shape.group) two.0 in
    let long : length (values_of rows) ≡ length (values_of others) = length-map rows (λ (row : Row). row.values) ∙ same ∙ sym (length-map others (λ (row : Row). row.values)) in
    at (grouping_of shape.outs shape.group) shares (not_by_values shape.outs shape.group one.1) (counts_same shape.outs (values_of rows) (values_of others) one.0 long)
  where
    at : (grouping : Grouping) → IsTrue (are_shared grouping) → (grouping ≡ ByValues → ⊥) → map (λ o. shown_of o [] (values_of rows)) shape.outs ≡ map (λ o. shown_of o [] (values_of others)) shape.outs
        → lines_by grouping shape (values_of rows) ≡ lines_by grouping shape (values_of others)
    at EachRow shared never shows = absurd (cc)
    at AllRows shared never shows = ap (λ (shows : List Shown). (record { sorts = map (λ part. value_at [] part.column) shape.order; shows = shows }) ∷ []) shows
    at ByValues shared never shows = absurd (never refl)
