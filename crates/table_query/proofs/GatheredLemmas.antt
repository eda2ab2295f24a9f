-- Rows that came in any order, and of which others stand for what the query names, give the lines of the rows by number.
use Rattle.std.proofs.Common.{◌≡◌, ℕ, zero, suc, ◌<◌, ◌≤◌, List, [], ◌∷◌, map, Bool, false, cond, ◌&&◌, ◌==◌, inl, inr, refl, sym, ap, ◌∙◌, subst, arith}
use Rattle.std.specs.Prelude.{AllPairs, Contains, IsPermutation, IsTrue, filter, is_none, nat_lt}
use Rattle.std.specs.List.{AllZip, IsDistinct, list_all, list_any}
use Rattle.std.proofs.lemmas.Bool.Decides.{nat_tests}
use Rattle.std.proofs.lemmas.List.Elements.{All-from_recursion, recursion_from_All}
use Rattle.std.proofs.lemmas.List.Kept.{AllPairs-cons}
use Rattle.std.proofs.lemmas.List.Sorted.{Contains-permutation, IsPermutation-map, IsPermutation-sym}
use Rattle.std.proofs.lemmas.Map.Keys.{IsDistinct-IsPermutation}
use Rattle.mdc_ast.specs.declared.bound.BoundOut.{BoundOut}
use Rattle.mdc_ast.specs.declared.bound.BoundOut.TheVariants as out
use Rattle.mdc_ast.specs.declared.bound.BoundSelect.{BoundSelect}
use Rattle.mdc_ast.specs.declared.definition.ColumnDef.{ColumnDef}
use Rattle.mdc_ast.specs.declared.row.Row.{Row}
use Rattle.mdc_ast.proofs.TestsLemmas.{both}
use Rattle.row_groups.specs.declared.grouping.Grouping.{Grouping}
use Rattle.row_groups.specs.declared.grouping.Grouping.TheVariants.{EachRow, AllRows, ByValues}
use Rattle.row_groups.specs.declared.line.Line.{Line}
use Rattle.row_groups.specs.Answers.{cut, outgrown_sums}
use Rattle.row_groups.specs.Gathering.{AreGathered, AreGroupsOf, GroupsSoFar, has_key, line_of_group}
use Rattle.row_groups.specs.Keys.{are_small}
use Rattle.row_groups.specs.Lines.{are_shared, grouping_of, is_aggregate, line_of, made_lines, shares_lines}
use Rattle.row_groups.specs.Naming.{AgreeInNamed}
use Rattle.row_groups.specs.Numbers.{DifferInNumber, by_number, is_lower, values_of}
use Rattle.row_groups.specs.Ordering.{is_before, ordered, placed}
use Rattle.row_groups.specs.Shape.{Shape, shape_of}
use Rattle.row_groups.proofs.NamingLemmas.{named_decide}
use Rattle.row_groups.proofs.NumberLemmas.{IsIn, RisesStrictly, all_ordered, from_ordered, strictly_ordered, strictly_same, to_ordered}
use Rattle.statement_meaning.specs.Queries.{lines_text, sum_cause}
use Rattle.answer_text.specs.Answering.{AreLinesOf, GivesLines, Rise}
use Rattle.answer_text.specs.Lines.{is_column_out, is_nothing, is_plain_select}
use Rattle.answer_text.specs.declared.query_lines.QueryLines.{QueryLines}
use Rattle.answer_text.specs.declared.query_lines.QueryLines.TheVariants.{Grouped, Plain}
use Rattle.answer_text.proofs.QueryLinesLemmas.{by_number-rising, rising_differ}

-- ---- rows by number

in_contains : (x : Row) (xs : List Row) → IsIn x xs → Contains xs x
in_contains x [] i = absurd i
in_contains x (y ∷ ys) i = elim i [
  | inl e ↦ (0, omega arith, sym e)
  | inr j ↦ let there = in_contains x ys j in (suc there.0, omega (arith, there.1), there.2)
]

contains_in : (x : Row) (xs : List Row) → Contains xs x → IsIn x xs
contains_in x [] there = absurd (omega (arith, there.1))
contains_in x (y ∷ ys) (zero, low, is) = inl (sym is)
contains_in x (y ∷ ys) (suc k, low, is) = inr (contains_in x ys (k, omega (arith, low), is))

rise_behind : (row : Row) (rows : List Row) → Rise (row ∷ rows) → Rise rows
rise_behind row rows rise = λ i j d low within. rise (suc i) (suc j) d (omega (arith, low)) (omega (arith, within))

rises_strictly : (rows : List Row) → Rise rows → RisesStrictly (λ (row : Row). row.number) rows
rises_strictly [] rise = tt
rises_strictly (row ∷ rows) rise = (
  recursion_from_All (λ (other : Row). row.number < other.number) rows (λ k d low. rise 0 (suc k) d (omega arith) (omega (arith, low))),
  rises_strictly rows (rise_behind row rows rise),
)

strictly_rises : (rows : List Row) → RisesStrictly (λ (row : Row). row.number) rows → Rise rows
strictly_rises [] up = λ i j d low within. absurd (omega (arith, within))
strictly_rises (row ∷ rows) up =
    AllPairs-cons (λ (a b : Row). a.number < b.number) row rows (All-from_recursion (λ (other : Row). row.number < other.number) rows up.0) (strictly_rises rows up.1)

flips : (x y : ℕ) → (x == y) ≡ (y == x)
flips x y = grind (arith, nat_tests)

module _ (found real : List Row) (same : IsPermutation found real) (rise : Rise real) where
  pub found_differ : DifferInNumber found
  found_differ =
      IsDistinct-IsPermutation (λ a b. a == b) flips (map (λ (row : Row). row.number) real) (map (λ (row : Row). row.number) found)
      (IsPermutation-map (λ (row : Row). row.number) real found (IsPermutation-sym found real same)) (rising_differ real rise)

  -- the same rows by number are those that rise
  pub sorted_is : by_number found ≡ real
  sorted_is =
      strictly_same (λ (row : Row). row.number) (by_number found) real (strictly_ordered (λ (row : Row). row.number) found found_differ) (rises_strictly real rise)
      (λ x i. contains_in x real (Contains-permutation found real x same (in_contains x found (from_ordered (λ (row : Row). row.number) x found i))))
      (λ x i. to_ordered (λ (row : Row). row.number) x found (contains_in x found (Contains-permutation real found x (IsPermutation-sym found real same) (in_contains x real i))))

-- rows whose numbers don't fall are by number as they are
placed_first : (row : Row) (rows : List Row) → AllPairs (λ (a b : Row). a.number ≤ b.number) (row ∷ rows) → placed is_lower row rows ≡ row ∷ rows
placed_first row [] up = refl
placed_first row (other ∷ rows) up =
    let le : row.number ≤ other.number = up 0 1 row (omega arith) (omega arith) in
    let at : nat_lt other.number row.number ≡ false = grind (arith, nat_tests) in
    rw at refl

pub in_order-by_number : (rows : List Row) → AllPairs (λ (a b : Row). a.number ≤ b.number) rows → by_number rows ≡ rows
in_order-by_number [] up = refl
in_order-by_number (row ∷ rows) up =
    ap (placed is_lower row) (in_order-by_number rows (λ i j d low within. up (suc i) (suc j) d (omega (arith, low)) (omega (arith, within)))) ∙ placed_first row rows up

-- ---- others that agree

numbers_same : (shape : Shape) (rows others : List Row) → AllZip (AgreeInNamed shape) rows others → map (λ (row : Row). row.number) rows ≡ map (λ (row : Row). row.number) others
numbers_same shape [] [] all = refl
numbers_same shape [] (y ∷ ys) all = absurd all
numbers_same shape (x ∷ xs) [] all = absurd all
numbers_same shape (x ∷ xs) (y ∷ ys) all = let here = all.0.number in let rest = numbers_same shape xs ys all.1 in cc

-- groups of rows that share lines are those of the rows by number
groups_by_number : (shape : Shape) (rows : List Row) (groups : GroupsSoFar) → IsTrue (shares_lines shape) → by_number (by_number rows) ≡ by_number rows → AreGroupsOf shape rows groups
    → AreGroupsOf shape (by_number rows) groups
groups_by_number shape rows groups shares again are = record { shape_is = are.shape_is; gathered = at (grouping_of shape.outs shape.group) shares are.gathered }
  where
    at : (grouping : Grouping) → IsTrue (are_shared grouping) → AreGathered grouping shape rows groups.found groups.lines → AreGathered grouping shape (by_number rows) groups.found groups.lines
    at EachRow shared gathered = absurd (cc)
    at AllRows shared gathered = (gathered.0, gathered.1 ∙ ap (λ (rs : List Row). line_of shape [] (values_of rs) ∷ []) (sym again))
    at ByValues shared gathered = (
      gathered.0,
      record {
        small = all_ordered (λ (row : Row). row.number) (λ row. IsTrue (are_small shape.group row.values)) rows gathered.1.small;
        each = λ key. gathered.1.each key ∙ ap (λ (rs : List Row). line_of_group shape (filter (has_key shape.group key) rs)) (sym again);
      },
    )

-- ---- queries whose rows share lines

no_aggregate : (outs : List BoundOut) → IsTrue (list_all is_column_out outs) → list_any is_aggregate outs ≡ false
no_aggregate [] plain = refl
no_aggregate (out.Column column ∷ outs) plain = no_aggregate outs plain
no_aggregate (out.CountAll ∷ outs) plain = absurd (cc)
no_aggregate (out.Count column ∷ outs) plain = absurd (cc)
no_aggregate (out.Sum column ∷ outs) plain = absurd (cc)
no_aggregate (out.Min column ∷ outs) plain = absurd (cc)
no_aggregate (out.Max column ∷ outs) plain = absurd (cc)

-- rows of a plain query share none
apart : (outs : List BoundOut) (group : List ℕ) → IsTrue (list_all is_column_out outs) → IsTrue (is_nothing group) → IsTrue (are_shared (grouping_of outs group)) → ⊥
apart outs [] plain none shares =
    let same : are_shared (grouping_of outs []) ≡ false = ap (λ (b : Bool). are_shared (cond b AllRows EachRow)) (no_aggregate outs plain) in
    absurd (cc)
apart outs (column ∷ columns) plain none shares = absurd (cc)

pub plain_apart : (select : BoundSelect) → IsTrue (shares_lines (shape_of select)) → IsTrue (is_plain_select select) → ⊥
plain_apart select shares plain =
    let three = both (list_all is_column_out select.outs && is_nothing select.group && is_nothing select.order) (is_none select.first) plain in
    let two = both (list_all is_column_out select.outs && is_nothing select.group) (is_nothing select.order) three.0 in
    let one = both (list_all is_column_out select.outs) (is_nothing select.group) two.0 in
    apart select.outs select.group one.0 one.1 shares

-- ---- answers

module _ (columns : List ColumnDef) (shape : Shape) (rows others : List Row) (same : made_lines shape (values_of others) ≡ made_lines shape (values_of rows)) where
  -- rows that make the same lines give the same text
  pub gives_as : (text : List ℕ) → GivesLines columns shape others text → GivesLines columns shape rows text
  gives_as text gives = record {
    whole = ap (λ (lines : List Line). map (sum_cause columns) (outgrown_sums shape.outs lines)) (sym same) ∙ gives.whole;
    text_is = gives.text_is ∙ ap (λ (lines : List Line). lines_text columns shape.outs (cut shape.first (ordered (is_before shape.order) lines))) same;
  }

-- others that agree with the rows that were found
module _ (columns : List ColumnDef) (select : BoundSelect) (found others real : List Row) (agree : AllZip (AgreeInNamed (shape_of select)) found others) (same : IsPermutation found real) (rise : Rise real) where
  pub others_rise : Rise (by_number others)
  others_rise =
      strictly_rises (by_number others) (strictly_ordered (λ (row : Row). row.number) others
      (subst (IsDistinct (λ a b. a == b)) (numbers_same (shape_of select) found others agree) (found_differ found real same rise)))

  -- they make the same lines
  pub others_make : made_lines (shape_of select) (values_of (by_number others)) ≡ made_lines (shape_of select) (values_of real)
  others_make =
      sym (named_decide (shape_of select) found others agree) ∙ ap (λ (rows : List Row). made_lines (shape_of select) (values_of rows)) (sorted_is found real same rise)

  -- the lines so far are those of the others by number
  pub others_by_number : (lines : QueryLines) → IsTrue (shares_lines (shape_of select)) → AreLinesOf columns select others lines → AreLinesOf columns select (by_number others) lines
  others_by_number (Plain lines) shares are = absurd (plain_apart select shares are.0)
  others_by_number (Grouped of text groups) shares are = (are.0, are.1, groups_by_number (shape_of select) others groups shares (by_number-rising (by_number others) others_rise) are.2)
