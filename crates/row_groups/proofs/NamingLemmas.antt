-- Columns that a query doesn't name say nothing of its lines.
use Rattle.std.proofs.Common.{◌≡◌, ℕ, List, [], ◌∷◌, ◌++◌, map, length, filter, Bool, true, false, not, cond, fold, refl, sym, ap, ◌∙◌}
use Rattle.std.specs.Prelude.{nat_lt}
use Rattle.std.specs.List.{AllByRecursion, AllZip, list_any}
use Rattle.mdc_values.specs.declared.value.Value.{Value}
use Rattle.mdc_values.specs.declared.value.Value.TheVariants.{Null}
use Rattle.mdc_ast.specs.declared.bound.BoundOut.{BoundOut}
use Rattle.mdc_ast.specs.declared.bound.BoundOut.TheVariants as out
use Rattle.mdc_ast.specs.declared.definition.KeyPart.{KeyPart}
use Rattle.mdc_ast.specs.declared.row.Row.{Row}
use Rattle.mdc_ast.specs.Truth.{value_at}
use Rattle.mdc_ast.specs.Database.{is_null}
use Rattle.row_groups.specs.declared.grouping.Grouping.{Grouping}
use Rattle.row_groups.specs.declared.grouping.Grouping.TheVariants.{EachRow, AllRows, ByValues}
use Rattle.row_groups.specs.declared.line.Line.{Line}
use Rattle.row_groups.specs.declared.line.Shown.{Shown}
use Rattle.row_groups.specs.declared.line.Shown.TheVariants as shown
use Rattle.row_groups.specs.Adding.{lines_in}
use Rattle.row_groups.specs.Firsts.{firsts, firsts_after}
use Rattle.row_groups.specs.Lines.{are_grouped, grouping_of, known, line_of, lines_by, made_lines, shown_of, sum_of}
use Rattle.row_groups.specs.Naming.{AgreeIn, AgreeInNamed, columns_of}
use Rattle.row_groups.specs.Numbers.{by_number, is_lower, values_of}
use Rattle.row_groups.specs.Ordering.{placed}
use Rattle.row_groups.specs.Shape.{Shape}
use Rattle.row_groups.specs.Values.{greater, lesser}
use Rattle.row_groups.proofs.FoundLemmas.{grouped, line_from, lines_are}

zip_wider : {X : Type 0} (P Q : X → X → Type 0) → ((x y : X) → P x y → Q x y) → (xs ys : List X) → AllZip P xs ys → AllZip Q xs ys
zip_wider P Q wide [] [] all = tt
zip_wider P Q wide [] (y ∷ ys) all = absurd all
zip_wider P Q wide (x ∷ xs) [] all = absurd all
zip_wider P Q wide (x ∷ xs) (y ∷ ys) all = (wide x y all.0, zip_wider P Q wide xs ys all.1)

-- ---- a line

abbrev pub AgreeShown : List BoundOut → List Value → List Value → Type 0
AgreeShown outs a b = AllByRecursion (λ out. AgreeIn (columns_of out) a b) outs

column_same : (column : ℕ) (rows rows' : List Row) → AllZip (λ (x y : Row). value_at x.values column ≡ value_at y.values column) rows rows'
    → map (λ row. value_at row column) (values_of rows) ≡ map (λ row. value_at row column) (values_of rows')
column_same column [] [] all = refl
column_same column [] (y ∷ ys) all = absurd all
column_same column (x ∷ xs) [] all = absurd all
column_same column (x ∷ xs) (y ∷ ys) all = let here = all.0 in let rest = column_same column xs ys all.1 in cc

length_same : (P : Row → Row → Type 0) (rows rows' : List Row) → AllZip P rows rows' → length (values_of rows) ≡ length (values_of rows')
length_same P [] [] all = refl
length_same P [] (y ∷ ys) all = absurd all
length_same P (x ∷ xs) [] all = absurd all
length_same P (x ∷ xs) (y ∷ ys) all = let rest = length_same P xs ys all.1 in cc

known_same : (column : ℕ) (rows rows' : List Row) → AllZip (λ (x y : Row). AgreeIn (column ∷ []) x.values y.values) rows rows' → known column (values_of rows) ≡ known column (values_of rows')
known_same column rows rows' all =
    ap (filter (λ value. not (is_null value))) (column_same column rows rows' (zip_wider (λ (x y : Row). AgreeIn (column ∷ []) x.values y.values) (λ (x y : Row). value_at x.values column ≡ value_at y.values column) (λ x y both. both.0) rows rows' all))

shown_same : (out : BoundOut) (a b : List Value) (rows rows' : List Row) → AgreeIn (columns_of out) a b → AllZip (λ (x y : Row). AgreeIn (columns_of out) x.values y.values) rows rows'
    → shown_of out a (values_of rows) ≡ shown_of out b (values_of rows')
shown_same (out.Column column) a b rows rows' first all = ap shown.Value first.0
shown_same out.CountAll a b rows rows' first all = ap shown.Count (length_same _ rows rows' all)
shown_same (out.Count column) a b rows rows' first all = ap (λ (vs : List Value). shown.Count (length vs)) (known_same column rows rows' all)
shown_same (out.Sum column) a b rows rows' first all = ap (λ (vs : List Value). shown.Sum (sum_of vs)) (known_same column rows rows' all)
shown_same (out.Min column) a b rows rows' first all = ap (λ (vs : List Value). shown.Value (fold lesser Null vs)) (known_same column rows rows' all)
shown_same (out.Max column) a b rows rows' first all = ap (λ (vs : List Value). shown.Value (fold greater Null vs)) (known_same column rows rows' all)

shows_same : (outs : List BoundOut) (a b : List Value) (rows rows' : List Row) → AgreeShown outs a b → AllZip (λ (x y : Row). AgreeShown outs x.values y.values) rows rows'
    → map (λ out. shown_of out a (values_of rows)) outs ≡ map (λ out. shown_of out b (values_of rows')) outs
shows_same [] a b rows rows' first all = refl
shows_same (out ∷ outs) a b rows rows' first all =
    let here = shown_same out a b rows rows' first.0 (zip_wider (λ (x y : Row). AgreeShown (out ∷ outs) x.values y.values) (λ (x y : Row). AgreeIn (columns_of out) x.values y.values) (λ x y both. both.0) rows rows' all) in
    let rest = shows_same outs a b rows rows' first.1 (zip_wider (λ (x y : Row). AgreeShown (out ∷ outs) x.values y.values) (λ (x y : Row). AgreeShown outs x.values y.values) (λ x y both. both.1) rows rows' all) in
    cc

pub sorts_same : (parts : List KeyPart) (a b : List Value) → AllByRecursion (λ part. value_at a part.column ≡ value_at b part.column) parts → map (λ part. value_at a part.column) parts ≡ map (λ part. value_at b part.column) parts
sorts_same [] a b all = refl
sorts_same (part ∷ parts) a b all = let here = all.0 in let rest = sorts_same parts a b all.1 in cc

itself_in : (columns : List ℕ) (a : List Value) → AgreeIn columns a a
itself_in [] a = tt
itself_in (column ∷ columns) a = (refl, itself_in columns a)

itself_shown : (outs : List BoundOut) (a : List Value) → AgreeShown outs a a
itself_shown [] a = tt
itself_shown (out ∷ outs) a = (itself_in (columns_of out) a, itself_shown outs a)

itself_sorted : (parts : List KeyPart) (a : List Value) → AllByRecursion (λ part. value_at a part.column ≡ value_at a part.column) parts
itself_sorted [] a = tt
itself_sorted (part ∷ parts) a = (refl, itself_sorted parts a)

-- a row agrees with itself
pub itself_agrees : (shape : Shape) (row : Row) → AgreeInNamed shape row row
itself_agrees shape row = record { number = refl; shown = itself_shown shape.outs row.values; grouped = itself_in shape.group row.values; sorted = itself_sorted shape.order row.values }

grouped_same : (columns : List ℕ) (a a' b b' : List Value) → AgreeIn columns a a' → AgreeIn columns b b' → are_grouped columns a b ≡ are_grouped columns a' b'
grouped_same [] a a' b b' p q = refl
grouped_same (column ∷ columns) a a' b b' p q = let here = p.0 in let there = q.0 in let rest = grouped_same columns a a' b b' p.1 q.1 in cc

-- ---- the rows

module _ (shape : Shape) where
  abbrev pub AgreeAll : List Row → List Row → Type 0
  AgreeAll rows rows' = AllZip (AgreeInNamed shape) rows rows'

  pub line_same : (a b : List Value) (rows rows' : List Row) → AgreeShown shape.outs a b → map (λ part. value_at a part.column) shape.order ≡ map (λ part. value_at b part.column) shape.order → AgreeAll rows rows'
      → line_of shape a (values_of rows) ≡ line_of shape b (values_of rows')
  line_same a b rows rows' first sorts all =
      let shows = shows_same shape.outs a b rows rows' first (zip_wider (AgreeInNamed shape) (λ (x y : Row). AgreeShown shape.outs x.values y.values) (λ x y agree. agree.shown) rows rows' all) in
      record_same sorts shows
    where
      record_same : {s s' : List Value} {t t' : List Shown} → s ≡ s' → t ≡ t' → (let line : Line = record { sorts = s; shows = t } in line) ≡ record { sorts = s'; shows = t' }
      record_same p q = cc

  placed_alike : (x y : Row) (xs ys : List Row) → AgreeInNamed shape x y → AgreeAll xs ys → AgreeAll (placed is_lower x xs) (placed is_lower y ys)
  placed_alike x y [] [] one all = (one, tt)
  placed_alike x y [] (b ∷ ys) one all = absurd all
  placed_alike x y (a ∷ xs) [] one all = absurd all
  placed_alike x y (a ∷ xs) (b ∷ ys) one all =
      let test : is_lower a x ≡ is_lower b y = ap (λ n. nat_lt n x.number) all.0.number ∙ ap (nat_lt b.number) one.number in
      rw test (at (is_lower b y) (placed_alike x y xs ys one all.1))
    where
      at : (c : Bool) → AgreeAll (placed is_lower x xs) (placed is_lower y ys) → AgreeAll (cond c (a ∷ placed is_lower x xs) (x ∷ a ∷ xs)) (cond c (b ∷ placed is_lower y ys) (y ∷ b ∷ ys))
      at true rest = (all.0, rest)
      at false rest = (one, all)

  ordered_alike : (rows rows' : List Row) → AgreeAll rows rows' → AgreeAll (by_number rows) (by_number rows')
  ordered_alike [] [] all = tt
  ordered_alike [] (y ∷ ys) all = absurd all
  ordered_alike (x ∷ xs) [] all = absurd all
  ordered_alike (x ∷ xs) (y ∷ ys) all = placed_alike x y (by_number xs) (by_number ys) all.0 (ordered_alike xs ys all.1)

  each_same : (rows rows' : List Row) → AgreeAll rows rows' → map (λ row. line_of shape row (row ∷ [])) (values_of rows) ≡ map (λ row. line_of shape row (row ∷ [])) (values_of rows')
  each_same [] [] all = refl
  each_same [] (y ∷ ys) all = absurd all
  each_same (x ∷ xs) [] all = absurd all
  each_same (x ∷ xs) (y ∷ ys) all =
      let here : line_of shape x.values (x.values ∷ []) ≡ line_of shape y.values (y.values ∷ [])
      = line_same x.values y.values (x ∷ []) (y ∷ []) all.0.shown (sorts_same shape.order x.values y.values all.0.sorted) (all.0, tt) in
      let rest = each_same xs ys all.1 in cc

  test_same : (a b x y : Row) → AgreeInNamed shape a b → AgreeInNamed shape x y → grouped shape a x ≡ grouped shape b y
  test_same a b x y one other = grouped_same shape.group a.values b.values x.values y.values one.grouped other.grouped

  group_alike : (a b : Row) (xs ys : List Row) → AgreeInNamed shape a b → AgreeAll xs ys → AgreeAll (filter (grouped shape a) xs) (filter (grouped shape b) ys)
  group_alike a b [] [] one all = tt
  group_alike a b [] (y ∷ ys) one all = absurd all
  group_alike a b (x ∷ xs) [] one all = absurd all
  group_alike a b (x ∷ xs) (y ∷ ys) one all = rw (test_same a b x y one all.0) (at (grouped shape b y) (group_alike a b xs ys one all.1))
    where
      at : (c : Bool) → AgreeAll (filter (grouped shape a) xs) (filter (grouped shape b) ys) → AgreeAll (cond c (x ∷ filter (grouped shape a) xs) (filter (grouped shape a) xs)) (cond c (y ∷ filter (grouped shape b) ys) (filter (grouped shape b) ys))
      at true rest = (all.0, rest)
      at false rest = rest

  any_same : (a b : Row) (xs ys : List Row) → AgreeInNamed shape a b → AgreeAll xs ys → list_any (grouped shape a) xs ≡ list_any (grouped shape b) ys
  any_same a b [] [] one all = refl
  any_same a b [] (y ∷ ys) one all = absurd all
  any_same a b (x ∷ xs) [] one all = absurd all
  any_same a b (x ∷ xs) (y ∷ ys) one all = let here = test_same a b x y one all.0 in let rest = any_same a b xs ys one all.1 in cc

  joined_alike : (xs ys : List Row) (a b : Row) → AgreeAll xs ys → AgreeInNamed shape a b → AgreeAll (xs ++ a ∷ []) (ys ++ b ∷ [])
  joined_alike [] [] a b all one = (one, tt)
  joined_alike [] (y ∷ ys) a b all one = absurd all
  joined_alike (x ∷ xs) [] a b all one = absurd all
  joined_alike (x ∷ xs) (y ∷ ys) a b all one = (all.0, joined_alike xs ys a b all.1 one)

  firsts_alike : (before before' xs ys : List Row) → AgreeAll before before' → AgreeAll xs ys → AgreeAll (firsts_after (grouped shape) before xs) (firsts_after (grouped shape) before' ys)
  firsts_alike before before' [] [] bs all = tt
  firsts_alike before before' [] (y ∷ ys) bs all = absurd all
  firsts_alike before before' (x ∷ xs) [] bs all = absurd all
  firsts_alike before before' (x ∷ xs) (y ∷ ys) bs all =
      rw (any_same x y before before' all.0 bs) (at (list_any (grouped shape y) before') (firsts_alike (before ++ x ∷ []) (before' ++ y ∷ []) xs ys (joined_alike before before' x y bs all.0) all.1))
    where
      at : (c : Bool) → AgreeAll (firsts_after (grouped shape) (before ++ x ∷ []) xs) (firsts_after (grouped shape) (before' ++ y ∷ []) ys)
          → AgreeAll (cond c (firsts_after (grouped shape) (before ++ x ∷ []) xs) (x ∷ firsts_after (grouped shape) (before ++ x ∷ []) xs)) (cond c (firsts_after (grouped shape) (before' ++ y ∷ []) ys) (y ∷ firsts_after (grouped shape) (before' ++ y ∷ []) ys))
      at true rest = rest
      at false rest = (all.0, rest)

  groups_same : (rows rows' xs ys : List Row) → AgreeAll rows rows' → AgreeAll xs ys → lines_in (map (line_from shape rows) xs) ≡ lines_in (map (line_from shape rows') ys)
  groups_same rows rows' [] [] whole all = refl
  groups_same rows rows' [] (y ∷ ys) whole all = absurd all
  groups_same rows rows' (x ∷ xs) [] whole all = absurd all
  groups_same rows rows' (x ∷ xs) (y ∷ ys) whole all =
      let here = line_same x.values y.values (filter (grouped shape x) rows) (filter (grouped shape y) rows') all.0.shown (sorts_same shape.order x.values y.values all.0.sorted) (group_alike x y rows rows' all.0 whole) in
      let rest = groups_same rows rows' xs ys whole all.1 in cc

  lines_same : (rows rows' : List Row) → AgreeAll rows rows' → made_lines shape (values_of rows) ≡ made_lines shape (values_of rows')
  lines_same rows rows' all = at (grouping_of shape.outs shape.group)
    where
      at : (grouping : Grouping) → lines_by grouping shape (values_of rows) ≡ lines_by grouping shape (values_of rows')
      at EachRow = each_same rows rows' all
      at AllRows = ap (λ line. line ∷ []) (line_same [] [] rows rows' (itself_shown shape.outs []) refl all)
      at ByValues = sym (lines_are shape rows) ∙ groups_same rows rows' (firsts (grouped shape) rows) (firsts (grouped shape) rows') all (firsts_alike [] [] rows rows' tt all) ∙ lines_are shape rows'

  -- rows that agree in the columns that are named give the same lines
  pub named_decide : (rows rows' : List Row) → AgreeAll rows rows' → made_lines shape (values_of (by_number rows)) ≡ made_lines shape (values_of (by_number rows'))
  named_decide rows rows' all = lines_same (by_number rows) (by_number rows') (ordered_alike rows rows' all)
