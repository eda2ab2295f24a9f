-- Rows may be added to a line in any order.
use Rattle.std.proofs.Common.{◌≡◌, ℕ, ℤ, ◌+ℤ◌, List, [], ◌∷◌, ◌++◌, map, Bool, true, false, not, cond, if◌then◌else◌, Option, Some, None, Ordering, refl, sym, ap, ◌∙◌, fold, append_assoc}
use Rattle.std.specs.declared.cmp.Ordering.TheVariants.{Less, Equal, Greater}
use Rattle.std.specs.Prelude.{nat_lt}
use Rattle.std.specs.Cmp.{IsStrictWeakOrder}
use Rattle.std.specs.Ordering.{is_gt, is_lt, ordering_reverse}
use Rattle.std.proofs.Math.IntN.{+ℤ_assoc, +ℤ_comm}
use Rattle.std.proofs.lemmas.List.Sorted.{IsStrictWeakOrder-flip, ranks_by}
use Rattle.mdc_values.specs.declared.value.Value.{Value}
use Rattle.mdc_values.specs.declared.value.Value.TheVariants.{Null, Int, Text, Day}
use Rattle.mdc_ast.specs.declared.bound.BoundOut.{BoundOut}
use Rattle.mdc_ast.specs.declared.bound.BoundOut.TheVariants as out
use Rattle.mdc_ast.specs.declared.row.Row.{Row}
use Rattle.mdc_ast.specs.Truth.{value_at}
use Rattle.mdc_ast.specs.Database.{is_null}
use Rattle.row_groups.specs.declared.line.Line.{Line}
use Rattle.row_groups.specs.declared.line.Shown.{Shown}
use Rattle.row_groups.specs.declared.line.Shown.TheVariants as shown
use Rattle.row_groups.specs.Adding.{Numbered, added, begun, begun_with, in_places, joined, with_row}
use Rattle.row_groups.specs.Gathering.{line_of_group}
use Rattle.row_groups.specs.Lines.{line_of, plus, shown_of}
use Rattle.row_groups.specs.Numbers.{values_of}
use Rattle.row_groups.specs.Ordering.{placed}
use Rattle.row_groups.specs.Shape.{Shape}
use Rattle.row_groups.specs.Values.{greater, lesser, number_in, value_order}
use Rattle.row_groups.proofs.OrderLemmas.{value_exact, value_total}
use Rattle.row_groups.proofs.ShownLemmas.{shown_of-more}

-- ---- the better of two, where no two are as good

module _ {X : Type 0} (wins : X → X → Bool) (o : IsStrictWeakOrder wins) (exact : (x y : X) → wins x y ≡ false → wins y x ≡ false → x ≡ y) where
  abbrev better : X → X → X
  better best x = if wins x best then x else best

  better-comm : (v w : X) → better v w ≡ better w v
  better-comm v w = at (wins w v) (wins v w) refl refl
    where
      at : (b c : Bool) → wins w v ≡ b → wins v w ≡ c → cond (wins w v) w v ≡ cond (wins v w) v w
      at true true e f = let g = o.one_way w v e in cc
      at true false e f = rw (e, f) refl
      at false true e f = rw (e, f) refl
      at false false e f = rw (e, f) (exact v w f e)

  better-swap : (a v w : X) → better (better a v) w ≡ better (better a w) v
  better-swap a v w = at (wins v a) (wins w a) refl refl
    where
      second : (x y : X) → wins x a ≡ true → wins y a ≡ false → wins y x ≡ false
      second x y e f = o.chain y a x f (o.one_way x a e)

      at : (b c : Bool) → wins v a ≡ b → wins w a ≡ c → cond (wins w (cond (wins v a) v a)) w (cond (wins v a) v a) ≡ cond (wins v (cond (wins w a) w a)) v (cond (wins w a) w a)
      at true true e f = rw (e, f) (better-comm v w)
      at true false e f = let g = second v w e f in rw (e, f, g, e) refl
      at false true e f = let g = second w v f e in rw (e, f, g) refl
      at false false e f = rw (e, f, e) refl

  better-again : (a v : X) → better (better a v) v ≡ better a v
  better-again a v = at (wins v a) refl
    where
      itself : (b : Bool) → cond b v v ≡ v
      itself true = refl
      itself false = refl

      at : (b : Bool) → wins v a ≡ b → cond (wins v (cond (wins v a) v a)) v (cond (wins v a) v a) ≡ cond (wins v a) v a
      at true e = rw e (itself (wins v v))
      at false e = rw (e, e) refl

value_ranks : IsStrictWeakOrder (λ a b. is_lt (value_order a b))
value_ranks = ranks_by value_total (λ (value : Value). value)

lt_exact : (a b : Value) → is_lt (value_order a b) ≡ false → is_lt (value_order b a) ≡ false → a ≡ b
lt_exact a b e f = value_exact a b (at (value_order a b) (value_order b a) e f (value_total.antisymm a b))
  where
    at : (o p : Ordering) → is_lt o ≡ false → is_lt p ≡ false → o ≡ ordering_reverse p → o ≡ Equal
    at Less p e f r = cc
    at Equal p e f r = refl
    at Greater Less e f r = cc
    at Greater Equal e f r = cc
    at Greater Greater e f r = cc

gt_is : (a b : Value) → is_gt (value_order a b) ≡ is_lt (value_order b a)
gt_is a b = ap is_gt (value_total.antisymm a b) ∙ at (value_order b a)
  where
    at : (o : Ordering) → is_gt (ordering_reverse o) ≡ is_lt o
    at Less = refl
    at Equal = refl
    at Greater = refl

abbrev least : Value → Value → Value
least = better (λ a b. is_lt (value_order a b)) value_ranks lt_exact

abbrev greatest : Value → Value → Value
greatest = better (λ a b. is_lt (value_order b a)) (IsStrictWeakOrder-flip (λ a b. is_lt (value_order a b)) value_ranks) (λ a b e f. lt_exact a b f e)

lesser_of_known : (best value : Value) → is_null best ≡ false → lesser best value ≡ least best value
lesser_of_known best value e = rw e refl

greater_of_known : (best value : Value) → is_null best ≡ false → greater best value ≡ greatest best value
greater_of_known best value e = rw (e, gt_is value best) refl

-- ---- what a place shows

plus-swap : (total : Option ℤ) (a b : Value) → plus (plus total a) b ≡ plus (plus total b) a
plus-swap None a b = ap Some (+ℤ_comm (number_in a) (number_in b))
plus-swap (Some t) a b = ap Some (+ℤ_assoc t (number_in a) (number_in b) ∙ ap (λ n. t +ℤ n) (+ℤ_comm (number_in a) (number_in b)) ∙ sym (+ℤ_assoc t (number_in b) (number_in a)))

lesser_is : (best value : Value) → lesser best value ≡ least best value
lesser_is Null Null = refl
lesser_is Null (Int n) = refl
lesser_is Null (Text t) = refl
lesser_is Null (Day d) = refl
lesser_is (Int m) value = refl
lesser_is (Text s) value = refl
lesser_is (Day c) value = refl

lesser-swap : (best v w : Value) → lesser (lesser best v) w ≡ lesser (lesser best w) v
lesser-swap best v w =
    lesser_is (lesser best v) w ∙ ap (λ b. least b w) (lesser_is best v) ∙ better-swap (λ a b. is_lt (value_order a b)) value_ranks lt_exact best v w
    ∙ sym (ap (λ b. least b v) (lesser_is best w)) ∙ sym (lesser_is (lesser best w) v)

pub lesser-again : (best v : Value) → lesser (lesser best v) v ≡ lesser best v
lesser-again best v =
    lesser_is (lesser best v) v ∙ ap (λ b. least b v) (lesser_is best v) ∙ better-again (λ a b. is_lt (value_order a b)) value_ranks lt_exact best v ∙ sym (lesser_is best v)

known_greater : (best value : Value) → is_null best ≡ false → is_null value ≡ false → is_null (greatest best value) ≡ false
known_greater best value e f = at (is_lt (value_order best value))
  where
    at : (b : Bool) → is_null (cond b value best) ≡ false
    at true = f
    at false = e

greater-swap : (best v w : Value) → is_null v ≡ false → is_null w ≡ false → greater (greater best v) w ≡ greater (greater best w) v
greater-swap best v w e f = at (is_null best) refl
  where
    gt : (x y : Value) → is_null x ≡ false → greater x y ≡ greatest x y
    gt = greater_of_known

    from_null : (value : Value) → is_null best ≡ true → greater best value ≡ value
    from_null value n = rw n refl

    at : (b : Bool) → is_null best ≡ b → greater (greater best v) w ≡ greater (greater best w) v
    at true n =
        ap (λ b. greater b w) (from_null v n) ∙ gt v w e ∙ better-comm (λ a b. is_lt (value_order b a)) (IsStrictWeakOrder-flip (λ a b. is_lt (value_order a b)) value_ranks) (λ a b e f. lt_exact a b f e) v w
        ∙ sym (gt w v f) ∙ sym (ap (λ b. greater b v) (from_null w n))
    at false n =
        ap (λ b. greater b w) (gt best v n) ∙ gt (greatest best v) w (known_greater best v n e)
        ∙ better-swap (λ a b. is_lt (value_order b a)) (IsStrictWeakOrder-flip (λ a b. is_lt (value_order a b)) value_ranks) (λ a b e f. lt_exact a b f e) best v w
        ∙ sym (gt (greatest best w) v (known_greater best w n f)) ∙ sym (ap (λ b. greater b v) (gt best w n))

pub greater-again : (best v : Value) → is_null v ≡ false → greater (greater best v) v ≡ greater best v
greater-again best v e = at (is_null best) refl
  where
    again : (w : Value) → is_null w ≡ false → greatest (greatest w v) v ≡ greatest w v
    again w n = better-again (λ a b. is_lt (value_order b a)) (IsStrictWeakOrder-flip (λ a b. is_lt (value_order a b)) value_ranks) (λ a b e f. lt_exact a b f e) w v

    itself : (b : Bool) → cond b v v ≡ v
    itself true = refl
    itself false = refl

    at : (b : Bool) → is_null best ≡ b → greater (greater best v) v ≡ greater best v
    at true n =
        let alone : greater best v ≡ v = rw n refl in
        ap (λ b. greater b v) alone ∙ greater_of_known v v e ∙ itself (is_lt (value_order v v)) ∙ sym alone
    at false n =
        ap (λ b. greater b v) (greater_of_known best v n) ∙ greater_of_known (greatest best v) v (known_greater best v n e) ∙ again best n ∙ sym (greater_of_known best v n)

-- two rows in a place, in either order
pub added-swap : (out : BoundOut) (was : Shown) (a b : List Value) → added out (added out was a) b ≡ added out (added out was b) a
added-swap (out.Column column) was a b = refl
added-swap out.CountAll (shown.Value v) a b = refl
added-swap out.CountAll (shown.Count n) a b = refl
added-swap out.CountAll (shown.Sum t) a b = refl
added-swap (out.Count column) (shown.Value v) a b = refl
added-swap (out.Count column) (shown.Count n) a b = at (is_null (value_at a column)) (is_null (value_at b column)) refl refl
  where
    at : (x y : Bool) → is_null (value_at a column) ≡ x → is_null (value_at b column) ≡ y → added (out.Count column) (added (out.Count column) (shown.Count n) a) b ≡ added (out.Count column) (added (out.Count column) (shown.Count n) b) a
    at true true e f = rw (e, f, e) refl
    at true false e f = rw (e, f, e) refl
    at false true e f = rw (e, f, e) refl
    at false false e f = rw (e, f, e) refl
added-swap (out.Count column) (shown.Sum t) a b = refl
added-swap (out.Sum column) (shown.Value v) a b = refl
added-swap (out.Sum column) (shown.Count n) a b = refl
added-swap (out.Sum column) (shown.Sum t) a b = at (is_null (value_at a column)) (is_null (value_at b column)) refl refl
  where
    at : (x y : Bool) → is_null (value_at a column) ≡ x → is_null (value_at b column) ≡ y → added (out.Sum column) (added (out.Sum column) (shown.Sum t) a) b ≡ added (out.Sum column) (added (out.Sum column) (shown.Sum t) b) a
    at true true e f = rw (e, f, e) refl
    at true false e f = rw (e, f, e) refl
    at false true e f = rw (e, f, e) refl
    at false false e f = rw (e, f, e) (ap shown.Sum (plus-swap t (value_at a column) (value_at b column)))
added-swap (out.Min column) (shown.Value v) a b = at (is_null (value_at a column)) (is_null (value_at b column)) refl refl
  where
    at : (x y : Bool) → is_null (value_at a column) ≡ x → is_null (value_at b column) ≡ y → added (out.Min column) (added (out.Min column) (shown.Value v) a) b ≡ added (out.Min column) (added (out.Min column) (shown.Value v) b) a
    at true true e f = rw (e, f, e) refl
    at true false e f = rw (e, f, e) refl
    at false true e f = rw (e, f, e) refl
    at false false e f = rw (e, f, e) (ap shown.Value (lesser-swap v (value_at a column) (value_at b column)))
added-swap (out.Min column) (shown.Count n) a b = refl
added-swap (out.Min column) (shown.Sum t) a b = refl
added-swap (out.Max column) (shown.Value v) a b = at (is_null (value_at a column)) (is_null (value_at b column)) refl refl
  where
    at : (x y : Bool) → is_null (value_at a column) ≡ x → is_null (value_at b column) ≡ y → added (out.Max column) (added (out.Max column) (shown.Value v) a) b ≡ added (out.Max column) (added (out.Max column) (shown.Value v) b) a
    at true true e f = rw (e, f, e) refl
    at true false e f = rw (e, f, e) refl
    at false true e f = rw (e, f, e) refl
    at false false e f = rw (e, f, e) (ap shown.Value (greater-swap v (value_at a column) (value_at b column) e f))
added-swap (out.Max column) (shown.Count n) a b = refl
added-swap (out.Max column) (shown.Sum t) a b = refl

-- ---- rows in any place

module _ {X Y : Type 0} (add : Y → X → Y) (swaps : (y : Y) (a b : X) → add (add y a) b ≡ add (add y b) a) where
  fold_front : (y : Y) (x : X) (xs : List X) → fold add (add y x) xs ≡ add (fold add y xs) x
  fold_front y x [] = refl
  fold_front y x (z ∷ xs) = ap (λ w. fold add w xs) (swaps y x z) ∙ fold_front (add y z) x xs

shown_from : (out : BoundOut) (first : List Value) (done rows : List (List Value)) → shown_of out first (done ++ rows) ≡ fold (added out) (shown_of out first done) rows
shown_from out first done [] = ap (shown_of out first) (nothing done)
  where
    nothing : (xs : List (List Value)) → xs ++ [] ≡ xs
    nothing [] = refl
    nothing (x ∷ xs) = ap (λ r. x ∷ r) (nothing xs)
shown_from out first done (row ∷ rows) =
    ap (shown_of out first) (sym (append_assoc done (row ∷ []) rows)) ∙ shown_from out first (done ++ row ∷ []) rows ∙ ap (λ was. fold (added out) was rows) (shown_of-more out first done row)

-- a row in front of others
shown_front : (out : BoundOut) (first row : List Value) (rows : List (List Value)) → shown_of out first (row ∷ rows) ≡ added out (shown_of out first rows) row
shown_front out first row rows =
    shown_from out first [] (row ∷ rows) ∙ fold_front (added out) (added-swap out) (shown_of out first []) row rows ∙ ap (λ was. added out was row) (sym (shown_from out first [] rows))

module _ (before : Row → Row → Bool) where
  shown_placed : (out : BoundOut) (first : List Value) (row : Row) (rows : List Row) → shown_of out first (values_of (placed before row rows)) ≡ added out (shown_of out first (values_of rows)) row.values
  shown_placed out first row [] = shown_front out first row.values []
  shown_placed out first row (r ∷ rows) = at (before r row) (shown_placed out first row rows)
    where
      at : (b : Bool) → shown_of out first (values_of (placed before row rows)) ≡ added out (shown_of out first (values_of rows)) row.values
          → shown_of out first (values_of (cond b (r ∷ placed before row rows) (row ∷ r ∷ rows))) ≡ added out (shown_of out first (values_of (r ∷ rows))) row.values
      at true rest =
          shown_front out first r.values (values_of (placed before row rows)) ∙ ap (λ was. added out was r.values) rest ∙ added-swap out (shown_of out first (values_of rows)) row.values r.values
          ∙ ap (λ was. added out was row.values) (sym (shown_front out first r.values (values_of rows)))
      at false rest = shown_front out first row.values (values_of (r ∷ rows))

  -- a line with one more row in any place
  pub line_placed : (shape : Shape) (first : List Value) (row : Row) (rows : List Row) → line_of shape first (values_of (placed before row rows)) ≡ with_row shape.outs (line_of shape first (values_of rows)) row.values
  line_placed shape first row rows = ap (λ shows. record { sorts = map (λ part. value_at first part.column) shape.order; shows = shows }) (all shape.outs)
    where
      all : (outs : List BoundOut) → map (λ out. shown_of out first (values_of (placed before row rows))) outs ≡ in_places added outs (map (λ out. shown_of out first (values_of rows)) outs) row.values
      all [] = refl
      all (out ∷ outs) = let here = shown_placed out first row rows in let rest = all outs in cc

-- ---- a group with one more row

begun_place : (out : BoundOut) (first : List Value) (rows : List (List Value)) (row : List Value) → begun out (added out (shown_of out first rows) row) row ≡ added out (shown_of out row rows) row
begun_place (out.Column column) first rows row = refl
begun_place out.CountAll first rows row = refl
begun_place (out.Count column) first rows row = at (is_null (value_at row column)) (shown_of (out.Count column) first rows)
  where
    at : (b : Bool) (was : Shown) → added (out.Count column) was row ≡ added (out.Count column) was row
    at b was = refl
begun_place (out.Sum column) first rows row = refl
begun_place (out.Min column) first rows row = refl
begun_place (out.Max column) first rows row = refl

begun_line : (shape : Shape) (first : List Value) (rows : List (List Value)) (row : List Value) → begun_with shape (with_row shape.outs (line_of shape first rows) row) row ≡ with_row shape.outs (line_of shape row rows) row
begun_line shape first rows row = ap (λ shows. record { sorts = map (λ part. value_at row part.column) shape.order; shows = shows }) (all shape.outs)
  where
    all : (outs : List BoundOut) → in_places begun outs (in_places added outs (map (λ out. shown_of out first rows) outs) row) row ≡ in_places added outs (map (λ out. shown_of out row rows) outs) row
    all [] = refl
    all (out ∷ outs) = let here = begun_place out first rows row in let rest = all outs in cc

abbrev some_line : ℕ → Line → Option Numbered
some_line n line = Some (record { number = n; line = line })

-- what comes later stands behind those with its number
abbrev pub no_higher : Row → Row → Bool
no_higher a b = not (nat_lt b.number a.number)

pub group_joined : (shape : Shape) (row first : Row) (rows : List Row)
    → line_of_group shape (placed no_higher row (first ∷ rows)) ≡ Some (joined shape (record { number = first.number; line = line_of shape first.values (values_of (first ∷ rows)) }) row)
group_joined shape row first rows = at (nat_lt row.number first.number) refl
  where
    at : (b : Bool) → nat_lt row.number first.number ≡ b → line_of_group shape (placed no_higher row (first ∷ rows)) ≡ Some (joined shape (record { number = first.number; line = line_of shape first.values (values_of (first ∷ rows)) }) row)
    at true e =
        rw e (ap (some_line row.number)
        (line_placed (λ a b. false) shape row.values row (first ∷ rows) ∙ sym (begun_line shape first.values (values_of (first ∷ rows)) row.values)))
    at false e =
        let whole : line_of shape first.values (values_of (first ∷ placed no_higher row rows)) ≡ with_row shape.outs (line_of shape first.values (values_of (first ∷ rows))) row.values
        = (let placed_is : first ∷ placed no_higher row rows ≡ placed no_higher row (first ∷ rows) = rw e refl in ap (λ (rs : List Row). line_of shape first.values (values_of rs)) placed_is) ∙ line_placed no_higher shape first.values row (first ∷ rows) in
        rw e (ap (some_line first.number) whole)
