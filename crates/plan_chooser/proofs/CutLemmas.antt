-- What lies above the higher and above the lower one of two cuts, and what lies in both of two spans.
use Rattle.std.proofs.Common.{◌≡◌, ◌∙◌, ℕ, Bool, true, false, not, refl, sym, ap, Ordering}
use Rattle.std.specs.Prelude.{◌&&◌, ◌||◌, if◌then◌else◌}
use Rattle.std.specs.declared.cmp.Ordering.TheVariants.{Less, Equal, Greater}
use Rattle.std.specs.Ordering.{is_ge, is_gt, is_le, is_lt, nat_cmp, ordering_reverse, ordering_then}
use Rattle.std.specs.Cmp.{IsTotalOrder}
use Rattle.std.specs.BTreeMap.Comparable.{le_lt_trans}
use Rattle.std.proofs.lemmas.Bool.{and_parts, false≢true}
use Rattle.std.proofs.lemmas.Cmp.{nat_cmp_total, on_total, then_total}
use Rattle.mdc_values.specs.declared.value.Value.{Value}
use Rattle.mdc_values.specs.declared.value.Value.TheVariants.{Null, Int, Text, Day}
use Rattle.mdc_values.specs.Order.{are_alike, order}
use Rattle.mdc_ast.specs.declared.span.Cut.{Cut}
use Rattle.mdc_ast.specs.declared.span.Cut.TheVariants.{First, Before, After, Last}
use Rattle.mdc_ast.specs.declared.span.Span.{Span}
use Rattle.key_codec.specs.Spans.{is_above, lies_in_span}
use Rattle.row_groups.specs.Values.{sql_order}
use Rattle.row_groups.proofs.OrderLemmas.{sql_total}
use Rattle.plan_chooser.specs.Narrowing.{both_spans, higher, is_below, lower}

-- ---- cuts and values in one order

-- a place among all values: below all or above all, and else before a value, at it or behind it
record Place : Type 0 where
  rank : ℕ
  value : Value
  side : ℕ

place_of_cut : Cut → Place
place_of_cut First = record { rank = 0; value = Null; side = 0 }
place_of_cut (Before x) = record { rank = 1; value = x; side = 0 }
place_of_cut (After x) = record { rank = 1; value = x; side = 2 }
place_of_cut Last = record { rank = 2; value = Null; side = 0 }

place_of_value : Value → Place
place_of_value v = record { rank = 1; value = v; side = 1 }

abbrev place_order : Place → Place → Ordering
place_order p q = ordering_then (nat_cmp p.rank q.rank) (ordering_then (sql_order p.value q.value) (nat_cmp p.side q.side))

place_total : IsTotalOrder place_order
place_total = then_total (on_total (λ (p : Place). p.rank) nat_cmp_total) (then_total (on_total (λ (p : Place). p.value) sql_total) (on_total (λ (p : Place). p.side) nat_cmp_total))

then_less : (o : Ordering) → is_lt (ordering_then o Less) ≡ is_le o
then_less Less = refl
then_less Equal = refl
then_less Greater = refl

then_equal : (o : Ordering) → is_lt (ordering_then o Equal) ≡ is_lt o
then_equal Less = refl
then_equal Equal = refl
then_equal Greater = refl

then_greater : (o : Ordering) → is_lt (ordering_then o Greater) ≡ is_lt o
then_greater Less = refl
then_greater Equal = refl
then_greater Greater = refl

below_is : (a b : Cut) → is_below a b ≡ is_lt (place_order (place_of_cut a) (place_of_cut b))
unfolding place_of_cut
below_is Last First = refl
below_is Last (Before y) = refl
below_is Last (After y) = refl
below_is Last Last = refl
below_is First First = refl
below_is First (Before y) = refl
below_is First (After y) = refl
below_is First Last = refl
below_is (Before x) First = refl
below_is (Before x) (Before y) = sym (then_equal (sql_order x y))
below_is (Before x) (After y) = sym (then_less (sql_order x y))
below_is (Before x) Last = refl
below_is (After x) First = refl
below_is (After x) (Before y) = sym (then_greater (sql_order x y))
below_is (After x) (After y) = sym (then_equal (sql_order x y))
below_is (After x) Last = refl

-- values of one kind go by that order
order_is : (a b : Value) → are_alike a b ≡ true → order a b ≡ sql_order a b
order_is Null Null h = refl
order_is Null (Int b) h = refl
order_is Null (Text b) h = refl
order_is Null (Day b) h = refl
order_is (Int a) Null h = refl
order_is (Text a) Null h = refl
order_is (Day a) Null h = refl
order_is (Int a) (Int b) h = refl
order_is (Int a) (Text b) h = absurd (false≢true h)
order_is (Int a) (Day b) h = absurd (false≢true h)
order_is (Text a) (Int b) h = absurd (false≢true h)
order_is (Text a) (Text b) h = refl
order_is (Text a) (Day b) h = absurd (false≢true h)
order_is (Day a) (Int b) h = absurd (false≢true h)
order_is (Day a) (Text b) h = absurd (false≢true h)
order_is (Day a) (Day b) h = refl

-- a value is of the kind of the one that a cut stands beside
abbrev pub cut_meets : Value → Cut → Bool
cut_meets v First = true
cut_meets v (Before x) = are_alike v x
cut_meets v (After x) = are_alike v x
cut_meets v Last = true

-- both cuts of a span are so
abbrev pub span_meets : Value → Span → Bool
span_meets v span = cut_meets v span.low && cut_meets v span.high

at_least : (o : Ordering) → is_ge (ordering_reverse o) ≡ is_lt (ordering_then o Less)
at_least Less = refl
at_least Equal = refl
at_least Greater = refl

beyond : (o : Ordering) → is_gt (ordering_reverse o) ≡ is_lt (ordering_then o Greater)
beyond Less = refl
beyond Equal = refl
beyond Greater = refl

above_is : (c : Cut) (v : Value) → cut_meets v c ≡ true → is_above c v ≡ is_lt (place_order (place_of_cut c) (place_of_value v))
unfolding place_of_cut place_of_value
above_is First v h = refl
above_is (Before x) v h = ap is_ge (order_is v x h ∙ sql_total.antisymm v x) ∙ at_least (sql_order x v)
above_is (After x) v h = ap is_gt (order_is v x h ∙ sql_total.antisymm v x) ∙ beyond (sql_order x v)
above_is Last v h = refl

is_less : (o : Ordering) → is_lt o ≡ true → o ≡ Less
is_less Less h = refl
is_less Equal h = absurd (false≢true h)
is_less Greater h = absurd (false≢true h)

not_less : (o : Ordering) → is_lt o ≡ false → is_le (ordering_reverse o) ≡ true
not_less Less h = absurd (false≢true (sym h))
not_less Equal h = refl
not_less Greater h = refl

-- ---- two cuts

module _ (v : Value) (a b : Cut) (meets_a : cut_meets v a ≡ true) (meets_b : cut_meets v b ≡ true) where
  -- what lies above the higher one lies above the lower one
  above_lower : is_below a b ≡ true → is_above b v ≡ true → is_above a v ≡ true
  above_lower below above =
      above_is a v meets_a
      ∙ ap is_lt (place_total.trans (place_of_cut a) (place_of_cut b) (place_of_value v)
      (is_less _ (sym (below_is a b) ∙ below)) (is_less _ (sym (above_is b v meets_b) ∙ above)))

  above_other : is_below a b ≡ false → is_above a v ≡ true → is_above b v ≡ true
  above_other below above =
      above_is b v meets_b
      ∙ ap is_lt (le_lt_trans place_total (place_of_cut b) (place_of_cut a) (place_of_value v)
      (ap is_le (place_total.antisymm (place_of_cut b) (place_of_cut a)) ∙ not_less _ (sym (below_is a b) ∙ below)) (is_less _ (sym (above_is a v meets_a) ∙ above)))

  and_first : (p q : Bool) → (p ≡ true → q ≡ true) → p ≡ (p && q)
  and_first true q h = sym (h refl)
  and_first false q h = refl

  and_second : (p q : Bool) → (q ≡ true → p ≡ true) → q ≡ (p && q)
  and_second true q h = refl
  and_second false true h = sym (h refl)
  and_second false false h = refl

  or_first : (p q : Bool) → (q ≡ true → p ≡ true) → p ≡ (p || q)
  or_first true q h = refl
  or_first false true h = h refl
  or_first false false h = refl

  or_second : (p q : Bool) → (p ≡ true → q ≡ true) → q ≡ (p || q)
  or_second true q h = h refl
  or_second false q h = refl

  pub above_higher : is_above (higher a b) v ≡ (is_above a v && is_above b v)
  above_higher = go (is_below a b) refl where
    go : (t : Bool) → is_below a b ≡ t → is_above (if is_below a b then b else a) v ≡ (is_above a v && is_above b v)
    go true e = ap (λ t. is_above (if t then b else a) v) e ∙ and_second (is_above a v) (is_above b v) (above_lower e)
    go false e = ap (λ t. is_above (if t then b else a) v) e ∙ and_first (is_above a v) (is_above b v) (above_other e)

  pub above_either : is_above (lower a b) v ≡ (is_above a v || is_above b v)
  above_either = go (is_below a b) refl where
    go : (t : Bool) → is_below a b ≡ t → is_above (if is_below a b then a else b) v ≡ (is_above a v || is_above b v)
    go true e = ap (λ t. is_above (if t then a else b) v) e ∙ or_first (is_above a v) (is_above b v) (above_lower e)
    go false e = ap (λ t. is_above (if t then a else b) v) e ∙ or_second (is_above a v) (is_above b v) (above_other e)

-- ---- two spans

apart : (p q r s : Bool) → ((p && q) && not (r || s)) ≡ ((p && not r) && (q && not s))
apart true true true s = refl
apart true true false s = refl
apart true false true s = refl
apart true false false s = refl
apart false q r s = refl

-- a value lies in what lies in both spans exactly where it lies in each
pub lies_in_both : (v : Value) (a b : Span) → span_meets v a ≡ true → span_meets v b ≡ true → lies_in_span (both_spans a b) v ≡ (lies_in_span a v && lies_in_span b v)
lies_in_both v a b meets_a meets_b =
    let of_a = and_parts (cut_meets v a.low) (cut_meets v a.high) meets_a in
    let of_b = and_parts (cut_meets v b.low) (cut_meets v b.high) meets_b in
    ap (λ p. p && not (is_above (lower a.high b.high) v)) (above_higher v a.low b.low of_a.0 of_b.0)
    ∙ ap (λ p. (is_above a.low v && is_above b.low v) && not p) (above_either v a.high b.high of_a.1 of_b.1)
    ∙ apart (is_above a.low v) (is_above b.low v) (is_above a.high v) (is_above b.high v)
