-- A generated value of a base value in a span lies in the derived span.
use Rattle.std.proofs.Common.{◌≡◌, ℕ, ◌<◌, ◌≤◌, ◌/◌, ◌%◌, Bool, true, false, not, cond, ℤ, pos, neg_ℤ, ◌+ℤ◌, ◌-ℤ◌, ◌≤ℤ◌, IsTrue, refl, subst, arith}
use Rattle.std.specs.Prelude.{◌&&◌, int_lt, int_le}
use Rattle.std.specs.Ordering.{int_cmp, nat_cmp, is_ge, is_gt}
use Rattle.std.proofs.lemmas.Int.{ints}
use Rattle.std.proofs.lemmas.Bool.Decides.{nat_tests}
use Rattle.mdc_values.specs.declared.value.ColType.{ColType}
use Rattle.mdc_values.specs.declared.value.ColType.TheVariants as column
use Rattle.mdc_values.specs.declared.value.Value.{Value}
use Rattle.mdc_values.specs.declared.value.Value.TheVariants.{Null, Int, Day}
use Rattle.mdc_ast.specs.Database.{is_day_number, is_of_type}
use Rattle.mdc_ast.specs.FittingRows.{generated_value}
use Rattle.mdc_ast.specs.Kinds.{is_number}
use Rattle.mdc_ast.specs.TableLimits.{accepts_base}
use Rattle.mdc_ast.specs.declared.definition.GenExpr.{GenExpr}
use Rattle.mdc_ast.specs.declared.definition.GenKind.{GenKind}
use Rattle.mdc_ast.specs.declared.definition.GenKind.TheVariants.{IntegerOver, Month, Over, Plus, Year}
use Rattle.mdc_ast.specs.declared.span.Cut.{Cut}
use Rattle.mdc_ast.specs.declared.span.Cut.TheVariants.{First, Before, After, Last}
use Rattle.mdc_ast.specs.declared.span.Span.{Span}
use Rattle.key_codec.specs.Spans.{cut_has_kind_of, is_above, lies_in_span}
use Rattle.gen_columns.specs.DerivedSpans.{CoversValues, counted_as, greatest_number, high_number, is_month, least_number, low_number, nearest, span_of_numbers}
use Rattle.gen_columns.proofs.MadeNumbersLemmas.{lowest_number, made, made_is_generated, made_rises}

-- ---- the nearest number of 64 bits

-- a generated value that a column may hold is of 64 bits
of_64_low : (target : ColType) (n : ℤ) → IsTrue (is_of_type target (Int n)) → neg_ℤ (pos 9223372036854775808) ≤ℤ n
of_64_low column.Integer n h = grind (arith, ints)
of_64_low column.Bigint n h = grind (arith, ints)
of_64_low (column.Char length) n h = grind arith
of_64_low column.Date n h = grind arith

of_64_high : (target : ColType) (n : ℤ) → IsTrue (is_of_type target (Int n)) → n ≤ℤ pos 9223372036854775807
of_64_high column.Integer n h = grind (arith, ints)
of_64_high column.Bigint n h = grind (arith, ints)
of_64_high (column.Char length) n h = grind arith
of_64_high column.Date n h = grind arith

pub nearest_below : (n m : ℤ) → neg_ℤ (pos 9223372036854775808) ≤ℤ m → n ≤ℤ m → nearest n ≤ℤ m
nearest_below n m low le = grind (arith, ints)

nearest_above : (n m : ℤ) → n ≤ℤ pos 9223372036854775807 → n ≤ℤ m → n ≤ℤ nearest m
nearest_above n m high le = grind (arith, ints)

-- ---- order and numbers

int_at_least : (a b : ℤ) → is_ge (int_cmp a b) ≡ true → b ≤ℤ a
int_at_least a b h = grind (arith, ints)

int_above : (a b : ℤ) → is_gt (int_cmp a b) ≡ true → (b +ℤ pos 1) ≤ℤ a
int_above a b h = grind (arith, ints)

int_below : (a b : ℤ) → is_ge (int_cmp a b) ≡ false → a ≤ℤ (b -ℤ pos 1)
int_below a b h = grind (arith, ints)

int_at_most : (a b : ℤ) → is_gt (int_cmp a b) ≡ false → a ≤ℤ b
int_at_most a b h = grind (arith, ints)

day_at_least : (a b : ℕ) → is_ge (nat_cmp a b) ≡ true → pos b ≤ℤ pos a
day_at_least a b h = let le : b ≤ a = grind (arith, nat_tests) in omega (arith, ints)

day_above : (a b : ℕ) → is_gt (nat_cmp a b) ≡ true → (pos b +ℤ pos 1) ≤ℤ pos a
day_above a b h = let le : b < a = grind (arith, nat_tests) in omega (arith, ints)

day_below : (a b : ℕ) → is_ge (nat_cmp a b) ≡ false → pos a ≤ℤ (pos b -ℤ pos 1)
day_below a b h = let le : a < b = grind (arith, nat_tests) in omega (arith, ints)

day_at_most : (a b : ℕ) → is_gt (nat_cmp a b) ≡ false → pos a ≤ℤ pos b
day_at_most a b h = let le : a ≤ b = grind (arith, nat_tests) in omega (arith, ints)

-- ---- a value in a span lies between the numbers of its cuts

-- a number above a cut
number_over_low : (base : ColType) (n : ℤ) (cut : Cut) → IsTrue (is_number base) → IsTrue (cut_has_kind_of base cut) → least_number base ≤ℤ n → is_above cut (Int n) ≡ true → low_number base cut ≤ℤ n
number_over_low base n First numbers kind least h = least
number_over_low base n (Before (Int m)) numbers kind least h = int_at_least n m h
number_over_low base n (After (Int m)) numbers kind least h = int_above n m h
number_over_low column.Integer n cut numbers kind least h = cc
number_over_low column.Bigint n cut numbers kind least h = cc
number_over_low (column.Char length) n cut numbers kind least h = cc
number_over_low column.Date n cut numbers kind least h = cc

-- a number below a cut
number_under_high : (base : ColType) (n : ℤ) (cut : Cut) → IsTrue (is_number base) → IsTrue (cut_has_kind_of base cut) → n ≤ℤ greatest_number base → is_above cut (Int n) ≡ false → n ≤ℤ high_number base cut
number_under_high base n (Before Null) numbers kind greatest h = greatest
number_under_high base n (Before (Int m)) numbers kind greatest h = int_below n m h
number_under_high base n (After Null) numbers kind greatest h = greatest
number_under_high base n (After (Int m)) numbers kind greatest h = int_at_most n m h
number_under_high base n Last numbers kind greatest h = greatest
number_under_high column.Integer n cut numbers kind greatest h = cc
number_under_high column.Bigint n cut numbers kind greatest h = cc
number_under_high (column.Char length) n cut numbers kind greatest h = cc
number_under_high column.Date n cut numbers kind greatest h = cc

-- a day above a cut
day_over_low : (n : ℕ) (cut : Cut) → IsTrue (cut_has_kind_of column.Date cut) → least_number column.Date ≤ℤ pos n → is_above cut (Day n) ≡ true → low_number column.Date cut ≤ℤ pos n
day_over_low n First kind least h = least
day_over_low n (Before (Day m)) kind least h = day_at_least n m h
day_over_low n (After (Day m)) kind least h = day_above n m h
day_over_low n cut kind least h = cc

-- a day below a cut
day_under_high : (n : ℕ) (cut : Cut) → IsTrue (cut_has_kind_of column.Date cut) → pos n ≤ℤ greatest_number column.Date → is_above cut (Day n) ≡ false → pos n ≤ℤ high_number column.Date cut
day_under_high n (Before Null) kind greatest h = greatest
day_under_high n (Before (Day m)) kind greatest h = day_below n m h
day_under_high n (After Null) kind greatest h = greatest
day_under_high n (After (Day m)) kind greatest h = day_at_most n m h
day_under_high n Last kind greatest h = greatest
day_under_high n cut kind greatest h = cc

-- the low number of days isn't negative
low_day : (cut : Cut) → IsTrue (cut_has_kind_of column.Date cut) → pos 0 ≤ℤ low_number column.Date cut
low_day First kind = omega (arith, ints)
low_day (Before Null) kind = omega (arith, ints)
low_day (Before (Day m)) kind = omega (arith, ints)
low_day (After Null) kind = omega (arith, ints)
low_day (After (Day m)) kind = omega (arith, ints)
low_day Last kind = omega (arith, ints)
low_day cut kind = cc

-- ---- days of the calendar

-- no month has more than 31 days
days_few : (p q r : Bool) → cond p (cond q 29 28) (cond r 30 31) ≤ 31
days_few true true r = omega arith
days_few true false r = omega arith
days_few false q true = omega arith
days_few false q false = omega arith

le_of : (m n : ℕ) → IsTrue (int_le (pos m) (pos n)) → m ≤ n
le_of m n h = grind (arith, nat_tests, h)

-- each of six tests
pub record AllSix (a b c d e f : Bool) : Type 0 where
  pub first : IsTrue a
  pub second : IsTrue b
  pub third : IsTrue c
  pub fourth : IsTrue d
  pub fifth : IsTrue e
  pub sixth : IsTrue f

six : (a b c d e f : Bool) → IsTrue (a && b && c && d && e && f) → AllSix a b c d e f
six true true true true true true h = record { first = refl; second = refl; third = refl; fourth = refl; fifth = refl; sixth = refl }
six a b c d e f h = cc

-- the parts of a day of the calendar
pub record DayParts (day : ℕ) : Type 0 where
  pub least_year : 1 ≤ day / 10000
  pub greatest_year : day / 10000 ≤ 9999
  pub least_month : 1 ≤ day / 100 % 100
  pub greatest_month : day / 100 % 100 ≤ 12
  pub least_day : 1 ≤ day % 100
  pub greatest_day : day % 100 ≤ 31

day_parts : (day : ℕ) → IsTrue (is_day_number day) → DayParts day
day_parts day h =
    let is = six _ _ _ _ _ _ h in
    record {
      least_year = le_of 1 (day / 10000) is.first;
      greatest_year = le_of (day / 10000) 9999 is.second;
      least_month = le_of 1 (day / 100 % 100) is.third;
      greatest_month = le_of (day / 100 % 100) 12 is.fourth;
      least_day = le_of 1 (day % 100) is.fifth;
      greatest_day = le_trans (day % 100) _ 31 (le_of (day % 100) _ is.sixth) (days_few _ _ _);
    }
  where
    le_trans : (a b c : ℕ) → a ≤ b → b ≤ c → a ≤ c
    le_trans a b c h k = omega (arith, h, k)

-- the days of the calendar go from 0001-01-01 to 9999-12-31
day_least : (day : ℕ) → IsTrue (is_day_number day) → pos 10101 ≤ℤ pos day
day_least day h =
    let parts = day_parts day h in
    let least : 10101 ≤ day = omega (arith, parts.least_year, parts.least_month, parts.least_day) in
    omega (arith, ints, least)

day_greatest : (day : ℕ) → IsTrue (is_day_number day) → pos day ≤ℤ pos 99991231
day_greatest day h =
    let parts = day_parts day h in
    let greatest : day ≤ 99991231 = omega (arith, parts.greatest_year, parts.greatest_month, parts.greatest_day) in
    omega (arith, ints, greatest)

-- ---- the derived span

-- the two tests of a span
above_low : (a b : Bool) → IsTrue (a && not b) → a ≡ true
above_low true b h = refl
above_low false b h = cc

below_high : (a b : Bool) → IsTrue (a && not b) → b ≡ false
below_high true true h = cc
below_high true false h = refl
below_high false b h = cc

-- the two parts of a conjunction
both_left : (a b : Bool) → IsTrue (a && b) → IsTrue a
both_left true b h = refl
both_left false b h = cc

both_right : (a b : Bool) → IsTrue (a && b) → IsTrue b
both_right true b h = h
both_right false b h = cc

-- a number between two others lies in the span of both
number_lies : (n low high : ℤ) → low ≤ℤ n → n ≤ℤ high → IsTrue (lies_in_span (record { low = Before (Int low); high = After (Int high) }) (Int n))
number_lies n low high le ge = grind (arith, ints)

-- Of a base value that counts as a number between low and high the generated value lies in the span of both.
module _ (e : GenExpr) (base : ColType) (accepts : IsTrue (accepts_base e.kind base e.k)) (rising : is_month e.kind ≡ false) (low high n : ℤ)
    (some : lowest_number base low) (some_n : lowest_number base n) (some_high : lowest_number base high) (le : low ≤ℤ n) (ge : n ≤ℤ high) (target : ColType) where
  at_n : ℤ
  at_n = made e.kind e.k n

  at_low : ℤ
  at_low = made e.kind e.k low

  at_high : ℤ
  at_high = made e.kind e.k high

  in_order : int_lt high low ≡ false
  in_order = grind (arith, ints)

  pub made_lies : IsTrue (is_of_type target (generated_value e.kind e.k (counted_as base n)))
      → IsTrue (lies_in_span (span_of_numbers e base low high) (generated_value e.kind e.k (counted_as base n)))
  unfolding at_n at_low at_high
  made_lies fits =
      rw (in_order, made_is_generated e.kind base e.k low accepts rising some, made_is_generated e.kind base e.k n accepts rising some_n, made_is_generated e.kind base e.k high accepts rising some_high)
      (number_lies at_n (nearest at_low) (nearest at_high)
      (nearest_below at_low at_n (of_64_low target at_n whole) (made_rises e.kind base e.k low n accepts le))
      (nearest_above at_n at_high (of_64_high target at_n whole) (made_rises e.kind base e.k n high accepts ge)))
    where
      whole : IsTrue (is_of_type target (Int at_n))
      whole = subst (λ (value : Value). IsTrue (is_of_type target value)) (made_is_generated e.kind base e.k n accepts rising some_n) fits

-- no expression accepts a base of texts
no_text_accepted : (kind : GenKind) (length : ℕ) (k : ℤ) → IsTrue (accepts_base kind (column.Char length) k) → ⊥
no_text_accepted IntegerOver length k h = cc
no_text_accepted Year length k h = cc
no_text_accepted Month length k h = cc
no_text_accepted Over length k h = cc
no_text_accepted Plus length k h = cc

-- The derived span has the generated value of each value of the base that lies in its span.
module _ (e : GenExpr) (rising : is_month e.kind ≡ false) (span : Span) where
  pub derived_covers : (base : ColType) → CoversValues e base span (span_of_numbers e base (low_number base span.low) (high_number base span.high))
  derived_covers column.Integer accepts kinds target (Int n) typed some lies fits =
      made_lies e column.Integer accepts rising (low_number column.Integer span.low) (high_number column.Integer span.high) n tt tt tt
      (number_over_low column.Integer n span.low refl (both_left _ _ kinds) (grind (arith, ints)) (above_low _ (is_above span.high (Int n)) lies))
      (number_under_high column.Integer n span.high refl (both_right (cut_has_kind_of column.Integer span.low) _ kinds) (grind (arith, ints)) (below_high (is_above span.low (Int n)) _ lies))
      target fits
  derived_covers column.Bigint accepts kinds target (Int n) typed some lies fits =
      made_lies e column.Bigint accepts rising (low_number column.Bigint span.low) (high_number column.Bigint span.high) n tt tt tt
      (number_over_low column.Bigint n span.low refl (both_left _ _ kinds) (grind (arith, ints)) (above_low _ (is_above span.high (Int n)) lies))
      (number_under_high column.Bigint n span.high refl (both_right (cut_has_kind_of column.Bigint span.low) _ kinds) (grind (arith, ints)) (below_high (is_above span.low (Int n)) _ lies))
      target fits
  derived_covers column.Date accepts kinds target (Day day) typed some lies fits =
      made_lies e column.Date accepts rising (low_number column.Date span.low) (high_number column.Date span.high) (pos day)
      (low_day span.low (both_left _ _ kinds)) (omega (arith, ints)) (le_trans_int 0 day (high_number column.Date span.high) (omega arith) below)
      (day_over_low day span.low (both_left _ _ kinds) (day_least day typed) (above_low _ (is_above span.high (Day day)) lies))
      below target fits
    where
      below : pos day ≤ℤ high_number column.Date span.high
      below = day_under_high day span.high (both_right (cut_has_kind_of column.Date span.low) _ kinds) (day_greatest day typed) (below_high (is_above span.low (Day day)) _ lies)

      le_trans_int : (a b : ℕ) (c : ℤ) → a ≤ b → pos b ≤ℤ c → pos a ≤ℤ c
      le_trans_int a b c h k = omega (arith, ints, h, k)
  derived_covers (column.Char length) accepts kinds target value typed some lies fits = absurd (no_text_accepted e.kind length e.k accepts)
  derived_covers base accepts kinds target value typed some lies fits = cc
