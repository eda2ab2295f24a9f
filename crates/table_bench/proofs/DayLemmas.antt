-- A number that is made from a year, a month and a day names that day.
use Rattle.std.proofs.Common.{◌≡◌, ℕ, ◌+◌, ◌≤◌, Bool, true, false, cond, refl, arith}
use Rattle.std.specs.Prelude.{IsTrue, ◌&&◌, pos, int_le, ◌*◌, ◌/◌, ◌%◌}
use Rattle.std.proofs.lemmas.Bool.Decides.{nat_tests}
use Rattle.mdc_values.specs.declared.value.Value.TheVariants.{Day}
use Rattle.mdc_ast.specs.Database.{fits, is_day_number}
use Rattle.table_bench.specs.TableW.{column_s}

-- the parts of a number yyyymmdd
year_of : (year month day : ℕ) → month ≤ 12 → day ≤ 28 → (10000 * year + 100 * month + day) / 10000 ≡ year
year_of year month day m d = omega (arith, m, d)

month_of : (year month day : ℕ) → month ≤ 12 → day ≤ 28 → (10000 * year + 100 * month + day) / 100 % 100 ≡ month
month_of year month day m d = omega (arith, m, d)

date_of : (year month day : ℕ) → month ≤ 12 → day ≤ 28 → (10000 * year + 100 * month + day) % 100 ≡ day
date_of year month day m d = omega (arith, m, d)

-- no month has fewer than 28 days
days_many : (p q r : Bool) → 28 ≤ cond p (cond q 29 28) (cond r 30 31)
days_many true true r = omega arith
days_many true false r = omega arith
days_many false q true = omega arith
days_many false q false = omega arith

is_at_most : (m n : ℕ) → m ≤ n → IsTrue (int_le (pos m) (pos n))
is_at_most m n h = grind (arith, nat_tests, h)

all_six : (a b c d e f : Bool) → IsTrue a → IsTrue b → IsTrue c → IsTrue d → IsTrue e → IsTrue f → IsTrue (a && b && c && d && e && f)
all_six true true true true true true at bt ct dt et ft = refl
all_six true true true true true false at bt ct dt et ft = absurd (cc)
all_six true true true true false f at bt ct dt et ft = absurd (cc)
all_six true true true false e f at bt ct dt et ft = absurd (cc)
all_six true true false d e f at bt ct dt et ft = absurd (cc)
all_six true false c d e f at bt ct dt et ft = absurd (cc)
all_six false b c d e f at bt ct dt et ft = absurd (cc)

is_early_day : (year month day : ℕ) → 1 ≤ year → year ≤ 9999 → 1 ≤ month → month ≤ 12 → 1 ≤ day → day ≤ 28 → IsTrue (is_day_number (10000 * year + 100 * month + day))
is_early_day year month day y1 y2 m1 m2 d1 d2 =
    rw (year_of year month day m2 d2, month_of year month day m2 d2, date_of year month day m2 d2)
    (all_six (int_le (pos 1) (pos year)) (int_le (pos year) (pos 9999)) (int_le (pos 1) (pos month)) (int_le (pos month) (pos 12)) (int_le (pos 1) (pos day)) _
    (is_at_most 1 year y1) (is_at_most year 9999 y2) (is_at_most 1 month m1) (is_at_most month 12 m2) (is_at_most 1 day d1) (is_at_most day _ (le_trans day 28 _ d2 (days_many _ _ _))))
  where
    le_trans : (a b c : ℕ) → a ≤ b → b ≤ c → a ≤ c
    le_trans a b c h k = omega (arith, h, k)

and_true : (b : Bool) → IsTrue b → IsTrue (b && true)
and_true true h = refl
and_true false h = absurd (cc)

pub early_day_fits : (year month day : ℕ) → 1 ≤ year → year ≤ 9999 → 1 ≤ month → month ≤ 12 → 1 ≤ day → day ≤ 28 → IsTrue (fits column_s (Day (10000 * year + 100 * month + day)))
early_day_fits year month day y1 y2 m1 m2 d1 d2 = and_true (is_day_number (10000 * year + 100 * month + day)) (is_early_day year month day y1 y2 m1 m2 d1 d2)
