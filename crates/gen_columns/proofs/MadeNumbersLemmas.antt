-- What an expression makes of numbers rises with them, but for the month.
use Rattle.std.proofs.Common.{◌≡◌, ℕ, suc, zero, ◌/◌, ◌<◌, ◌≤◌, true, false, ℤ, pos, negsuc, ◌+ℤ◌, ◌≤ℤ◌, IsTrue, ap, refl, arith}
use Rattle.std.specs.Prelude.{◌&&◌, int_div, int_le, unsigned_abs, Bool}
use Rattle.std.proofs.lemmas.Int.{ints}
use Rattle.std.proofs.lemmas.Nat.{le-div}
use Rattle.std.proofs.Math.Nat.{div-mul-le_self}
use Rattle.mdc_values.specs.declared.value.ColType.{ColType}
use Rattle.mdc_values.specs.declared.value.ColType.TheVariants as column
use Rattle.mdc_values.specs.declared.value.Value.TheVariants.{Int}
use Rattle.mdc_ast.specs.FittingRows.{generated_value}
use Rattle.mdc_ast.specs.TableLimits.{accepts_base}
use Rattle.mdc_ast.specs.declared.definition.GenKind.{GenKind}
use Rattle.mdc_ast.specs.declared.definition.GenKind.TheVariants.{IntegerOver, Month, Over, Plus, Year}
use Rattle.gen_columns.specs.DerivedSpans.{counted_as, is_month}

-- ---- quotients

-- a quotient of naturals rises
div_rises : (a b k : ℕ) → 0 < k → a ≤ b → a / k ≤ b / k
div_rises a b k some le = le-div (a / k) b k some (omega (arith, div-mul-le_self a k, le))

-- a quotient that drops the remainder towards zero rises, over negatives too
quot_rises : (a b : ℤ) (k : ℕ) → 0 < k → a ≤ℤ b → int_div a (pos k) ≤ℤ int_div b (pos k)
quot_rises (pos a) (pos b) k some le = let rise = div_rises a b k some (omega (arith, ints, le)) in omega (arith, ints)
quot_rises (pos a) (negsuc b) k some le = absurd (omega (arith, ints, le))
quot_rises (negsuc a) (pos b) k some le = omega (arith, ints)
quot_rises (negsuc a) (negsuc b) k some le = let rise = div_rises (suc b) (suc a) k some (omega (arith, ints, le)) in omega (arith, ints)

-- the same by a divisor that is at least 1
over_rises : (a b k : ℤ) → IsTrue (int_le (pos 1) k) → a ≤ℤ b → int_div a k ≤ℤ int_div b k
over_rises a b (pos zero) some le = grind (arith, ints)
over_rises a b (pos (suc k)) some le = quot_rises a b (suc k) (omega arith) le
over_rises a b (negsuc k) some le = grind (arith, ints)

-- ---- what is made

-- what an expression but MONTH makes of a number
abbrev pub made : GenKind → ℤ → ℤ → ℤ
made IntegerOver k n = int_div n k
made Year k n = int_div n (pos 10000)
made Month k n = pos 0
made Over k n = int_div n k
made Plus k n = n +ℤ k

-- the second part of a conjunction
second : (a b : Bool) → IsTrue (a && b) → IsTrue b
second true b h = h
second false b h = absurd cc

-- what is made of a number rises with it
pub made_rises : (kind : GenKind) (base : ColType) (k a b : ℤ) → IsTrue (accepts_base kind base k) → a ≤ℤ b → made kind k a ≤ℤ made kind k b
made_rises IntegerOver base k a b accepts le = over_rises a b k (second _ (int_le (pos 1) k) accepts) le
made_rises Year base k a b accepts le = quot_rises a b 10000 (omega arith) le
made_rises Month base k a b accepts le = omega (arith, ints)
made_rises Over base k a b accepts le = over_rises a b k (second _ (int_le (pos 1) k) accepts) le
made_rises Plus base k a b accepts le = omega (arith, ints, le)

-- the least number of a base of days is one of days
abbrev pub lowest_number : ColType → ℤ → Type 0
lowest_number column.Integer n = Unit {0}
lowest_number column.Bigint n = Unit {0}
lowest_number (column.Char length) n = Unit {0}
lowest_number column.Date n = pos 0 ≤ℤ n

-- a number that isn't negative is its size
pub size_of : (n : ℤ) → pos 0 ≤ℤ n → pos (unsigned_abs n) ≡ n
size_of (pos n) some = refl
size_of (negsuc n) some = absurd (omega (arith, ints, some))

-- it is the generated value for the base value that counts as the number
pub made_is_generated : (kind : GenKind) (base : ColType) (k n : ℤ) → IsTrue (accepts_base kind base k) → is_month kind ≡ false → lowest_number base n
    → generated_value kind k (counted_as base n) ≡ Int (made kind k n)
made_is_generated IntegerOver column.Date k n accepts rising some = ap (λ m. Int (int_div m k)) (size_of n some)
made_is_generated Year column.Date k n accepts rising some = ap (λ m. Int (int_div m (pos 10000))) (size_of n some)
made_is_generated Over column.Integer k n accepts rising some = refl
made_is_generated Over column.Bigint k n accepts rising some = refl
made_is_generated Plus column.Integer k n accepts rising some = refl
made_is_generated Plus column.Bigint k n accepts rising some = refl
made_is_generated kind base k n accepts rising some = cc
