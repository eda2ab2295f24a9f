-- Tests that are true, and options that are the same.
use Rattle.std.proofs.Common.{◌≡◌, ℕ, ◌<◌, Bool, true, false, refl, arith}
use Rattle.std.specs.Prelude.{IsTrue, ◌&&◌, nat_lt, Some}
use Rattle.std.proofs.lemmas.Bool.Decides.{nat_tests}

pub and_true : (a b : Bool) → IsTrue a → IsTrue b → IsTrue (a && b)
and_true true b h k = k
and_true false b h k = cc

pub both : (a b : Bool) → IsTrue (a && b) → IsTrue a × IsTrue b
both true b h = (refl, h)
both false b h = cc

pub some_is : {X : Type 0} (x y : X) → Some x ≡ Some y → x ≡ y
some_is x y e = cc

pub lt_is_true : (i n : ℕ) → i < n → IsTrue (nat_lt i n)
lt_is_true i n lt = grind (arith, nat_tests, lt)
