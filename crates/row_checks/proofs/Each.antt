-- Tests of numbers, and of each of a list.
use Rattle.std.proofs.Common.{◌≡◌, ◌<◌, ℕ, zero, suc, List, [], ◌∷◌, length, get_or, arith}
use Rattle.std.specs.Prelude.{Bool, IsTrue, ◌==◌}
use Rattle.std.specs.List.{list_all}
use Rattle.std.proofs.lemmas.Bool.Decides.{nat_tests}
use Rattle.mdc_ast.proofs.TestsLemmas.{both}

-- equal numbers pass the test, and numbers that pass it are equal
pub same_number : (m n : ℕ) → m ≡ n → IsTrue (m == n)
same_number m n e = grind (arith, nat_tests, e)

pub number_is : (m n : ℕ) → IsTrue (m == n) → m ≡ n
number_is m n e = grind (arith, nat_tests, e)

-- what each passes, the one at a place passes
pub list_all-at : {X : Type 0} (test : X → Bool) (xs : List X) (i : ℕ) (x : X) → i < length xs → x ≡ get_or xs i x → IsTrue (list_all test xs) → IsTrue (test x)
list_all-at test [] i x lt e h = absurd (omega arith)
list_all-at test (first ∷ xs) zero x lt e h = rw e (both (test first) (list_all test xs) h).0
list_all-at test (first ∷ xs) (suc i) x lt e h =
    let below : i < length xs = omega arith in
    list_all-at test xs i x below e (both (test first) (list_all test xs) h).1
