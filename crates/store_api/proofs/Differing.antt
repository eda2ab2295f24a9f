-- In how many pages two lists differ.
use Rattle.std.proofs.Common.{◌≡◌, ℕ, zero, suc, ◌+◌, ◌-◌, ◌≤◌, Bool, true, false, cond, List, [], ◌∷◌, length, take, set, refl, arith}
use Rattle.std.specs.Str.{bytes_eq}
use Rattle.std.proofs.lemmas.List.{length-set}
use Rattle.std.proofs.lemmas.Slice.Eq.{bytes_eq-Decides}
use Rattle.store_api.specs.declared.history.Change.{Change}
use Rattle.store_api.specs.History.{undone}
use Rattle.store_api.specs.StoreState.{differing}

-- a page counts once at most
one_at_most : (same : Bool) → cond same 0 1 ≤ 1
one_at_most true = omega arith
one_at_most false = omega arith

-- a write makes one page more differ, at most
pub differing-set : (base work : List (List ℕ)) (p : ℕ) (bytes : List ℕ) → differing (set base p bytes) work ≤ differing base work + 1
differing-set [] work zero bytes = omega arith
differing-set [] work (suc p) bytes = omega arith
differing-set (page ∷ base) [] zero bytes = omega arith
differing-set (page ∷ base) [] (suc p) bytes = omega (arith, length-set base p bytes)
differing-set (page ∷ base) (new ∷ work) zero bytes = omega (arith, one_at_most (bytes_eq bytes new))
differing-set (page ∷ base) (new ∷ work) (suc p) bytes = omega (arith, differing-set base work p bytes)

-- a list and a front of it differ in the rest
pub differing-take : (n : ℕ) (work : List (List ℕ)) → differing (take n work) work ≤ length work - n
differing-take zero [] = omega arith
differing-take zero (page ∷ work) = omega arith
differing-take (suc n) [] = omega arith
differing-take (suc n) (page ∷ work) =
    let same : bytes_eq page page ≡ true = (bytes_eq-Decides page page).1 refl in
    rw same (omega (arith, differing-take n work))

-- each change and each page behind the front makes one page differ, at most
pub differing-undone : (changes : List Change) (n : ℕ) (work : List (List ℕ)) → differing (undone changes (take n work)) work ≤ length changes + (length work - n)
differing-undone [] n work = omega (arith, differing-take n work)
differing-undone (change ∷ changes) n work =
    omega (arith, differing-undone changes n work, differing-set (undone changes (take n work)) work change.page change.was)

-- no more pages differ than there are
pub differing-le : (base work : List (List ℕ)) → length base ≤ length work → differing base work ≤ length work
differing-le [] work h = omega arith
differing-le (page ∷ base) [] h = omega arith
differing-le (page ∷ base) (new ∷ work) h =
    omega (arith, one_at_most (bytes_eq page new), differing-le base work (omega arith))
