-- The size of a database, and the counts that page 0 may state.
use Rattle.std.proofs.Common.{◌≡◌, ◌≤◌, ◌<◌, ◌+◌, ◌-◌, ◌*◌, ◌/◌, ◌%◌, ℕ, IsTrue, List, ◌++◌, take, drop, length, arith, sym, ap, ◌∙◌, Bool, true, eqb}
use Rattle.std.specs.List.{starts_with}
use Rattle.std.proofs.Math.Nat.{mul-le-mul_right, mul-div_cancel, mul-mod_left}
use Rattle.std.proofs.lemmas.Bool.Decides.{Decides-eqb, nat_tests}
use Rattle.std.proofs.lemmas.List.{take_at, take-append-drop}
use Rattle.std.proofs.lemmas.Slice.Eq.{starts_is}
use Rattle.store_api.specs.Extents.{is_shape, first_count}

-- what the limits say
pub record IsWithinLimits (extents pages : ℕ) : Type 0 where
  pub some : 4 ≤ extents
  pub few : extents ≤ 65536
  pub size : 2 ≤ pages
  pub all : extents * pages ≤ 262144

-- the limits of a shape
pub limits_of : (extents pages : ℕ) → IsTrue (is_shape extents pages) → IsWithinLimits extents pages
limits_of extents pages is =
    let some : 4 ≤ extents = grind (arith, nat_tests) in
    let few : extents ≤ 65536 = grind (arith, nat_tests) in
    let size : 2 ≤ pages = grind (arith, nat_tests) in
    let all : extents * pages ≤ 262144 = grind (arith, nat_tests) in
    record { some = some; few = few; size = size; all = all }

-- a count of whole extents
pub whole_extents : (first pages extents count : ℕ) → 0 < pages → first ≤ count → (count - first) % pages ≡ 0 → (count - first) / pages ≤ extents
    → (used : ℕ) × (used ≤ extents) × (count ≡ first + used * pages)
whole_extents first pages extents count some le none few = ((count - first) / pages, few, omega arith)

-- a count that isn't one of whole extents
pub not_whole : (first pages extents count used : ℕ) → 0 < pages → used ≤ extents → count ≡ first + used * pages
    → (first ≤ count) × ((count - first) % pages ≡ 0) × ((count - first) / pages ≤ extents)
not_whole first pages extents count used some few is =
    let added : count - first ≡ used * pages = omega arith in
    let quotient : (count - first) / pages ≡ used = ap (λ n. n / pages) added ∙ mul-div_cancel used some in
    (omega arith, ap (λ n. n % pages) added ∙ mul-mod_left used pages, omega arith)

-- how many pages there may be
pub count_limits : (extents pages used count : ℕ) → IsWithinLimits extents pages → used ≤ extents → count ≡ first_count extents + used * pages → (18 ≤ count) × (count ≤ 262289)
count_limits extents pages used count limits le is =
    let most = mul-le-mul_right pages le in
    (omega (arith, limits.some), omega (arith, limits.some, limits.few, limits.all, most))

-- a page begins with these four bytes exactly if the test says so
pub begins : (page four : List ℕ) (r : Bool) → length four ≡ 4 → r ≡ starts_with eqb page four → (r ≡ true → take 4 page ≡ four) × (take 4 page ≡ four → r ≡ true)
begins page four r size is =
    let tells = starts_is Decides-eqb page four r is in (
      λ yes. ap (take 4) (tells.0 yes) ∙ take_at four (drop (length four) page) 4 size,
      λ front. tells.1 (drop 4 page) (sym (take-append-drop 4 page) ∙ ap (λ xs. xs ++ drop 4 page) front),
    )
