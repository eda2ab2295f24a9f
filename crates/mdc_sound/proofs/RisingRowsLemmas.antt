-- Plain rows by rising number: with a row more, with one less, and with another in the place of one.
use Rattle.std.proofs.Common.{◌≡◌, ◌≢◌, ◌<◌, ◌==◌, ℕ, zero, suc, List, [], ◌∷◌, ◌++◌, Bool, true, false, length, get_or, refl, ap, arith, sym, ◌∙◌, subst, inl, inr}
use Rattle.std.specs.Prelude.{AllPairs, Contains, IsPermutation, filter, if◌then◌else◌, map, not}
use Rattle.std.proofs.lemmas.Bool.{cases_Bool, cases_eq, eq-eqb, ne_eqb, not_from_false}
use Rattle.std.proofs.lemmas.List.{get_or-map, length-map}
use Rattle.std.proofs.lemmas.List.Elements.{Contains-get_or, Contains-push_cases}
use Rattle.std.proofs.lemmas.List.Kept.{AllPairs-filter}
use Rattle.std.proofs.lemmas.List.Sorted.{Contains-permutation, IsPermutation-append_comm, IsPermutation-append_left, IsPermutation-cons, IsPermutation-map, IsPermutation-refl, IsPermutation-sym, IsPermutation-to_front, IsPermutation-trans}
use Rattle.mdc_ast.specs.declared.row.Row.{Row}
use Rattle.mdc_sound.proofs.StandsForLemmas.{above_first, first_or_later, is_first, is_later, rest_rises}

-- by rising number
abbrev pub Rise : List Row → Type 0
Rise rows = AllPairs (λ a b. a.number < b.number) rows

-- of different numbers
abbrev pub Differ : List Row → Type 0
Differ rows = AllPairs (λ a b. a.number ≢ b.number) rows

-- ---- first and last rows

-- a row below all others may stand first
rises_first : (x : Row) (xs : List Row) → ((z : Row) → Contains xs z → x.number < z.number) → Rise xs → Rise (x ∷ xs)
rises_first x xs below rise zero zero d low high = absurd (omega (arith, low))
rises_first x xs below rise zero (suc j) d low high = below (get_or xs j d) (Contains-get_or xs j d (omega (arith, high)))
rises_first x xs below rise (suc i) zero d low high = absurd (omega (arith, low))
rises_first x xs below rise (suc i) (suc j) d low high = rise i j d (omega (arith, low)) (omega (arith, high))

-- and one above all others last
pub rises_last : (xs : List Row) (x : Row) → ((z : Row) → Contains xs z → z.number < x.number) → Rise xs → Rise (xs ++ x ∷ [])
rises_last [] x above rise = rises_first x [] (λ z there. absurd (omega (arith, there.1))) rise
rises_last (y ∷ ys) x above rise =
    rises_first y (ys ++ x ∷ []) (λ z there. elim (Contains-push_cases ys x z there) [
      | inl early ↦ above_first y ys rise z early
      | inr e ↦ subst (λ (r : Row). y.number < r.number) e (above y (is_first y ys))
    ]) (rises_last ys x (λ z there. above z (is_later y z ys there)) (rest_rises y ys rise))

-- the same rows with one more
pub perm_last : (all xs : List Row) (x : Row) → IsPermutation all xs → IsPermutation (x ∷ all) (xs ++ x ∷ [])
perm_last all xs x same =
    IsPermutation-trans (x ∷ all) (x ∷ xs) (xs ++ x ∷ []) (IsPermutation-cons x all xs same) (IsPermutation-sym (xs ++ x ∷ []) (x ∷ xs) (IsPermutation-to_front xs x))

-- the first of rows that differ has no other's number
differs_first : (x : Row) (xs : List Row) → Differ (x ∷ xs) → (z : Row) → Contains xs z → x.number ≢ z.number
differs_first x xs differ z (k, low, at) e = differ 0 (suc k) z (omega arith) (omega (arith, low)) (e ∙ sym (ap (λ (r : Row). r.number) at))

-- the rows behind it differ too
rest_differs : (x : Row) (xs : List Row) → Differ (x ∷ xs) → Differ xs
rest_differs x xs differ i j d low high = differ (suc i) (suc j) d (omega (arith, low)) (omega (arith, high))

-- ---- a row less

-- not the row of this number
other_than : ℕ → Row → Bool
other_than n row = not (row.number == n)

-- a row of another number is kept, and one of this number isn't
passes_other : (n : ℕ) (row : Row) → row.number ≢ n → other_than n row ≡ true
unfolding other_than
passes_other n row apart = not_from_false (row.number == n) (ne_eqb row.number n apart)

fails_same : (n : ℕ) (row : Row) → row.number ≡ n → other_than n row ≡ false
unfolding other_than
fails_same n row same = ap not (eq-eqb row.number n same)

-- a filter goes on behind an element that passes, or that doesn't
filter_first : (p : Row → Bool) (x : Row) (xs : List Row) → p x ≡ true → filter p (x ∷ xs) ≡ x ∷ filter p xs
filter_first p x xs is = rw is refl

filter_past : (p : Row → Bool) (x : Row) (xs : List Row) → p x ≡ false → filter p (x ∷ xs) ≡ filter p xs
filter_past p x xs is = rw is refl

-- an element that passes stays
in_filter : (p : Row → Bool) (xs : List Row) (z : Row) → Contains xs z → p z ≡ true → Contains (filter p xs) z
in_filter p [] z there is = absurd (omega (arith, there.1))
in_filter p (x ∷ xs) z there is = elim (first_or_later x z xs there) [
  | inl e ↦ subst (λ (all : List Row). Contains all z) (sym (filter_first p x xs (ap p e ∙ is))) (subst (Contains (x ∷ filter p xs)) e (is_first x (filter p xs)))
  | inr later ↦ elim (cases_Bool (p x)) [
    | inl here ↦ subst (λ (all : List Row). Contains all z) (sym (filter_first p x xs here)) (is_later x z (filter p xs) (in_filter p xs z later is))
    | inr out ↦ subst (λ (all : List Row). Contains all z) (sym (filter_past p x xs out)) (in_filter p xs z later is)
  ]
]

-- and no other comes
from_filter : (p : Row → Bool) (xs : List Row) (z : Row) → Contains (filter p xs) z → Contains xs z × (p z ≡ true)
from_filter p [] z there = absurd (omega (arith, there.1))
from_filter p (x ∷ xs) z there = elim (cases_Bool (p x)) [
  | inl here ↦ elim (first_or_later x z (filter p xs) (subst (λ (all : List Row). Contains all z) (filter_first p x xs here) there)) [
    | inl e ↦ (subst (Contains (x ∷ xs)) e (is_first x xs), ap p (sym e) ∙ here)
    | inr later ↦ let rest = from_filter p xs z later in (is_later x z xs rest.0, rest.1)
  ]
  | inr out ↦ let rest = from_filter p xs z (subst (λ (all : List Row). Contains all z) (filter_past p x xs out) there) in (is_later x z xs rest.0, rest.1)
]

-- rows that all pass stay
all_pass : (p : Row → Bool) (xs : List Row) → ((z : Row) → Contains xs z → p z ≡ true) → filter p xs ≡ xs
all_pass p [] each = refl
all_pass p (x ∷ xs) each = filter_first p x xs (each x (is_first x xs)) ∙ ap (λ (rest : List Row). x ∷ rest) (all_pass p xs (λ z there. each z (is_later x z xs there)))

-- a row of rows that rise may be put before the others
to_front : (x : Row) (ys : List Row) → Rise ys → Contains ys x → IsPermutation ys (x ∷ filter (other_than x.number) ys)
to_front x [] rise there = absurd (omega (arith, there.1))
to_front x (y ∷ ys) rise there = elim (first_or_later y x ys there) [
  | inl e ↦
      let rest : filter (other_than x.number) (y ∷ ys) ≡ ys =
      filter_past (other_than x.number) y ys (fails_same x.number y (ap (λ (r : Row). r.number) e))
      ∙ all_pass (other_than x.number) ys (λ z later. passes_other x.number z (λ same. omega (arith, same, above_first y ys rise z later, ap (λ (r : Row). r.number) e))) in
      let all : y ∷ ys ≡ x ∷ filter (other_than x.number) (y ∷ ys) = cc (e, rest) in
      subst (IsPermutation (y ∷ ys)) all (IsPermutation-refl (y ∷ ys))
  | inr later ↦
      let kept = filter (other_than x.number) ys in
      let rest : filter (other_than x.number) (y ∷ ys) ≡ y ∷ kept = filter_first (other_than x.number) y ys (passes_other x.number y (λ same. omega (arith, same, above_first y ys rise x later))) in
      let turned : IsPermutation (y ∷ x ∷ kept) (x ∷ y ∷ kept) = IsPermutation-append_left kept (y ∷ x ∷ []) (x ∷ y ∷ []) (IsPermutation-append_comm (y ∷ []) (x ∷ [])) in
      subst (λ (all : List Row). IsPermutation (y ∷ ys) (x ∷ all)) (sym rest)
      (IsPermutation-trans (y ∷ ys) (y ∷ x ∷ kept) (x ∷ y ∷ kept) (IsPermutation-cons y ys (x ∷ kept) (to_front x ys (rest_rises y ys rise) later)) turned)
]

-- rows that differ, and the same ones by rising number
same_members : (xs ys : List Row) → Differ xs → Rise ys → ((z : Row) → Contains xs z → Contains ys z) → ((z : Row) → Contains ys z → Contains xs z) → IsPermutation xs ys
same_members [] [] differ rise there back = IsPermutation-refl []
same_members [] (y ∷ ys) differ rise there back = absurd (omega (arith, (back y (is_first y ys)).1))
same_members (x ∷ xs) ys differ rise there back =
    let kept = filter (other_than x.number) ys in
    let rest : IsPermutation xs kept = same_members xs kept (rest_differs x xs differ) (AllPairs-filter (λ (a b : Row). a.number < b.number) (other_than x.number) ys rise)
    (λ z later. in_filter (other_than x.number) ys z (there z (is_later x z xs later)) (passes_other x.number z (λ same. differs_first x xs differ z later (sym same))))
    (λ z stays. let of = from_filter (other_than x.number) ys z stays in elim (first_or_later x z xs (back z of.0)) [
      | inl e ↦ let out = fails_same x.number z (ap (λ (r : Row). r.number) (sym e)) in absurd (cc (of.1, out))
      | inr later ↦ later
    ]) in
    IsPermutation-trans (x ∷ xs) (x ∷ kept) ys (IsPermutation-cons x xs kept rest) (IsPermutation-sym ys (x ∷ kept) (to_front x ys rise (there x (is_first x xs))))

-- the rows that are left of rising ones without the row of a number
pub perm_without : (x : Row) (xs ys : List Row) → Differ (x ∷ xs) → Rise ys → IsPermutation (x ∷ xs) ys → IsPermutation xs (filter (λ row. not (row.number == x.number)) ys)
unfolding other_than
perm_without x xs ys differ rise same =
    same_members xs (filter (other_than x.number) ys) (rest_differs x xs differ) (AllPairs-filter (λ (a b : Row). a.number < b.number) (other_than x.number) ys rise)
    (λ z later. in_filter (other_than x.number) ys z (Contains-permutation (x ∷ xs) ys z same (is_later x z xs later)) (passes_other x.number z (λ e. differs_first x xs differ z later (sym e))))
    (λ z stays. let of = from_filter (other_than x.number) ys z stays in elim (first_or_later x z xs (Contains-permutation ys (x ∷ xs) z (IsPermutation-sym (x ∷ xs) ys same) of.0)) [
      | inl e ↦ let out = fails_same x.number z (ap (λ (r : Row). r.number) (sym e)) in absurd (cc (of.1, out))
      | inr later ↦ later
    ])

-- ---- another row in the place of one

-- the row of this number becomes another
turned_to : Row → Row → Row
turned_to other row = if row.number == other.number then other else row

-- which only the row of that number does
turns_same : (other row : Row) → row.number ≡ other.number → turned_to other row ≡ other
unfolding turned_to
turns_same other row same = rw (eq-eqb row.number other.number same) refl

turns_no_other : (other row : Row) → row.number ≢ other.number → turned_to other row ≡ row
unfolding turned_to
turns_no_other other row apart = rw (ne_eqb row.number other.number apart) refl

-- no row's number changes
turned_number : (other row : Row) → (turned_to other row).number ≡ row.number
turned_number other row = elim (cases_eq row.number other.number) [
  | inl same ↦ ap (λ (r : Row). r.number) (turns_same other row same) ∙ sym same
  | inr apart ↦ ap (λ (r : Row). r.number) (turns_no_other other row apart)
]

-- so the rows still rise
pub rises_turned : (other : Row) (xs : List Row) → Rise xs → Rise (map (λ row. if row.number == other.number then other else row) xs)
unfolding turned_to
rises_turned other xs rise i j d low high =
    let within : j < length xs = omega (arith, high, length-map xs (turned_to other)) in
    omega (
      arith,
      ap (λ (r : Row). r.number) (get_or-map (turned_to other) xs i d d (omega (arith, low, within))),
      ap (λ (r : Row). r.number) (get_or-map (turned_to other) xs j d d within),
      turned_number other (get_or xs i d),
      turned_number other (get_or xs j d),
      rise i j d low within,
    )

-- rows of other numbers stay
none_turned : (other : Row) (xs : List Row) → ((z : Row) → Contains xs z → z.number ≢ other.number) → map (turned_to other) xs ≡ xs
none_turned other [] apart = refl
none_turned other (x ∷ xs) apart =
    let first : turned_to other x ≡ x = turns_no_other other x (apart x (is_first x xs)) in
    let rest : map (turned_to other) xs ≡ xs = none_turned other xs (λ z there. apart z (is_later x z xs there)) in
    cc (first, rest)

-- the same rows with another one in the place of the first
pub perm_turned : (x other : Row) (xs ys : List Row) → other.number ≡ x.number → Differ (x ∷ xs) → IsPermutation (x ∷ xs) ys
    → IsPermutation (other ∷ xs) (map (λ row. if row.number == other.number then other else row) ys)
unfolding turned_to
perm_turned x other xs ys number differ same =
    let first : turned_to other x ≡ other = turns_same other x (sym number) in
    let rest : map (turned_to other) xs ≡ xs = none_turned other xs (λ z there e. differs_first x xs differ z there (sym (e ∙ number))) in
    let all : map (turned_to other) (x ∷ xs) ≡ other ∷ xs = cc (first, rest) in
    subst (λ (rows : List Row). IsPermutation rows (map (turned_to other) ys)) all (IsPermutation-map (turned_to other) (x ∷ xs) ys same)
