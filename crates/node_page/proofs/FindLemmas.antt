-- The place of an entry in a rising list, and a search that narrows it.
use Rattle.std.proofs.Common.{◌≡◌, ◌+◌, ◌<◌, ◌≤◌, ℕ, zero, suc, List, [], ◌∷◌, length, get_or, refl, ap, sym, subst, ◌∙◌, arith, cond, Bool, true, false, inl, inr}
use Rattle.std.specs.Ordering.{is_lt, nat_cmp, ordering_reverse, is_eq}
use Rattle.std.specs.Cmp.Lexicographic.{slice_cmp}
use Rattle.std.specs.declared.cmp.Ordering.{Ordering}
use Rattle.std.specs.declared.cmp.Ordering.TheVariants.{Less, Equal, Greater}
use Rattle.std.proofs.lemmas.Bool.{cases_lt, cond-true, cond-false, false_from_ne_true, both_ways}
use Rattle.std.proofs.lemmas.Cmp.{nat_list_cmp_total, tied_itself}
use Rattle.std.proofs.lemmas.Map.Text.{is_eq-slice_cmp}
use Rattle.std.proofs.lemmas.Slice.Eq.{bytes_eq-Decides}
use Rattle.mdc_words.specs.ByteOrder.{Entry, below}
use Rattle.node_page.specs.Entries.{EntriesRise, place_in, child_in, StandsAt}

-- ---- the order

is_less : (o : Ordering) → is_lt o ≡ true → o ≡ Less
is_less Less e = refl
is_less Equal e = absurd (cc)
is_less Greater e = absurd (cc)

pub below-trans : (x y z : Entry) → below x y ≡ true → below y z ≡ true → below x z ≡ true
unfolding below
below-trans x y z p q = ap is_lt (nat_list_cmp_total.trans x y z (is_less (slice_cmp nat_cmp x y) p) (is_less (slice_cmp nat_cmp y z) q))

pub below-itself : (x : Entry) → below x x ≡ false
unfolding below
below-itself x = ap is_lt (tied_itself nat_list_cmp_total x)

pub below-asym : (x y : Entry) → below x y ≡ true → below y x ≡ false
below-asym x y p = false_from_ne_true (below y x) (λ q. both_ways (below x x) (below-itself x) (below-trans x y x p q))

other_way : (x y : Entry) (o p : Ordering) → o ≡ slice_cmp nat_cmp x y → p ≡ ordering_reverse o → is_lt p ≡ false → (x ≡ y → ⊥) → is_lt o ≡ true
other_way x y Less p is back isnt ne = refl
other_way x y Equal p is back isnt ne =
    let same : is_eq (slice_cmp nat_cmp x y) ≡ true = ap is_eq (sym is) in
    absurd (ne ((bytes_eq-Decides x y).0 (sym (is_eq-slice_cmp x y) ∙ same)))
other_way x y Greater p is back isnt ne = absurd (both_ways (is_lt p) isnt (ap is_lt back))

pub below-total : (x y : Entry) → below y x ≡ false → (x ≡ y → ⊥) → below x y ≡ true
unfolding below
below-total x y isnt ne = other_way x y (slice_cmp nat_cmp x y) (slice_cmp nat_cmp y x) refl (nat_list_cmp_total.antisymm y x) isnt ne

-- ---- rising lists

rise_rest : (x : Entry) (entries : List Entry) → EntriesRise (x ∷ entries) → EntriesRise entries
rise_rest x [] r = tt
rise_rest x (y ∷ entries) r = r.1

rise_first : (x : Entry) (entries : List Entry) (j : ℕ) → EntriesRise (x ∷ entries) → j < length entries → below x (get_or entries j []) ≡ true
rise_first x [] j r lt = absurd (omega arith)
rise_first x (y ∷ entries) zero r lt = r.0
rise_first x (y ∷ entries) (suc j) r lt = below-trans x y (get_or entries j []) r.0 (rise_first y entries j r.1 (omega arith))

pub rises_at : (entries : List Entry) (i j : ℕ) → EntriesRise entries → i < j → j < length entries → below (get_or entries i []) (get_or entries j []) ≡ true
rises_at [] i j r lt le = absurd (omega arith)
rises_at (x ∷ entries) i zero r lt le = absurd (omega arith)
rises_at (x ∷ entries) zero (suc j) r lt le = rise_first x entries j r (omega arith)
rises_at (x ∷ entries) (suc i) (suc j) r lt le = rises_at entries i j (rise_rest x entries r) (omega arith) (omega arith)

-- ---- a search

-- what stands before low is below x, and what stands from high on isn't
pub record Narrows (entries : List Entry) (x : Entry) (low high : ℕ) : Type 0 where
  pub before : (i : ℕ) → i < low → below (get_or entries i []) x ≡ true
  pub behind : (i : ℕ) → high ≤ i → i < length entries → below (get_or entries i []) x ≡ false

pub narrows_start : (entries : List Entry) (x : Entry) (high : ℕ) → length entries ≤ high → Narrows entries x 0 high
narrows_start entries x high le = record { before = λ i lt. absurd (omega arith); behind = λ i from lt. absurd (omega arith) }

pub raised : (entries : List Entry) (x : Entry) (low high middle : ℕ) → EntriesRise entries → Narrows entries x low high
    → middle < length entries → below (get_or entries middle []) x ≡ true → Narrows entries x (middle + 1) high
raised entries x low high middle r n lt is = record {
  before = λ i le. elim (cases_lt i middle) [
    | inl under ↦ below-trans (get_or entries i []) (get_or entries middle []) x (rises_at entries i middle r under lt) is
    | inr over ↦ (let e : middle ≡ i = omega arith in subst (λ k. below (get_or entries k []) x ≡ true) e is)
  ];
  behind = n.behind;
}

pub lowered : (entries : List Entry) (x : Entry) (low high middle : ℕ) → EntriesRise entries → Narrows entries x low high
    → below (get_or entries middle []) x ≡ false → Narrows entries x low middle
lowered entries x low high middle r n isnt = record {
  before = n.before;
  behind = λ i le lt. elim (cases_lt middle i) [
    | inl over ↦ false_from_ne_true (below (get_or entries i []) x) (λ e. both_ways (below (get_or entries middle []) x) isnt
        (below-trans (get_or entries middle []) (get_or entries i []) x (rises_at entries middle i r over lt) e))
    | inr under ↦ (let e : middle ≡ i = omega arith in subst (λ k. below (get_or entries k []) x ≡ false) e isnt)
  ];
}

-- how an entry compares tells which side of the other it stands on
below-less : (e x : Entry) → slice_cmp nat_cmp e x ≡ Less → below e x ≡ true
unfolding below
below-less e x is = ap is_lt is

same-equal : (e x : Entry) → slice_cmp nat_cmp e x ≡ Equal → e ≡ x
same-equal e x is = (bytes_eq-Decides e x).0 (sym (is_eq-slice_cmp e x) ∙ ap is_eq is)

below-greater : (e x : Entry) → slice_cmp nat_cmp e x ≡ Greater → below e x ≡ false
unfolding below
below-greater e x is = ap is_lt is

other-greater : (e x : Entry) → slice_cmp nat_cmp e x ≡ Greater → e ≡ x → ⊥
other-greater e x is same =
    let greater : slice_cmp nat_cmp x x ≡ Greater = subst (λ y. slice_cmp nat_cmp y x ≡ Greater) same is in
    absurd (cc (greater, tied_itself nat_list_cmp_total x))

-- the place of x lies from low to high, and what stands at high isn't x
pub record Seeks (entries : List Entry) (x : Entry) (low high : ℕ) : Type 0 where
  pub narrows : EntriesRise entries → Narrows entries x low high
  pub another : high < length entries → get_or entries high [] ≡ x → ⊥

pub seeks_start : (entries : List Entry) (x : Entry) (high : ℕ) → length entries ≤ high → Seeks entries x 0 high
seeks_start entries x high le = record { narrows = λ r. narrows_start entries x high le; another = λ lt. absurd (omega arith) }

pub seeks_on : (entries : List Entry) (x e : Entry) (low high middle : ℕ) → Seeks entries x low high → middle < length entries
    → e ≡ get_or entries middle [] → slice_cmp nat_cmp e x ≡ Less → Seeks entries x (middle + 1) high
seeks_on entries x e low high middle s lt at is = record {
  narrows = λ r. raised entries x low high middle r (s.narrows r) lt (subst (λ y. below y x ≡ true) at (below-less e x is));
  another = s.another;
}

pub seeks_back : (entries : List Entry) (x e : Entry) (low high middle : ℕ) → Seeks entries x low high
    → e ≡ get_or entries middle [] → slice_cmp nat_cmp e x ≡ Greater → Seeks entries x low middle
seeks_back entries x e low high middle s at is = record {
  narrows = λ r. lowered entries x low high middle r (s.narrows r) (subst (λ y. below y x ≡ false) at (below-greater e x is));
  another = λ lt same. other-greater e x is (at ∙ same);
}

-- x is where the search met it
pub met : (entries : List Entry) (x e : Entry) (middle : ℕ) → middle < length entries
    → e ≡ get_or entries middle [] → slice_cmp nat_cmp e x ≡ Equal → StandsAt x middle entries
met entries x e middle lt at is = (lt, sym at ∙ same-equal e x is)

-- where a search ends that never met x, it doesn't stand
pub missed : (entries : List Entry) (x : Entry) (low high : ℕ) → Seeks entries x low high → low ≤ high → high ≤ low → StandsAt x low entries → ⊥
missed entries x low high s a b at =
    let same : low ≡ high = omega arith in
    s.another (omega (arith, at.0)) (subst (λ k. get_or entries k [] ≡ x) same at.1)

-- ---- places

place_by : (entries : List Entry) (x : Entry) (low : ℕ) → low ≤ length entries → ((i : ℕ) → i < low → below (get_or entries i []) x ≡ true)
    → ((i : ℕ) → low ≤ i → i < length entries → below (get_or entries i []) x ≡ false) → place_in x entries ≡ low
place_by [] x low le before behind = omega arith
place_by (y ∷ entries) x zero le before behind = cond-false (below y x) (suc (place_in x entries)) 0 (behind 0 (omega arith) (omega arith))
place_by (y ∷ entries) x (suc low) le before behind =
    cond-true (below y x) (suc (place_in x entries)) 0 (before 0 (omega arith))
    ∙ ap suc (place_by entries x low (omega arith) (λ i lt. before (suc i) (omega arith)) (λ i from lt. behind (suc i) (omega arith) (omega arith)))

pub placed : (entries : List Entry) (x : Entry) (low high : ℕ) → low ≤ high → high ≤ low → high ≤ length entries → Narrows entries x low high → low ≡ place_in x entries
placed entries x low high a b within n = sym (place_by entries x low (omega arith) n.before (λ i from lt. n.behind i (omega arith) lt))

-- what stands before a place is below
before_step : (y x : Entry) (entries : List Entry) (p : ℕ) (b : Bool) → below y x ≡ b → ((j : ℕ) → j < p → below (get_or entries j []) x ≡ true)
    → (i : ℕ) → i < cond b (suc p) 0 → below (get_or (y ∷ entries) i []) x ≡ true
before_step y x entries p true e rest zero lt = e
before_step y x entries p true e rest (suc j) lt = rest j (omega arith)
before_step y x entries p false e rest i lt = absurd (omega arith)

pub place_before : (entries : List Entry) (x : Entry) (i : ℕ) → i < place_in x entries → below (get_or entries i []) x ≡ true
place_before [] x i lt = absurd (omega arith)
place_before (y ∷ entries) x i lt = before_step y x entries (place_in x entries) (below y x) refl (λ j less. place_before entries x j less) i lt

-- what stands at a place isn't
here_step : (y x : Entry) (entries : List Entry) (p : ℕ) (b : Bool) → below y x ≡ b → (p < length entries → below (get_or entries p []) x ≡ false)
    → cond b (suc p) 0 < suc (length entries) → below (get_or (y ∷ entries) (cond b (suc p) 0) []) x ≡ false
here_step y x entries p true e rest lt = rest (omega arith)
here_step y x entries p false e rest lt = e

pub place_here : (entries : List Entry) (x : Entry) → place_in x entries < length entries → below (get_or entries (place_in x entries) []) x ≡ false
place_here [] x lt = absurd (omega arith)
place_here (y ∷ entries) x lt = here_step y x entries (place_in x entries) (below y x) refl (λ less. place_here entries x less) lt

child_by : (entries : List Entry) (x : Entry) (low : ℕ) → low ≤ length entries → ((i : ℕ) → i < low → below x (get_or entries i []) ≡ false)
    → ((i : ℕ) → low ≤ i → i < length entries → below x (get_or entries i []) ≡ true) → child_in x entries ≡ low
child_by [] x low le before behind = omega arith
child_by (y ∷ entries) x zero le before behind = cond-true (below x y) 0 (suc (child_in x entries)) (behind 0 (omega arith) (omega arith))
child_by (y ∷ entries) x (suc low) le before behind =
    cond-false (below x y) 0 (suc (child_in x entries)) (before 0 (omega arith))
    ∙ ap suc (child_by entries x low (omega arith) (λ i lt. before (suc i) (omega arith)) (λ i from lt. behind (suc i) (omega arith) (omega arith)))

-- the place of an entry that stands in a rising list
pub place_of_standing : (entries : List Entry) (x : Entry) (place : ℕ) → EntriesRise entries → StandsAt x place entries → place ≡ place_in x entries
place_of_standing entries x place r at = sym (place_by entries x place (omega (arith, at.0))
    (λ i lt. subst (λ y. below (get_or entries i []) y ≡ true) at.1 (rises_at entries i place r lt at.0))
    (λ i from lt. elim (cases_lt place i) [
      | inl over ↦ below-asym x (get_or entries i []) (subst (λ y. below y (get_or entries i []) ≡ true) at.1 (rises_at entries place i r over lt))
      | inr under ↦ (let e : place ≡ i = omega arith in subst (λ k. below (get_or entries k []) x ≡ false) e (subst (λ y. below y x ≡ false) (sym at.1) (below-itself x)))
    ]))

-- the child behind the separator that is the entry
pub child_behind : (entries : List Entry) (x : Entry) (place : ℕ) → EntriesRise entries → place ≡ place_in x entries → StandsAt x place entries → place + 1 ≡ child_in x entries
child_behind entries x place r is at = sym (child_by entries x (place + 1) (omega (arith, at.0))
    (λ i lt. elim (cases_lt i place) [
      | inl under ↦ below-asym (get_or entries i []) x (place_before entries x i (omega arith))
      | inr over ↦ (let e : place ≡ i = omega arith in subst (λ k. below x (get_or entries k []) ≡ false) e (subst (λ y. below x y ≡ false) (sym at.1) (below-itself x)))
    ])
    (λ i from lt. subst (λ y. below y (get_or entries i []) ≡ true) at.1 (rises_at entries place i r (omega arith) lt)))

-- the child before the first separator above the entry, where none is the entry
pub child_before : (entries : List Entry) (x : Entry) (place : ℕ) → EntriesRise entries → place ≡ place_in x entries → place ≤ length entries → (StandsAt x place entries → ⊥) → place ≡ child_in x entries
child_before entries x place r is le isnt = sym (child_by entries x place le
    (λ i lt. below-asym (get_or entries i []) x (place_before entries x i (omega arith)))
    (λ i from lt.
    let here : below (get_or entries place []) x ≡ false = subst (λ k. below (get_or entries k []) x ≡ false) (sym is) (place_here entries x (omega arith)) in
    elim (cases_lt place i) [
      | inl over ↦ below-total x (get_or entries i [])
          (false_from_ne_true (below (get_or entries i []) x) (λ e. both_ways (below (get_or entries place []) x) here
          (below-trans (get_or entries place []) (get_or entries i []) x (rises_at entries place i r over lt) e)))
          (λ e. both_ways (below (get_or entries place []) x) here (subst (λ y. below (get_or entries place []) y ≡ true) (sym e) (rises_at entries place i r over lt)))
      | inr under ↦ (let e : place ≡ i = omega arith in
          subst (λ k. below x (get_or entries k []) ≡ true) e (below-total x (get_or entries place []) here (λ same. isnt (omega arith, sym same))))
    ]))
