-- Pages in the order of their numbers.
use Rattle.std.proofs.Common.{◌≡◌, ◌≢◌, ◌<◌, ◌≤◌, ◌+◌, ◌-◌, ℕ, zero, suc, List, [], ◌∷◌, length, set, get_or, map, Option, Some, None, nat_eq, true, false, slice_get, refl, sym, ap, subst, ◌∙◌, inl, inr, arith}
use Rattle.std.specs.Cmp.{nat_eq_equiv}
use Rattle.std.specs.List.{All, IsDistinct}
use Rattle.std.specs.List.Sorted.{IsPermutation, IsNonDecreasingBy}
use Rattle.std.specs.Map.{keys_of, lookup}
use Rattle.std.proofs.lemmas.Bool.{cases_eq, cases_lt}
use Rattle.std.proofs.lemmas.Bool.Decides.{nat_tests}
use Rattle.std.proofs.lemmas.List.Sorted.{IsPermutation-map, IsPermutation-sym, All-permutation, Contains-permutation}
use Rattle.std.proofs.lemmas.Map.Views.{lookup-from_Contains, Contains-from_lookup}
use Rattle.std.proofs.lemmas.Map.Keys.{IsDistinct-IsPermutation, apart_from_distinct}
use Rattle.std.proofs.lemmas.Option.{get_or_from_slice_get, slice_get_within, slice_get-get_or, slice_get-map}
use Rattle.dirty_pages.specs.Table.{Numbered, IsIndexed, AreRising, unboxed}
use Rattle.mdc_words.proofs.PlacesLemmas.{slice_get-set_same, slice_get-set_other}
use Rattle.store_api.proofs.BoxesLemmas.{Boxed, length-unboxed, page_there}
use Rattle.dirty_pages.proofs.Indexed.{key_at}

-- a number below the first is below all, where each is below the next
above_all : (n : ℕ) (entries : List Boxed) → ((d : Boxed) → 0 < length entries → n < (get_or entries 0 d).0)
    → ((k : ℕ) (d : Boxed) → suc k < length entries → (get_or entries k d).0 < (get_or entries (suc k) d).0)
    → (k : ℕ) (d : ℕ × List ℕ) → k < length (unboxed entries) → n < (get_or (unboxed entries) k d).0
above_all n [] first next k d lt = absurd (omega arith)
above_all n (e ∷ entries) first next zero d lt = first e (omega arith)
above_all n (e ∷ entries) first next (suc k) d lt =
    let below : n < e.0 = first e (omega arith) in
    let behind = above_all e.0 entries (λ x less. next 0 x (omega arith)) (λ j x less. next (suc j) x (omega arith)) k d (omega arith) in
    omega (arith, behind)

-- pages of which each number is below the next rise
pub rising_next : (entries : List Boxed) → ((k : ℕ) (d : Boxed) → suc k < length entries → (get_or entries k d).0 < (get_or entries (suc k) d).0) → AreRising (unboxed entries)
rising_next [] next = tt
rising_next (e ∷ entries) next =
    (above_all e.0 entries (λ d lt. next 0 d (omega arith)) (λ k d lt. next (suc k) d (omega arith)), rising_next entries (λ k d lt. next (suc k) d (omega arith)))

-- of pages that rise, each number is below the next
next_rising : (entries : List Boxed) (k : ℕ) (one other : Boxed) → AreRising (unboxed entries) → suc k < length entries → (get_or entries k one).0 < (get_or entries (suc k) other).0
next_rising [] k one other rising lt = absurd (omega arith)
next_rising (e ∷ []) k one other rising lt = absurd (omega arith)
next_rising (e ∷ f ∷ entries) zero one other rising lt = rising.0 0 (f.0, f.1.value) (omega arith)
next_rising (e ∷ f ∷ entries) (suc k) one other rising lt = next_rising (f ∷ entries) k one other rising.1 (omega arith)

-- pages don't rise where a number isn't below the next
pub not_rising : (entries : List Boxed) (i : ℕ) (one other : Boxed) → 1 ≤ i → i < length entries → one ≡ get_or entries (i - 1) one → other ≡ get_or entries i other
    → other.0 ≤ one.0 → AreRising (unboxed entries) → ⊥
not_rising entries zero one other from_one lt here next most rising = omega arith
not_rising entries (suc k) one other from_one lt here next most rising =
    let before : suc k - 1 ≡ k = omega arith in
    let at : one ≡ get_or entries k one = subst (λ (j : ℕ). one ≡ get_or entries j one) before here in
    let less : (get_or entries k one).0 < (get_or entries (suc k) other).0 = next_rising entries k one other rising lt in
    let first : one.0 ≡ (get_or entries k one).0 = ap (λ (e : Boxed). e.0) at in
    let second : other.0 ≡ (get_or entries (suc k) other).0 = ap (λ (e : Boxed). e.0) next in
    omega (arith, less, first, second, most)

-- the same, as a loop tells it
pub rising_entries : (entries : List Boxed) → ((k : ℕ) (d : Boxed) → k + 1 < length entries → (get_or entries k d).0 < (get_or entries (k + 1) d).0) → AreRising (unboxed entries)
rising_entries entries next = rising_next entries (λ k d lt.
    let more : k + 1 < length entries = omega arith in
    let same : k + 1 ≡ suc k = omega arith in
    subst (λ j. (get_or entries k d).0 < (get_or entries j d).0) same (next k d more))

-- the number at a place
key_or : (entries : List Boxed) (k : ℕ) (d : Boxed) → get_or (keys_of (unboxed entries)) k d.0 ≡ (get_or entries k d).0
key_or [] k d = refl
key_or (e ∷ entries) zero d = refl
key_or (e ∷ entries) (suc k) d = key_or entries k d

-- as many numbers as pages
length-keys : (entries : List Boxed) → length (keys_of (unboxed entries)) ≡ length entries
length-keys [] = refl
length-keys (e ∷ entries) = ap suc (length-keys entries)

-- numbers that don't fall, of which none comes twice, rise
next_above : (entries : List Boxed) → IsNonDecreasingBy (λ e. e.0) entries → IsDistinct nat_eq (keys_of (unboxed entries))
    → (k : ℕ) (d : Boxed) → suc k < length entries → (get_or entries k d).0 < (get_or entries (suc k) d).0
next_above entries sorted distinct k d lt =
    let apart : nat_eq (get_or (keys_of (unboxed entries)) k d.0) (get_or (keys_of (unboxed entries)) (suc k) d.0) ≡ false =
    apart_from_distinct nat_eq (keys_of (unboxed entries)) k (suc k) d.0 distinct (omega arith) (omega (arith, length-keys entries)) in
    let other : nat_eq (get_or entries k d).0 (get_or entries (suc k) d).0 ≡ false = rw (key_or entries k d, key_or entries (suc k) d) at apart in
    let most : (get_or entries k d).0 ≤ (get_or entries (suc k) d).0 = sorted k (suc k) d (omega arith) lt in
    grind (arith, nat_tests)

pub rising_sorted : (entries : List Boxed) → IsNonDecreasingBy (λ e. e.0) entries → IsDistinct nat_eq (keys_of (unboxed entries)) → AreRising (unboxed entries)
rising_sorted entries sorted distinct = rising_next entries (next_above entries sorted distinct)

-- the numbers, out of their boxes
keys_map : (entries : List Boxed) → keys_of (unboxed entries) ≡ map (λ (e : Boxed). e.0) entries
keys_map [] = refl
keys_map (e ∷ entries) = ap (λ rest. e.0 ∷ rest) (keys_map entries)

-- numbers are the same in either order
flips : (a b : ℕ) → nat_eq a b ≡ nat_eq b a
flips a b = elim (cases_eq a b) [ inl same ↦ grind (arith, nat_tests) | inr other ↦ grind (arith, nat_tests) ]

-- pages in another order have numbers apart
pub distinct_permuted : (old new : List Boxed) → IsPermutation old new → IsDistinct nat_eq (keys_of (unboxed old)) → IsDistinct nat_eq (keys_of (unboxed new))
distinct_permuted old new moved distinct =
    subst (IsDistinct nat_eq) (sym (keys_map new))
    (IsDistinct-IsPermutation nat_eq flips (map (λ (e : Boxed). e.0) old) (map (λ (e : Boxed). e.0) new) (IsPermutation-map (λ (e : Boxed). e.0) old new moved)
    (subst (IsDistinct nat_eq) (keys_map old) distinct))

-- each number has a place in the index
within_old : (places : List ℕ) (entries : List Boxed) → IsIndexed places (unboxed entries) → All (λ e. e.0 < length places) entries
within_old places entries indexed = λ k d lt.
    let there : slice_get (unboxed entries) k ≡ Some ((get_or entries k d).0, (get_or entries k d).1.value) =
    slice_get-map (λ (e : Boxed). (e.0, e.1.value)) entries k ∙ ap (λ o. o) (let at : slice_get entries k ≡ Some (get_or entries k d) = slice_get-get_or entries k d lt in rw at refl) in
    slice_get_within places (get_or entries k d).0 k (indexed.placed k ((get_or entries k d).0, (get_or entries k d).1.value) there)

pub within_permuted : (places : List ℕ) (old new : List Boxed) → IsIndexed places (unboxed old) → IsPermutation old new → All (λ e. e.0 < length places) new
within_permuted places old new indexed moved = All-permutation (λ e. e.0 < length places) old new moved (within_old places old indexed)

-- the number of a page that is there
key_there : (pages : Numbered) (k : ℕ) (page : ℕ × List ℕ) (d : ℕ) → slice_get pages k ≡ Some page → get_or (keys_of pages) k d ≡ page.0
key_there pages k page d is = get_or_from_slice_get (keys_of pages) k page.0 d (key_at pages k page is)

-- pages at two places have numbers apart
numbers_apart : (pages : Numbered) (k i : ℕ) (one other : ℕ × List ℕ) → IsDistinct nat_eq (keys_of pages) → k < i → slice_get pages k ≡ Some one → slice_get pages i ≡ Some other → one.0 ≢ other.0
numbers_apart pages k i one other distinct lt at_k at_i =
    let inside : i < length (keys_of pages) = slice_get_within (keys_of pages) i other.0 (key_at pages i other at_i) in
    let apart : nat_eq (get_or (keys_of pages) k 0) (get_or (keys_of pages) i 0) ≡ false = apart_from_distinct nat_eq (keys_of pages) k i 0 distinct lt inside in
    let differ : nat_eq one.0 other.0 ≡ false = rw (key_there pages k one 0 at_k, key_there pages i other 0 at_i) at apart in
    λ same. grind (arith, nat_tests)

-- one more place is written into the index
pub placed_next : (places : List ℕ) (entries : List Boxed) (i : ℕ) (entry : Boxed) → IsDistinct nat_eq (keys_of (unboxed entries))
    → ((k : ℕ) (page : ℕ × List ℕ) → k < i → slice_get (unboxed entries) k ≡ Some page → slice_get places page.0 ≡ Some k)
    → i < length entries → entry ≡ get_or entries i entry → entry.0 < length places
    → (k : ℕ) (page : ℕ × List ℕ) → k < i + 1 → slice_get (unboxed entries) k ≡ Some page → slice_get (set places entry.0 i) page.0 ≡ Some k
placed_next places entries i entry distinct placed within is low k page lt there =
    let here : slice_get (unboxed entries) i ≡ Some (entry.0, entry.1.value) = page_there entries i entry within is in
    elim (cases_lt k i) [
      | inl before ↦ (let other : page.0 ≢ entry.0 = numbers_apart (unboxed entries) k i page (entry.0, entry.1.value) distinct before there here in
          slice_get-set_other places entry.0 i page.0 other ∙ placed k page before there)
      | inr behind ↦ (let same : k ≡ i = omega arith in
          let at : slice_get (unboxed entries) i ≡ Some page = subst (λ j. slice_get (unboxed entries) j ≡ Some page) same there in
          let number : page ≡ (entry.0, entry.1.value) = cc in
          subst (λ (e : ℕ × List ℕ). slice_get (set places entry.0 i) e.0 ≡ Some k) (sym number)
          (slice_get-set_same places entry.0 i low ∙ ap (λ j. Some j) (sym same)))
    ]

-- each has its place
pub IsIndexed-all : (places : List ℕ) (entries : List Boxed) (i : ℕ) → IsDistinct nat_eq (keys_of (unboxed entries)) → length entries ≤ i
    → ((k : ℕ) (page : ℕ × List ℕ) → k < i → slice_get (unboxed entries) k ≡ Some page → slice_get places page.0 ≡ Some k) → IsIndexed places (unboxed entries)
IsIndexed-all places entries i distinct most placed = record {
  distinct = distinct;
  placed = λ k page there. let lt = slice_get_within (unboxed entries) k page there in placed k page (omega (arith, lt, length-unboxed entries)) there;
}

-- numbers that test as the same are
same_number : (a b : ℕ) → nat_eq a b ≡ true → a ≡ b
same_number a b is = grind (arith, nat_tests)

-- pages in another order are found alike
found_alike : (old new : Numbered) (p : ℕ) (o : Option (List ℕ)) → lookup (nat_eq p) new ≡ o → IsPermutation old new
    → IsDistinct nat_eq (keys_of old) → IsDistinct nat_eq (keys_of new) → o ≡ lookup (nat_eq p) old
found_alike old new p (Some bytes) is moved distinct_old distinct_new =
    sym (lookup-from_Contains nat_eq_equiv p bytes old distinct_old (Contains-permutation new old (p, bytes) (IsPermutation-sym old new moved) (Contains-from_lookup same_number p bytes new is)))
found_alike old new p None is moved distinct_old distinct_new = none_alike (lookup (nat_eq p) old) refl where
  none_alike : (o : Option (List ℕ)) → lookup (nat_eq p) old ≡ o → None ≡ o
  none_alike None none = refl
  none_alike (Some bytes) there =
      let found = lookup-from_Contains nat_eq_equiv p bytes new distinct_new (Contains-permutation old new (p, bytes) moved (Contains-from_lookup same_number p bytes old there)) in
      cc

pub lookup-permuted : (old new : List Boxed) (p : ℕ) → IsPermutation old new → IsDistinct nat_eq (keys_of (unboxed old)) → lookup (nat_eq p) (unboxed new) ≡ lookup (nat_eq p) (unboxed old)
lookup-permuted old new p moved distinct =
    found_alike (unboxed old) (unboxed new) p (lookup (nat_eq p) (unboxed new)) refl (IsPermutation-map (λ (e : Boxed). (e.0, e.1.value)) old new moved) distinct (distinct_permuted old new moved distinct)
