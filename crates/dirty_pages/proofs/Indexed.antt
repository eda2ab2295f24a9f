-- What an index tells of pages under their numbers.
use Rattle.std.proofs.Common.{◌≡◌, ◌≢◌, ◌<◌, ◌≤◌, ◌⊎◌, ℕ, zero, suc, List, [], ◌∷◌, ◌++◌, length, take, set, get_or, Box, Global, Option, Some, None, is_some, nat_eq, true, false, slice_get, refl, sym, ap, subst, ◌∙◌, inl, inr, arith, length-append}
use Rattle.std.specs.Cmp.{nat_eq_equiv}
use Rattle.std.specs.List.{IsDistinct, AllByRecursion, list_any}
use Rattle.std.specs.Map.{keys_of, lookup, set_value}
use Rattle.std.proofs.lemmas.Bool.{cases_lt}
use Rattle.std.proofs.lemmas.Bool.Decides.{Decides-eqb, nat_tests}
use Rattle.std.specs.Prelude.{IsSome}
use Rattle.std.specs.Option.{option_to_list}
use Rattle.std.proofs.lemmas.Option.{get_or_from_slice_get, slice_get_within, same_Some}
use Rattle.std.proofs.lemmas.Map.Made.{is_some-lookup}
use Rattle.std.proofs.lemmas.Map.Entries.{place_from_lookup, lookup_from_place}
use Rattle.std.proofs.lemmas.Map.Keys.{IsDistinct-push, IsDistinct-cons, IsDistinct-head, IsDistinct-tail}
use Rattle.store_api.proofs.BoxesLemmas.{length-unboxed, unboxed-push, page_there}
use Rattle.dirty_pages.specs.Table.{Numbered, IsIndexed, LiesAt, Pops, unboxed, with_page}
use Rattle.mdc_words.proofs.PlacesLemmas.{slice_get-push, slice_get-take, slice_get-set_same, slice_get-set_other}

-- no pages are indexed by anything
none_distinct : IsDistinct nat_eq (keys_of {K = ℕ} {X = List ℕ} [])
unfolding IsDistinct
none_distinct = tt

pub IsIndexed-none : (places : List ℕ) (pages : Numbered) → pages ≡ [] → IsIndexed places pages
IsIndexed-none places pages none = subst (IsIndexed places) (sym none) (record { distinct = none_distinct; placed = λ i page is. absurd (cc) })

-- an index with more places
pub IsIndexed-more : (places more : List ℕ) (pages : Numbered) → IsIndexed places pages
    → ((q i : ℕ) → slice_get places q ≡ Some i → slice_get more q ≡ Some i) → IsIndexed more pages
IsIndexed-more places more pages indexed kept = record { distinct = indexed.distinct; placed = λ i page is. kept page.0 i (indexed.placed i page is) }

-- a page that the index doesn't lead to isn't there
absent_if : (places : List ℕ) (pages : Numbered) (p : ℕ) (o : Option (List ℕ)) → lookup (nat_eq p) pages ≡ o → IsIndexed places pages
    → ((i : ℕ) (page : ℕ × List ℕ) → slice_get places p ≡ Some i → slice_get pages i ≡ Some page → page.0 ≢ p) → o ≡ None
absent_if places pages p None is indexed apart = refl
absent_if places pages p (Some bytes) is indexed apart =
    let at = place_from_lookup (nat_eq p) pages bytes is in
    let same : at.1 ≡ p = sym ((Decides-eqb p at.1).0 at.3) in
    let led : slice_get places at.1 ≡ Some at.0 = indexed.placed at.0 (at.1, bytes) at.2 in
    absurd (apart at.0 (at.1, bytes) (subst (λ n. slice_get places n ≡ Some at.0) same led) at.2 same)

pub absent : (places : List ℕ) (pages : Numbered) (p : ℕ) → IsIndexed places pages
    → ((i : ℕ) (page : ℕ × List ℕ) → slice_get places p ≡ Some i → slice_get pages i ≡ Some page → page.0 ≢ p) → lookup (nat_eq p) pages ≡ None
absent places pages p indexed apart = absent_if places pages p (lookup (nat_eq p) pages) refl indexed apart

-- a number apart from each that is there
apart_head : (p : ℕ) (keys : List ℕ) (i q : ℕ) → AllByRecursion (λ y. nat_eq p y ≡ false) keys → slice_get keys i ≡ Some q → nat_eq p q ≡ false
apart_head p [] i q all is = absurd (cc)
apart_head p (key ∷ keys) zero q all is = let same : key ≡ q = cc in subst (λ n. nat_eq p n ≡ false) same all.0
apart_head p (key ∷ keys) (suc i) q all is = apart_head p keys i q all.1 is

-- the number at a place
pub key_at : (pages : Numbered) (i : ℕ) (page : ℕ × List ℕ) → slice_get pages i ≡ Some page → slice_get (keys_of pages) i ≡ Some page.0
key_at [] i page is = absurd (cc)
key_at (first ∷ pages) zero page is = let same : first ≡ page = cc in ap (λ e. Some e.0) same
key_at (first ∷ pages) (suc i) page is = key_at pages i page is

-- bytes that are put at a place are put under its number
put_there : (pages : Numbered) (p place : ℕ) (page bytes : List ℕ) → IsDistinct nat_eq (keys_of pages) → slice_get pages place ≡ Some (p, page)
    → with_page pages place bytes ≡ set_value (nat_eq p) pages bytes
put_there [] p place page bytes distinct is = refl
put_there (first ∷ pages) p zero page bytes distinct is =
    let number : first.0 ≡ p = ap (λ o. o) (let same : first ≡ (p, page) = cc in ap (λ (e : ℕ × List ℕ). e.0) same) in
    let here : nat_eq p first.0 ≡ true = (Decides-eqb p first.0).1 (sym number) in
    rw here refl
put_there (first ∷ pages) p (suc place) page bytes distinct is =
    let apart : nat_eq first.0 p ≡ false = apart_head first.0 (keys_of pages) place p (IsDistinct-head nat_eq first.0 (keys_of pages) distinct) (key_at pages place (p, page) is) in
    let other : nat_eq p first.0 ≡ false = grind (arith, nat_tests) in
    rw other (ap (λ rest. first ∷ rest) (put_there pages p place page bytes (IsDistinct-tail nat_eq first.0 (keys_of pages) distinct) is))

-- a page that the index leads to
pub lies_at : (places : List ℕ) (pages : Numbered) (p place : ℕ) (page : ℕ × List ℕ) → IsIndexed places pages → slice_get pages place ≡ Some page → page.0 ≡ p
    → LiesAt pages p place
lies_at places pages p place page indexed is same =
    let there : slice_get pages place ≡ Some (p, page.1) = is ∙ ap (λ n. Some (n, page.1)) same in record {
      page = page.1;
      there = there;
      found = lookup_from_place nat_eq_equiv pages place p page.1 indexed.distinct there;
      put = λ bytes. put_there pages p place page.1 bytes indexed.distinct there;
    }

-- the numbers of pages and one more
keys_of-push : (pages : Numbered) (p : ℕ) (bytes : List ℕ) → keys_of (pages ++ (p, bytes) ∷ []) ≡ keys_of pages ++ p ∷ []
keys_of-push [] p bytes = refl
keys_of-push (first ∷ pages) p bytes = ap (λ rest. first.0 ∷ rest) (keys_of-push pages p bytes)

-- where the page of each number lies once one more is there
placed_push : (places : List ℕ) (pages : Numbered) (p : ℕ) (bytes : List ℕ) → IsIndexed places pages → lookup (nat_eq p) pages ≡ None → p < length places
    → (i : ℕ) (page : ℕ × List ℕ) → (slice_get pages i ≡ Some page) ⊎ ((i ≡ length pages) × (page ≡ (p, bytes))) → slice_get (set places p (length pages)) page.0 ≡ Some i
placed_push places pages p bytes indexed none lt i page (inl before) =
    let found : lookup (nat_eq page.0) pages ≡ Some page.1 = lookup_from_place nat_eq_equiv pages i page.0 page.1 indexed.distinct before in
    let other : page.0 ≢ p = λ same. let there : lookup (nat_eq p) pages ≡ Some page.1 = subst (λ n. lookup (nat_eq n) pages ≡ Some page.1) same found in cc in
    slice_get-set_other places p (length pages) page.0 other ∙ indexed.placed i page before
placed_push places pages p bytes indexed none lt i page (inr last) =
    subst (λ (e : ℕ × List ℕ). slice_get (set places p (length pages)) e.0 ≡ Some i) (sym last.1)
    (slice_get-set_same places p (length pages) lt ∙ ap (λ n. Some n) (sym last.0))

-- one more page, whose place is written into the index
pub IsIndexed-push : (places : List ℕ) (pages : Numbered) (p : ℕ) (bytes : List ℕ) → IsIndexed places pages → lookup (nat_eq p) pages ≡ None → p < length places
    → IsIndexed (set places p (length pages)) (pages ++ (p, bytes) ∷ [])
IsIndexed-push places pages p bytes indexed none lt = record {
  distinct =
      let apart : list_any (nat_eq p) (keys_of pages) ≡ false = sym (is_some-lookup (nat_eq p) pages) ∙ ap is_some none in
      subst (IsDistinct nat_eq) (sym (keys_of-push pages p bytes)) (IsDistinct-push nat_eq_equiv (keys_of pages) p indexed.distinct apart);
  placed = λ i page is. placed_push places pages p bytes indexed none lt i page (slice_get-push pages (p, bytes) i page is);
}

-- the numbers of the first pages are apart
keys_take : (n : ℕ) (pages : Numbered) (p : ℕ) → AllByRecursion (λ y. nat_eq p y ≡ false) (keys_of pages) → AllByRecursion (λ y. nat_eq p y ≡ false) (keys_of (take n pages))
keys_take zero pages p all = tt
keys_take (suc n) [] p all = tt
keys_take (suc n) (first ∷ pages) p all = (all.0, keys_take n pages p all.1)

distinct_take : (n : ℕ) (pages : Numbered) → IsDistinct nat_eq (keys_of pages) → IsDistinct nat_eq (keys_of (take n pages))
distinct_take zero pages distinct = none_distinct
distinct_take (suc n) [] distinct = none_distinct
distinct_take (suc n) (first ∷ pages) distinct =
    IsDistinct-cons nat_eq first.0 (keys_of (take n pages)) (keys_take n pages first.0 (IsDistinct-head nat_eq first.0 (keys_of pages) distinct))
    (distinct_take n pages (IsDistinct-tail nat_eq first.0 (keys_of pages) distinct))

-- the first pages are indexed as all are
pub IsIndexed-take : (places : List ℕ) (pages : Numbered) (n : ℕ) → IsIndexed places pages → IsIndexed places (take n pages)
IsIndexed-take places pages n indexed = record {
  distinct = distinct_take n pages indexed.distinct;
  placed = λ i page is. indexed.placed i page (slice_get-take n pages i page is);
}

-- the numbers stay
keys_with_page : (pages : Numbered) (place : ℕ) (bytes : List ℕ) → keys_of (with_page pages place bytes) ≡ keys_of pages
keys_with_page [] place bytes = refl
keys_with_page (first ∷ pages) zero bytes = refl
keys_with_page (first ∷ pages) (suc place) bytes = ap (λ rest. first.0 ∷ rest) (keys_with_page pages place bytes)

-- each page of those with other bytes has the number of one that was there
page_before : (pages : Numbered) (place : ℕ) (bytes : List ℕ) (i : ℕ) (page : ℕ × List ℕ) → slice_get (with_page pages place bytes) i ≡ Some page
    → (was : ℕ × List ℕ) × (slice_get pages i ≡ Some was) × (was.0 ≡ page.0)
page_before [] place bytes i page is = absurd (cc)
page_before (first ∷ pages) zero bytes zero page is = let same : (first.0, bytes) ≡ page = cc in (first, refl, ap (λ (e : ℕ × List ℕ). e.0) same)
page_before (first ∷ pages) zero bytes (suc i) page is = (page, is, refl)
page_before (first ∷ pages) (suc place) bytes zero page is = let same : first ≡ page = cc in (first, refl, ap (λ (e : ℕ × List ℕ). e.0) same)
page_before (first ∷ pages) (suc place) bytes (suc i) page is = page_before pages place bytes i page is

-- other bytes in a place change no number
pub IsIndexed-with_page : (places : List ℕ) (pages : Numbered) (place : ℕ) (bytes : List ℕ) → IsIndexed places pages → IsIndexed places (with_page pages place bytes)
IsIndexed-with_page places pages place bytes indexed = record {
  distinct = subst (IsDistinct nat_eq) (sym (keys_with_page pages place bytes)) indexed.distinct;
  placed = λ i page is. let was = page_before pages place bytes i page is in subst (λ n. slice_get places n ≡ Some i) was.2 (indexed.placed i was.0 was.1);
}

-- a box that is put at a place, under the number that is there
pub unboxed-set : (entries : List (ℕ × Box (List ℕ) Global)) (place : ℕ) (entry d : ℕ × Box (List ℕ) Global) → entry.0 ≡ (get_or entries place d).0
    → unboxed (set entries place entry) ≡ with_page (unboxed entries) place entry.1.value
unboxed-set [] place entry d same = refl
unboxed-set (first ∷ entries) zero entry d same = ap (λ n. (n, entry.1.value) ∷ unboxed entries) same
unboxed-set (first ∷ entries) (suc place) entry d same = ap (λ rest. (first.0, first.1.value) ∷ rest) (unboxed-set entries place entry d same)

-- a box that comes last has its place in the index
pub IsIndexed-pushed : (places more : List ℕ) (entries new : List (ℕ × Box (List ℕ) Global)) (p place : ℕ) (box : Box (List ℕ) Global) (old : Numbered)
    → IsIndexed places (unboxed entries) → ((q i : ℕ) → slice_get places q ≡ Some i → slice_get more q ≡ Some i)
    → unboxed entries ≡ old → lookup (nat_eq p) old ≡ None → p < length more → new ≡ entries ++ (p, box) ∷ [] → place ≡ length entries
    → IsIndexed (set more p place) (unboxed new)
IsIndexed-pushed places more entries new p place box old indexed kept is none lt pushed last =
    let absent_now : lookup (nat_eq p) (unboxed entries) ≡ None = subst (λ (pages : Numbered). lookup (nat_eq p) pages ≡ None) (sym is) none in
    let number : place ≡ length (unboxed entries) = last ∙ sym (length-unboxed entries) in
    let all : unboxed new ≡ unboxed entries ++ (p, box.value) ∷ [] = ap unboxed pushed ∙ unboxed-push entries (p, box) in
    subst (λ n. IsIndexed (set more p n) (unboxed new)) (sym number)
    (subst (IsIndexed (set more p (length (unboxed entries)))) (sym all)
    (IsIndexed-push more (unboxed entries) p box.value (IsIndexed-more places more (unboxed entries) indexed kept) absent_now lt))

-- a box in the place of another is indexed as it was
pub IsIndexed-set : (places : List ℕ) (entries : List (ℕ × Box (List ℕ) Global)) (place : ℕ) (entry d : ℕ × Box (List ℕ) Global) → IsIndexed places (unboxed entries)
    → entry.0 ≡ (get_or entries place d).0 → IsIndexed places (unboxed (set entries place entry))
IsIndexed-set places entries place entry d indexed same =
    subst (IsIndexed places) (sym (unboxed-set entries place entry d same)) (IsIndexed-with_page places (unboxed entries) place entry.1.value indexed)

-- the place that the index has for a number
place_read : (places : List ℕ) (p i place : ℕ) → slice_get places p ≡ Some i → place ≡ get_or places p place → i ≡ place
place_read places p i place is read = sym (read ∙ get_or_from_slice_get places p i place is)

-- a number past the index
pub unled : (places : List ℕ) (entries : List (ℕ × Box (List ℕ) Global)) (p : ℕ) → IsIndexed places (unboxed entries) → length places ≤ p → lookup (nat_eq p) (unboxed entries) ≡ None
unled places entries p indexed past = absent places (unboxed entries) p indexed (λ i page led there. let lt = slice_get_within places p i led in absurd (omega arith))

-- the index leads past the pages
pub led_past : (places : List ℕ) (entries : List (ℕ × Box (List ℕ) Global)) (p place : ℕ) → IsIndexed places (unboxed entries) → place ≡ get_or places p place
    → length entries ≤ place → lookup (nat_eq p) (unboxed entries) ≡ None
led_past places entries p place indexed read past = absent places (unboxed entries) p indexed (λ i page led there.
    let same : i ≡ place = place_read places p i place led read in
    let lt = slice_get_within (unboxed entries) i page there in
    absurd (omega (arith, lt, length-unboxed entries)))

-- the index leads to another number
pub led_elsewhere : (places : List ℕ) (entries : List (ℕ × Box (List ℕ) Global)) (p place : ℕ) (entry : ℕ × Box (List ℕ) Global) → IsIndexed places (unboxed entries)
    → place ≡ get_or places p place → place < length entries → entry ≡ get_or entries place entry → entry.0 ≢ p → lookup (nat_eq p) (unboxed entries) ≡ None
led_elsewhere places entries p place entry indexed read lt is other = absent places (unboxed entries) p indexed (λ i page led there.
    let same : i ≡ place = place_read places p i place led read in
    let here : slice_get (unboxed entries) place ≡ Some page = subst (λ k. slice_get (unboxed entries) k ≡ Some page) same there in
    let one : page ≡ (entry.0, entry.1.value) = same_Some page (entry.0, entry.1.value) (sym here ∙ page_there entries place entry lt is) in
    λ number. other (sym (ap (λ (e : ℕ × List ℕ). e.0) one) ∙ number))

-- the index leads to the page
pub led_there : (places : List ℕ) (entries : List (ℕ × Box (List ℕ) Global)) (p place : ℕ) (entry : ℕ × Box (List ℕ) Global) → IsIndexed places (unboxed entries)
    → place < length entries → entry ≡ get_or entries place entry → entry.0 ≡ p → LiesAt (unboxed entries) p place
led_there places entries p place entry indexed lt is same =
    lies_at places (unboxed entries) p place (entry.0, entry.1.value) indexed (page_there entries place entry lt is) same

-- the bytes of the page at a place, out of its box
pub bytes_there : (entries : List (ℕ × Box (List ℕ) Global)) (place : ℕ) (entry : ℕ × Box (List ℕ) Global) (d : ℕ × List ℕ) → place < length entries
    → entry ≡ get_or entries place entry → (get_or (unboxed entries) place d).1 ≡ entry.1.value
bytes_there entries place entry d lt is =
    ap (λ (e : ℕ × List ℕ). e.1) (get_or_from_slice_get (unboxed entries) place (entry.0, entry.1.value) d (page_there entries place entry lt is))

-- what is apart from all is apart from the last
last_of : (n p : ℕ) (pages : Numbered) (w : List ℕ) → AllByRecursion (λ y. nat_eq n y ≡ false) (keys_of (pages ++ (p, w) ∷ [])) → nat_eq n p ≡ false
last_of n p [] w all = all.0
last_of n p (page ∷ pages) w all = last_of n p pages w all.1

-- the number of the last page is not among the others
last_absent : (pages : Numbered) (p : ℕ) (w : List ℕ) → IsDistinct nat_eq (keys_of (pages ++ (p, w) ∷ [])) → lookup (nat_eq p) pages ≡ None
last_absent [] p w distinct = refl
last_absent (page ∷ pages) p w distinct =
    let apart : nat_eq page.0 p ≡ false = last_of page.0 p pages w (IsDistinct-head nat_eq page.0 (keys_of (pages ++ (p, w) ∷ [])) distinct) in
    let other : nat_eq p page.0 ≡ false = grind (arith, nat_tests) in
    rw other (last_absent pages p w (IsDistinct-tail nat_eq page.0 (keys_of (pages ++ (p, w) ∷ [])) distinct))

-- no boxes where their number is 0
no_boxes : {X : Type 0} (xs : List X) → length xs ≡ 0 → xs ≡ []
no_boxes [] none = refl
no_boxes (x ∷ xs) none = absurd (omega arith)

-- the last page, as it comes out of its list
pub pops_as : (old : Numbered) (entries new : List (ℕ × Box (List ℕ) Global)) (o : Option (ℕ × Box (List ℕ) Global)) → unboxed entries ≡ old → entries ≡ new ++ option_to_list o
    → (0 < length entries → IsSome o) → IsDistinct nat_eq (keys_of (unboxed entries)) → Pops old o (unboxed new)
pops_as old entries new None is split some distinct =
    let none : length entries ≡ 0 = elim (cases_lt 0 (length entries)) [ inl lt ↦ absurd (let there = some lt in cc) | inr le ↦ omega arith ] in
    let left : length new ≡ 0 = omega (arith, none, ap length split, length-append new []) in
    (sym is ∙ ap unboxed (no_boxes entries none), ap unboxed (no_boxes new left))
pops_as old entries new (Some entry) is split some distinct =
    let all : unboxed entries ≡ unboxed new ++ (entry.0, entry.1.value) ∷ [] = ap unboxed split ∙ unboxed-push new entry in
    (sym is ∙ all, last_absent (unboxed new) entry.0 entry.1.value (subst (λ (pages : Numbered). IsDistinct nat_eq (keys_of pages)) all distinct))
