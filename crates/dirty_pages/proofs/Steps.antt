-- What each call on the changes does, over plain values.
use Rattle.std.proofs.Common.{◌≡◌, ◌≢◌, ◌≤◌, ◌<◌, ◌+◌, ◌-◌, ◌||◌, ℕ, zero, suc, List, [], ◌∷◌, ◌++◌, Option, Some, None, Bool, length, take, replicate, get_or, set, cond, nat_eq, leb, ltb, true, false, slice_get, refl, sym, ap, ◌∙◌, subst, inl, inr, arith}
use Rattle.std.specs.Prelude.{IsSome, is_some}
use Rattle.std.specs.Option.{option_map, option_or, ForSome}
use Rattle.std.specs.List.{All}
use Rattle.std.proofs.lemmas.Bool.Decides.{nat_tests}
use Rattle.std.proofs.lemmas.Bool.{cases_eq, cases_lt}
use Rattle.std.proofs.lemmas.List.{take_all}
use Rattle.std.proofs.lemmas.Option.{get_or_from_slice_get}
use Rattle.store_api.specs.StoreState.{zero_page}
use Rattle.dirty_pages.specs.declared.changes.Mark.{Mark}
use Rattle.dirty_pages.specs.Changes.{Changed, changed_in}
use Rattle.dirty_pages.specs.Table.{Numbered, IsPlace, LiesAt, with_page}
use Rattle.mdc_words.specs.Listed.{listed}
use Rattle.dirty_pages.specs.ChangesView.{or_grown, written_over, written_before, FitsCounts, FitsMark, Saves, is_free_in}
use Rattle.mdc_words.proofs.ListedLemmas.{length-listed, get_or-listed, listed_same}
use Rattle.dirty_pages.proofs.Overlays.{changed_in-none, set_listed, listed_more, grown_zeros, grown_written, grown_below, changed_alike, grown_some}
use Rattle.dirty_pages.proofs.Written.{push_here, push_apart, put_here, put_apart, fits_new, fits_over, fits_below, mark_push, marked_push, KeepsMark, keeps_free, keeps_saved, found_page, swapped_last}

-- a page that was written for the first time, in the counts
pub add_counts : (base count below more : ℕ) (table new : Numbered) (p : ℕ) (w : List ℕ) → FitsCounts base count below (written_over table) → new ≡ table ++ (p, w) ∷ [] → written_over table p ≡ None
    → p < count → more ≡ cond (ltb p base) 1 0 → FitsCounts base count (below + more) (written_over new)
add_counts base count below more table new p w fits is none lt is_more =
    subst (λ (pages : Numbered). FitsCounts base count (below + more) (written_over pages)) (sym is)
    (fits_new base count below more p (written_over table) (written_over (table ++ (p, w) ∷ [])) w fits none (push_here table p w none) (push_apart table p w) lt is_more)

-- in the changes
pub add_now : (base count : ℕ) (table new : Numbered) (p : ℕ) (w : List ℕ) (now : List (Option (List ℕ))) → listed count (or_grown base (written_over table)) ≡ now → new ≡ table ++ (p, w) ∷ [] → written_over table p ≡ None
    → listed count (or_grown base (written_over new)) ≡ set now p (Some w)
add_now base count table new p w now was is none =
    ap (λ (pages : Numbered). listed count (or_grown base (written_over pages))) is
    ∙ (set_listed count base (written_over table) (written_over (table ++ (p, w) ∷ [])) p w (push_here table p w none) (push_apart table p w) ∙ ap (λ xs. set xs p (Some w)) was)

-- and at the mark
pub add_mark : (base count below more : ℕ) (table new saved : Numbered) (p : ℕ) (w : List ℕ) (o : Option Mark) → ForSome o (FitsMark base count below table saved) → new ≡ table ++ (p, w) ∷ []
    → ForSome o (FitsMark base count (below + more) new saved)
add_mark base count below more table new saved p w o fits is mark some =
    subst (λ (pages : Numbered). FitsMark base count (below + more) pages saved mark) (sym is) (mark_push base count below more table saved mark p w (fits mark some))

-- the changes at the mark stay where those behind it do
pub marked_as : (base count below : ℕ) (table saved table_new saved_new : Numbered) (o : Option Mark) → ((mark : Mark) → o ≡ Some mark
    → listed mark.count (or_grown base (written_before saved_new (take mark.written table_new))) ≡ listed mark.count (or_grown base (written_before saved (take mark.written table))))
    → option_map (λ mark. listed mark.count (or_grown base (written_before saved_new (take mark.written table_new)))) o ≡ option_map (λ mark. listed mark.count (or_grown base (written_before saved (take mark.written table)))) o
marked_as base count below table saved table_new saved_new None same = refl
marked_as base count below table saved table_new saved_new (Some mark) same = ap (λ xs. Some xs) (same mark refl)

pub add_marked : (base count below : ℕ) (table new saved : Numbered) (p : ℕ) (w : List ℕ) (o : Option Mark) → ForSome o (FitsMark base count below table saved) → new ≡ table ++ (p, w) ∷ []
    → option_map (λ mark. listed mark.count (or_grown base (written_before saved (take mark.written new)))) o ≡ option_map (λ mark. listed mark.count (or_grown base (written_before saved (take mark.written table)))) o
add_marked base count below table new saved p w o fits is =
    marked_as base count below table saved new saved o (λ mark some.
    ap (λ (pages : Numbered). listed mark.count (or_grown base (written_before saved (take mark.written pages)))) is
    ∙ marked_push base count below table saved mark p w (fits mark some))

-- a page that was written over, in the counts
pub over_counts : (base count below : ℕ) (table new : Numbered) (p place : ℕ) (w : List ℕ) → FitsCounts base count below (written_over table) → LiesAt table p place → new ≡ with_page table place w
    → FitsCounts base count below (written_over new)
over_counts base count below table new p place w fits lies is =
    subst (λ (pages : Numbered). FitsCounts base count below (written_over pages)) (sym is)
    (fits_over base count below p (written_over table) (written_over (with_page table place w)) lies.page w fits lies.found (put_here table p place w lies) (put_apart table p place w lies))

-- in the changes
pub over_now : (base count : ℕ) (table new : Numbered) (p place : ℕ) (w : List ℕ) (now : List (Option (List ℕ))) → listed count (or_grown base (written_over table)) ≡ now → LiesAt table p place → new ≡ with_page table place w
    → listed count (or_grown base (written_over new)) ≡ set now p (Some w)
over_now base count table new p place w now was lies is =
    ap (λ (pages : Numbered). listed count (or_grown base (written_over pages))) is
    ∙ (set_listed count base (written_over table) (written_over (with_page table place w)) p w (put_here table p place w lies) (put_apart table p place w lies) ∙ ap (λ xs. set xs p (Some w)) was)

-- and at the mark, in its place
pub free_keeps : (base count below : ℕ) (table saved : Numbered) (o : Option Mark) (p place : ℕ) (w : List ℕ) → ForSome o (FitsMark base count below table saved) → LiesAt table p place
    → is_free_in o saved p place ≡ true → ForSome o (KeepsMark base count below table saved (with_page table place w) saved)
free_keeps base count below table saved o p place w fits lies free mark some =
    let test : is_free_in (Some mark) saved p place ≡ true = subst (λ m. is_free_in m saved p place ≡ true) some free in
    keeps_free base count below table saved mark p place w (fits mark some) lies test

-- or with what it was saved
pub saved_keeps : (base count below : ℕ) (table saved saved_new : Numbered) (o : Option Mark) (p place : ℕ) (w : List ℕ) (lies : LiesAt table p place) → ForSome o (FitsMark base count below table saved)
    → is_free_in o saved p place ≡ false → saved_new ≡ saved ++ (p, lies.page) ∷ [] → ForSome o (KeepsMark base count below table saved (with_page table place w) saved_new)
saved_keeps base count below table saved saved_new o p place w lies fits free is mark some =
    let test : is_free_in (Some mark) saved p place ≡ false = subst (λ m. is_free_in m saved p place ≡ false) some free in
    keeps_saved base count below table saved saved_new mark p place w lies (fits mark some) test is

-- the mark fits then
pub keeps_fits : (base count below : ℕ) (table saved table_new saved_new new : Numbered) (o : Option Mark) → ForSome o (KeepsMark base count below table saved table_new saved_new) → new ≡ table_new
    → ForSome o (FitsMark base count below new saved_new)
keeps_fits base count below table saved table_new saved_new new o keeps is mark some =
    subst (λ (pages : Numbered). FitsMark base count below pages saved_new mark) (sym is) (keeps mark some).fits

pub keeps_same : (base count below : ℕ) (table saved table_new saved_new new : Numbered) (o : Option Mark) → ForSome o (KeepsMark base count below table saved table_new saved_new) → new ≡ table_new
    → option_map (λ mark. listed mark.count (or_grown base (written_before saved_new (take mark.written new)))) o ≡ option_map (λ mark. listed mark.count (or_grown base (written_before saved (take mark.written table)))) o
keeps_same base count below table saved table_new saved_new new o keeps is =
    marked_as base count below table saved new saved_new o (λ mark some.
    ap (λ (pages : Numbered). listed mark.count (or_grown base (written_before saved_new (take mark.written pages)))) is ∙ (keeps mark some).same)

-- the page that was pushed last
last_page : (saved : Numbered) (p : ℕ) (w : List ℕ) (d : ℕ × List ℕ) → (get_or (saved ++ (p, w) ∷ []) (length saved) d).1 ≡ w
last_page [] p w d = refl
last_page (page ∷ saved) p w d = last_page saved p w d

-- what an exchange with the last page saved leaves in the table
pub exchanged : (table saved pushed new : Numbered) (p place last : ℕ) (w : List ℕ) → pushed ≡ saved ++ (p, w) ∷ [] → last ≡ length pushed - 1
    → ((d : ℕ × List ℕ) → new ≡ with_page table place (get_or pushed last d).1) → new ≡ with_page table place w
exchanged table saved pushed new p place last w is at put =
    let size : length pushed ≡ length saved + 1 = ap length is ∙ length-push saved in
    let place_is : last ≡ length saved = omega (arith, size, at) in
    put (p, w) ∙ ap (with_page table place) (ap (λ (pages : Numbered). (get_or pages last (p, w)).1) is ∙ (ap (λ k. (get_or (saved ++ (p, w) ∷ []) k (p, w)).1) place_is ∙ last_page saved p w (p, w))) where
      length-push : (xs : Numbered) → length (xs ++ (p, w) ∷ []) ≡ length xs + 1
      length-push [] = refl
      length-push (x ∷ xs) = let rest = length-push xs in omega (arith, rest)

-- and among what was saved
pub exchanged_saved : (table saved pushed new : Numbered) (p place last : ℕ) (w : List ℕ) (lies : LiesAt table p place) → pushed ≡ saved ++ (p, w) ∷ [] → last ≡ length pushed - 1
    → ((d : ℕ × List ℕ) → new ≡ with_page pushed last (get_or table place d).1) → new ≡ saved ++ (p, lies.page) ∷ []
exchanged_saved table saved pushed new p place last w lies is at put =
    let size : length pushed ≡ length saved + 1 = ap length is ∙ length-push saved in
    let place_is : last ≡ length saved = omega (arith, size, at) in
    let was : (get_or table place (p, w)).1 ≡ lies.page = ap (λ (e : ℕ × List ℕ). e.1) (get_or_from_slice_get table place (p, lies.page) (p, w) lies.there) in
    put (p, w) ∙ (ap (with_page pushed last) was ∙ (ap (λ (pages : Numbered). with_page pages last lies.page) is ∙ (ap (λ k. with_page (saved ++ (p, w) ∷ []) k lies.page) place_is ∙ swapped_last saved p w lies.page))) where
      length-push : (xs : Numbered) → length (xs ++ (p, w) ∷ []) ≡ length xs + 1
      length-push [] = refl
      length-push (x ∷ xs) = let rest = length-push xs in omega (arith, rest)

-- a page that lies in the pages that the changes tell of
pub lies_in : (table : Numbered) (changes : Changed) (p place : ℕ) → table ≡ changes.pages → LiesAt changes.pages p place → LiesAt table p place
lies_in table changes p place is lies = subst (λ (pages : Numbered). LiesAt pages p place) (sym is) lies

-- what the mark is seen as
pub mark_view : (base count n kept : ℕ) (table saved : Numbered) (marked : Option (List (Option (List ℕ)))) (old : Changed) → saved ≡ [] → n ≡ length table
    → record { base = base; now = listed count (or_grown base (written_over table)); marked = marked; kept = kept; pages = table } ≡ old
    → record { base = base; now = listed count (or_grown base (written_over table)); marked = Some (listed count (or_grown base (written_before saved (take n table)))); kept = kept; pages = table } ≡ record old { marked = Some old.now }
mark_view base count n kept table saved marked old none all is =
    let whole : take n table ≡ table = take_all n table (omega (arith, all)) in
    rw (none, whole) (ap (λ (v : Changed). record v { marked = Some v.now }) is)

-- pages of zeros at the end
pub grow_now : (base count n : ℕ) (f : ℕ → Option (List ℕ)) (below : ℕ) (now : List (Option (List ℕ))) → FitsCounts base count below f → listed count (or_grown base f) ≡ now
    → listed (count + n) (or_grown base f) ≡ now ++ replicate n (Some zero_page)
grow_now base count n f below now fits is =
    listed_more count n (or_grown base f) (Some zero_page) (λ q le. grown_zeros base f q (omega (arith, fits.grown)) (fits.within q le)) ∙ ap (λ xs. xs ++ replicate n (Some zero_page)) is

-- no mark is open
pub no_mark : (o : Option Mark) (f : Mark → List (Option (List ℕ))) → option_map f o ≡ None → (mark : Mark) → o ≡ Some mark → ⊥
no_mark None f none mark some = cc
no_mark (Some other) f none mark some = cc

-- where each page with a change was written, the change is what was written
pub found_written : (base count : ℕ) (f : ℕ → Option (List ℕ)) (changes : Changed) (p : ℕ) → listed count (or_grown base f) ≡ changes.now → p < length changes.now
    → (base ≤ p → p < count → IsSome (f p)) → f p ≡ get_or changes.now p None
found_written base count f changes p is lt filled =
    let within : p < count = omega (arith, ap length is, length-listed count (or_grown base f)) in
    sym (found_page count base f changes p is lt ∙ elim (cases_lt p base) [
      | inl low ↦ grown_below base f p low
      | inr high ↦ as_written (f p) refl (filled high within)
    ]) where
      as_written : (o : Option (List ℕ)) → f p ≡ o → IsSome (f p) → or_grown base f p ≡ f p
      as_written None none some = let wrong = subst IsSome none some in absurd (cc)
      as_written (Some w) there some = grown_written base f p w there ∙ sym there

-- the page of a number, out of the table
pub found_there : (base count : ℕ) (f : ℕ → Option (List ℕ)) (changes : Changed) (p : ℕ) (w : List ℕ) → listed count (or_grown base f) ≡ changes.now → p < length changes.now → f p ≡ Some w
    → Some w ≡ get_or changes.now p None
found_there base count f changes p w is lt there = sym (found_page count base f changes p is lt ∙ grown_written base f p w there)

pub found_grown : (base count : ℕ) (f : ℕ → Option (List ℕ)) (changes : Changed) (p : ℕ) (o : Option (List ℕ)) → listed count (or_grown base f) ≡ changes.now → p < length changes.now → f p ≡ None
    → o ≡ cond (leb base p) (Some zero_page) None → o ≡ get_or changes.now p None
found_grown base count f changes p o is lt none zeros = zeros ∙ sym (found_page count base f changes p is lt ∙ ap (λ x. option_or x (cond (leb base p) (Some zero_page) None)) none)

-- one page less is saved, and it is back
pub back_over : (table saved saved_new new : Numbered) (p place : ℕ) (w : List ℕ) → LiesAt table p place → saved ≡ saved_new ++ (p, w) ∷ [] → written_over saved_new p ≡ None → new ≡ with_page table place w
    → ((q : ℕ) → IsSome (written_over saved q) → IsSome (written_over table q)) → (q : ℕ) → IsSome (written_over saved_new q) → IsSome (written_over new q)
back_over table saved saved_new new p place w lies is none put over q had = elim (cases_eq q p) [
  | inl same ↦ (let wrong : IsSome (written_over saved_new p) = subst (λ k. IsSome (written_over saved_new k)) same had in let no = subst IsSome none wrong in absurd (cc))
  | inr ne ↦ (let before : written_over saved q ≡ written_over saved_new q = ap (λ (pages : Numbered). written_over pages q) is ∙ push_apart saved_new p w q ne in
      let there : written_over new q ≡ written_over table q = ap (λ (pages : Numbered). written_over pages q) put ∙ put_apart table p place w lies q ne in
      subst IsSome (sym there) (over q (subst IsSome (sym before) had)))
]

pub back_same : (table saved saved_new new : Numbered) (p place : ℕ) (w : List ℕ) → LiesAt table p place → saved ≡ saved_new ++ (p, w) ∷ [] → written_over saved_new p ≡ None → new ≡ with_page table place w
    → (q : ℕ) → written_before saved_new new q ≡ written_before saved table q
back_same table saved saved_new new p place w lies is none put q = elim (cases_eq q p) [
  | inl same ↦ subst (λ k. written_before saved_new new k ≡ written_before saved table k) (sym same)
      (let was : written_over saved p ≡ Some w = ap (λ (pages : Numbered). written_over pages p) is ∙ push_here saved_new p w none in
      let now : written_over new p ≡ Some w = ap (λ (pages : Numbered). written_over pages p) put ∙ put_here table p place w lies in
      rw (none, now, was) refl)
  | inr ne ↦ (let before : written_over saved q ≡ written_over saved_new q = ap (λ (pages : Numbered). written_over pages q) is ∙ push_apart saved_new p w q ne in
      let there : written_over new q ≡ written_over table q = ap (λ (pages : Numbered). written_over pages q) put ∙ put_apart table p place w lies q ne in
      rw (before, there) refl)
]

-- what was saved last is saved
pub saved_there : (saved saved_new : Numbered) (p : ℕ) (w : List ℕ) → saved ≡ saved_new ++ (p, w) ∷ [] → written_over saved_new p ≡ None → IsSome (written_over saved p)
saved_there saved saved_new p w is none =
    let there : written_over saved p ≡ Some w = ap (λ (pages : Numbered). written_over pages p) is ∙ push_here saved_new p w none in
    subst IsSome (sym there) refl

-- the counts once the mark was gone back to
pub back_counts : (base below : ℕ) (table saved back : Numbered) (mark : Mark) (count : ℕ) → FitsMark base count below table saved mark
    → ((q : ℕ) → written_over back q ≡ written_before saved (take mark.written table) q) → FitsCounts base mark.count mark.below (written_over back)
back_counts base below table saved back mark count fits same = record {
  grown = fits.before.grown;
  within = λ q le. same q ∙ none_before q (fits.before.within q le);
  counted = fits.before.counted ∙ sym (changed_alike base (written_over back) (written_over (take mark.written table)) (λ q. alike q));
} where
  none_before : (q : ℕ) → written_over (take mark.written table) q ≡ None → written_before saved (take mark.written table) q ≡ None
  none_before q none = go (written_over saved q) refl where
    go : (o : Option (List ℕ)) → written_over saved q ≡ o → option_or o (written_over (take mark.written table) q) ≡ None
    go None is = none
    go (Some w) is = let had = fits.over q (subst IsSome (sym is) refl) in let wrong = subst IsSome none had in absurd (cc)

  alike : (q : ℕ) → is_some (written_over back q) ≡ is_some (written_over (take mark.written table) q)
  alike q = ap is_some (same q) ∙ go (written_over saved q) refl where
    go : (o : Option (List ℕ)) → written_over saved q ≡ o → is_some (option_or o (written_over (take mark.written table) q)) ≡ is_some (written_over (take mark.written table) q)
    go None is = refl
    go (Some w) is = sym (fits.over q (subst IsSome (sym is) refl))

-- each page up to this one is there
pub still_there : (table new : Numbered) (p q : ℕ) → ((k : ℕ) → k ≢ p → written_over new k ≡ written_over table k) → IsSome (written_over new p) → (q < p → IsSome (written_over table q)) → q < p + 1 → IsSome (written_over new q)
still_there table new p q apart here before lt = elim (cases_eq q p) [
  | inl same ↦ subst (λ k. IsSome (written_over new k)) (sym same) here
  | inr ne ↦ subst IsSome (sym (apart q ne)) (before (omega arith))
]

-- pages but the one of zeros are as before
pub zeros_apart : (p : ℕ) (table new : Numbered) → new ≡ table ++ (p, zero_page) ∷ [] → (q : ℕ) → q ≢ p → written_over new q ≡ written_over table q
zeros_apart p table new is q ne = ap (λ (pages : Numbered). written_over pages q) is ∙ push_apart table p zero_page q ne

-- a page of zeros stands for what it stood for before
pub zeros_added : (from p : ℕ) (table new : Numbered) → written_over table p ≡ None → new ≡ table ++ (p, zero_page) ∷ [] → from ≤ p → (q : ℕ) → or_grown from (written_over new) q ≡ or_grown from (written_over table) q
zeros_added from p table new none is le q = elim (cases_eq q p) [
  | inl same ↦ subst (λ k. or_grown from (written_over new) k ≡ or_grown from (written_over table) k) (sym same)
      (grown_written from (written_over new) p zero_page (ap (λ (pages : Numbered). written_over pages p) is ∙ push_here table p zero_page none) ∙ sym (grown_zeros from (written_over table) p le none))
  | inr ne ↦ (let one : written_over new q ≡ written_over table q = zeros_apart p table new is q ne in rw one refl)
]

pub zeros_there : (p : ℕ) (table new : Numbered) → written_over table p ≡ None → new ≡ table ++ (p, zero_page) ∷ [] → IsSome (written_over new p)
zeros_there p table new none is =
    let there : written_over new p ≡ Some zero_page = ap (λ (pages : Numbered). written_over pages p) is ∙ push_here table p zero_page none in
    subst IsSome (sym there) refl

-- a page that has no place isn't there
pub place_none : (pages : Numbered) (p : ℕ) (o : Option ℕ) → IsPlace pages p o → is_some o ≡ false → written_over pages p ≡ None
place_none pages p None place none = place
place_none pages p (Some at) place none = absurd (cc)

-- a page that was grown has a change
pub found_some : (base count : ℕ) (f : ℕ → Option (List ℕ)) (changes : Changed) (p : ℕ) → listed count (or_grown base f) ≡ changes.now → p < length changes.now → base ≤ p → IsSome (get_or changes.now p None)
found_some base count f changes p is lt le =
    let some = grown_some base f p le in
    subst IsSome (sym (found_page count base f changes p is lt ∙ some.1)) refl

-- a page with a change that wasn't written was grown
pub found_base : (base count : ℕ) (f : ℕ → Option (List ℕ)) (changes : Changed) (p : ℕ) → listed count (or_grown base f) ≡ changes.now → p < length changes.now → f p ≡ None
    → IsSome (get_or changes.now p None) → base ≤ p
found_base base count f changes p is lt none some = elim (cases_lt p base) [
  | inr le ↦ le
  | inl low ↦ (let unchanged : get_or changes.now p None ≡ None = found_page count base f changes p is lt ∙ (grown_below base f p low ∙ none) in
      let wrong = subst IsSome unchanged some in absurd (cc))
]

-- a page of zeros more, in the counts
pub zeros_counts : (base count below p : ℕ) (table new : Numbered) → FitsCounts base count below (written_over table) → new ≡ table ++ (p, zero_page) ∷ [] → base ≤ p → p < count → FitsCounts base count below (written_over new)
zeros_counts base count below p table new fits is le lt =
    fits_below base count below (written_over table) (written_over new) fits (λ q low. zeros_apart p table new is q (λ same. omega arith)) (λ q high. zeros_apart p table new is q (λ same. omega arith))

-- in the changes
pub zeros_now : (base count p : ℕ) (table new : Numbered) (now : List (Option (List ℕ))) → listed count (or_grown base (written_over table)) ≡ now → written_over table p ≡ None → new ≡ table ++ (p, zero_page) ∷ [] → base ≤ p
    → listed count (or_grown base (written_over new)) ≡ now
zeros_now base count p table new now was none is le =
    listed_same count (or_grown base (written_over new)) (or_grown base (written_over table)) (λ q lt. zeros_added base p table new none is le q) ∙ was

-- and at the mark
pub zeros_mark : (base count below : ℕ) (table new saved : Numbered) (p : ℕ) (w : List ℕ) (o : Option Mark) → ForSome o (FitsMark base count below table saved) → new ≡ table ++ (p, w) ∷ []
    → ForSome o (FitsMark base count below new saved)
zeros_mark base count below table new saved p w o fits is mark some =
    let none : below + 0 ≡ below = omega arith in
    subst (λ n. FitsMark base count n new saved mark) none (add_mark base count below 0 table new saved p w o fits is mark some)

-- the bytes that a page has, put in its place
with_page_same : (pages : Numbered) (place p : ℕ) (v : List ℕ) → slice_get pages place ≡ Some (p, v) → with_page pages place v ≡ pages
with_page_same [] place p v is = refl
with_page_same (page ∷ pages) zero p v is =
    let bytes : v ≡ page.1 = let same : page ≡ (p, v) = cc in sym (ap (λ (e : ℕ × List ℕ). e.1) same) in
    ap (λ w. (page.0, w) ∷ pages) bytes
with_page_same (page ∷ pages) (suc place) p v is = ap (λ rest. page ∷ rest) (with_page_same pages place p v is)

-- what a save leaves at the mark
pub saves_keep : (base count below : ℕ) (table saved saved_new : Numbered) (o : Option Mark) (p : ℕ) → ForSome o (FitsMark base count below table saved) → Saves o table p saved saved_new
    → ForSome o (KeepsMark base count below table saved table saved_new)
saves_keep base count below table saved saved_new o p fits (inl same) mark some =
    subst (λ (pages : Numbered). KeepsMark base count below table saved table pages mark) (sym same) (record { fits = fits mark some; same = refl })
saves_keep base count below table saved saved_new o p fits (inr put) mark some =
    subst (λ (pages : Numbered). KeepsMark base count below table saved pages saved_new mark) (with_page_same table put.0 p put.1.page put.1.there)
    (saved_keeps base count below table saved saved_new o p put.0 put.1.page put.1 fits put.2 put.3 mark some)

-- once it was saved, a page is free
pub saved_free : (o : Option Mark) (saved saved_new : Numbered) (p place : ℕ) (w : List ℕ) → is_free_in o saved p place ≡ false → saved_new ≡ saved ++ (p, w) ∷ [] → is_free_in o saved_new p place ≡ true
saved_free None saved saved_new p place w taken is = refl
saved_free (Some mark) saved saved_new p place w taken is =
    let unsaved : written_over saved p ≡ None = unsaved_if (leb mark.written place) (written_over saved p) taken in
    let there : written_over saved_new p ≡ Some w = ap (λ (pages : Numbered). written_over pages p) is ∙ push_here saved p w unsaved in
    rw there (or_true (leb mark.written place)) where
      unsaved_if : (b : Bool) (o : Option (List ℕ)) → (b || is_some o) ≡ false → o ≡ None
      unsaved_if b None none = refl
      unsaved_if true (Some x) none = absurd (cc)
      unsaved_if false (Some x) none = absurd (cc)

      or_true : (b : Bool) → (b || true) ≡ true
      or_true true = refl
      or_true false = refl

-- the bytes of a page that lies there
pub bytes_lie : (table : Numbered) (p place : ℕ) (d : ℕ × List ℕ) (lies : LiesAt table p place) → (get_or table place d).1 ≡ lies.page
bytes_lie table p place d lies = ap (λ (e : ℕ × List ℕ). e.1) (get_or_from_slice_get table place (p, lies.page) d lies.there)

-- a page that is there is found
key_found : (pages : Numbered) (k : ℕ) (d : ℕ × List ℕ) → k < length pages → IsSome (written_over pages (get_or pages k d).0)
key_found [] k d lt = absurd (omega arith)
key_found (page ∷ pages) zero d lt = let here : nat_eq page.0 page.0 ≡ true = grind (arith, nat_tests) in rw here refl
key_found (page ∷ pages) (suc k) d lt = found_behind (nat_eq (get_or pages k d).0 page.0) page.1 (written_over pages (get_or pages k d).0) (key_found pages k d (omega arith)) where
  found_behind : (b : Bool) (w : List ℕ) (o : Option (List ℕ)) → IsSome o → IsSome (cond b (Some w) o)
  found_behind true w o some = refl
  found_behind false w o some = some

-- where no page has a change, none was written
pub none_written : (base count below : ℕ) (pages : Numbered) → FitsCounts base count below (written_over pages) → below + (count - base) ≡ 0 → pages ≡ []
none_written base count below [] fits none = refl
none_written base count below (page ∷ pages) fits none =
    let some : IsSome (written_over (page ∷ pages) page.0) = key_found (page ∷ pages) 0 page (omega arith) in
    let absent : written_over (page ∷ pages) page.0 ≡ None = elim (cases_lt page.0 base) [
      | inl low ↦
          (let unchanged : changed_in (listed base (written_over (page ∷ pages))) ≡ 0 = omega (arith, fits.counted, none) in
          sym (get_or-listed base (written_over (page ∷ pages)) page.0 None low) ∙ changed_in-none (listed base (written_over (page ∷ pages))) page.0 unchanged)
      | inr high ↦ fits.within page.0 (omega (arith, high, none, fits.grown))
    ] in
    let wrong = subst IsSome absent some in absurd (cc)

-- all pages that were written are below the count
pub all_below : (base count below : ℕ) (pages : Numbered) (size : ℕ) → FitsCounts base count below (written_over pages) → size ≡ count → All (λ page. page.0 < size) pages
all_below base count below pages size fits is k d lt = elim (cases_lt (get_or pages k d).0 count) [
  | inl low ↦ omega (arith, low)
  | inr high ↦ (let some = subst IsSome (fits.within (get_or pages k d).0 high) (key_found pages k d lt) in absurd (cc))
]

-- the same, of changes that are seen
pub seen_some : (base count : ℕ) (f : ℕ → Option (List ℕ)) (p : ℕ) → p < length (listed count (or_grown base f)) → base ≤ p → IsSome (get_or (listed count (or_grown base f)) p None)
seen_some base count f p lt le = found_some base count f (record { base = base; now = listed count (or_grown base f); marked = None; kept = 0; pages = [] }) p refl lt le
