-- What was written over pages, as it is put, saved and counted.
use Rattle.std.proofs.Common.{◌≡◌, ◌≢◌, ◌≤◌, ◌<◌, ◌+◌, ◌-◌, ◌||◌, ℕ, zero, suc, List, [], ◌∷◌, ◌++◌, Option, Some, None, length, take, get_or, set, cond, nat_eq, leb, ltb, true, false, slice_get, refl, sym, ap, ◌∙◌, subst, inl, inr, arith, length-append}
use Rattle.std.specs.Prelude.{IsSome, is_some}
use Rattle.std.specs.Option.{option_or}
use Rattle.std.specs.Cmp.{nat_eq_equiv}
use Rattle.std.specs.Map.{lookup, set_value}
use Rattle.std.proofs.lemmas.Bool.{cases_eq, cases_lt}
use Rattle.std.proofs.lemmas.Bool.Decides.{Decides-eqb, nat_tests}
use Rattle.std.proofs.lemmas.List.{take-append-le}
use Rattle.std.proofs.lemmas.Map.{lookup-set_value}
use Rattle.dirty_pages.specs.declared.changes.Mark.{Mark}
use Rattle.dirty_pages.specs.Changes.{Changed, changed_in, nothing, unchanged}
use Rattle.dirty_pages.specs.Table.{Numbered, LiesAt, with_page}
use Rattle.mdc_words.specs.Listed.{listed}
use Rattle.dirty_pages.specs.ChangesView.{or_grown, written_over, written_before, FitsCounts, FitsMark}
use Rattle.mdc_words.proofs.ListedLemmas.{length-listed, get_or-listed, listed_same}
use Rattle.dirty_pages.proofs.Overlays.{listed_put, same_listed, listed_none, grown_below, changed_in-set_new, changed_in-set_over, set-past}

-- a number is itself, and no other
self : (p : ℕ) → nat_eq p p ≡ true
self p = grind (arith, nat_tests)

other : (p q : ℕ) → q ≢ p → nat_eq q p ≡ false
other p q ne = grind (arith, nat_tests)

other_back : (p q : ℕ) → q ≢ p → nat_eq p q ≡ false
other_back p q ne = grind (arith, nat_tests)

-- a page that comes last is found, where none has its number
pub push_here : (pages : Numbered) (p : ℕ) (w : List ℕ) → written_over pages p ≡ None → written_over (pages ++ (p, w) ∷ []) p ≡ Some w
push_here [] p w none = let same = self p in rw same refl
push_here (page ∷ pages) p w none = (elim (nat_eq p page.0) as (λ y. nat_eq p page.0 ≡ y → written_over ((page ∷ pages) ++ (p, w) ∷ []) p ≡ Some w) [
  | true ↦ λ here. let there = rw here at none in absurd (cc)
  | false ↦ λ apart. rw apart (push_here pages p w (rw apart at none))
]) refl

-- and each other is found as before
pub push_apart : (pages : Numbered) (p : ℕ) (w : List ℕ) (q : ℕ) → q ≢ p → written_over (pages ++ (p, w) ∷ []) q ≡ written_over pages q
push_apart [] p w q ne = let apart = other p q ne in rw apart refl
push_apart (page ∷ pages) p w q ne = (elim (nat_eq q page.0) as (λ y. nat_eq q page.0 ≡ y → written_over ((page ∷ pages) ++ (p, w) ∷ []) q ≡ written_over (page ∷ pages) q) [
  | true ↦ λ here. rw here refl
  | false ↦ λ apart. rw apart (push_apart pages p w q ne)
]) refl

-- what comes last is there
last_there : (pages : Numbered) (p : ℕ) (w : List ℕ) → slice_get (pages ++ (p, w) ∷ []) (length pages) ≡ Some (p, w)
last_there [] p w = refl
last_there (page ∷ pages) p w = last_there pages p w

-- bytes that are put there are put under its number, where none has it
put_last : (pages : Numbered) (p : ℕ) (w bytes : List ℕ) → written_over pages p ≡ None
    → with_page (pages ++ (p, w) ∷ []) (length pages) bytes ≡ set_value (nat_eq p) (pages ++ (p, w) ∷ []) bytes
put_last [] p w bytes none = let same = self p in rw same refl
put_last (page ∷ pages) p w bytes none = (elim (nat_eq p page.0) as (λ y. nat_eq p page.0 ≡ y → with_page ((page ∷ pages) ++ (p, w) ∷ []) (length (page ∷ pages)) bytes ≡ set_value (nat_eq p) ((page ∷ pages) ++ (p, w) ∷ []) bytes) [
  | true ↦ λ here. let there = rw here at none in absurd (cc)
  | false ↦ λ apart. rw apart (ap (λ rest. page ∷ rest) (put_last pages p w bytes (rw apart at none)))
]) refl

-- so a page that came last lies there
pub lies_last : (table new : Numbered) (p last : ℕ) (w : List ℕ) → written_over table p ≡ None → new ≡ table ++ (p, w) ∷ [] → last ≡ length new - 1 → LiesAt new p last
lies_last table new p last w none is place =
    let here : LiesAt (table ++ (p, w) ∷ []) p (length table) = record { page = w; there = last_there table p w; found = push_here table p w none; put = λ bytes. put_last table p w bytes none } in
    let same : last ≡ length table = omega (arith, ap length is, length-append table ((p, w) ∷ [])) in
    subst (λ (pages : Numbered). LiesAt pages p last) (sym is) (subst (λ k. LiesAt (table ++ (p, w) ∷ []) p k) (sym same) here)

-- what tests as the same number is
one_number : (p : ℕ) (x y : ℕ) → nat_eq p x ≡ true → nat_eq p y ≡ nat_eq x y
one_number p x y is = let same : p ≡ x = (Decides-eqb p x).0 is in ap (λ n. nat_eq n y) same

-- bytes that are put at a place are found
pub put_here : (pages : Numbered) (p place : ℕ) (w : List ℕ) → LiesAt pages p place → written_over (with_page pages place w) p ≡ Some w
put_here pages p place w lies =
    let there : IsSome (lookup (nat_eq p) pages) = subst IsSome (sym lies.found) refl in
    let same = self p in
    let found = lookup-set_value nat_eq_equiv (nat_eq p) (one_number p) p w pages there in
    ap (lookup (nat_eq p)) (lies.put w) ∙ (found ∙ (rw same refl))

-- and each other is found as before
pub put_apart : (pages : Numbered) (p place : ℕ) (w : List ℕ) → LiesAt pages p place → (q : ℕ) → q ≢ p → written_over (with_page pages place w) q ≡ written_over pages q
put_apart pages p place w lies q ne =
    let there : IsSome (lookup (nat_eq p) pages) = subst IsSome (sym lies.found) refl in
    let apart = other_back p q ne in
    let found = lookup-set_value nat_eq_equiv (nat_eq p) (one_number p) q w pages there in
    ap (lookup (nat_eq q)) (lies.put w) ∙ (found ∙ (rw apart refl))

-- as many pages as before
pub length-with_page : (pages : Numbered) (place : ℕ) (w : List ℕ) → length (with_page pages place w) ≡ length pages
length-with_page [] place w = refl
length-with_page (page ∷ pages) zero w = refl
length-with_page (page ∷ pages) (suc place) w = ap suc (length-with_page pages place w)

-- the first pages, with other bytes at a place
take-with_page : (n : ℕ) (pages : Numbered) (place : ℕ) (w : List ℕ) → take n (with_page pages place w) ≡ with_page (take n pages) place w
take-with_page zero pages place w = refl
take-with_page (suc n) [] place w = refl
take-with_page (suc n) (page ∷ pages) zero w = refl
take-with_page (suc n) (page ∷ pages) (suc place) w = ap (λ rest. page ∷ rest) (take-with_page n pages place w)

-- the place is behind them
take-with_page-past : (n : ℕ) (pages : Numbered) (place : ℕ) (w : List ℕ) → n ≤ place → take n (with_page pages place w) ≡ take n pages
take-with_page-past zero pages place w le = refl
take-with_page-past (suc n) [] place w le = refl
take-with_page-past (suc n) (page ∷ pages) zero w le = absurd (omega arith)
take-with_page-past (suc n) (page ∷ pages) (suc place) w le = ap (λ rest. page ∷ rest) (take-with_page-past n pages place w (omega arith))

-- a page among the first
slice_get-front : (n : ℕ) (pages : Numbered) (place : ℕ) (page : ℕ × List ℕ) → slice_get pages place ≡ Some page → place < n → slice_get (take n pages) place ≡ Some page
slice_get-front zero pages place page is lt = absurd (omega arith)
slice_get-front (suc n) [] place page is lt = is
slice_get-front (suc n) (first ∷ pages) zero page is lt = is
slice_get-front (suc n) (first ∷ pages) (suc place) page is lt = slice_get-front n pages place page is (omega arith)

lookup-front : (n : ℕ) (pages : Numbered) (place p : ℕ) (v : List ℕ) → slice_get pages place ≡ Some (p, v) → place < n → lookup (nat_eq p) (take n pages) ≡ lookup (nat_eq p) pages
lookup-front zero pages place p v is lt = absurd (omega arith)
lookup-front (suc n) [] place p v is lt = refl
lookup-front (suc n) (first ∷ pages) zero p v is lt =
    let number : first.0 ≡ p = let same : first ≡ (p, v) = cc in ap (λ (e : ℕ × List ℕ). e.0) same in
    let here : nat_eq p first.0 ≡ true = (Decides-eqb p first.0).1 (sym number) in
    rw here refl
lookup-front (suc n) (first ∷ pages) (suc place) p v is lt = ap (λ rest. cond (nat_eq p first.0) (Some first.1) rest) (lookup-front n pages place p v is (omega arith))

put-front : (n : ℕ) (pages : Numbered) (place p : ℕ) (v w : List ℕ) → slice_get pages place ≡ Some (p, v) → place < n → take n (set_value (nat_eq p) pages w) ≡ set_value (nat_eq p) (take n pages) w
put-front zero pages place p v w is lt = absurd (omega arith)
put-front (suc n) [] place p v w is lt = refl
put-front (suc n) (first ∷ pages) zero p v w is lt =
    let number : first.0 ≡ p = let same : first ≡ (p, v) = cc in ap (λ (e : ℕ × List ℕ). e.0) same in
    let here : nat_eq p first.0 ≡ true = (Decides-eqb p first.0).1 (sym number) in
    rw here refl
put-front (suc n) (first ∷ pages) (suc place) p v w is lt = (elim (nat_eq p first.0) as (λ y. nat_eq p first.0 ≡ y → take (suc n) (set_value (nat_eq p) (first ∷ pages) w) ≡ set_value (nat_eq p) (take (suc n) (first ∷ pages)) w) [
  | true ↦ λ here. rw here refl
  | false ↦ λ apart. rw apart (ap (λ rest. first ∷ rest) (put-front n pages place p v w is (omega arith)))
]) refl

pub lies_front : (n : ℕ) (pages : Numbered) (p place : ℕ) → LiesAt pages p place → place < n → LiesAt (take n pages) p place
lies_front n pages p place lies lt = record {
  page = lies.page;
  there = slice_get-front n pages place (p, lies.page) lies.there lt;
  found = lookup-front n pages place p lies.page lies.there lt ∙ lies.found;
  put = λ w. sym (take-with_page n pages place w) ∙ (ap (take n) (lies.put w) ∙ put-front n pages place p lies.page w lies.there lt);
}

-- no page is at or behind the count, once one below it was written
within_put : (count p : ℕ) (f g : ℕ → Option (List ℕ)) → p < count → ((q : ℕ) → q ≢ p → g q ≡ f q) → ((q : ℕ) → count ≤ q → f q ≡ None) → (q : ℕ) → count ≤ q → g q ≡ None
within_put count p f g lt apart within q le = apart q (λ same. omega arith) ∙ within q le

-- a page that was written for the first time
pub fits_new : (base count below more p : ℕ) (f g : ℕ → Option (List ℕ)) (w : List ℕ) → FitsCounts base count below f → f p ≡ None → g p ≡ Some w
    → ((q : ℕ) → q ≢ p → g q ≡ f q) → p < count → more ≡ cond (ltb p base) 1 0 → FitsCounts base count (below + more) g
fits_new base count below more p f g w fits none here apart lt is_more = record {
  grown = fits.grown;
  within = within_put count p f g lt apart fits.within;
  counted =
      let put : listed base g ≡ set (listed base f) p (Some w) = listed_put base f g p (Some w) here apart in
      let all : changed_in (listed base g) ≡ changed_in (set (listed base f) p (Some w)) = ap changed_in put in
      elim (cases_lt p base) [
        | inl low ↦ (let one : more ≡ 1 = let test : ltb p base ≡ true = grind (arith, nat_tests) in is_more ∙ (rw test refl) in
            omega (arith, fits.counted, one, all, changed_in-set_new (listed base f) p w (omega (arith, length-listed base f)) (get_or-listed base f p None low ∙ none)))
        | inr high ↦ (let zeros : more ≡ 0 = let test : ltb p base ≡ false = grind (arith, nat_tests) in is_more ∙ (rw test refl) in
            omega (arith, fits.counted, zeros, all, ap changed_in (set-past (listed base f) p (Some w) (omega (arith, length-listed base f)))))
      ];
}

-- a page that had been written before
pub fits_over : (base count below p : ℕ) (f g : ℕ → Option (List ℕ)) (v w : List ℕ) → FitsCounts base count below f → f p ≡ Some v → g p ≡ Some w
    → ((q : ℕ) → q ≢ p → g q ≡ f q) → FitsCounts base count below g
fits_over base count below p f g v w fits had here apart = record {
  grown = fits.grown;
  within = λ q le. elim (cases_eq q p) [
    | inl same ↦ (let none : f p ≡ None = subst (λ k. f k ≡ None) same (fits.within q le) in absurd (cc))
    | inr ne ↦ (apart q ne ∙ fits.within q le)
  ];
  counted =
      let put : listed base g ≡ set (listed base f) p (Some w) = listed_put base f g p (Some w) here apart in
      fits.counted ∙ sym (ap changed_in put ∙ changed_in-set_over (listed base f) p w v (λ lt. get_or-listed base f p None (omega (arith, length-listed base f)) ∙ had));
}

-- what was written is the same
pub fits_same : (base count below : ℕ) (f g : ℕ → Option (List ℕ)) → FitsCounts base count below f → ((q : ℕ) → g q ≡ f q) → FitsCounts base count below g
fits_same base count below f g fits same = record {
  grown = fits.grown;
  within = λ q le. same q ∙ fits.within q le;
  counted = fits.counted ∙ sym (ap changed_in (listed_same base g f (λ q lt. same q)));
}

-- what was written below the base is the same, and all stands below the count
pub fits_below : (base count below : ℕ) (f g : ℕ → Option (List ℕ)) → FitsCounts base count below f → ((q : ℕ) → q < base → g q ≡ f q) → ((q : ℕ) → count ≤ q → g q ≡ f q) → FitsCounts base count below g
fits_below base count below f g fits low high = record {
  grown = fits.grown;
  within = λ q le. high q le ∙ fits.within q le;
  counted = fits.counted ∙ sym (ap changed_in (listed_same base g f low));
}

-- more pages
pub fits_grown : (base count below n : ℕ) (f : ℕ → Option (List ℕ)) → FitsCounts base count below f → FitsCounts base (count + n) below f
fits_grown base count below n f fits = record { grown = omega (arith, fits.grown); within = λ q le. fits.within q (omega arith); counted = fits.counted }

-- nothing was written
changed_none : (n : ℕ) → changed_in (listed n (written_over [])) ≡ 0
changed_none n = ap changed_in (listed_none n (written_over []) (λ p lt. refl)) ∙ changed_unchanged n where
  changed_unchanged : (k : ℕ) → changed_in (unchanged k) ≡ 0
  changed_unchanged zero = refl
  changed_unchanged (suc k) = changed_unchanged k

pub fits_none : (n : ℕ) (pages : Numbered) → pages ≡ [] → FitsCounts n n 0 (written_over pages)
fits_none n pages none = subst (λ (all : Numbered). FitsCounts n n 0 (written_over all)) (sym none) (record { grown = omega arith; within = λ q le. refl; counted = sym (changed_none n) })

-- what nothing is seen as
pub new_view : (n : ℕ) (pages : Numbered) → pages ≡ []
    → record { base = n; now = listed n (or_grown n (written_over pages)); marked = None; kept = 0 + (n - n); pages = pages } ≡ nothing n
new_view n pages none =
    let all : listed n (or_grown n (written_over [])) ≡ unchanged n = listed_none n (or_grown n (written_over [])) (λ p lt. grown_below n (written_over []) p lt) in
    let zeros : 0 + (n - n) ≡ 0 = omega arith in
    rw (none, all, zeros) refl

-- the page of a number: what was written, or zeros where it was grown
pub found_page : (n base : ℕ) (f : ℕ → Option (List ℕ)) (changes : Changed) (p : ℕ) → listed n (or_grown base f) ≡ changes.now → p < length changes.now
    → get_or changes.now p None ≡ or_grown base f p
found_page n base f changes p is lt =
    let within : p < n = omega (arith, ap length is, length-listed n (or_grown base f)) in
    ap (λ (xs : List (Option (List ℕ))). get_or xs p None) (sym is) ∙ get_or-listed n (or_grown base f) p None within

-- one more page was written: the mark stays
pub mark_push : (base count below more : ℕ) (table saved : Numbered) (mark : Mark) (p : ℕ) (w : List ℕ) → FitsMark base count below table saved mark
    → FitsMark base count (below + more) (table ++ (p, w) ∷ []) saved mark
mark_push base count below more table saved mark p w fits =
    let same : take mark.written (table ++ (p, w) ∷ []) ≡ take mark.written table = take-append-le mark.written table ((p, w) ∷ []) fits.fewer in record {
      fewer = omega (arith, fits.fewer, length-append table ((p, w) ∷ []));
      no_more = fits.no_more;
      no_more_below = omega (arith, fits.no_more_below);
      before = subst (λ (pages : Numbered). FitsCounts base mark.count mark.below (written_over pages)) (sym same) fits.before;
      over = λ q had. subst (λ (pages : Numbered). IsSome (written_over pages q)) (sym same) (fits.over q had);
    }

-- and so do the changes at it
pub marked_push : (base count below : ℕ) (table saved : Numbered) (mark : Mark) (p : ℕ) (w : List ℕ) → FitsMark base count below table saved mark
    → listed mark.count (or_grown base (written_before saved (take mark.written (table ++ (p, w) ∷ [])))) ≡ listed mark.count (or_grown base (written_before saved (take mark.written table)))
marked_push base count below table saved mark p w fits =
    ap (λ (pages : Numbered). listed mark.count (or_grown base (written_before saved pages))) (take-append-le mark.written table ((p, w) ∷ []) fits.fewer)

-- what is behind the mark
pub record KeepsMark (base count below : ℕ) (table saved table_new saved_new : Numbered) (mark : Mark) : Type 0 where
  pub fits : FitsMark base count below table_new saved_new mark
  pub same : listed mark.count (or_grown base (written_before saved_new (take mark.written table_new))) ≡ listed mark.count (or_grown base (written_before saved (take mark.written table)))

-- a page was written over that wasn't written at the mark
keeps_past : (base count below : ℕ) (table saved : Numbered) (mark : Mark) (place : ℕ) (w : List ℕ) → FitsMark base count below table saved mark → mark.written ≤ place
    → KeepsMark base count below table saved (with_page table place w) saved mark
keeps_past base count below table saved mark place w fits le =
    let same : take mark.written (with_page table place w) ≡ take mark.written table = take-with_page-past mark.written table place w le in record {
      fits = record {
        fewer = omega (arith, fits.fewer, length-with_page table place w);
        no_more = fits.no_more;
        no_more_below = fits.no_more_below;
        before = subst (λ (pages : Numbered). FitsCounts base mark.count mark.below (written_over pages)) (sym same) fits.before;
        over = λ q had. subst (λ (pages : Numbered). IsSome (written_over pages q)) (sym same) (fits.over q had);
      };
      same = ap (λ (pages : Numbered). listed mark.count (or_grown base (written_before saved pages))) same;
    }

-- a page is there after one was put
some_put : (pages : Numbered) (p place : ℕ) (w : List ℕ) → LiesAt pages p place → (q : ℕ) → IsSome (written_over pages q) → IsSome (written_over (with_page pages place w) q)
some_put pages p place w lies q had = elim (cases_eq q p) [
  | inl same ↦ (let here : written_over (with_page pages place w) q ≡ Some w = subst (λ k. written_over (with_page pages place w) k ≡ Some w) (sym same) (put_here pages p place w lies) in subst IsSome (sym here) refl)
  | inr ne ↦ subst IsSome (sym (put_apart pages p place w lies q ne)) had
]

-- a page was written over whose bytes at the mark are saved, or are saved with it
keeps_front : (base count below : ℕ) (table saved saved_new : Numbered) (mark : Mark) (p place : ℕ) (w : List ℕ) → FitsMark base count below table saved mark → LiesAt table p place → place < mark.written
    → ((q : ℕ) → q ≢ p → written_over saved_new q ≡ written_over saved q)
    → written_before saved_new (with_page (take mark.written table) place w) p ≡ written_before saved (take mark.written table) p
    → KeepsMark base count below table saved (with_page table place w) saved_new mark
keeps_front base count below table saved saved_new mark p place w fits lies lt apart here =
    let front : LiesAt (take mark.written table) p place = lies_front mark.written table p place lies lt in
    let same : take mark.written (with_page table place w) ≡ with_page (take mark.written table) place w = take-with_page mark.written table place w in record {
      fits = record {
        fewer = omega (arith, fits.fewer, length-with_page table place w);
        no_more = fits.no_more;
        no_more_below = fits.no_more_below;
        before = subst (λ (pages : Numbered). FitsCounts base mark.count mark.below (written_over pages)) (sym same)
            (fits_over base mark.count mark.below p (written_over (take mark.written table)) (written_over (with_page (take mark.written table) place w)) front.page w fits.before front.found
            (put_here (take mark.written table) p place w front) (put_apart (take mark.written table) p place w front));
        over = λ q had. subst (λ (pages : Numbered). IsSome (written_over pages q)) (sym same) (elim (cases_eq q p) [
          | inl is ↦ (let there : written_over (with_page (take mark.written table) place w) q ≡ Some w = subst (λ k. written_over (with_page (take mark.written table) place w) k ≡ Some w) (sym is) (put_here (take mark.written table) p place w front) in subst IsSome (sym there) refl)
          | inr ne ↦ some_put (take mark.written table) p place w front q (fits.over q (subst IsSome (apart q ne) had))
        ]);
      };
      same = ap (λ (pages : Numbered). listed mark.count (or_grown base (written_before saved_new pages))) same
          ∙ same_listed mark.count base (written_before saved (take mark.written table)) (written_before saved_new (with_page (take mark.written table) place w)) (λ q. elim (cases_eq q p) [
            | inl is ↦ subst (λ k. written_before saved_new (with_page (take mark.written table) place w) k ≡ written_before saved (take mark.written table) k) (sym is) here
            | inr ne ↦ (let one = apart q ne in let two = put_apart (take mark.written table) p place w front q ne in rw (one, two) refl)
          ]);
    }

-- what was saved comes first
before_saved : (o : Option (List ℕ)) (a b : Option (List ℕ)) → IsSome o → option_or o a ≡ option_or o b
before_saved None a b had = absurd (cc)
before_saved (Some x) a b had = refl

-- a page that may be written over in its place
pub keeps_free : (base count below : ℕ) (table saved : Numbered) (mark : Mark) (p place : ℕ) (w : List ℕ) → FitsMark base count below table saved mark → LiesAt table p place
    → (leb mark.written place || is_some (written_over saved p)) ≡ true → KeepsMark base count below table saved (with_page table place w) saved mark
keeps_free base count below table saved mark p place w fits lies free = elim (cases_lt place mark.written) [
  | inr past ↦ keeps_past base count below table saved mark place w fits past
  | inl lt ↦ (let test : leb mark.written place ≡ false = grind (arith, nat_tests) in
      let had : is_some (written_over saved p) ≡ true = rw test at free in
      keeps_front base count below table saved saved mark p place w fits lies lt (λ q ne. refl) (before_saved (written_over saved p) (written_over (with_page (take mark.written table) place w) p) (written_over (take mark.written table) p) had))
]

-- a page whose bytes at the mark are saved first
pub keeps_saved : (base count below : ℕ) (table saved saved_new : Numbered) (mark : Mark) (p place : ℕ) (w : List ℕ) (lies : LiesAt table p place) → FitsMark base count below table saved mark
    → (leb mark.written place || is_some (written_over saved p)) ≡ false → saved_new ≡ saved ++ (p, lies.page) ∷ []
    → KeepsMark base count below table saved (with_page table place w) saved_new mark
keeps_saved base count below table saved saved_new mark p place w lies fits free is = elim (cases_lt place mark.written) [
  | inr past ↦ (let test : leb mark.written place ≡ true = grind (arith, nat_tests) in let wrong = rw test at free in absurd (cc))
  | inl lt ↦ (let test : leb mark.written place ≡ false = grind (arith, nat_tests) in
      let unsaved : is_some (written_over saved p) ≡ false = rw test at free in
      let none : written_over saved p ≡ None = no_some (written_over saved p) unsaved in
      let front : LiesAt (take mark.written table) p place = lies_front mark.written table p place lies lt in
      let now : written_over saved_new p ≡ Some lies.page = ap (λ (pages : Numbered). written_over pages p) is ∙ push_here saved p lies.page none in
      let was : written_over (take mark.written table) p ≡ Some lies.page = lookup-front mark.written table place p lies.page lies.there lt ∙ lies.found in
      keeps_front base count below table saved saved_new mark p place w fits lies lt
      (λ q ne. ap (λ (pages : Numbered). written_over pages q) is ∙ push_apart saved p lies.page q ne)
      (rw (now, none, was) refl))
] where
  no_some : (o : Option (List ℕ)) → is_some o ≡ false → o ≡ None
  no_some None unsaved = refl
  no_some (Some x) unsaved = absurd (cc)

-- a page exchanged for the last one
pub swapped_last : (saved : Numbered) (p : ℕ) (w v : List ℕ) → with_page (saved ++ (p, w) ∷ []) (length saved) v ≡ saved ++ (p, v) ∷ []
swapped_last [] p w v = refl
swapped_last (page ∷ saved) p w v = ap (λ rest. page ∷ rest) (swapped_last saved p w v)
