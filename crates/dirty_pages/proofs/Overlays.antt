-- Lists that are made from what a function gives for each number, and how many of their pages have a change.
use Rattle.std.proofs.Common.{◌≡◌, ◌≢◌, ◌≤◌, ◌<◌, ◌+◌, ◌-◌, ℕ, zero, suc, List, [], ◌∷◌, ◌++◌, Option, Some, None, length, replicate, get_or, set, leb, true, false, refl, sym, ap, ◌∙◌, subst, inl, inr, arith, length-append, get_or-set_other, get_or-set_same}
use Rattle.std.specs.Prelude.{is_some}
use Rattle.std.specs.Option.{option_or}
use Rattle.std.proofs.lemmas.Bool.{cases_eq, cases_lt}
use Rattle.std.proofs.lemmas.Bool.Decides.{nat_tests}
use Rattle.std.proofs.lemmas.List.{length-set, length-replicate, get_or_append_left, get_or-append_right, get_or-replicate}
use Rattle.std.proofs.lemmas.List.FromFn.{fill_by_all}
use Rattle.store_api.specs.StoreState.{zero_page}
use Rattle.dirty_pages.specs.Changes.{Overlay, changed_in, unchanged}
use Rattle.mdc_words.specs.Listed.{listed}
use Rattle.dirty_pages.specs.ChangesView.{or_grown}
use Rattle.mdc_words.proofs.ListedLemmas.{length-listed, get_or-listed, listed_same}

-- each of them
listed_put_at : (n : ℕ) (f g : ℕ → Option (List ℕ)) (p : ℕ) (w : Option (List ℕ)) → g p ≡ w → ((q : ℕ) → q ≢ p → g q ≡ f q) → (q : ℕ) → q < n → get_or (set (listed n f) p w) q None ≡ g q
listed_put_at n f g p w here apart q lt =
    elim (cases_eq q p) [
      | inl e ↦ (let within : p < length (listed n f) = omega (arith, length-listed n f) in
          let there : get_or (set (listed n f) p w) p None ≡ g p = rw (get_or-set_same, here) refl in
          subst (λ (k : ℕ). get_or (set (listed n f) p w) k None ≡ g k) (sym e) there)
      | inr ne ↦ rw get_or-set_other (get_or-listed n f q None lt ∙ sym (apart q ne))
    ]

-- functions that agree but at one number
pub listed_put : (n : ℕ) (f g : ℕ → Option (List ℕ)) (p : ℕ) (w : Option (List ℕ)) → g p ≡ w → ((q : ℕ) → q ≢ p → g q ≡ f q) → listed n g ≡ set (listed n f) p w
listed_put n f g p w here apart =
    sym (fill_by_all g (set (listed n f) p w) n None (length-set (listed n f) p w ∙ length-listed n f) (λ q lt. listed_put_at n f g p w here apart q lt))

-- each of them
listed_more_at : (n k : ℕ) (f : ℕ → Option (List ℕ)) (v : Option (List ℕ)) → ((q : ℕ) → n ≤ q → f q ≡ v) → (q : ℕ) → q < n + k → get_or (listed n f ++ replicate k v) q None ≡ f q
listed_more_at n k f v all q lt =
    elim (cases_lt q n) [
      | inl below ↦ (get_or_append_left (listed n f) (replicate k v) None q (omega (arith, length-listed n f)) ∙ get_or-listed n f q None below)
      | inr behind ↦ (let place : q - n < k = omega arith in
          get_or-append_right (listed n f) (replicate k v) n q None (length-listed n f) behind ∙ (get_or-replicate k (q - n) v None place ∙ sym (all q behind)))
    ]

-- more of them, which are all the same
pub listed_more : (n k : ℕ) (f : ℕ → Option (List ℕ)) (v : Option (List ℕ)) → ((q : ℕ) → n ≤ q → f q ≡ v) → listed (n + k) f ≡ listed n f ++ replicate k v
listed_more n k f v all =
    sym (fill_by_all f (listed n f ++ replicate k v) (n + k) None (omega (arith, length-append (listed n f) (replicate k v), length-listed n f, length-replicate {A = Option (List ℕ)} k v)) (λ q lt. listed_more_at n k f v all q lt))

-- none of them
pub listed_none : (n : ℕ) (f : ℕ → Option (List ℕ)) → ((p : ℕ) → p < n → f p ≡ None) → listed n f ≡ unchanged n
listed_none n f none =
    sym (fill_by_all f (unchanged n) n None (length-replicate {A = Option (List ℕ)} n None) (λ p lt. get_or-replicate n p None None lt ∙ sym (none p lt)))

-- a page that was written is no other for having been grown
pub grown_written : (base : ℕ) (f : ℕ → Option (List ℕ)) (p : ℕ) (w : List ℕ) → f p ≡ Some w → or_grown base f p ≡ Some w
grown_written base f p w is = rw is refl

-- below the base no page was grown
pub grown_below : (base : ℕ) (f : ℕ → Option (List ℕ)) (p : ℕ) → p < base → or_grown base f p ≡ f p
grown_below base f p lt =
    let test : leb base p ≡ false = grind (arith, nat_tests) in
    rw test (elim (f p) as (λ o. option_or o None ≡ o) [ Some w ↦ refl | None ↦ refl ])

-- from the base on each was
pub grown_zeros : (base : ℕ) (f : ℕ → Option (List ℕ)) (p : ℕ) → base ≤ p → f p ≡ None → or_grown base f p ≡ Some zero_page
grown_zeros base f p le none =
    let test : leb base p ≡ true = grind (arith, nat_tests) in
    rw (none, test) refl

-- a page that was written anew
pub set_listed : (n base : ℕ) (f g : ℕ → Option (List ℕ)) (p : ℕ) (w : List ℕ) → g p ≡ Some w → ((q : ℕ) → q ≢ p → g q ≡ f q)
    → listed n (or_grown base g) ≡ set (listed n (or_grown base f)) p (Some w)
set_listed n base f g p w here apart =
    listed_put n (or_grown base f) (or_grown base g) p (Some w) (grown_written base g p w here) (λ q ne. let same = apart q ne in rw same refl)

-- the same pages
pub same_listed : (n base : ℕ) (f g : ℕ → Option (List ℕ)) → ((q : ℕ) → g q ≡ f q) → listed n (or_grown base g) ≡ listed n (or_grown base f)
same_listed n base f g same = listed_same n (or_grown base g) (or_grown base f) (λ q lt. let one = same q in rw one refl)

-- no more pages have a change than there are
pub changed_in-length : (changes : Overlay) → changed_in changes ≤ length changes
changed_in-length [] = omega arith
changed_in-length (None ∷ changes) = omega (arith, changed_in-length changes)
changed_in-length (Some page ∷ changes) = omega (arith, changed_in-length changes)

-- where no page has a change, each has none
pub changed_in-none : (changes : Overlay) (p : ℕ) → changed_in changes ≡ 0 → get_or changes p None ≡ None
changed_in-none [] p none = refl
changed_in-none (None ∷ changes) zero none = refl
changed_in-none (None ∷ changes) (suc p) none = changed_in-none changes p none
changed_in-none (Some page ∷ changes) p none = absurd (omega arith)

-- a page more that has a change
pub changed_in-set_new : (changes : Overlay) (p : ℕ) (w : List ℕ) → p < length changes → get_or changes p None ≡ None → changed_in (set changes p (Some w)) ≡ changed_in changes + 1
changed_in-set_new [] p w lt none = absurd (omega arith)
changed_in-set_new (None ∷ changes) zero w lt none = omega arith
changed_in-set_new (Some page ∷ changes) zero w lt none = absurd (cc)
changed_in-set_new (None ∷ changes) (suc p) w lt none = changed_in-set_new changes p w (omega arith) none
changed_in-set_new (Some page ∷ changes) (suc p) w lt none = omega (arith, changed_in-set_new changes p w (omega arith) none)

-- a page that had one has another, or none is there
pub changed_in-set_over : (changes : Overlay) (p : ℕ) (w v : List ℕ) → (p < length changes → get_or changes p None ≡ Some v) → changed_in (set changes p (Some w)) ≡ changed_in changes
changed_in-set_over [] p w v had = refl
changed_in-set_over (None ∷ changes) zero w v had = let there = had (omega arith) in absurd (cc)
changed_in-set_over (Some page ∷ changes) zero w v had = refl
changed_in-set_over (None ∷ changes) (suc p) w v had = changed_in-set_over changes p w v (λ lt. had (omega arith))
changed_in-set_over (Some page ∷ changes) (suc p) w v had = ap (λ n. 1 + n) (changed_in-set_over changes p w v (λ lt. had (omega arith)))

-- a page past the end is none of them
pub set-past : {X : Type 0} (xs : List X) (p : ℕ) (x : X) → length xs ≤ p → set xs p x ≡ xs
set-past [] p x le = refl
set-past (first ∷ xs) zero x le = absurd (omega arith)
set-past (first ∷ xs) (suc p) x le = ap (λ rest. first ∷ rest) (set-past xs p x (omega arith))

-- how many of two lists have a change
changed_in-append : (front rest : Overlay) → changed_in (front ++ rest) ≡ changed_in front + changed_in rest
changed_in-append [] rest = omega arith
changed_in-append (None ∷ front) rest = changed_in-append front rest
changed_in-append (Some page ∷ front) rest = omega (arith, changed_in-append front rest)

-- one more
listed_next : (n : ℕ) (f : ℕ → Option (List ℕ)) (q : ℕ) → q < n + 1 → get_or (listed n f ++ f n ∷ []) q None ≡ f q
listed_next n f q lt =
    elim (cases_lt q n) [
      | inl below ↦ (get_or_append_left (listed n f) (f n ∷ []) None q (omega (arith, length-listed n f)) ∙ get_or-listed n f q None below)
      | inr behind ↦ (let last : q ≡ n = omega arith in
          let none : q - n ≡ 0 = omega arith in
          get_or-append_right (listed n f) (f n ∷ []) n q None (length-listed n f) behind ∙ (ap (λ k. get_or (f n ∷ []) k None) none ∙ ap f (sym last)))
    ]

listed_one : (n : ℕ) (f : ℕ → Option (List ℕ)) → listed (n + 1) f ≡ listed n f ++ f n ∷ []
listed_one n f =
    sym (fill_by_all f (listed n f ++ f n ∷ []) (n + 1) None (omega (arith, length-append (listed n f) (f n ∷ []), length-listed n f)) (λ q lt. listed_next n f q lt))

-- a page that has a change counts for one
one_changed : (o : Option (List ℕ)) (w : List ℕ) → o ≡ Some w → changed_in (o ∷ []) ≡ 1
one_changed o w is = rw is refl

-- every page from the base on has a change
pub grown_some : (base : ℕ) (f : ℕ → Option (List ℕ)) (p : ℕ) → base ≤ p → (w : List ℕ) × (or_grown base f p ≡ Some w)
grown_some base f p le = go (f p) refl where
  go : (o : Option (List ℕ)) → f p ≡ o → (w : List ℕ) × (or_grown base f p ≡ Some w)
  go None none = (zero_page, grown_zeros base f p le none)
  go (Some w) is = (w, grown_written base f p w is)

changed_grown : (base k : ℕ) (f : ℕ → Option (List ℕ)) → changed_in (listed (base + k) (or_grown base f)) ≡ changed_in (listed base f) + k
changed_grown base zero f =
    let none : base + 0 ≡ base = omega arith in
    let same : listed base (or_grown base f) ≡ listed base f = listed_same base (or_grown base f) f (λ p lt. grown_below base f p lt) in
    let all = ap (λ n. changed_in (listed n (or_grown base f))) none ∙ ap changed_in same in
    omega (arith, all)
changed_grown base (suc k) f =
    let more : base + suc k ≡ (base + k) + 1 = omega arith in
    let some = grown_some base f (base + k) (omega arith) in
    let one = one_changed (or_grown base f (base + k)) some.0 some.1 in
    let all = ap (λ n. changed_in (listed n (or_grown base f))) more ∙ (ap changed_in (listed_one (base + k) (or_grown base f)) ∙ changed_in-append (listed (base + k) (or_grown base f)) (or_grown base f (base + k) ∷ [])) in
    omega (arith, all, one, changed_grown base k f)

-- how many pages have a change: those written below the base, and each from the base on
pub changed_in-listed : (base n : ℕ) (f : ℕ → Option (List ℕ)) → base ≤ n → changed_in (listed n (or_grown base f)) ≡ changed_in (listed base f) + (n - base)
changed_in-listed base n f le =
    let same : n ≡ base + (n - base) = omega arith in
    ap (λ k. changed_in (listed k (or_grown base f))) same ∙ changed_grown base (n - base) f

-- pages of which the same have a change
changed_in-alike : (xs ys : Overlay) → length xs ≡ length ys → ((k : ℕ) → k < length xs → is_some (get_or xs k None) ≡ is_some (get_or ys k None)) → changed_in xs ≡ changed_in ys
changed_in-alike [] [] size alike = refl
changed_in-alike [] (y ∷ ys) size alike = absurd (omega arith)
changed_in-alike (x ∷ xs) [] size alike = absurd (omega arith)
changed_in-alike (None ∷ xs) (None ∷ ys) size alike = changed_in-alike xs ys (omega arith) (λ k lt. alike (suc k) (omega arith))
changed_in-alike (None ∷ xs) (Some y ∷ ys) size alike = let wrong = alike 0 (omega arith) in absurd (cc)
changed_in-alike (Some x ∷ xs) (None ∷ ys) size alike = let wrong = alike 0 (omega arith) in absurd (cc)
changed_in-alike (Some x ∷ xs) (Some y ∷ ys) size alike = ap (λ n. 1 + n) (changed_in-alike xs ys (omega arith) (λ k lt. alike (suc k) (omega arith)))

pub changed_alike : (n : ℕ) (f g : ℕ → Option (List ℕ)) → ((q : ℕ) → is_some (f q) ≡ is_some (g q)) → changed_in (listed n f) ≡ changed_in (listed n g)
changed_alike n f g alike = changed_in-alike (listed n f) (listed n g) (length-listed n f ∙ sym (length-listed n g)) (λ k lt.
    let within : k < n = omega (arith, length-listed n f) in
    ap is_some (get_or-listed n f k None within) ∙ (alike k ∙ ap is_some (sym (get_or-listed n g k None within))))
