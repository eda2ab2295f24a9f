-- Pages with changes laid over them.
use Rattle.std.proofs.Common.{◌≡◌, ◌≤◌, ◌<◌, ◌-◌, ℕ, zero, suc, List, [], ◌∷◌, ◌++◌, Option, Some, None, Bool, true, false, cond, leb, length, get_or, set, replicate, unwrap_or, refl, sym, ap, ◌∙◌, inl, inr, arith}
use Rattle.std.specs.Str.{bytes_eq}
use Rattle.std.specs.Option.{option_or}
use Rattle.std.proofs.lemmas.List.FromFn.{fill_by_all}
use Rattle.std.proofs.lemmas.Slice.Eq.{bytes_eq-Decides}
use Rattle.store_api.specs.StoreState.{zero_page, differing, page_at}
use Rattle.std.proofs.lemmas.Bool.{cases_lt}
use Rattle.std.proofs.lemmas.Bool.Decides.{nat_tests}
use Rattle.redo_journal.specs.Images.{Numbered}
use Rattle.mdc_words.specs.Listed.{listed}
use Rattle.page_store.specs.Standing.{image_of}
use Rattle.std.specs.Prelude.{IsSome}
use Rattle.page_store.specs.Changes.{Overlay, laid_over, unchanged, changed_in, image_in}

-- there are as many pages as the changes tell of
pub length-laid_over : (changes : Overlay) (pages : List (List ℕ)) → length (laid_over changes pages) ≡ length changes
length-laid_over [] pages = refl
length-laid_over (None ∷ changes) [] = ap suc (length-laid_over changes [])
length-laid_over (None ∷ changes) (page ∷ pages) = ap suc (length-laid_over changes pages)
length-laid_over (Some new ∷ changes) [] = ap suc (length-laid_over changes [])
length-laid_over (Some new ∷ changes) (page ∷ pages) = ap suc (length-laid_over changes pages)

-- a page that is written over has its new bytes
pub laid_over-set : (changes : Overlay) (pages : List (List ℕ)) (p : ℕ) (x : List ℕ) → laid_over (set changes p (Some x)) pages ≡ set (laid_over changes pages) p x
laid_over-set [] pages zero x = refl
laid_over-set [] pages (suc p) x = refl
laid_over-set (None ∷ changes) [] zero x = refl
laid_over-set (None ∷ changes) [] (suc p) x = ap (λ rest. zero_page ∷ rest) (laid_over-set changes [] p x)
laid_over-set (None ∷ changes) (page ∷ pages) zero x = refl
laid_over-set (None ∷ changes) (page ∷ pages) (suc p) x = ap (λ rest. page ∷ rest) (laid_over-set changes pages p x)
laid_over-set (Some new ∷ changes) [] zero x = refl
laid_over-set (Some new ∷ changes) [] (suc p) x = ap (λ rest. new ∷ rest) (laid_over-set changes [] p x)
laid_over-set (Some new ∷ changes) (page ∷ pages) zero x = refl
laid_over-set (Some new ∷ changes) (page ∷ pages) (suc p) x = ap (λ rest. new ∷ rest) (laid_over-set changes pages p x)

-- pages behind the last one have zeros
laid_over-behind : (n : ℕ) → laid_over (replicate n (Some zero_page)) [] ≡ replicate n zero_page
laid_over-behind zero = refl
laid_over-behind (suc n) = ap (λ rest. zero_page ∷ rest) (laid_over-behind n)

-- pages that are added have zeros
pub laid_over-grown : (changes : Overlay) (pages : List (List ℕ)) (n : ℕ) → length pages ≤ length changes → laid_over (changes ++ replicate n (Some zero_page)) pages ≡ laid_over changes pages ++ replicate n zero_page
laid_over-grown [] [] n le = laid_over-behind n
laid_over-grown [] (page ∷ pages) n le = absurd (omega arith)
laid_over-grown (None ∷ changes) [] n le = ap (λ rest. zero_page ∷ rest) (laid_over-grown changes [] n (omega arith))
laid_over-grown (None ∷ changes) (page ∷ pages) n le = ap (λ rest. page ∷ rest) (laid_over-grown changes pages n (omega arith))
laid_over-grown (Some new ∷ changes) [] n le = ap (λ rest. new ∷ rest) (laid_over-grown changes [] n (omega arith))
laid_over-grown (Some new ∷ changes) (page ∷ pages) n le = ap (λ rest. new ∷ rest) (laid_over-grown changes pages n (omega arith))

-- with no change the pages are as they were
pub laid_over-unchanged : (pages : List (List ℕ)) → laid_over (unchanged (length pages)) pages ≡ pages
laid_over-unchanged [] = refl
laid_over-unchanged (page ∷ pages) = ap (λ rest. page ∷ rest) (laid_over-unchanged pages)

-- changes that are laid over once more change nothing
pub laid_over-again : (changes : Overlay) (pages : List (List ℕ)) → laid_over changes (laid_over changes pages) ≡ laid_over changes pages
laid_over-again [] pages = refl
laid_over-again (None ∷ changes) [] = ap (λ rest. zero_page ∷ rest) (laid_over-again changes [])
laid_over-again (None ∷ changes) (page ∷ pages) = ap (λ rest. page ∷ rest) (laid_over-again changes pages)
laid_over-again (Some new ∷ changes) [] = ap (λ rest. new ∷ rest) (laid_over-again changes [])
laid_over-again (Some new ∷ changes) (page ∷ pages) = ap (λ rest. new ∷ rest) (laid_over-again changes pages)

-- a page counts once at most
one_at_most : (same : Bool) → cond same 0 1 ≤ 1
one_at_most true = omega arith
one_at_most false = omega arith

-- where each has a change, as many have one as there are
changed_in-all : (changes : Overlay) → ((p : ℕ) → p < length changes → IsSome (get_or changes p None)) → changed_in changes ≡ length changes
changed_in-all [] all = refl
changed_in-all (None ∷ changes) all = let wrong = all 0 (omega arith) in absurd (cc)
changed_in-all (Some page ∷ changes) all = let rest = changed_in-all changes (λ p lt. all (suc p) (omega arith)) in omega (arith, rest)

-- each page that was grown has a change
pub changed_in-grown : (base : ℕ) (changes : Overlay) → ((p : ℕ) → base ≤ p → p < length changes → IsSome (get_or changes p None)) → length changes - base ≤ changed_in changes
changed_in-grown zero changes grown = omega (arith, changed_in-all changes (λ p lt. grown p (omega arith) lt))
changed_in-grown (suc base) [] grown = omega arith
changed_in-grown (suc base) (None ∷ changes) grown = omega (arith, changed_in-grown base changes (λ p le lt. grown (suc p) (omega arith) (omega arith)))
changed_in-grown (suc base) (Some page ∷ changes) grown = omega (arith, changed_in-grown base changes (λ p le lt. grown (suc p) (omega arith) (omega arith)))

-- no more pages differ than have a change, where each that was grown has one
pub differing-laid_over : (changes : Overlay) (pages : List (List ℕ)) → length pages ≤ length changes → ((p : ℕ) → length pages ≤ p → p < length changes → IsSome (get_or changes p None))
    → differing pages (laid_over changes pages) ≤ changed_in changes
differing-laid_over [] [] le grown = omega arith
differing-laid_over [] (page ∷ pages) le grown = absurd (omega arith)
differing-laid_over (None ∷ changes) [] le grown = let wrong = grown 0 (omega arith) (omega arith) in absurd (cc)
differing-laid_over (None ∷ changes) (page ∷ pages) le grown =
    let same : bytes_eq page page ≡ true = (bytes_eq-Decides page page).1 refl in
    rw same (omega (arith, differing-laid_over changes pages (omega arith) (λ p low lt. grown (suc p) (omega arith) (omega arith))))
differing-laid_over (Some new ∷ changes) [] le grown = omega (arith, length-laid_over changes [], changed_in-all changes (λ p lt. grown (suc p) (omega arith) (omega arith)))
differing-laid_over (Some new ∷ changes) (page ∷ pages) le grown =
    omega (arith, one_at_most (bytes_eq page new), differing-laid_over changes pages (omega arith) (λ p low lt. grown (suc p) (omega arith) (omega arith)))

-- the order is the same one further on
le_suc : (a b : ℕ) → leb (suc a) (suc b) ≡ leb a b
le_suc a b = elim (cases_lt b a) [ inl lt ↦ grind (arith, nat_tests) | inr le ↦ grind (arith, nat_tests) ]

-- 0 is below all
le_zero : (b : ℕ) → leb 0 (suc b) ≡ leb 0 b
le_zero b = grind (arith, nat_tests)

-- a page behind the first is to be written as behind the others
image_in-next : (base : ℕ) (change : Option (List ℕ)) (changes : Overlay) (p : ℕ) → image_in (suc base) (change ∷ changes) (suc p) ≡ image_in base changes p
image_in-next base change changes p =
    let test : leb (suc base) (suc p) ≡ leb base p = le_suc base p in
    ap (λ t. option_or (get_or changes p None) (cond t (Some zero_page) None)) test

-- a page is to be written wherever there is no base
image_in-grown : (change : Option (List ℕ)) (changes : Overlay) (p : ℕ) → image_in 0 (change ∷ changes) (suc p) ≡ image_in 0 changes p
image_in-grown change changes p =
    let test : leb 0 (suc p) ≡ leb 0 p = le_zero p in
    ap (λ t. option_or (get_or changes p None) (cond t (Some zero_page) None)) test

-- what is to be written for a page, or else the page, is the page as it is now
pub laid_over-at : (changes : Overlay) (pages : List (List ℕ)) (p : ℕ) → p < length changes → get_or (laid_over changes pages) p [] ≡ unwrap_or (image_in (length pages) changes p) (page_at pages p)
laid_over-at [] pages p lt = absurd (omega arith)
laid_over-at (None ∷ changes) [] zero lt = refl
laid_over-at (None ∷ changes) [] (suc p) lt = laid_over-at changes [] p (omega arith) ∙ ap (λ i. unwrap_or i []) (sym (image_in-grown None changes p))
laid_over-at (None ∷ changes) (page ∷ pages) zero lt = let test : leb (suc (length pages)) 0 ≡ false = grind (arith, nat_tests) in rw test refl
laid_over-at (None ∷ changes) (page ∷ pages) (suc p) lt = laid_over-at changes pages p (omega arith) ∙ ap (λ i. unwrap_or i (page_at pages p)) (sym (image_in-next (length pages) None changes p))
laid_over-at (Some new ∷ changes) [] zero lt = refl
laid_over-at (Some new ∷ changes) [] (suc p) lt = laid_over-at changes [] p (omega arith) ∙ ap (λ i. unwrap_or i []) (sym (image_in-grown (Some new) changes p))
laid_over-at (Some new ∷ changes) (page ∷ pages) zero lt = refl
laid_over-at (Some new ∷ changes) (page ∷ pages) (suc p) lt = laid_over-at changes pages p (omega arith) ∙ ap (λ i. unwrap_or i (page_at pages p)) (sym (image_in-next (length pages) (Some new) changes p))

-- each of them
listed-laid_over_at : (base : ℕ) (changes : Overlay) (pages : List (List ℕ)) (images : Numbered)
    → length pages ≡ base → ((p : ℕ) → p < length changes → image_of images p ≡ image_in base changes p)
    → (p : ℕ) → p < length changes → get_or (laid_over changes pages) p [] ≡ unwrap_or (image_of images p) (page_at pages p)
listed-laid_over_at base changes pages images is_base found p lt =
    let image : image_of images p ≡ image_in (length pages) changes p = found p lt ∙ ap (λ n. image_in n changes p) (sym is_base) in
    laid_over-at changes pages p lt ∙ ap (λ i. unwrap_or i (page_at pages p)) (sym image)

-- Images of what is to be written, and else the pages, are the pages as they are now.
pub listed-laid_over : (base : ℕ) (changes : Overlay) (pages : List (List ℕ)) (images : Numbered)
    → length pages ≡ base → ((p : ℕ) → p < length changes → image_of images p ≡ image_in base changes p)
    → listed (length changes) (λ p. unwrap_or (image_of images p) (page_at pages p)) ≡ laid_over changes pages
listed-laid_over base changes pages images is_base found =
    sym (fill_by_all (λ p. unwrap_or (image_of images p) (page_at pages p)) (laid_over changes pages) (length changes) [] (length-laid_over changes pages) (λ p lt. listed-laid_over_at base changes pages images is_base found p lt))
