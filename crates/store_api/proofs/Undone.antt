-- Pages before changes to them.
use Rattle.std.proofs.Common.{◌≡◌, ◌≢◌, ℕ, zero, suc, ◌<◌, ◌≤◌, List, [], ◌∷◌, ◌++◌, length, take, drop, set, get_or, eqb, Bool, true, false, Some, None, Option, position, refl, ap, sym, inl, inr, ◌∙◌, arith}
use Rattle.std.proofs.lemmas.List.{length-set, set-set, set-get_or, take-append-le, get_or-set_other, get_or-take, length-take, drop-append-le, take-take, take-append-drop, take_all}
use Rattle.std.proofs.lemmas.List.Quantifiers.{position-Some}
use Rattle.std.proofs.lemmas.List.Sums.{fails_before_first}
use Rattle.std.proofs.lemmas.Grind.{get_or-set_at}
use Rattle.std.proofs.lemmas.Bool.{cases_lt, false≢true, lt-ltb}
use Rattle.std.proofs.lemmas.Bool.Decides.{Decides-eqb}
use Rattle.std.specs.List.{position_or_len}
use Rattle.std.specs.Option.{ForSome}
use Rattle.store_api.specs.declared.history.Mark.{Mark}
use Rattle.store_api.specs.declared.history.Change.{Change}
use Rattle.store_api.specs.History.{undone, was_at, marked_pages, IsMarkWithin}

-- a front of a list after a write
pub take-set_any : {X : Type 0} (n : ℕ) (xs : List X) (i : ℕ) (y : X) → take n (set xs i y) ≡ set (take n xs) i y
take-set_any zero [] zero y = refl
take-set_any zero [] (suc i) y = refl
take-set_any zero (x ∷ xs) zero y = refl
take-set_any zero (x ∷ xs) (suc i) y = refl
take-set_any (suc n) [] zero y = refl
take-set_any (suc n) [] (suc i) y = refl
take-set_any (suc n) (x ∷ xs) zero y = refl
take-set_any (suc n) (x ∷ xs) (suc i) y = ap (λ rest. x ∷ rest) (take-set_any n xs i y)

-- changes are undone from the last to the first
pub undone-append : (older newer : List Change) (pages : List (List ℕ)) → undone (older ++ newer) pages ≡ undone older (undone newer pages)
undone-append [] newer pages = refl
undone-append (change ∷ older) newer pages = ap (λ ps. set ps change.page change.was) (undone-append older newer pages)

-- undoing adds no page and takes none away
pub length-undone : (changes : List Change) (pages : List (List ℕ)) → length (undone changes pages) ≡ length pages
length-undone [] pages = refl
length-undone (change ∷ changes) pages =
    length-set (undone changes pages) change.page change.was ∙ length-undone changes pages

-- it is the same to undo and then to cut
pub take-undone : (n : ℕ) (changes : List Change) (pages : List (List ℕ)) → take n (undone changes pages) ≡ undone changes (take n pages)
take-undone n [] pages = refl
take-undone n (change ∷ changes) pages =
    take-set_any n (undone changes pages) change.page change.was ∙ ap (λ ps. set ps change.page change.was) (take-undone n changes pages)

-- a write whose change is kept is undone
pub undone-write : (n : ℕ) (changes : List Change) (pages : List (List ℕ)) (p : ℕ) (bytes was : List ℕ) → was ≡ get_or pages p []
    → undone (changes ++ record { page = p; was = was } ∷ []) (take n (set pages p bytes)) ≡ undone changes (take n pages)
undone-write n changes pages p bytes was e =
    let back : set (take n (set pages p bytes)) p was ≡ take n pages = sym (take-set_any n (set pages p bytes) p was) ∙ ap (take n) (set-set pages p bytes was ∙ (ap (set pages p) e ∙ set-get_or pages p [])) in
    undone-append changes (record { page = p; was = was } ∷ []) _ ∙ ap (undone changes) back

-- what was written over is in the change
pub was_at-is : (changes : List Change) (i : ℕ) (d : Change) → i < length changes → was_at changes i ≡ (get_or changes i d).was
was_at-is [] i d h = absurd (omega arith)
was_at-is (change ∷ changes) zero d h = refl
was_at-is (change ∷ changes) (suc i) d h = was_at-is changes i d (omega arith)

-- where no place is found, none passes
no_position : {X : Type 0} (p : X → Bool) (xs : List X) (d : X) → position p xs ≡ None → (k : ℕ) → k < length xs → p (get_or xs k d) ≡ false
no_position p xs d none k h =
    elim (cases_lt (position_or_len p xs) (length xs)) [
      | inl lt ↦ absurd (let test = lt-ltb _ _ lt in let e : position p xs ≡ Some (position_or_len p xs) = rw test refl in cc)
      | inr le ↦ fails_before_first p xs k d (omega arith)
    ]

-- the oldest change of a page has what the page was
first_change : (changes : List Change) (pages : List (List ℕ)) (p i : ℕ) (d : Change) → i < length changes
    → eqb (get_or changes i d).page p ≡ true → ((k : ℕ) → k < i → eqb (get_or changes k d).page p ≡ false) → p < length pages
    → get_or (undone changes pages) p [] ≡ was_at changes i
first_change [] pages p i d within here before there = absurd (omega arith)
first_change (change ∷ changes) pages p zero d within here before there =
    let same : p ≡ change.page = sym ((Decides-eqb change.page p).0 here) in
    get_or-set_at (undone changes pages) change.page p change.was [] same (omega (arith, length-undone changes pages))
first_change (change ∷ changes) pages p (suc i) d within here before there =
    let first : eqb change.page p ≡ false = before 0 (omega arith) in
    let other : p ≢ change.page = λ e. absurd (false≢true (sym first ∙ (Decides-eqb change.page p).1 (sym e))) in
    get_or-set_other (undone changes pages) change.page p change.was [] other
    ∙ first_change changes pages p i d (omega arith) here (λ k h. before (suc k) (omega arith)) there

-- a page that no change is of was what it is
unchanged : (changes : List Change) (pages : List (List ℕ)) (p : ℕ) (d : Change)
    → ((k : ℕ) → k < length changes → eqb (get_or changes k d).page p ≡ false) → get_or (undone changes pages) p [] ≡ get_or pages p []
unchanged [] pages p d none = refl
unchanged (change ∷ changes) pages p d none =
    let first : eqb change.page p ≡ false = none 0 (omega arith) in
    let other : p ≢ change.page = λ e. absurd (false≢true (sym first ∙ (Decides-eqb change.page p).1 (sym e))) in
    get_or-set_other (undone changes pages) change.page p change.was [] other
    ∙ unchanged changes pages p d (λ k h. none (suc k) (omega arith))

-- a page of the base that was changed is in its oldest change
pub page-undone_changed : (changes : List Change) (pages : List (List ℕ)) (n p i : ℕ) → position (λ change. eqb change.page p) changes ≡ Some i
    → n ≤ length pages → p < n → get_or (undone changes (take n pages)) p [] ≡ was_at changes i
page-undone_changed changes pages n p i found within there =
    let d : Change = record { page = 0; was = [] } in
    let at = position-Some (λ change. eqb change.page p) changes i d found in
    first_change changes (take n pages) p i d at.0 at.1 at.2 (omega (arith, length-take n pages))

-- a page of the base that wasn't changed is in the work
pub page-undone_unchanged : (changes : List Change) (pages : List (List ℕ)) (n p : ℕ) → position (λ change. eqb change.page p) changes ≡ None
    → p < n → get_or (undone changes (take n pages)) p [] ≡ get_or pages p []
page-undone_unchanged changes pages n p none there =
    let d : Change = record { page = 0; was = [] } in
    unchanged changes (take n pages) p d (λ k h. no_position (λ change. eqb change.page p) changes d none k h) ∙ get_or-take n pages p [] there

-- a write whose change is kept leaves what the mark is for
pub marked-write : (mark : Option Mark) (base count : ℕ) (changes : List Change) (pages : List (List ℕ)) (p : ℕ) (bytes was : List ℕ)
    → ForSome mark (IsMarkWithin base (length changes) count) → was ≡ get_or pages p []
    → marked_pages mark (changes ++ record { page = p; was = was } ∷ []) (set pages p bytes) ≡ marked_pages mark changes pages
marked-write None base count changes pages p bytes was within e = refl
marked-write (Some mark) base count changes pages p bytes was within e =
    let one : List Change = record { page = p; was = was } ∷ [] in
    ap (λ cs. Some (undone cs (take mark.count (set pages p bytes)))) (drop-append-le mark.changes changes one (within mark refl).changes_there)
    ∙ ap Some (undone-write mark.count (drop mark.changes changes) pages p bytes was e)

-- pages that are added leave what the mark is for
pub marked-grow : (mark : Option Mark) (base count : ℕ) (changes : List Change) (pages more : List (List ℕ)) → ForSome mark (IsMarkWithin base count (length pages))
    → marked_pages mark changes (pages ++ more) ≡ marked_pages mark changes pages
marked-grow None base count changes pages more within = refl
marked-grow (Some mark) base count changes pages more within =
    ap (λ ps. Some (undone (drop mark.changes changes) ps)) (take-append-le mark.count pages more (within mark refl).pages_there)

-- going back to a mark leaves the base
pub base-at_mark : (base count since : ℕ) (changes : List Change) (pages : List (List ℕ)) → base ≤ count
    → undone (take since changes) (take base (undone (drop since changes) (take count pages))) ≡ undone changes (take base pages)
base-at_mark base count since changes pages behind =
    ap (undone (take since changes)) (take-undone base (drop since changes) (take count pages) ∙ ap (undone (drop since changes)) (take-take base count pages behind))
    ∙ (sym (undone-append (take since changes) (drop since changes) (take base pages)) ∙ ap (λ cs. undone cs (take base pages)) (take-append-drop since changes))

-- the base is as long as it says
pub take-base : (n : ℕ) (changes : List Change) (pages : List (List ℕ)) → take n (undone changes (take n pages)) ≡ undone changes (take n pages)
take-base n changes pages =
    take_all n (undone changes (take n pages)) (omega (arith, length-undone changes (take n pages), length-take n pages))

-- the last change is undone first
pub undone-last : (n : ℕ) (front : List Change) (change : Change) (pages : List (List ℕ)) → n ≤ length front
    → undone (drop n (front ++ change ∷ [])) pages ≡ undone (drop n front) (set pages change.page change.was)
undone-last n front change pages h =
    ap (λ cs. undone cs pages) (drop-append-le n front (change ∷ []) h) ∙ undone-append (drop n front) (change ∷ []) pages

-- a mark is within more changes and more pages too
pub IsMarkWithin-more : (mark : Option Mark) (base changes pages more_changes more_pages : ℕ) → ForSome mark (IsMarkWithin base changes pages)
    → changes ≤ more_changes → pages ≤ more_pages → ForSome mark (IsMarkWithin base more_changes more_pages)
IsMarkWithin-more mark base changes pages more_changes more_pages within le le' = λ m is.
    let w = within m is in
    record { behind_base = w.behind_base; changes_there = omega (arith, w.changes_there); pages_there = omega (arith, w.pages_there) }
