-- What the calls on a desk do to what it is seen as.
use Rattle.std.proofs.Common.{◌≡◌, ◌≤◌, ◌<◌, ◌-◌, ℕ, zero, suc, IsTrue, IsSome, is_some, List, [], ◌∷◌, ◌++◌, length, replicate, set, slice_get, get_or, Option, Some, None, unwrap_or, Result, Ok, Err, arith, refl, sym, ap, subst, ◌∙◌, length-append, le-leb, leb, false, inl, inr}
use Rattle.std.specs.Option.{ForSome, option_map}
use Rattle.std.proofs.lemmas.Bool.{cases_lt}
use Rattle.std.proofs.lemmas.Bool.Decides.{nat_tests}
use Rattle.std.proofs.lemmas.List.{length-set, length-replicate, set-get_or}
use Rattle.store_api.specs.StoreState.{zero_page, page_at, seen, differing}
use Rattle.store_api.specs.Calls.{Fetches, FetchesCommitted, LosesReadiness, Writes, Grows, RollsBack}
use Rattle.mdc_outside.specs.Disk.{File}
use Rattle.redo_journal.specs.Images.{Numbered}
use Rattle.page_file.specs.Layout.{home_page}
use Rattle.page_store.specs.declared.desk.Desk.{Desk}
use Rattle.page_store.specs.declared.desk.Hand.{Hand}
use Rattle.page_store.specs.declared.write_through.Halt.{Halt}
use Rattle.page_store.specs.Changes.{Overlay, Changed, unchanged, changed_in, nothing, laid_over, image_in}
use Rattle.page_store.specs.Cached.{AreHome, Leads}
use Rattle.page_store.specs.Desk.{IsKept, Does, DoesOnOk, base_in, base_of, work_of, page_at_hand, written_in}
use Rattle.mdc_words.proofs.ListedLemmas.{length-listed}
use Rattle.page_store.proofs.Listed.{page_at-listed}
use Rattle.page_store.proofs.LaidOver.{laid_over-set, laid_over-grown, laid_over-unchanged, laid_over-at, differing-laid_over, changed_in-grown}

-- how many pages the base has
pub length-base_in : (halt : Option Halt) (count : ℕ) (file : List ℕ) → halt ≡ None → length (base_in halt count file) ≡ count
length-base_in None count file going = length-listed count (home_page file)
length-base_in (Some halt) count file going = absurd (cc)

-- the work with pages of zeros more
pub grown_work : (told : Option File) (desk : Desk) (n : ℕ) → desk.base ≤ length desk.changes.now → desk.halt ≡ None
    → work_of told desk (desk.changes.now ++ replicate n (Some zero_page)) ≡ seen (is_some told) (work_of told desk desk.changes.now ++ replicate n zero_page)
grown_work None desk n le going =
    ap (λ k. replicate k []) (omega (arith, length-append desk.changes.now (replicate n (Some zero_page)), length-replicate {A = Option (List ℕ)} n (Some zero_page), length-append (replicate (length desk.changes.now) []) (replicate n zero_page), length-replicate {A = List ℕ} (length desk.changes.now) [], length-replicate {A = List ℕ} n zero_page))
grown_work (Some file) desk n le going =
    laid_over-grown desk.changes.now (base_in desk.halt desk.base file.bytes) n (omega (arith, length-base_in desk.halt desk.base file.bytes going))

-- the work with a page written over
pub written_work : (told : Option File) (desk : Desk) (p : ℕ) (page : List ℕ)
    → work_of told desk (set desk.changes.now p (Some page)) ≡ seen (is_some told) (set (work_of told desk desk.changes.now) p page)
written_work None desk p page =
    ap (λ k. replicate k []) (length-set desk.changes.now p (Some page) ∙ (sym (length-replicate {A = List ℕ} (length desk.changes.now) []) ∙ sym (length-set (replicate (length desk.changes.now) []) p page)))
written_work (Some file) desk p page = laid_over-set desk.changes.now (base_in desk.halt desk.base file.bytes) p page

-- the work without a change is the base
pub unchanged_work : (told : Option File) (desk : Desk) → desk.halt ≡ None → work_of told desk (unchanged desk.base) ≡ base_of told desk
unchanged_work None desk going = ap (λ k. replicate k []) (length-replicate {A = Option (List ℕ)} desk.base None)
unchanged_work (Some file) desk going =
    let base : List (List ℕ) = base_in desk.halt desk.base file.bytes in
    let size : length (base_in desk.halt desk.base file.bytes) ≡ desk.base = length-base_in desk.halt desk.base file.bytes going in
    ap (λ n. laid_over (unchanged n) (base_in desk.halt desk.base file.bytes)) (sym size) ∙ laid_over-unchanged (base_in desk.halt desk.base file.bytes)

-- blank pages differ in their number alone
pub differing-blank : (few many : ℕ) → few ≤ many → differing (replicate few []) (replicate many []) ≤ many - few
differing-blank zero many le = omega (arith, length-replicate {A = List ℕ} many [])
differing-blank (suc few) zero le = absurd (omega arith)
differing-blank (suc few) (suc many) le = omega (arith, differing-blank few many (omega arith))

-- how many pages of base and work differ
pub differing_work : (told : Option File) (desk : Desk) → IsKept desk told → desk.halt ≡ None → desk.changes.kept ≡ changed_in desk.changes.now
    → ((p : ℕ) → desk.base ≤ p → p < length desk.changes.now → IsSome (get_or desk.changes.now p None))
    → differing (base_of told desk) (work_of told desk desk.changes.now) ≤ written_in desk
differing_work None desk kept going counted grown =
    omega (arith, kept.count.0, counted, length-replicate {A = List ℕ} (length desk.changes.now) [], differing-blank desk.base (length desk.changes.now) kept.count.0, changed_in-grown desk.base desk.changes.now grown)
differing_work (Some file) desk kept going counted grown =
    let size : length (base_in desk.halt desk.base file.bytes) ≡ desk.base = length-base_in desk.halt desk.base file.bytes going in
    omega (arith, counted, differing-laid_over desk.changes.now (base_in desk.halt desk.base file.bytes) (omega (arith, size, kept.count.0)) (λ p le lt. grown p (omega (arith, size)) lt))

-- a page came to hand that is the told one, where pages are told
pub brings_page : (told : Option File) (desk : Desk) (hand : Option Hand) (cache : Numbered) (p : ℕ) (page : List ℕ)
    → page_at_hand hand desk.changes.now cache ≡ Some page
    → (IsTrue (is_some told) → page ≡ page_at (work_of told desk desk.changes.now) p)
    → Does (Fetches p) told desk told (record desk { cache = cache; hand = hand })
brings_page None desk hand cache p page at is tape attaches = (page, is, rw at refl)
brings_page (Some file) desk hand cache p page at is tape attaches = (page, is, rw at refl)

-- the same of a page of the base
pub brings_committed : (told : Option File) (desk : Desk) (hand : Option Hand) (cache : Numbered) (p : ℕ) (page : List ℕ)
    → page_at_hand hand desk.changes.now cache ≡ Some page
    → (IsTrue (is_some told) → page ≡ page_at (base_of told desk) p)
    → Does (FetchesCommitted p) told desk told (record desk { cache = cache; hand = hand })
brings_committed None desk hand cache p page at is tape attaches = (page, is, rw at refl)
brings_committed (Some file) desk hand cache p page at is tape attaches = (page, is, rw at refl)

-- the page of the work is the image that is to be written for it, where there is one
pub image_page : (told : Option File) (desk : Desk) (p : ℕ) (page : List ℕ) → desk.halt ≡ None → p < length desk.changes.now
    → image_in desk.base desk.changes.now p ≡ Some page → IsTrue (is_some told) → page ≡ page_at (work_of told desk desk.changes.now) p
image_page None desk p page going lt is shown = absurd (cc)
image_page (Some file) desk p page going lt is shown =
    let base : List (List ℕ) = base_in desk.halt desk.base file.bytes in
    let size : length (base_in desk.halt desk.base file.bytes) ≡ desk.base = length-base_in desk.halt desk.base file.bytes going in
    sym (laid_over-at desk.changes.now (base_in desk.halt desk.base file.bytes) p lt
    ∙ (ap (λ n. unwrap_or (image_in n desk.changes.now p) (page_at (base_in desk.halt desk.base file.bytes) p)) size
    ∙ ap (λ image. unwrap_or image (page_at (base_in desk.halt desk.base file.bytes) p)) is))

-- and else it is the page of the base
pub same_page : (told : Option File) (desk : Desk) (p : ℕ) → desk.halt ≡ None → p < length desk.changes.now
    → image_in desk.base desk.changes.now p ≡ None → IsTrue (is_some told) → page_at (base_of told desk) p ≡ page_at (work_of told desk desk.changes.now) p
same_page None desk p going lt is shown = absurd (cc)
same_page (Some file) desk p going lt is shown =
    let size : length (base_in desk.halt desk.base file.bytes) ≡ desk.base = length-base_in desk.halt desk.base file.bytes going in
    sym (laid_over-at desk.changes.now (base_in desk.halt desk.base file.bytes) p lt
    ∙ (ap (λ n. unwrap_or (image_in n desk.changes.now p) (page_at (base_in desk.halt desk.base file.bytes) p)) size
    ∙ ap (λ image. unwrap_or image (page_at (base_in desk.halt desk.base file.bytes) p)) is))

-- the page of a number is one
pub one_leads : (p : ℕ) (page other : List ℕ) (entries : Numbered) → Leads p page entries → Leads p other entries → page ≡ other
one_leads p page other entries (rest, is) (others, also) = let both : (p, page) ∷ rest ≡ (p, other) ∷ others = sym is ∙ also in ap (λ (xs : Numbered). (get_or xs 0 (p, page)).1) both

-- the first of the clean pages
pub first_page : (p : ℕ) (page : List ℕ) (entries : Numbered) → Leads p page entries → option_map (λ entry. entry.1) (slice_get entries 0) ≡ Some page
first_page p page entries (rest, is) = rw is refl

-- it is the page of the base
pub clean_page : (told : Option File) (desk : Desk) (p : ℕ) (page : List ℕ) (entries : Numbered) → desk.halt ≡ None → p < desk.base → Leads p page entries
    → ((file : File) → told ≡ Some file → Leads p (home_page file.bytes p) entries) → IsTrue (is_some told) → page ≡ page_at (base_of told desk) p
clean_page None desk p page entries going lt leads home shown = absurd (cc)
clean_page (Some file) desk p page entries going lt leads home shown =
    one_leads p page (home_page file.bytes p) entries leads (home file refl)
    ∙ sym (ap (λ halt. page_at (base_in halt desk.base file.bytes) p) going ∙ page_at-listed desk.base (home_page file.bytes) p lt)

-- a desk with another page at hand and other clean pages
pub kept_with : (told : Option File) (desk : Desk) (hand : Option Hand) (cache : Numbered) → IsKept desk told
    → ForSome told (λ file. AreHome file.bytes desk.base cache) → (IsSome hand → IsSome (page_at_hand hand desk.changes.now cache))
    → IsKept (record desk { cache = cache; hand = hand }) told
kept_with told desk hand cache kept clean there = record {
  at_rest = kept.at_rest;
  clean = clean;
  some = kept.some;
  based = kept.based;
  count = kept.count;
  marked = kept.marked;
  hand = there;
  ready = λ is. let ready = kept.ready is in record { unmarked = ready.unmarked; holds = ready.holds; rising = ready.rising; counted = ready.counted };
}

-- a page of the base came to hand that is the page of the work
pub brings_shown : (told now : Option File) (desk new : Desk) (p : ℕ) → (IsTrue (is_some told) → page_at (base_of told desk) p ≡ page_at (work_of told desk desk.changes.now) p)
    → Does (FetchesCommitted p) told desk now new → Does (Fetches p) told desk now new
brings_shown told now desk new p same does tape attaches = let brought = does tape attaches in (brought.0, λ shown. brought.1 shown ∙ same shown, brought.2)

-- pages of zeros were added
pub grows : (told : Option File) (desk : Desk) (n : ℕ) (changes : Changed) → desk.base ≤ length desk.changes.now → desk.halt ≡ None
    → changes.now ≡ desk.changes.now ++ replicate n (Some zero_page) → changes.marked ≡ desk.changes.marked
    → Does (Grows n) told desk told (record desk { changes = changes; hand = None; prepared = false })
grows None desk n changes le going is marked tape attaches = let more = grown_work None desk n le going in rw (is, marked, more) refl
grows (Some file) desk n changes le going is marked tape attaches = let more = grown_work (Some file) desk n le going in rw (is, marked, more) refl

-- a page was written over
pub writes : (told : Option File) (desk : Desk) (p : ℕ) (page : List ℕ) (changes : Changed)
    → changes.now ≡ set desk.changes.now p (Some page) → changes.marked ≡ desk.changes.marked
    → Does (Writes p page) told desk told (record desk { changes = changes; hand = None; prepared = false })
writes None desk p page changes now marked tape attaches = let put = written_work None desk p page in rw (now, marked, put) refl
writes (Some file) desk p page changes now marked tape attaches = let put = written_work (Some file) desk p page in rw (now, marked, put) refl

-- all changes were forgotten
pub rolls_back : (told : Option File) (desk : Desk) (changes : Changed) → desk.halt ≡ None
    → changes ≡ nothing desk.base
    → Does RollsBack told desk told (record desk { changes = changes; hand = None; prepared = false })
rolls_back None desk changes going is tape attaches = let back = unchanged_work None desk going in rw (is, back) refl
rolls_back (Some file) desk changes going is tape attaches = let back = unchanged_work (Some file) desk going in rw (is, back) refl

-- the same where the call succeeds
pub fetches_on_ok : {T E : Type 0} (result : Result T E) (told now : Option File) (desk new : Desk) (p : ℕ)
    → (IsTrue (is_some told) → page_at (base_of told desk) p ≡ page_at (work_of told desk desk.changes.now) p)
    → DoesOnOk result (FetchesCommitted p) told desk now new → DoesOnOk result (Fetches p) told desk now new
fetches_on_ok (Ok done) told now desk new p same does = brings_shown told now desk new p same does
fetches_on_ok (Err e) told now desk new p same does = does

-- a page that was grown and not changed has zeros
pub grown_image : (base : ℕ) (changes : Overlay) (p : ℕ) → get_or changes p None ≡ None → base ≤ p → image_in base changes p ≡ Some zero_page
grown_image base changes p none le = let more = le-leb base p le in rw (none, more) refl

-- the file is told as it was
pub brings_same : (told now : Option File) (desk new : Desk) (p : ℕ) → now ≡ told → Does (FetchesCommitted p) told desk told new → Does (FetchesCommitted p) told desk now new
brings_same told now desk new p same does = subst (λ (t : Option File). Does (FetchesCommitted p) told desk t new) (sym same) does

-- there is a first page
pub some_first : (p : ℕ) (page : List ℕ) (entries : Numbered) → Leads p page entries → IsSome (option_map (λ entry. entry.1) (slice_get entries 0))
some_first p page entries (rest, is) = rw is refl

-- a page that has no change lies in the base
pub unplaced : (desk : Desk) (p : ℕ) → desk.changes.base ≡ desk.base → get_or desk.changes.now p None ≡ None → (desk.changes.base ≤ p → IsSome (get_or desk.changes.now p None))
    → (p < desk.base) × (image_in desk.base desk.changes.now p ≡ None)
unplaced desk p based none grown = elim (cases_lt p desk.base) [
  | inl lt ↦ (let test : leb desk.base p ≡ false = grind (arith, nat_tests) in (lt, rw (none, test) refl))
  | inr le ↦ (let some = subst IsSome none (grown (omega arith)) in absurd (cc))
]

-- a desk with nothing at hand, which isn't ready for a commit
pub kept_bare : (told : Option File) (desk : Desk) → IsKept desk told → IsKept (record desk { hand = None; prepared = false }) told
kept_bare told desk kept = record {
  at_rest = kept.at_rest;
  clean = kept.clean;
  some = kept.some;
  based = kept.based;
  count = kept.count;
  marked = kept.marked;
  hand = λ some. absurd (cc);
  ready = λ is. absurd (cc);
}

-- nothing is at hand, and the desk isn't ready for a commit
pub bares : (told : Option File) (desk : Desk) (cache : Numbered) → Does LosesReadiness told desk told (record desk { cache = cache; hand = None; prepared = false })
bares None desk cache tape attaches = refl
bares (Some file) desk cache tape attaches = refl

-- a page that is written over itself
same_over : (told : Option File) (desk : Desk) (p : ℕ) (page : List ℕ) → (IsTrue (is_some told) → page ≡ page_at (work_of told desk desk.changes.now) p) → p < length desk.changes.now
    → work_of told desk (set desk.changes.now p (Some page)) ≡ work_of told desk desk.changes.now
same_over None desk p page is lt = ap (λ k. replicate k []) (length-set desk.changes.now p (Some page))
same_over (Some file) desk p page is lt =
    laid_over-set desk.changes.now (base_in desk.halt desk.base file.bytes) p page
    ∙ (ap (set (laid_over desk.changes.now (base_in desk.halt desk.base file.bytes)) p) (is refl)
    ∙ set-get_or (laid_over desk.changes.now (base_in desk.halt desk.base file.bytes)) p [])

-- a page of the base was written over itself
pub admits : (told now : Option File) (desk : Desk) (p : ℕ) (page : List ℕ) (changes : Changed) (cache : Numbered) → now ≡ told
    → (IsTrue (is_some told) → page ≡ page_at (work_of told desk desk.changes.now) p) → p < length desk.changes.now
    → changes.now ≡ set desk.changes.now p (Some page) → changes.marked ≡ desk.changes.marked
    → Does LosesReadiness told desk now (record desk { changes = changes; cache = cache; hand = None; prepared = false })
admits told now desk p page changes cache same is lt put marked =
    subst (λ (t : Option File). Does LosesReadiness told desk t (record desk { changes = changes; cache = cache; hand = None; prepared = false })) (sym same) (go told is) where
      go : (t : Option File) → (IsTrue (is_some t) → page ≡ page_at (work_of t desk desk.changes.now) p) → Does LosesReadiness t desk t (record desk { changes = changes; cache = cache; hand = None; prepared = false })
      go None at tape attaches = let over = same_over None desk p page at lt in rw (put, marked, over) refl
      go (Some file) at tape attaches = let over = same_over (Some file) desk p page at lt in rw (put, marked, over) refl

-- a desk with other changes of the same pages, and other clean pages
pub kept_changed : (told : Option File) (desk : Desk) (changes : Changed) (cache : Numbered) → IsKept desk told → length changes.now ≡ length desk.changes.now → changes.marked ≡ desk.changes.marked
    → changes.base ≡ desk.changes.base → ForSome told (λ file. AreHome file.bytes desk.base cache)
    → IsKept (record desk { changes = changes; cache = cache; hand = None; prepared = false }) told
kept_changed told desk changes cache kept size marked based clean = record {
  at_rest = kept.at_rest;
  clean = clean;
  some = kept.some;
  based = based ∙ kept.based;
  count = (omega (arith, kept.count.0, size), omega (arith, kept.count.1, size));
  marked = λ before is. let was = kept.marked before (sym marked ∙ is) in (was.0, omega (arith, was.1, size));
  hand = λ some. absurd (cc);
  ready = λ is. absurd (cc);
}

-- a page that came first among the clean ones is the page of the work, where it has no change
pub admitted_page : (told : Option File) (desk : Desk) (p : ℕ) (page other : List ℕ) (entries : Numbered) → desk.halt ≡ None → p < desk.base → p < length desk.changes.now → image_in desk.base desk.changes.now p ≡ None
    → Leads p other entries → ((file : File) → told ≡ Some file → Leads p (home_page file.bytes p) entries) → option_map (λ entry. entry.1) (slice_get entries 0) ≡ Some page
    → IsTrue (is_some told) → page ≡ page_at (work_of told desk desk.changes.now) p
admitted_page told desk p page other entries going low lt none leads home first shown =
    let both : page ≡ other = let twice : Some page ≡ Some other = sym first ∙ first_page p other entries leads in cc in
    both ∙ (clean_page told desk p other entries going low leads home shown ∙ same_page told desk p going lt none shown)
