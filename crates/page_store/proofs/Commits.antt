-- What a commit makes of what a store has in memory.
use Rattle.std.proofs.Common.{◌≡◌, ◌≤◌, ◌<◌, ◌+◌, ℕ, true, leb, IsFalse, IsSome, List, [], ◌∷◌, length, get_or, Option, Some, None, unwrap_or, arith, sym, ap, subst, ◌∙◌, inl, inr, refl}
use Rattle.std.proofs.lemmas.Bool.{cases_lt}
use Rattle.std.proofs.lemmas.Bool.Decides.{nat_tests}
use Rattle.std.specs.Option.{ForSome, option_or}
use Rattle.std.specs.List.{All}
use Rattle.store_api.specs.StoreState.{stated_in, stated_count, page_at, zero_page}
use Rattle.mdc_outside.specs.Disk.{File, IsImage}
use Rattle.redo_journal.specs.Images.{Numbered, AreRising}
use Rattle.page_file.specs.Layout.{home_page}
use Rattle.redo_journal.specs.Layout.{is_open}
use Rattle.redo_journal.proofs.RisingLemmas.{All-rest}
use Rattle.page_file.proofs.FrontLemmas.{front_stays_itself}
use Rattle.mdc_words.specs.Listed.{listed}
use Rattle.page_store.specs.Standing.{image_of, page_of, count_of, pages_in, IsFormed, Stands}
use Rattle.page_store.specs.Changes.{Overlay, laid_over, image_in, HoldsBelow}
use Rattle.page_store.specs.Opening.{IsAtRest}
use Rattle.page_store.specs.Shape.{extents_in, extent_pages_in}
use Rattle.page_store.specs.Commit.{BothFiles, IsReadyFor, IsCommitted, StandsEither, count_with_images, pages_with}
use Rattle.mdc_words.proofs.ListedLemmas.{length-listed, listed_same}
use Rattle.page_store.proofs.Listed.{page_at-listed}
use Rattle.page_store.proofs.LaidOver.{listed-laid_over}
use Rattle.page_store.proofs.Pages.{page_of-closed, pages_again}
use Rattle.page_store.proofs.Committing.{unwrap_or-some}
use Rattle.page_store.proofs.Crashes.{only_itself}
use Rattle.page_file.proofs.LeavesLemmas.{one_file}

-- rising numbers from m on and below n are no more than lie between
few_from : (images : Numbered) (m n : ℕ) → AreRising images → All (λ image. m ≤ image.0) images → All (λ image. image.0 < n) images → m ≤ n → length images + m ≤ n
few_from [] m n rising above below le = omega (arith, le)
few_from (image ∷ images) m n rising above below le =
    let low : m ≤ image.0 = above 0 image (omega arith) in
    let high : image.0 < n = below 0 image (omega arith) in
    let rest : length images + (image.0 + 1) ≤ n =
    few_from images (image.0 + 1) n rising.1 (λ k d lt. let next : image.0 < (get_or images k d).0 = rising.0 k d lt in omega arith) (All-rest (λ i. i.0 < n) image images below) (omega arith) in
    omega arith

-- rising numbers below a number are no more than it
pub few_images : (images : Numbered) (n : ℕ) → AreRising images → All (λ image. image.0 < n) images → length images ≤ n
few_images images n rising below = let few = few_from images 0 n rising (λ k d lt. omega arith) below (omega arith) in omega (arith, few)

-- behind a closed gate, and with no image, the file stands for its home pages
pub stands_closed : (bytes : List ℕ) → IsFormed bytes → IsFalse (is_open bytes) → Stands bytes (pages_with [] bytes) bytes
stands_closed bytes formed closed = record {
  formed = formed;
  pages = pages_again bytes (home_page bytes) (ap stated_in (page_of-closed bytes 0 closed)) (λ p lt. page_of-closed bytes p closed);
  birth = refl;
  front = front_stays_itself bytes;
}

-- a file that is ready for no image has them all
pub committed_none : (start : ℕ) (images : Numbered) (file : File) → length images ≡ 0 → IsReadyFor start images file → IsCommitted images file file
committed_none start [] file none ready = (record { synced = ready.synced; closed = ready.closed }, stands_closed file.bytes ready.formed ready.closed)
committed_none start (image ∷ images) file none ready = absurd (omega arith)

-- and so it stays where nothing is called
pub both_none : (start : ℕ) (images : Numbered) (told : Option File) → length images ≡ 0 → ForSome told (IsReadyFor start images) → BothFiles told told (IsCommitted images)
both_none start images told none ready = record {
  holds = λ before after is now. subst (IsCommitted images before) (one_file is now) (committed_none start images before none (ready before is));
}

-- what a crash leaves of it is the file itself
pub stands_none : (start : ℕ) (images : Numbered) (file : File) (image : List ℕ) → IsReadyFor start images file → IsImage file.since image → StandsEither images file image
stands_none start images file image ready left =
    let itself : image ≡ file.bytes = only_itself file.bytes image (subst (λ since. IsImage since image) ready.synced left) in
    inl (subst (λ (bytes : List ℕ). Stands file.bytes (pages_in file.bytes) bytes) (sym itself) (record { formed = ready.formed; pages = refl; birth = refl; front = front_stays_itself file.bytes }))

-- what is there, or else the other
some_or : (o : Option (List ℕ)) (page : List ℕ) → IsSome (option_or o (Some page))
some_or None page = refl
some_or (Some first) page = refl

-- a page that was grown is to be written
pub grown_has_image : (base : ℕ) (now : Overlay) (p : ℕ) → base ≤ p → IsSome (image_in base now p)
grown_has_image base now p le =
    let test : leb base p ≡ true = grind (arith, nat_tests) in
    rw test (some_or (get_or now p None) zero_page)

-- behind a closed gate the pages are the home pages
pub pages_at_rest : (extents extent_pages base : ℕ) (file : File) → IsAtRest extents extent_pages base file → pages_in file.bytes ≡ listed base (home_page file.bytes)
pages_at_rest extents extent_pages base file rest =
    ap (λ n. listed n (page_of file.bytes)) rest.states_pages ∙ listed_same base (page_of file.bytes) (home_page file.bytes) (λ p lt. page_of-closed file.bytes p rest.closed)

-- what the images of the changes make of home pages, which is their work
pub record MakesWork (base : ℕ) (now : Overlay) (images : Numbered) (bytes : List ℕ) : Type 0 where
  pub count : count_with_images images bytes ≡ length now
  pub pages : pages_with images bytes ≡ laid_over now (listed base (home_page bytes))

-- each page with its image
made_at : (base : ℕ) (now : Overlay) (images : Numbered) (bytes : List ℕ) → HoldsBelow (length now) (image_in base now) images
    → (p : ℕ) → p < length now → unwrap_or (image_of images p) (home_page bytes p) ≡ unwrap_or (image_of images p) (page_at (listed base (home_page bytes)) p)
made_at base now images bytes holds p lt = elim (cases_lt p base) [
  | inl below ↦ ap (unwrap_or (image_of images p)) (sym (page_at-listed base (home_page bytes) p below))
  | inr grown ↦ unwrap_or-some (image_of images p) (home_page bytes p) (page_at (listed base (home_page bytes)) p) (subst IsSome (sym (holds.found p lt)) (grown_has_image base now p grown))
]

-- images that hold what is to be written make the work, where page 0 of the work states how many pages it has
pub made_by : (base : ℕ) (now : Overlay) (images : Numbered) (bytes : List ℕ) → 0 < length now → HoldsBelow (length now) (image_in base now) images
    → stated_count (laid_over now (listed base (home_page bytes))) ≡ length now → MakesWork base now images bytes
made_by base now images bytes some holds counted =
    let with_images : ℕ → List ℕ = λ p. unwrap_or (image_of images p) (home_page bytes p) in
    let laid : listed (length now) with_images ≡ laid_over now (listed base (home_page bytes)) =
    listed_same (length now) with_images (λ p. unwrap_or (image_of images p) (page_at (listed base (home_page bytes)) p)) (made_at base now images bytes holds)
    ∙ listed-laid_over base now (listed base (home_page bytes)) images (length-listed base (home_page bytes)) holds.found in
    let first : with_images 0 ≡ page_at (laid_over now (listed base (home_page bytes))) 0 = sym (page_at-listed (length now) with_images 0 some) ∙ ap (λ pages. page_at pages 0) laid in
    let count : count_with_images images bytes ≡ length now = ap stated_in first ∙ counted in
    record { count = count; pages = ap (λ n. listed n with_images) count ∙ laid }

-- the file is ready for images that make its work
pub ready_for : (extents extent_pages base : ℕ) (now : Overlay) (images : Numbered) (file : File) → IsAtRest extents extent_pages base file
    → 0 < base → base ≤ length now → HoldsBelow (length now) (image_in base now) images → MakesWork base now images file.bytes
    → IsReadyFor (66 + length now) images file
ready_for extents extent_pages base now images file rest some more holds made = record {
  synced = rest.synced;
  formed = rest.formed;
  closed = rest.closed;
  some = omega (arith, rest.states_pages);
  behind_old = omega (arith, rest.states_pages);
  behind_new = omega (arith, made.count);
  named = subst (λ n. All (λ (image : ℕ × List ℕ). image.0 < n) images) (sym made.count) holds.below;
  grown = λ p low lt. subst IsSome (sym (holds.found p (omega (arith, made.count)))) (grown_has_image base now p (omega (arith, rest.states_pages)));
}

-- After a commit the file is at rest, and has as many pages as the work.
pub rest_after : (extents extent_pages base : ℕ) (now : Overlay) (images : Numbered) (before after : File) → IsAtRest extents extent_pages base before
    → MakesWork base now images before.bytes → IsCommitted images before after → IsAtRest extents extent_pages (length now) after
rest_after extents extent_pages base now images before after rest made committed =
    let size : length (pages_in after.bytes) ≡ length (pages_with images before.bytes) = ap length committed.1.pages in
    record {
      synced = committed.0.synced;
      closed = committed.0.closed;
      formed = committed.1.formed;
      states_pages = omega (arith, size, length-listed (count_of after.bytes) (page_of after.bytes), length-listed (count_with_images images before.bytes) (λ p. unwrap_or (image_of images p) (home_page before.bytes p)), made.count);
      states_extents = ap extents_in committed.1.birth ∙ rest.states_extents;
      states_extent_pages = ap extent_pages_in committed.1.birth ∙ rest.states_extent_pages;
    }

-- its home pages are the work
pub work_after : (extents extent_pages base : ℕ) (now : Overlay) (images : Numbered) (before after : File) → IsAtRest extents extent_pages base before
    → MakesWork base now images before.bytes → IsCommitted images before after → listed (length now) (home_page after.bytes) ≡ laid_over now (listed base (home_page before.bytes))
work_after extents extent_pages base now images before after rest made committed =
    sym (pages_at_rest extents extent_pages (length now) after (rest_after extents extent_pages base now images before after rest made committed))
    ∙ (committed.1.pages ∙ made.pages)

-- each home page is its image, or else as it was
pub home_after : (extents extent_pages base : ℕ) (now : Overlay) (images : Numbered) (before after : File) → IsAtRest extents extent_pages base before
    → MakesWork base now images before.bytes → IsCommitted images before after
    → (p : ℕ) → p < length now → home_page after.bytes p ≡ unwrap_or (image_of images p) (home_page before.bytes p)
home_after extents extent_pages base now images before after rest made committed p lt =
    let pages : listed (length now) (home_page after.bytes) ≡ pages_with images before.bytes =
    work_after extents extent_pages base now images before after rest made committed ∙ sym made.pages in
    sym (page_at-listed (length now) (home_page after.bytes) p lt)
    ∙ (ap (λ all. page_at all p) pages ∙ page_at-listed (count_with_images images before.bytes) (λ q. unwrap_or (image_of images q) (home_page before.bytes q)) p (omega (arith, made.count)))
