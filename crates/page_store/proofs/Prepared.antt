-- The pages that were written, as the images of a commit.
use Rattle.std.proofs.Common.{◌≡◌, ◌<◌, ◌≤◌, ◌==◌, ℕ, List, [], ◌∷◌, length, get_or, nat_eq, Option, Some, None, true, false, cond, leb, refl, sym, ap, subst, ◌∙◌, inl, inr, arith}
use Rattle.std.specs.List.{All}
use Rattle.std.specs.Map.{lookup}
use Rattle.std.specs.Option.{ForSome}
use Rattle.std.specs.Prelude.{IsSome}
use Rattle.std.proofs.lemmas.Bool.{cases_lt}
use Rattle.std.proofs.lemmas.Bool.Decides.{nat_tests}
use Rattle.store_api.specs.StoreState.{stated_count}
use Rattle.mdc_outside.specs.Disk.{File}
use Rattle.redo_journal.specs.Images.{Numbered}
use Rattle.page_file.specs.Layout.{home_page}
use Rattle.dirty_pages.specs.Table.{AreRising}
use Rattle.page_store.specs.declared.desk.Desk.{Desk}
use Rattle.mdc_words.specs.Listed.{listed}
use Rattle.page_store.specs.Standing.{image_of}
use Rattle.page_store.specs.Changes.{Overlay, Changed, HoldsBelow, image_in, laid_over}
use Rattle.page_store.specs.Desk.{IsKept, base_in, work_of}

-- an image is found as its page is
image_of-lookup : (images : Numbered) (p : ℕ) → image_of images p ≡ lookup (nat_eq p) images
image_of-lookup [] p = refl
image_of-lookup (image ∷ images) p =
    let flip : (image.0 == p) ≡ nat_eq p image.0 = grind (arith, nat_tests) in
    ap (λ b. cond b (Some image.1) (image_of images p)) flip ∙ ap (λ rest. cond (nat_eq p image.0) (Some image.1) rest) (image_of-lookup images p)

-- a page with a change is to be written as it is, and no other
image_is : (base : ℕ) (now : Overlay) (p : ℕ) (o : Option (List ℕ)) → get_or now p None ≡ o → (base ≤ p → IsSome (get_or now p None)) → o ≡ image_in base now p
image_is base now p (Some w) is grown = rw is refl
image_is base now p None is grown = elim (cases_lt p base) [
  | inl low ↦ (let test : leb base p ≡ false = grind (arith, nat_tests) in rw (is, test) refl)
  | inr high ↦ (let some = subst IsSome is (grown high) in absurd (cc))
]

-- the pages that were written, where each page with a change was, are the images
holds_written : (base : ℕ) (now : Overlay) (pages : Numbered) → All (λ page. page.0 < length now) pages
    → ((p : ℕ) → p < length now → lookup (nat_eq p) pages ≡ get_or now p None) → ((p : ℕ) → base ≤ p → p < length now → IsSome (get_or now p None))
    → HoldsBelow (length now) (image_in base now) pages
holds_written base now pages below found grown = record {
  below = below;
  found = λ p lt. image_of-lookup pages p ∙ (found p lt ∙ image_is base now p (get_or now p None) refl (λ le. grown p le lt));
}

-- a desk whose changes were made ready for a commit
pub kept_prepared : (told : Option File) (desk : Desk) (changes : Changed) → IsKept desk told → desk.halt ≡ None
    → ForSome told (λ file. stated_count (work_of told desk desk.changes.now) ≡ length desk.changes.now)
    → changes.now ≡ desk.changes.now → changes.marked ≡ None → changes.base ≡ desk.changes.base
    → All (λ page. page.0 < length changes.now) changes.pages → ((p : ℕ) → changes.base ≤ p → p < length changes.now → IsSome (get_or changes.now p None)) → AreRising changes.pages
    → ((p : ℕ) → p < length changes.now → lookup (nat_eq p) changes.pages ≡ get_or changes.now p None)
    → IsKept (record desk { changes = changes; hand = None; prepared = true }) told
kept_prepared told desk changes kept going counted same unmarked based below grown rising found = record {
  at_rest = kept.at_rest;
  clean = kept.clean;
  some = kept.some;
  based = based ∙ kept.based;
  count = (omega (arith, kept.count.0, ap length same), omega (arith, kept.count.1, ap length same));
  marked = λ before is. absurd (cc);
  hand = λ some. absurd (cc);
  ready = λ is. record {
    holds = holds_written desk.base changes.now changes.pages below found (λ p le lt. grown p (omega (arith, based, kept.based)) lt);
    rising = rising;
    counted = λ file is.
        ap (λ now. stated_count (laid_over now (listed desk.base (home_page file.bytes)))) same
        ∙ (ap (λ halt. stated_count (laid_over desk.changes.now (base_in halt desk.base file.bytes))) (sym going)
        ∙ (ap (λ some. stated_count (work_of some desk desk.changes.now)) (sym is) ∙ (counted file is ∙ sym (ap length same))));
    unmarked = unmarked;
  };
}
