-- Records that are brought home, and the first gate that is closed over them.
use Rattle.std.proofs.Common.{◌≡◌, ◌⊎◌, ◌≤◌, ◌<◌, ◌+◌, ℕ, zero, suc, List, [], Option, Some, None, length, get_or, unwrap_or, arith, refl, ap, sym, subst, ◌∙◌, inl, inr}
use Rattle.std.specs.Prelude.{IsSome}
use Rattle.std.specs.Option.{option_or}
use Rattle.std.specs.List.{All}
use Rattle.std.proofs.lemmas.Bool.{cases_eq}
use Rattle.store_api.specs.StoreState.{stated_in}
use Rattle.mdc_words.specs.Listed.{listed}
use Rattle.mdc_words.proofs.ListedLemmas.{listed_same}
use Rattle.mdc_outside.specs.Disk.{IsImage, IsOutside, all_synced, torn}
use Rattle.page_file.specs.Layout.{home_page, home_start, page_start}
use Rattle.redo_journal.specs.Images.{Numbered}
use Rattle.redo_journal.specs.Layout.{torn_home}
use Rattle.redo_log.specs.Checkpointing.{AreOverlay}
use Rattle.redo_log.specs.Layout.{newest, HasRecords}
use Rattle.redo_log.specs.Standing.{image_of, journaled, counted_by, page_by, count_by, pages_by, IsFormedBy, Stands}
use Rattle.redo_log.proofs.Keeps.{StandsBy, keeps_log, log_within, pages_same, home_same, stands_by}
use Rattle.redo_log.proofs.Overlays.{image_of-append, image_of-none, none_behind, none_of_home, outside_home, torn_home-synced, newest_all, numbers_too}
use Rattle.redo_log.proofs.Steps.{only_gates, torn_gates, gates_stay}

-- each page of the first n records stands in its home page
pub record IsHomed (n : ℕ) (file : List ℕ) : Type 0 where
  pub home : (p : ℕ) (page : List ℕ) → image_of (newest n file) p ≡ Some page → home_page file p ≡ page
  pub whole : (p : ℕ) → IsSome (image_of (newest n file) p) → home_start (suc p) ≤ length file

-- While images are written home of which each page has one that comes before the home pages, the file stands for what it stood
-- for.
pub while_brought : (n : ℕ) (images : Numbered) (bytes image : List ℕ) → IsFormedBy n bytes → HasRecords n bytes
    → All (λ image. image.0 < count_by n bytes) images
    → ((p : ℕ) → image_of (counted_by n bytes) p ≡ None → image_of images p ≡ None)
    → (0 < n → image_of (newest n bytes) 0 ≡ None → image_of images 0 ≡ None)
    → IsImage (torn_home images (all_synced bytes)) image → StandsBy n bytes image
while_brought n images bytes image formed has named covered under left =
    let long : page_start 2 ≤ length bytes = formed.long in
    let ends = log_within n bytes formed in
    let synced : (torn_home images (all_synced bytes)).synced ≡ bytes = torn_home-synced images (all_synced bytes) in
    let same_size : length (torn_home images (all_synced bytes)).synced ≡ length bytes = ap length synced in
    let longer : length bytes ≤ length image = omega (arith, left.no_shorter) in
    let stays : (i : ℕ) → i < length bytes → All (λ image. IsOutside i (record { at = home_start image.0; count = 4096 })) images → get_or image i 0 ≡ get_or bytes i 0 =
    λ i lt none. left.kept i (omega arith) (none_of_home i images (all_synced bytes) none tt) ∙ ap (λ xs. get_or xs i 0) synced in
    let before : (i : ℕ) → i < home_start 0 → i < length bytes → get_or image i 0 ≡ get_or bytes i 0 = λ i low lt. stays i lt (λ k d less. inl (omega arith)) in
    let other : (p i : ℕ) → image_of images p ≡ None → home_start (suc p) ≤ length bytes → home_start p ≤ i → i < home_start p + 4096 → get_or image i 0 ≡ get_or bytes i 0 =
    λ p i none whole low high. stays i (omega arith) (outside_home images p i (image_of-none images p none) low high) in
    let keeps = keeps_log n bytes image formed longer has.most
    (λ i below one lt. before i (omega arith) lt)
    (λ i from below lt. before i (omega (arith, has.most)) lt)
    (λ i from below lt. before i (omega (arith, ends.1)) lt)
    (λ opened i from lt. stays i lt (λ k d less. inr (omega (arith, named k d less, (formed.journal opened).behind))))
    (λ opened more none. home_same 0 bytes image (omega (arith, (formed.journal opened).behind, (formed.journal opened).journal.within, formed.some)) longer (λ i low high. other 0 i (under more none) (omega (arith, (formed.journal opened).behind, (formed.journal opened).journal.within, formed.some)) low high)) in
    stands_by n bytes image keeps formed
    (gates_stay n bytes image long has (λ i lt from below. before i (omega arith) lt))
    (pages_same n bytes image keeps formed (λ p i below whole none low high. other p i (covered p none) whole low high))
    (record { no_shorter = longer; same = λ i lt front place. before i front lt })

-- While the images of the records that count are written home, the file stands for what it stood for, also under an open
-- journal.
pub while_homed : (n : ℕ) (images : Numbered) (bytes image : List ℕ) → IsFormedBy n bytes → HasRecords n bytes → AreOverlay n bytes images
    → IsImage (torn_home images (all_synced bytes)) image → StandsBy n bytes image
while_homed n images bytes image formed has over left =
    while_brought n images bytes image formed has
    (numbers_too (λ p. p < count_by n bytes) images (newest n bytes) over (newest_all (λ image. image.0 < count_by n bytes) n bytes formed.named))
    (λ p none. over p ∙ none_behind (image_of (journaled bytes) p) (image_of (newest n bytes) p) (sym (image_of-append (journaled bytes) (newest n bytes) p) ∙ none))
    (λ more none. over 0 ∙ none) left

-- a page is its home page where that holds the image which would come before it
at_home : (a b : Option (List ℕ)) (home : List ℕ) → ((page : List ℕ) → b ≡ Some page → home ≡ page) → unwrap_or (option_or a None) home ≡ unwrap_or (option_or a b) home
at_home None None home is = refl
at_home None (Some page) home is = is page refl
at_home (Some x) b home is = refl

-- where the records are home, each page is the same without them
pub pages_homed : (n : ℕ) (bytes : List ℕ) → IsHomed n bytes → (p : ℕ) → page_by 0 bytes p ≡ page_by n bytes p
pages_homed n bytes homed p =
    ap (λ x. unwrap_or x (home_page bytes p)) (image_of-append (journaled bytes) [] p)
    ∙ (at_home (image_of (journaled bytes) p) (image_of (newest n bytes) p) (home_page bytes p) (λ page is. homed.home p page is)
    ∙ ap (λ x. unwrap_or x (home_page bytes p)) (sym (image_of-append (journaled bytes) (newest n bytes) p)))

-- an image of the journal or of the records
some_of : (a b : Option (List ℕ)) → IsSome (option_or a b) → IsSome (option_or a None) ⊎ IsSome b
some_of None b some = inr some
some_of (Some x) b some = inl refl

-- Where the records are home, the file is formed without them, and stands for the same pages.
pub formed_homed : (n : ℕ) (bytes : List ℕ) → IsFormedBy n bytes → IsHomed n bytes → IsFormedBy 0 bytes × (pages_by 0 bytes ≡ pages_by n bytes)
formed_homed n bytes formed homed =
    let same = pages_homed n bytes homed in
    let count : count_by 0 bytes ≡ count_by n bytes = ap stated_in (same 0) in (
      record {
        long = formed.long;
        some = omega (arith, formed.some);
        journal = λ opened. let fit = formed.journal opened in record {
          behind = omega (arith, fit.behind);
          behind_under = λ none. absurd (omega arith);
          journal = fit.journal;
          named = λ k d lt. omega (arith, fit.named k d lt);
        };
        laid = λ k lt. absurd (omega arith);
        named = λ k lt. absurd (omega arith);
        whole = λ p lt. elim (formed.whole p (omega arith)) [
          | inl some ↦ elim (some_of (image_of (journaled bytes) p) (image_of (newest n bytes) p) (subst IsSome (image_of-append (journaled bytes) (newest n bytes) p) some)) [
            | inl journal ↦ inl (subst IsSome (sym (image_of-append (journaled bytes) [] p)) journal)
            | inr logged ↦ inr (homed.whole p logged)
          ]
          | inr whole ↦ inr whole
        ];
      },
      ap (λ (m : ℕ). listed m (page_by 0 bytes)) count ∙ listed_same (count_by n bytes) (page_by 0 bytes) (page_by n bytes) (λ p lt. same p),
    )

-- While the first gate is closed over records that are home, the file stands for what it stood for.
pub while_first_closed : (n : ℕ) (bytes image : List ℕ) → IsFormedBy n bytes → HasRecords n bytes → 0 < n → IsHomed n bytes
    → IsImage (torn 2048 1 (all_synced bytes)) image → StandsBy n bytes image ⊎ (StandsBy 0 bytes image × Stands bytes (pages_by n bytes) image)
while_first_closed n bytes image formed has some homed left =
    let long : page_start 2 ≤ length bytes = formed.long in
    let torn_so = torn_gates 2048 1 bytes image long (omega arith) (omega arith) left in
    let none = formed_homed n bytes formed homed in
    elim (cases_eq (get_or image 2048 0) 79) [
      | inl opened ↦ inl (only_gates n bytes image torn_so.0 formed (record {
        most = has.most;
        opened = λ k lt. first_too (λ k. get_or image (2048 + k) 0 ≡ 79) opened (λ k more less. torn_so.1 (2048 + k) (omega (arith, has.most)) (inr (omega arith)) ∙ has.opened k less) k lt;
        stops = λ lt stays. has.stops lt (sym (torn_so.1 (2048 + n) (omega arith) (inr (omega arith))) ∙ stays);
      }))
      | inr shut ↦
          let closed : StandsBy 0 bytes image = only_gates 0 bytes image torn_so.0 none.0 (record {
            most = omega arith;
            opened = λ k lt. absurd (omega arith);
            stops = λ lt. shut;
          }) in
          inr (closed, subst (λ (all : List (List ℕ)). Stands bytes all image) none.1 closed.stands)
    ]
  where
    first_too : (P : ℕ → Type 0) → P 0 → ((k : ℕ) → 0 < k → k < n → P k) → (k : ℕ) → k < n → P k
    first_too P first others zero lt = first
    first_too P first others (suc k) lt = others (suc k) (omega arith) lt
