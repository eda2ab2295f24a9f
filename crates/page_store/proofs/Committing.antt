-- What a commit leaves, step by step.
use Rattle.std.proofs.Common.{◌≡◌, ◌≤◌, ◌<◌, ◌+◌, ℕ, IsTrue, IsFalse, IsSome, List, length, Option, Some, None, unwrap_or, arith, sym, ap, subst, ◌∙◌, inl, inr, refl}
use Rattle.std.proofs.lemmas.Bool.{cases_lt, both_ways}
use Rattle.std.specs.List.{All}
use Rattle.store_api.specs.StoreState.{stated_in}
use Rattle.mdc_outside.specs.Disk.{File, IsImage, all_synced, torn}
use Rattle.redo_journal.specs.Images.{Numbered, AreRising}
use Rattle.page_file.specs.Layout.{FrontStays, file_page, home_page, home_start, page_start}
use Rattle.redo_journal.specs.Layout.{is_open, start_of, journal_of, torn_journal, HoldsJournal}
use Rattle.page_file.proofs.FrontLemmas.{front_stays_then}
use Rattle.mdc_words.specs.Listed.{listed}
use Rattle.page_store.specs.Standing.{image_of, count_of, pages_in, Stands}
use Rattle.page_store.specs.Commit.{AreFitting, IsReadyFor, IsJournaled, HomeStays, count_with_images, pages_with}
use Rattle.mdc_words.proofs.ListedLemmas.{listed_same}
use Rattle.page_file.proofs.BytesLemmas.{same_part}
use Rattle.page_store.proofs.Kept.{journal_left, same_but_gate}
use Rattle.page_store.proofs.Crashes.{while_written, while_opened}
use Rattle.page_file.specs.declared.layout.TheConstants.{GATE}

-- the home pages while a journal is written behind them
pub home_written : (bytes image : List ℕ) (start n : ℕ) → home_start (count_of bytes) ≤ length bytes → 66 + count_of bytes ≤ start
    → IsImage (torn_journal start n (all_synced bytes)) image → HomeStays bytes image
home_written bytes image start n whole behind left p named =
    let kept = journal_left bytes image start n left in
    same_part (home_start p) 4096 image bytes (omega (arith, kept.0)) (λ i low high lt. kept.1 i lt (omega arith) (inr (omega arith)))

-- an image takes the place of any page
pub unwrap_or-some : (image : Option (List ℕ)) (x y : List ℕ) → IsSome image → unwrap_or image x ≡ unwrap_or image y
unwrap_or-some None x y some = absurd (cc)
unwrap_or-some (Some page) x y some = refl

-- where the home pages stay and each new page is among the images, the pages with the images stay
pub with_stays : (images : Numbered) (file image : List ℕ) → 0 < count_of file → HomeStays file image
    → ((p : ℕ) → count_of file ≤ p → p < count_with_images images file → IsSome (image_of images p))
    → (count_with_images images image ≡ count_with_images images file) × (pages_with images image ≡ pages_with images file)
with_stays images file image some stays grown =
    let zero_page : home_page image 0 ≡ home_page file 0 = stays 0 some in
    let count : count_with_images images image ≡ count_with_images images file = ap (λ page. stated_in (unwrap_or (image_of images 0) page)) zero_page in (
      count,
      ap (λ n. listed n (λ p. unwrap_or (image_of images p) (home_page image p))) count
          ∙ listed_same (count_with_images images file) (λ p. unwrap_or (image_of images p) (home_page image p)) (λ p. unwrap_or (image_of images p) (home_page file p))
          (λ p lt. elim (cases_lt p (count_of file)) [
            | inl before ↦ ap (λ page. unwrap_or (image_of images p) page) (stays p before)
            | inr behind ↦ unwrap_or-some (image_of images p) (home_page image p) (home_page file p) (grown p behind lt)
          ]),
    )

-- the same pages, by way of another file
pub stands_through : (file half image : List ℕ) (all : List (List ℕ)) → file_page half 1 ≡ file_page file 1 → FrontStays file half → Stands half all image → Stands file all image
stands_through file half image all birth front stands = record { formed = stands.formed; pages = stands.pages; birth = stands.birth ∙ birth; front = front_stays_then file half image front stands.front }

-- other pages that are the same
pub stands_same : (file image : List ℕ) (all same : List (List ℕ)) → all ≡ same → Stands file all image → Stands file same image
stands_same file image all same is stands = record { formed = stands.formed; pages = stands.pages ∙ is; birth = stands.birth; front = stands.front }

-- while the journal is written
pub journaled_written : (start n : ℕ) (images : Numbered) (before : File) (image : List ℕ) → IsReadyFor start images before
    → IsImage (torn_journal start n before.since) image
    → IsFalse (is_open image) × Stands before.bytes (pages_in before.bytes) image × IsJournaled images before.bytes image
journaled_written start n images before image ready left =
    let torn_bytes : IsImage (torn_journal start n (all_synced before.bytes)) image = subst (λ since. IsImage (torn_journal start n since) image) ready.synced left in
    let written = while_written before.bytes image start n ready.formed ready.closed ready.some ready.behind_old torn_bytes in
    (written.0, written.1, record { stands = inl written.1; stays = home_written before.bytes image start n ready.formed.whole ready.behind_old torn_bytes })

-- while its gate is opened
pub journaled_opened : (start : ℕ) (images : Numbered) (before half : File) (image : List ℕ) → AreRising images → IsReadyFor start images before
    → IsFalse (is_open half.bytes) → IsJournaled images before.bytes half.bytes → Stands before.bytes (pages_in before.bytes) half.bytes
    → HoldsJournal start images half → IsImage (torn GATE 1 half.since) image
    → IsJournaled images before.bytes image
    × (IsTrue (is_open image) → (journal_of image ≡ images) × Stands before.bytes (pages_with images before.bytes) image)
journaled_opened start images before half image rising ready closed journaled stands holds left =
    let torn_gate : IsImage (torn GATE 1 (all_synced half.bytes)) image = subst (λ since. IsImage (torn GATE 1 since) image) holds.settled left in
    let with_images = with_stays images before.bytes half.bytes ready.some journaled.stays ready.grown in
    let named : All (λ image. image.0 < count_with_images images half.bytes) images = subst (λ n. All (λ (image : ℕ × List ℕ). image.0 < n) images) (sym with_images.0) ready.named in
    let behind : 66 + count_with_images images half.bytes ≤ start = subst (λ n. 66 + n ≤ start) (sym with_images.0) ready.behind_new in
    let fitting : AreFitting start images half.bytes = record { behind = behind; within = holds.within; rising = rising; named = named } in
    let long : page_start 2 ≤ length half.bytes = omega (arith, stands.formed.whole) in
    let far : 66 ≤ start_of half.bytes = omega (arith, holds.starts, behind) in
    let same = same_but_gate half.bytes image long far torn_gate in
    let stays : HomeStays before.bytes image = λ p lt. same.home p ∙ journaled.stays p lt in
    elim (while_opened half.bytes image start images stands.formed closed holds.starts holds.images fitting torn_gate) [
      | inl shut ↦ (
        record {
          stands = inl (stands_through before.bytes half.bytes image (pages_in before.bytes) stands.birth stands.front (stands_same half.bytes image (pages_in half.bytes) (pages_in before.bytes) stands.pages shut.1));
          stays = stays;
        },
        λ opened. absurd (both_ways (is_open image) shut.0 opened),
      )
      | inr opened ↦ (let whole = stands_through before.bytes half.bytes image (pages_with images before.bytes) stands.birth stands.front
          (stands_same half.bytes image (pages_with images half.bytes) (pages_with images before.bytes) with_images.1 opened.2) in
          (record { stands = inr whole; stays = stays }, λ gate. (opened.1, whole)))
    ]
