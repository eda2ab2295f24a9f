-- A record that was written stands in the log.
use Rattle.std.proofs.Common.{◌≡◌, ◌≤◌, ◌<◌, ◌+◌, ◌-◌, ◌*◌, ℕ, Bool, List, [], ◌++◌, length, take, drop, Option, Result, Ok, Err, OnOk, arith, refl, ap, sym, subst, ◌∙◌, append_assoc, length-append, ⊎_elim, inl, inr}
use Rattle.std.specs.Option.{option_map, ForSome}
use Rattle.std.specs.List.{All}
use Rattle.std.proofs.lemmas.List.{take_at, take_all, drop_at, length-take-le, drop-drop}
use Rattle.byteorder.specs.Endian.{big_bytes, big_number}
use Rattle.byteorder.specs.Numbers.{big_number-reads_back}
use Rattle.mdc_outside.specs.Disk.{File, Since, torn, written, settled, overwritten, all_synced}
use Rattle.mdc_outside.specs.Moments.{Beside}
use Rattle.page_file.specs.Runs.{Runs, IsCovered, Between}
use Rattle.page_file.proofs.BetweenLemmas.{mapped, written_between}
use Rattle.page_file.proofs.CoverLemmas.{covers_torn, covers_through, covered_is_within}
use Rattle.page_file.proofs.RunsLemmas.{was_told, runs_then_covered, moment_within}
use Rattle.mdc_words.proofs.TimeLemmas.{over_time_wider}
use Rattle.redo_journal.specs.Images.{Numbered, IsPageImage}
use Rattle.redo_journal.specs.Layout.{entries, index_pages}
use Rattle.redo_journal.specs.Pieces.{Replaces, number_bytes, page_bytes, index_page, index_bytes, header}
use Rattle.redo_journal.proofs.JournalLemmas.{entries_read, index_reads}
use Rattle.redo_journal.proofs.PiecesLemmas.{replaces_nothing, replaces_step, replaces_length, overwritten_length, length-index_bytes, length-page_bytes}
use Rattle.redo_log.specs.Appending.{HasIndex, HoldsRecord}
use Rattle.redo_log.specs.Layout.{start_in, number_in, stored_in, header_at, torn_record}

-- The bytes of images under a header, step by step: the index, the pages, and the start and number.
pub stored_stands : (h start : ℕ) (images : Numbered) (place next : ℕ) (first second third last after_index after_pages : List ℕ)
    → All IsPageImage images → start < 4294967296 → length images < 4294967296 → h + 8 ≤ place
    → place ≡ 4096 * start → next ≡ place + 4096 * index_pages (length images) → place ≤ length first
    → second ≡ take place first ++ index_bytes (index_pages (length images)) images ++ after_index
    → third ≡ take next second ++ page_bytes images ++ after_pages
    → last ≡ overwritten h (header start (length images)) third
    → (start_in h last ≡ start) × (number_in h last ≡ length images) × (stored_in h last ≡ images) × HasIndex start images last
stored_stands h start images place next first second third last after_index after_pages all start_fits few below place_is next_is reach is_second is_third is_last =
    let index : List ℕ = index_bytes (index_pages (length images)) images in
    let size : length (index_bytes (index_pages (length images)) images) ≡ 4096 * index_pages (length images) = length-index_bytes (index_pages (length images)) images in
    let front_size : length (take place first) ≡ place = length-take-le place first reach in
    let both_size : length (take place first ++ index_bytes (index_pages (length images)) images) ≡ next = omega (arith, length-append (take place first) (index_bytes (index_pages (length images)) images)) in
    let kept : take next second ≡ take place first ++ index_bytes (index_pages (length images)) images =
    ap (take next) is_second ∙ take_at (take place first ++ index_bytes (index_pages (length images)) images) after_index next both_size in
    let whole : third ≡ (take place first ++ index_bytes (index_pages (length images)) images) ++ (page_bytes images ++ after_pages) =
    is_third ∙ (ap (λ xs. xs ++ page_bytes images ++ after_pages) kept ∙ append_assoc (take place first ++ index_bytes (index_pages (length images)) images) (page_bytes images) after_pages) in
    let long_third : next ≤ length third = omega (arith, ap length whole, length-append (take place first ++ index_bytes (index_pages (length images)) images) (page_bytes images ++ after_pages)) in
    let header_behind : last ≡ take h third ++ (header start (length images) ++ drop (h + 8) third) = is_last ∙ append_assoc (take h third) (header start (length images)) (drop (h + 8) third) in
    let front_last : length (take h third) ≡ h = length-take-le h third (omega arith) in
    let from_header : drop h last ≡ header start (length images) ++ drop (h + 8) third = ap (drop h) header_behind ∙ drop_at (take h third) (header start (length images) ++ drop (h + 8) third) h front_last in
    let start_is : start_in h last ≡ start = ap (big_number 4) (from_header ∙ append_assoc (big_bytes 4 start) (big_bytes 4 (length images)) (drop (h + 8) third)) ∙ big_number-reads_back 4 start (big_bytes 4 (length images) ++ drop (h + 8) third) start_fits in
    let from_number : drop (h + 4) last ≡ big_bytes 4 (length images) ++ drop (h + 8) third =
    sym (drop-drop 4 h last) ∙ (ap (drop 4) (from_header ∙ append_assoc (big_bytes 4 start) (big_bytes 4 (length images)) (drop (h + 8) third)) ∙ drop_at (big_bytes 4 start) (big_bytes 4 (length images) ++ drop (h + 8) third) 4 refl) in
    let number_is : number_in h last ≡ length images = ap (big_number 4) from_number ∙ big_number-reads_back 4 (length images) (drop (h + 8) third) few in
    let header_size : length (take h third ++ header start (length images)) ≡ h + 8 = omega (arith, length-append (take h third) (header start (length images))) in
    let from_place : (at : ℕ) → h + 8 ≤ at → drop at last ≡ drop at third = λ at le.
    let count : h + 8 + (at - (h + 8)) ≡ at = omega arith in
    let apart : drop (h + 8) last ≡ drop (h + 8) third = ap (drop (h + 8)) is_last ∙ drop_at (take h third ++ header start (length images)) (drop (h + 8) third) (h + 8) header_size in
    ap (λ n. drop n last) (sym count) ∙ (sym (drop-drop (at - (h + 8)) (h + 8) last) ∙ (ap (drop (at - (h + 8))) apart ∙ (drop-drop (at - (h + 8)) (h + 8) third ∙ ap (λ n. drop n third) count))) in
    let body : drop place third ≡ index_bytes (index_pages (length images)) images ++ (page_bytes images ++ after_pages) =
    ap (drop place) (whole ∙ append_assoc (take place first) (index_bytes (index_pages (length images)) images) (page_bytes images ++ after_pages)) ∙ drop_at (take place first) (index_bytes (index_pages (length images)) images ++ (page_bytes images ++ after_pages)) place front_size in
    let pages : drop next third ≡ page_bytes images ++ after_pages = ap (drop next) whole ∙ drop_at (take place first ++ index_bytes (index_pages (length images)) images) (page_bytes images ++ after_pages) next both_size in
    let reads : (rest : List ℕ) × (index_bytes (index_pages (length images)) images ≡ number_bytes images ++ rest) = index_reads (index_pages (length images)) images (omega arith) (omega arith) in
    let index_at : drop (4096 * start) last ≡ number_bytes images ++ (reads.0 ++ (page_bytes images ++ after_pages)) =
    ap (λ n. drop n last) (sym place_is) ∙ (from_place place (omega arith) ∙ (body ∙ (ap (λ xs. xs ++ (page_bytes images ++ after_pages)) reads.1 ∙ append_assoc (number_bytes images) reads.0 (page_bytes images ++ after_pages)))) in
    let next_at : 4096 * (start + index_pages (length images)) ≡ next = omega arith in
    let pages_at : drop (4096 * (start + index_pages (length images))) last ≡ page_bytes images ++ after_pages = ap (λ n. drop n last) next_at ∙ (from_place next (omega arith) ∙ pages) in
    let stored_is : stored_in h last ≡ images =
    ap (λ s. entries (number_in h last) (drop (4096 * s) last) (drop (4096 * (s + index_pages (number_in h last))) last)) start_is
    ∙ (ap (λ n. entries n (drop (4096 * start) last) (drop (4096 * (start + index_pages n)) last)) number_is
    ∙ (ap (λ xs. entries (length images) xs (drop (4096 * (start + index_pages (length images))) last)) index_at
    ∙ (ap (λ xs. entries (length images) (number_bytes images ++ (reads.0 ++ (page_bytes images ++ after_pages))) xs) pages_at
    ∙ entries_read images (reads.0 ++ (page_bytes images ++ after_pages)) after_pages all))) in
    let index_is : HasIndex start images last =
    ap (λ xs. take (4096 * index_pages (length images)) xs) (ap (λ n. drop n last) (sym place_is) ∙ (from_place place (omega arith) ∙ body))
    ∙ take_at (index_bytes (index_pages (length images)) images) (page_bytes images ++ after_pages) (4096 * index_pages (length images)) size in
    (start_is, number_is, stored_is, index_is)

-- a write at the same place
pub written_at : (at place : ℕ) (piece : List ℕ) (old new : Option File) → at ≡ place → new ≡ option_map (written at piece) old → new ≡ option_map (written place piece) old
written_at at place piece old new same is = subst (λ (n : ℕ). new ≡ option_map (written n piece) old) same is

-- a record of at most 1,024 images has one index page
pub one_index_page : (m : ℕ) → 0 < m → m ≤ 1024 → index_pages m ≡ 1
one_index_page m some few = omega arith

-- the index page that is written is the whole index
pub index_written : (old new : Option File) (place : ℕ) (page : List ℕ) (images : Numbered) → page ≡ index_page images → 0 < length images → length images ≤ 1024
    → ForSome old (λ f. place ≤ length f.bytes) → new ≡ option_map (written place page) old
    → Between old new (Replaces place (index_bytes (index_pages (length images)) images))
index_written old new place page images page_is some few within is = record {
  holds = λ before after is_before is_after.
      let all : take 1024 images ≡ images = take_all 1024 images few in
      let one : index_bytes (index_pages (length images)) images ≡ index_page images =
      ap (λ n. index_bytes n images) (one_index_page (length images) some few) ∙ ap index_page all in
      let empty : place ≡ place + 0 = omega arith in
      let reach : place ≤ length before.bytes = within before is_before in
      replaces_step place place [] page (index_bytes (index_pages (length images)) images) before.bytes before.bytes after.bytes reach empty (one ∙ sym page_is)
      (replaces_nothing place before.bytes) ((written_between old new place page is).holds before after is_before is_after);
}

-- what a record tears covers what was torn before
record_covers : (k start m at count : ℕ) (since : Since) → 4096 * start ≤ at → at + count ≤ 4096 * start + 4096 * (index_pages m + m) → IsCovered (torn_record k start m since) (torn at count since)
record_covers k start m at count since low high = record {
  synced = refl;
  longest = omega arith;
  outside = λ i lt none. (⊎_elim (λ front. inl (omega arith)) (λ behind. inr (omega arith)) none.0, none.1.1);
}

module _ {D : Type 0} {file : D → Option File} {aside : D → Beside} {attaches : D → Option (List (List ℕ × Bool))} {is_attached : D → Bool} {clock : D → ℕ} {moment : D → ℕ → List ℕ → List ℕ → Type 0} where
  -- the first part of a record
  pub runs_first : (k start m at count : ℕ) {old new : D} → 4096 * start ≤ at → at + count ≤ 4096 * start + 4096 * (index_pages m + m)
      → Runs file aside attaches is_attached clock moment IsCovered (torn at count) old new
      → Runs file aside attaches is_attached clock moment IsCovered (torn_record k start m) old new
  runs_first k start m at count {old} {new} low high run = record {
    untold = run.untold;
    told = λ before is. let after = run.told before is in (after.0, after.1, covers_through (record_covers k start m at count before.since low high) after.2);
    crash = λ before said is tape.
        over_time_wider (run.crash before said is tape) (λ image heard left. moment_within (covered_is_within (torn_record k start m before.since) (torn at count before.since) (record_covers k start m at count before.since low high)) left);
    later = run.later;
    attached = run.attached;
    listed = run.listed;
    beside = run.beside;
  }

  -- another part
  pub runs_more : (k start m at count : ℕ) {old middle new : D} → 4096 * start ≤ at → at + count ≤ 4096 * start + 4096 * (index_pages m + m)
      → Runs file aside attaches is_attached clock moment IsCovered (torn_record k start m) old middle
      → Runs file aside attaches is_attached clock moment IsCovered (torn at count) middle new
      → Runs file aside attaches is_attached clock moment IsCovered (torn_record k start m) old new
  runs_more k start m at count low high first second = runs_then_covered first second (λ before half is_before is_half covered.
      covers_torn (torn_record k start m before.since) half.since at count covered (omega arith)
      (λ i lt none. ⊎_elim (λ front. inl (omega arith)) (λ behind. inr (omega arith)) none.0))

  -- the start and the number
  pub runs_head : (k start m : ℕ) {old middle new : D}
      → Runs file aside attaches is_attached clock moment IsCovered (torn_record k start m) old middle
      → Runs file aside attaches is_attached clock moment IsCovered (torn (header_at k) 8) middle new
      → Runs file aside attaches is_attached clock moment IsCovered (torn_record k start m) old new
  runs_head k start m first second = runs_then_covered first second (λ before half is_before is_half covered.
      covers_torn (torn_record k start m before.since) half.since (header_at k) 8 covered (omega arith) (λ i lt none. none.1.0))

  -- the index, the pages, the start and the number, and then all on the disk
  pub record_stands : {Whole Within2 Within3 Within4 : Since → Since → Type 0} {whole a2 a3 a4 : Since → Since} {old m2 m3 m4 new : D} {T E : Type 0}
      (result : Result T E) (k start : ℕ) (images : Numbered) (place next : ℕ) (piece : List ℕ)
      → All IsPageImage images → start < 4294967296 → length images < 4294967296 → 2 ≤ start → k < 32
      → place ≡ 4096 * start → next ≡ place + 4096 * index_pages (length images) → piece ≡ header start (length images) → length piece ≡ 8
      → ForSome (file old) (λ f. place ≤ length f.bytes)
      → Runs file aside attaches is_attached clock moment Whole whole old new
      → Runs file aside attaches is_attached clock moment Within2 a2 old m2 → Between (file old) (file m2) (Replaces place (index_bytes (index_pages (length images)) images))
      → Runs file aside attaches is_attached clock moment Within3 a3 m2 m3 → Between (file m2) (file m3) (Replaces next (page_bytes images))
      → Runs file aside attaches is_attached clock moment Within4 a4 m3 m4 → file m4 ≡ option_map (written (header_at k) piece) (file m3)
      → OnOk result (file new ≡ option_map settled (file m4)) → OnOk result (ForSome (file new) (HoldsRecord k start images))
  record_stands {old = old} {m3 = m3} {m4 = m4} {new = new} (Ok done) k start images place next piece all start_fits few behind gates place_is next_is piece_is piece_size reaches whole r2 index r3 pages r4 put synced = λ after is.
      let before = was_told whole after is in
      let f2 = r2.told before.0 before.1 in
      let f3 = r3.told f2.0 f2.1 in
      let f4 = r4.told f3.0 f3.1 in
      let last : f4.0 ≡ written (header_at k) piece f3.0 = mapped (written (header_at k) piece) (file m3) (file m4) f3.0 f4.0 put f3.1 f4.1 in
      let settles : after ≡ settled f4.0 = mapped settled (file m4) (file new) f4.0 after synced f4.1 is in
      let behind_index = index.holds before.0 f2.0 before.1 f2.1 in
      let behind_pages = pages.holds f2.0 f3.0 f2.1 f3.1 in
      let reach : place ≤ length before.0.bytes = reaches before.0 before.1 in
      let bytes : after.bytes ≡ f4.0.bytes = ap (λ f. f.bytes) settles in
      let made : f4.0.bytes ≡ overwritten (header_at k) (header start (length images)) f3.0.bytes = ap (λ f. f.bytes) last ∙ ap (λ p. overwritten (header_at k) p f3.0.bytes) piece_is in
      let index_end : next ≤ length f2.0.bytes = omega (arith, replaces_length place (index_bytes (index_pages (length images)) images) before.0.bytes f2.0.bytes reach behind_index, length-index_bytes (index_pages (length images)) images) in
      let pages_end : next + 4096 * length images ≤ length f3.0.bytes = omega (arith, replaces_length next (page_bytes images) f2.0.bytes f3.0.bytes index_end behind_pages, length-page_bytes images all) in
      let long_made : length f3.0.bytes ≤ length (overwritten (header_at k) (header start (length images)) f3.0.bytes) = overwritten_length (header_at k) (header start (length images)) f3.0.bytes (omega arith) in
      let stands = stored_stands (header_at k) start images place next before.0.bytes f2.0.bytes f3.0.bytes after.bytes behind_index.0 behind_pages.0
      all start_fits few (omega arith) place_is next_is reach behind_index.1 behind_pages.1 (bytes ∙ made) in
      record {
        settled = ap (λ f. f.since) settles ∙ ap (λ xs. all_synced xs) (sym bytes);
        starts = stands.0;
        number = stands.1;
        images_are = stands.2;
        index = stands.3;
        within = omega (arith, ap length bytes, ap length made, long_made);
      }
  record_stands (Err e) k start images place next piece all start_fits few behind gates place_is next_is piece_is piece_size reaches whole r2 index r3 pages r4 put synced = synced

  -- the same range
  pub runs_at : {at count place size : ℕ} {old new : D} → at ≡ place → count ≡ size
      → Runs file aside attaches is_attached clock moment IsCovered (torn at count) old new
      → Runs file aside attaches is_attached clock moment IsCovered (torn place size) old new
  runs_at {at} {count} {place} {size} {old} {new} same_place same_size run =
      subst (λ (n : ℕ). Runs file aside attaches is_attached clock moment IsCovered (torn place n) old new) same_size
      (subst (λ (n : ℕ). Runs file aside attaches is_attached clock moment IsCovered (torn n count) old new) same_place run)
