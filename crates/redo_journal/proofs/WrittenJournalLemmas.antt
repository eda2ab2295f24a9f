-- A journal that was written stands in the file.
use Rattle.std.proofs.Common.{◌≡◌, ◌≤◌, ◌<◌, ◌+◌, ◌-◌, ◌*◌, nat_eq, ℕ, Bool, IsFalse, List, ◌++◌, length, replicate, Option, Result, Ok, Err, OnOk, arith, ap, sym, ◌∙◌, length-append}
use Rattle.std.specs.Option.{option_map, ForSome}
use Rattle.std.specs.List.{All}
use Rattle.std.proofs.lemmas.List.{length-replicate}
use Rattle.mdc_outside.specs.Disk.{File, Since, written, settled, overwritten, all_synced}
use Rattle.mdc_outside.specs.Moments.{Beside}
use Rattle.redo_journal.specs.Images.{Numbered, IsPageImage}
use Rattle.page_file.specs.Layout.{IsReady}
use Rattle.redo_journal.specs.Layout.{HoldsJournal, index_pages, is_open}
use Rattle.redo_journal.specs.Pieces.{Replaces, index_bytes, page_bytes, header}
use Rattle.page_file.specs.Runs.{Runs, Between}
use Rattle.page_file.proofs.BetweenLemmas.{mapped}
use Rattle.redo_journal.proofs.PiecesLemmas.{replaces_length, overwritten_length, length-index_bytes, length-page_bytes}
use Rattle.redo_journal.proofs.JournalLemmas.{journal_stands}
use Rattle.page_file.proofs.RunsLemmas.{was_told}

module _ {D : Type 0} {file : D → Option File} {aside : D → Beside} {attaches : D → Option (List (List ℕ × Bool))} {is_attached : D → Bool} {clock : D → ℕ} {moment : D → ℕ → List ℕ → List ℕ → Type 0} where
  -- zeros, the index, the pages, the start and the number, and then all on the disk
  pub written_stands : {Whole Within1 Within2 Within3 Within4 : Since → Since → Type 0} {whole a1 a2 a3 a4 : Since → Since} {old m0 m1 m2 m3 m4 new : D} {T E : Type 0}
      (result : Result T E) (start : ℕ) (images : Numbered) (end place next : ℕ) (piece : List ℕ)
      → All IsPageImage images → start < 4294967296 → length images < 4294967296 → 66 ≤ start
      → place ≡ 4096 * start → next ≡ place + 4096 * index_pages (length images) → piece ≡ header start (length images) → length piece ≡ 8
      → ForSome (file old) IsReady → ForSome (file old) (λ f. IsFalse (is_open f.bytes)) → file m0 ≡ file old → ForSome (file old) (λ f. end ≡ length f.bytes)
      → Runs file aside attaches is_attached clock moment Whole whole old new
      → Runs file aside attaches is_attached clock moment Within1 a1 m0 m1 → Between (file m0) (file m1) (λ before after. after ≡ before ++ replicate (place - end) 0)
      → Runs file aside attaches is_attached clock moment Within2 a2 m1 m2 → Between (file m1) (file m2) (Replaces place (index_bytes (index_pages (length images)) images))
      → Runs file aside attaches is_attached clock moment Within3 a3 m2 m3 → Between (file m2) (file m3) (Replaces next (page_bytes images))
      → Runs file aside attaches is_attached clock moment Within4 a4 m3 m4 → file m4 ≡ option_map (written 1024 piece) (file m3)
      → OnOk result (file new ≡ option_map settled (file m4)) → OnOk result (ForSome (file new) (HoldsJournal start images))
  written_stands {old = old} {m0 = m0} {m3 = m3} {m4 = m4} {new = new} (Ok done) start images end place next piece all start_fits few behind place_is next_is piece_is piece_size ready closed same ends whole r1 filled r2 index r3 pages r4 put synced = λ after is.
      let before = was_told whole after is in
      let f1 = r1.told before.0 (same ∙ before.1) in
      let f2 = r2.told f1.0 f1.1 in
      let f3 = r3.told f2.0 f2.1 in
      let f4 = r4.told f3.0 f3.1 in
      let last : f4.0 ≡ written 1024 piece f3.0 = mapped (written 1024 piece) (file m3) (file m4) f3.0 f4.0 put f3.1 f4.1 in
      let settles : after ≡ settled f4.0 = mapped settled (file m4) (file new) f4.0 after synced f4.1 is in
      let zeros = filled.holds before.0 f1.0 (same ∙ before.1) f1.1 in
      let behind_index = index.holds f1.0 f2.0 f1.1 f2.1 in
      let behind_pages = pages.holds f2.0 f3.0 f2.1 f3.1 in
      let long : 8192 ≤ length before.0.bytes = (ready before.0 before.1).long in
      let size : end ≡ length before.0.bytes = ends before.0 before.1 in
      let reach : place ≤ length f1.0.bytes = omega (arith, ap length zeros, length-append before.0.bytes (replicate (place - end) 0), length-replicate {A = ℕ} (place - end) 0) in
      let bytes : after.bytes ≡ f4.0.bytes = ap (λ f. f.bytes) settles in
      let made : f4.0.bytes ≡ overwritten 1024 (header start (length images)) f3.0.bytes = ap (λ f. f.bytes) last ∙ ap (λ p. overwritten 1024 p f3.0.bytes) piece_is in
      let index_end : next ≤ length f2.0.bytes = omega (arith, replaces_length place (index_bytes (index_pages (length images)) images) f1.0.bytes f2.0.bytes reach behind_index, length-index_bytes (index_pages (length images)) images) in
      let pages_end : next + 4096 * length images ≤ length f3.0.bytes = omega (arith, replaces_length next (page_bytes images) f2.0.bytes f3.0.bytes index_end behind_pages, length-page_bytes images all) in
      let long_made : length f3.0.bytes ≤ length (overwritten 1024 (header start (length images)) f3.0.bytes) = overwritten_length 1024 (header start (length images)) f3.0.bytes (omega arith) in
      let stands = journal_stands start images place next (replicate (place - end) 0) before.0.bytes f1.0.bytes f2.0.bytes f3.0.bytes after.bytes behind_index.0 behind_pages.0
      all start_fits few behind long place_is next_is reach zeros behind_index.1 behind_pages.1 (bytes ∙ made) in
      record {
        settled = ap (λ f. f.since) settles ∙ ap (λ xs. all_synced xs) (sym bytes);
        starts = stands.0;
        images = stands.1;
        within = omega (arith, ap length bytes, ap length made, long_made);
        index = stands.3;
        closed = ap (λ b. nat_eq b 79) stands.2 ∙ closed before.0 before.1;
      }
  written_stands (Err e) start images end place next piece all start_fits few behind place_is next_is piece_is piece_size ready closed same ends whole r1 filled r2 index r3 pages r4 put synced = synced
