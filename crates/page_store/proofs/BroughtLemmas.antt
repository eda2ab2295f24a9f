-- What an opening makes of the bytes of a file.
use Rattle.std.proofs.Common.{◌≡◌, ◌≤◌, ◌<◌, ◌+◌, ◌-◌, ℕ, zero, suc, Bool, true, false, IsTrue, IsFalse, if◌then◌else◌, List, [], ◌∷◌, ◌++◌, length, take, drop, replicate, Option, Some, None, inl, inr, refl, sym, ap, ◌∙◌, arith, length-append, length-drop, length-take}
use Rattle.std.proofs.lemmas.List.{length-replicate}
use Rattle.std.proofs.lemmas.List.Elements.{All-cons, All-head, All-nil, All-tail}
use Rattle.std.specs.List.{All}
use Rattle.std.specs.Option.{option_map}
use Rattle.mdc_outside.specs.Disk.{File, Since, overwritten, settled, written}
use Rattle.mdc_outside.specs.Moments.{Beside}
use Rattle.redo_journal.specs.Images.{Numbered}
use Rattle.byteorder.specs.Endian.{big_number}
use Rattle.redo_journal.specs.Layout.{entries, index_pages, is_open, journal_of, number_of, start_of}
use Rattle.redo_journal.specs.Pieces.{homed, placed}
use Rattle.page_file.specs.Layout.{home_start, page_start}
use Rattle.page_file.specs.Runs.{Runs, IsWithin, Between}
use Rattle.page_file.specs.declared.layout.TheConstants.{GATE}
use Rattle.page_file.proofs.RunsLemmas.{cases_Option}
use Rattle.page_store.specs.Opened.{brought_home, file_bytes, opened_bytes}
use Rattle.page_store.specs.Standing.{IsFormed, count_of}

module _ {D : Type 0} {file : D → Option File} {aside : D → Beside} {attaches : D → Option (List (List ℕ × Bool))} {is_attached : D → Bool} {clock : D → ℕ} {moment : D → ℕ → List ℕ → List ℕ → Type 0} where
  -- the images are written home, and then the gate is closed
  pub brought : {allowed : Since → Since} {old half : D} (images : Numbered) (new : Option File) → Runs file aside attaches is_attached clock moment IsWithin allowed old half
      → Between (file old) (file half) (λ before after. after ≡ homed images before) → new ≡ option_map (λ f. settled (written GATE (0 ∷ []) f)) (file half)
      → file_bytes new ≡ option_map (brought_home images) (file_bytes (file old))
  brought {old = old} {half = half} images new run homes closes = elim (cases_Option (file old)) [
    | inl none ↦
        ap file_bytes (closes ∙ ap (option_map (λ (f : File). settled (written GATE (0 ∷ []) f))) (run.untold none))
        ∙ sym (ap (λ (told : Option File). option_map (brought_home images) (file_bytes told)) none)
    | inr some ↦
        (let told = run.told some.0 some.1 in
        ap file_bytes (closes ∙ ap (option_map (λ (f : File). settled (written GATE (0 ∷ []) f))) told.1)
        ∙ (ap (λ bytes. Some (overwritten GATE (0 ∷ []) bytes)) (homes.holds some.0 told.0 some.1 told.1)
        ∙ sym (ap (λ (told : Option File). option_map (brought_home images) (file_bytes told)) some.1)))
  ]

-- no journal counts, and nothing is written
pub opened_closed : (told new : Option File) → new ≡ told → ((f : File) → told ≡ Some f → IsFalse (is_open f.bytes)) → file_bytes new ≡ option_map opened_bytes (file_bytes told)
opened_closed None new same closed = ap file_bytes same
opened_closed (Some f) new same closed = ap file_bytes same ∙ ap (λ (b : Bool). Some (if b then brought_home (journal_of f.bytes) f.bytes else f.bytes)) (sym (closed f refl))

-- a journal that counts is brought home
pub opened_home : (images : Numbered) (told found new : Option File) → found ≡ told → file_bytes new ≡ option_map (brought_home images) (file_bytes found)
    → ((f : File) → told ≡ Some f → IsTrue (is_open f.bytes) × (images ≡ journal_of f.bytes)) → file_bytes new ≡ option_map opened_bytes (file_bytes told)
opened_home images None found new same home counts = home ∙ ap (λ (t : Option File). option_map (brought_home images) (file_bytes t)) same
opened_home images (Some f) found new same home counts =
    home ∙ (ap (λ (t : Option File). option_map (brought_home images) (file_bytes t)) same
    ∙ (ap (λ (n : Numbered). Some (brought_home n f.bytes)) (counts f refl).1
    ∙ ap (λ (b : Bool). Some (if b then brought_home (journal_of f.bytes) f.bytes else f.bytes)) (sym (counts f refl).0)))

-- ---- how long an opened file is

-- bytes that are put within a file make it no longer
placed_within : (at : ℕ) (piece bytes : List ℕ) → at + length piece ≤ length bytes → length (placed at piece bytes) ≡ length bytes
placed_within at piece bytes within =
    let filled : List ℕ = bytes ++ replicate (at - length bytes) 0 in
    omega (
      arith,
      within,
      length-append (take at filled ++ piece) (drop (at + length piece) filled),
      length-append (take at filled) piece,
      length-take at filled,
      length-drop (at + length piece) filled,
      length-append bytes (replicate (at - length bytes) 0),
      length-replicate {A = ℕ} (at - length bytes) 0,
    )

-- nor does a piece that is written over others
overwritten_within : (at : ℕ) (piece bytes : List ℕ) → at + length piece ≤ length bytes → length (overwritten at piece bytes) ≡ length bytes
overwritten_within at piece bytes within =
    omega (arith, within, length-append (take at bytes ++ piece) (drop (at + length piece) bytes), length-append (take at bytes) piece, length-take at bytes, length-drop (at + length piece) bytes)

-- so images of pages that are there go home
homed_within : (n : ℕ) (images : Numbered) (bytes : List ℕ) → All (λ image. image.0 < n) images → All (λ image. length image.1 ≤ 4096) images → home_start n ≤ length bytes
    → length (homed images bytes) ≡ length bytes
homed_within n [] bytes named short whole = refl
homed_within n (image ∷ images) bytes named short whole =
    let low = All-head (λ (x : ℕ × List ℕ). x.0 < n) image images named in
    let few = All-head (λ (x : ℕ × List ℕ). length x.1 ≤ 4096) image images short in
    let same = placed_within (home_start image.0) image.1 bytes (omega (arith, low, few, whole)) in
    homed_within n images (placed (home_start image.0) image.1 bytes) (All-tail (λ (x : ℕ × List ℕ). x.0 < n) image images named) (All-tail (λ (x : ℕ × List ℕ). length x.1 ≤ 4096) image images short)
    (omega (arith, whole, same))
    ∙ same

-- an image in a journal is no longer than a page
entries_short : (n : ℕ) (index pages : List ℕ) → All (λ image. length image.1 ≤ 4096) (entries n index pages)
entries_short zero index pages = All-nil (λ (x : ℕ × List ℕ). length x.1 ≤ 4096)
entries_short (suc n) index pages =
    All-cons (λ (x : ℕ × List ℕ). length x.1 ≤ 4096) (big_number 4 index, take 4096 pages) (entries n (drop 4 index) (drop 4096 pages)) (omega (arith, length-take 4096 pages)) (entries_short n (drop 4 index) (drop 4096 pages))

-- an opening makes no formed file longer or shorter
pub opened_length : (file : List ℕ) → IsFormed file → length (opened_bytes file) ≡ length file
opened_length file formed = by_gate (is_open file) refl
  where
    by_gate : (open_ : Bool) → is_open file ≡ open_ → length (if open_ then brought_home (journal_of file) file else file) ≡ length file
    by_gate false closed = refl
    by_gate true counts =
        let home = homed_within (count_of file) (journal_of file) file (formed.journal counts).named
        (entries_short (number_of file) (drop (page_start (start_of file)) file) (drop (page_start (start_of file + index_pages (number_of file))) file)) formed.whole in
        overwritten_within 512 (0 ∷ []) (homed (journal_of file) file) (omega (arith, home, formed.whole)) ∙ home
