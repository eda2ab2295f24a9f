-- A record that was read, and laid over those before it.
use Rattle.std.proofs.Common.{◌≡◌, ◌≤◌, ◌<◌, ◌+◌, ◌*◌, ◌==◌, ℕ, zero, suc, add-one, List, [], ◌∷◌, ◌++◌, Some, length, take, drop, if◌then◌else◌, arith, refl, ap, sym, subst, ◌∙◌, inl, inr}
use Rattle.std.specs.List.{All}
use Rattle.std.proofs.lemmas.Bool.{cases_lt}
use Rattle.std.proofs.lemmas.List.Elements.{All-append}
use Rattle.byteorder.specs.Endian.{big_number}
use Rattle.redo_journal.specs.Images.{Numbered, AreRising}
use Rattle.redo_journal.specs.Layout.{entries, index_pages}
use Rattle.redo_journal.proofs.EntriesLemmas.{images_read, rises_next}
use Rattle.redo_journal.proofs.RisingLemmas.{All-one, AreRising-push}
use Rattle.redo_log.specs.Layout.{header_at, number_in, start_at, end_at, log_end, record_at, IsLaid, AreLaid}
use Rattle.redo_log.specs.Replaying.{IsPlaced, LaysOver}
use Rattle.redo_log.specs.Standing.{image_of}
use Rattle.redo_log.proofs.Keeps.{end_below, log_low}
use Rattle.redo_log.proofs.Laying.{laid_next}

-- what was read of a record's header, and where that says that its parts stand
pub record WasRead (k start number pages : ℕ) (bytes : List ℕ) : Type 0 where
  pub start_is : start ≡ start_at k bytes
  pub number_is : number ≡ number_in (header_at k) bytes
  pub pages_are : pages ≡ index_pages number

-- the file page behind it
pub end_read : (k start number pages : ℕ) (bytes : List ℕ) → WasRead k start number pages bytes → end_at k bytes ≡ start + pages + number
end_read k start number pages bytes read =
    let same : pages ≡ index_pages (number_in (header_at k) bytes) = read.pages_are ∙ ap index_pages read.number_is in
    omega (arith, same, read.start_is, read.number_is)

-- the entries, where they stand
pub record_read : (k start number pages index_at pages_at : ℕ) (bytes : List ℕ) (images : Numbered) → WasRead k start number pages bytes
    → index_at ≡ start * 4096 → pages_at ≡ (start + pages) * 4096 → images ≡ entries number (drop index_at bytes) (drop pages_at bytes) → images ≡ record_at k bytes
record_read k start number pages index_at pages_at bytes images read is_index is_at was =
    let same : pages ≡ index_pages (number_in (header_at k) bytes) = read.pages_are ∙ ap index_pages read.number_is in
    let s : ℕ = start_at k bytes in
    let n : ℕ = number_in (header_at k) bytes in
    let first : index_at ≡ 4096 * start_at k bytes = omega (arith, read.start_is) in
    let second : pages_at ≡ 4096 * (start_at k bytes + index_pages n) = omega (arith, read.start_is) in
    was ∙ (ap (λ m. entries m (drop index_at bytes) (drop pages_at bytes)) read.number_is
    ∙ (ap (λ at. entries n (drop at bytes) (drop pages_at bytes)) first ∙ ap (λ at. entries n (drop (4096 * s) bytes) (drop at bytes)) second))

-- it lies where it may
pub record_placed : (k low start number pages end : ℕ) (bytes : List ℕ) → WasRead k start number pages bytes → low ≤ start → start + pages + number ≤ 66
    → (start + pages + number) * 4096 ≤ end → end ≡ length bytes → AreRising (record_at k bytes) → IsPlaced low k bytes
record_placed k low start number pages end bytes read behind in_log in_file size rising =
    let last = end_read k start number pages bytes read in
    record {
      behind = omega (arith, read.start_is);
      in_log = omega (arith, last);
      in_file = omega (arith, last);
      rising = rising;
    }

-- it lies too low, too high, or outside the file
pub too_low : (k low start number pages : ℕ) (bytes : List ℕ) → WasRead k start number pages bytes → start < low → IsPlaced low k bytes → ⊥
too_low k low start number pages bytes read less placed = omega (arith, placed.behind, read.start_is)

pub too_high : (k low start number pages : ℕ) (bytes : List ℕ) → WasRead k start number pages bytes → 66 < start + pages + number → IsPlaced low k bytes → ⊥
too_high k low start number pages bytes read less placed = omega (arith, placed.in_log, end_read k start number pages bytes read)

pub too_far : (k low start number pages end : ℕ) (bytes : List ℕ) → WasRead k start number pages bytes → end ≡ length bytes → end < (start + pages + number) * 4096 → IsPlaced low k bytes → ⊥
too_far k low start number pages end bytes read size less placed = omega (arith, placed.in_file, end_read k start number pages bytes read)

-- the file ends where the record would start, or before that
pub ends_before : (k low end : ℕ) (bytes : List ℕ) → end ≡ length bytes → end < low * 4096 → IsPlaced low k bytes → ⊥
ends_before k low end bytes size less placed = omega (arith, placed.behind, placed.in_file)

-- the header stands where it was read
pub was_read : (k at start number pages : ℕ) (bytes : List ℕ) → at ≡ header_at k → start ≡ big_number 4 (drop at bytes) → number ≡ big_number 4 (drop (at + 4) bytes) → pages ≡ index_pages number
    → WasRead k start number pages bytes
was_read k at start number pages bytes same is_start is_number is_pages = record {
  start_is = is_start ∙ ap (λ n. big_number 4 (drop n bytes)) same;
  number_is = is_number ∙ ap (λ n. big_number 4 (drop (n + 4) bytes)) same;
  pages_are = is_pages;
}

-- The first k entries were read and laid over an overlay: their numbers rise, and the next may be any from the least on.
pub record HasRead (k index pages least : ℕ) (bytes : List ℕ) (old now : Numbered) : Type 0 where
  pub laid : LaysOver (entries k (drop index bytes) (drop pages bytes)) old now
  pub rising : AreRising (entries k (drop index bytes) (drop pages bytes))
  pub below : All (λ image. image.0 < least) (entries k (drop index bytes) (drop pages bytes))
  pub lowest : (p : ℕ) → All (λ image. image.0 < p) (entries k (drop index bytes) (drop pages bytes)) → least ≤ p

-- none yet
pub has_read_none : (index pages : ℕ) (bytes : List ℕ) (old : Numbered) → HasRead 0 index pages 0 bytes old old
has_read_none index pages bytes old = record {
  laid = λ p. refl;
  rising = tt;
  below = λ k d lt. absurd (omega arith);
  lowest = λ p all. omega arith;
}

-- what holds of all of a list holds of its last
last_too : (P : ℕ × List ℕ → Type 0) (xs : Numbered) (x : ℕ × List ℕ) → All P (xs ++ x ∷ []) → P x
last_too P [] x all = all 0 x (omega arith)
last_too P (first ∷ xs) x all = last_too P xs x (λ k d lt. all (suc k) d (omega arith))

-- one more
pub has_read_more : (k index pages least next : ℕ) (bytes : List ℕ) (old now new : Numbered) (p : ℕ) (page : List ℕ) → HasRead k index pages least bytes old now → least ≤ p → next ≡ p + 1
    → p ≡ big_number 4 (drop (index + 4 * k) bytes) → page ≡ take 4096 (drop (pages + 4096 * k) bytes)
    → ((q : ℕ) → image_of new q ≡ (if p == q then Some page else image_of now q)) → HasRead (k + 1) index pages next bytes old new
has_read_more k index pages least next bytes old now new p page read from next_is number is put =
    let more : entries k (drop index bytes) (drop pages bytes) ++ (p, page) ∷ [] ≡ entries (k + 1) (drop index bytes) (drop pages bytes) =
    images_read k index pages bytes (entries k (drop index bytes) (drop pages bytes)) (entries k (drop index bytes) (drop pages bytes) ++ (p, page) ∷ []) p page refl number is refl in
    let below : All (λ image. image.0 < p) (entries k (drop index bytes) (drop pages bytes)) = λ j d lt. omega (arith, read.below j d lt) in
    record {
      laid = laid_next (entries k (drop index bytes) (drop pages bytes)) (entries (k + 1) (drop index bytes) (drop pages bytes)) old now new p page read.laid below put (sym more);
      rising = subst AreRising more (AreRising-push (entries k (drop index bytes) (drop pages bytes)) (p, page) read.rising below);
      below = subst (λ (xs : Numbered). All (λ (image : ℕ × List ℕ). image.0 < next) xs) more
          (All-append (λ (image : ℕ × List ℕ). image.0 < next) (entries k (drop index bytes) (drop pages bytes)) ((p, page) ∷ [])
          (λ j d lt. omega (arith, below j d lt)) (All-one (λ (image : ℕ × List ℕ). image.0 < next) (p, page) (omega arith)));
      lowest = λ q all.
          let last : p < q = last_too (λ image. image.0 < q) (entries k (drop index bytes) (drop pages bytes)) (p, page) (subst (λ (xs : Numbered). All (λ (image : ℕ × List ℕ). image.0 < q) xs) (sym more) all) in
          omega arith;
    }

-- a number below the least one doesn't rise
pub not_rising : (n k index pages least : ℕ) (bytes : List ℕ) (old now : Numbered) (p : ℕ) → HasRead k index pages least bytes old now → k < n → p < least
    → p ≡ big_number 4 (drop (index + 4 * k) bytes) → AreRising (entries n (drop index bytes) (drop pages bytes)) → ⊥
not_rising n k index pages least bytes old now p read lt low number rising =
    omega (arith, read.lowest p (rises_next n k index pages bytes (entries k (drop index bytes) (drop pages bytes)) p lt refl number rising))

-- a record that is laid is placed behind the one before
pub placed_of : (k : ℕ) (bytes : List ℕ) → IsLaid k bytes → IsPlaced (log_end k bytes) k bytes
placed_of zero bytes is = record { behind = is.behind_gates; in_log = is.in_log; in_file = is.in_file; rising = is.rising }
placed_of (suc k) bytes is = record { behind = is.behind k (omega arith); in_log = is.in_log; in_file = is.in_file; rising = is.rising }

-- a record that is placed behind those that are laid is laid
pub laid_more : (k end : ℕ) (bytes : List ℕ) → AreLaid k bytes → log_end k bytes ≡ end → IsPlaced end k bytes → AreLaid (k + 1) bytes
laid_more k end bytes laid ends placed = λ j lt. elim (cases_lt j k) [
  | inl below ↦ laid j below
  | inr last ↦ (let same : k ≡ j = omega arith in subst (λ (m : ℕ). IsLaid m bytes) same (record {
    behind_gates = omega (arith, log_low k bytes laid, placed.behind);
    behind = λ i before. omega (arith, end_below k bytes laid i before, placed.behind);
    in_log = placed.in_log;
    in_file = placed.in_file;
    rising = placed.rising;
  }))
]

-- a record that isn't placed behind those that are laid isn't laid
pub not_laid : (n k end : ℕ) (bytes : List ℕ) → k < n → log_end k bytes ≡ end → ¬ IsPlaced end k bytes → AreLaid n bytes → ⊥
not_laid n k end bytes lt ends wrong laid = wrong (subst (λ (low : ℕ). IsPlaced low k bytes) ends (placed_of k bytes (laid k lt)))

-- the log ends behind the record
pub ends_more : (k : ℕ) (bytes : List ℕ) → log_end (k + 1) bytes ≡ end_at k bytes
ends_more k bytes = ap (λ n. log_end n bytes) (add-one k)
