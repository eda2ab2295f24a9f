-- The entries of a journal, one after the other.
use Rattle.std.proofs.Common.{◌≡◌, ◌≤◌, ◌<◌, ◌+◌, ◌*◌, ℕ, zero, suc, List, [], ◌∷◌, ◌++◌, length, take, drop, arith, refl, ap, sym, subst, ◌∙◌, length-append, append_assoc, inl, inr, ◌⊎◌}
use Rattle.std.specs.List.{All}
use Rattle.std.proofs.lemmas.List.{drop-drop}
use Rattle.std.proofs.Math.Seq.{get_or-append_seam}
use Rattle.byteorder.specs.Endian.{big_number}
use Rattle.redo_journal.specs.Images.{Numbered, AreRising}
use Rattle.redo_journal.specs.Layout.{entries, IsJournal, start_of, number_of, index_pages, journal_of}

-- the entry at a place
abbrev pub entry_of : ℕ → List ℕ → List ℕ → ℕ × List ℕ
entry_of k index pages = (big_number 4 (drop (4 * k) index), take 4096 (drop (4096 * k) pages))

-- the entry at a place, counted from the second
shifted : (k : ℕ) (index pages : List ℕ) → entry_of k (drop 4 index) (drop 4096 pages) ≡ entry_of (suc k) index pages
shifted k index pages =
    let four : 4 + 4 * k ≡ 4 * suc k = omega arith in
    let page : 4096 + 4096 * k ≡ 4096 * suc k = omega arith in
    let first : drop (4 * k) (drop 4 index) ≡ drop (4 * suc k) index = drop-drop (4 * k) 4 index ∙ ap (λ n. drop n index) four in
    let second : drop (4096 * k) (drop 4096 pages) ≡ drop (4096 * suc k) pages = drop-drop (4096 * k) 4096 pages ∙ ap (λ n. drop n pages) page in
    rw (first, second) refl

-- one entry more
pub entries_more : (k : ℕ) (index pages : List ℕ) → entries (k + 1) index pages ≡ entries k index pages ++ entry_of k index pages ∷ []
entries_more zero index pages = refl
entries_more (suc k) index pages =
    let more : suc k + 1 ≡ suc (k + 1) = omega arith in
    ap (λ n. entries n index pages) more
    ∙ ap (λ xs. (big_number 4 index, take 4096 pages) ∷ xs) (entries_more k (drop 4 index) (drop 4096 pages)
    ∙ ap (λ x. entries k (drop 4 index) (drop 4096 pages) ++ x ∷ []) (shifted k index pages))

-- more entries go on from fewer
pub entries_front : (k n : ℕ) (index pages : List ℕ) → k ≤ n → (rest : Numbered) × (entries n index pages ≡ entries k index pages ++ rest)
entries_front zero n index pages le = (entries n index pages, refl)
entries_front (suc k) zero index pages le = absurd (omega arith)
entries_front (suc k) (suc n) index pages le =
    let more = entries_front k n (drop 4 index) (drop 4096 pages) (omega arith) in
    (more.0, ap (λ xs. (big_number 4 index, take 4096 pages) ∷ xs) more.1)

-- in rising entries all before one are below it
pub below_next : (xs : Numbered) (x : ℕ × List ℕ) (rest : Numbered) → AreRising (xs ++ x ∷ rest) → All (λ y. y.0 < x.0) xs
below_next [] x rest rising k d lt = absurd (omega arith)
below_next (first ∷ xs) x rest rising zero d lt =
    let there : length xs < length (xs ++ x ∷ rest) = omega (arith, length-append xs (x ∷ rest)) in
    subst (λ (y : ℕ × List ℕ). first.0 < y.0) (get_or-append_seam xs x rest d) (rising.0 (length xs) d there)
below_next (first ∷ xs) x rest rising (suc k) d lt = below_next xs x rest rising.1 k d (omega arith)

-- the next image, as it was read
pub images_read : (k index pages : ℕ) (bytes : List ℕ) (images new : Numbered) (p : ℕ) (page : List ℕ) → images ≡ entries k (drop index bytes) (drop pages bytes)
    → p ≡ big_number 4 (drop (index + 4 * k) bytes) → page ≡ take 4096 (drop (pages + 4096 * k) bytes) → new ≡ images ++ (p, page) ∷ []
    → new ≡ entries (k + 1) (drop index bytes) (drop pages bytes)
images_read k index pages bytes images new p page was number is now =
    let first : big_number 4 (drop (4 * k) (drop index bytes)) ≡ p = ap (big_number 4) (drop-drop (4 * k) index bytes) ∙ sym number in
    let second : take 4096 (drop (4096 * k) (drop pages bytes)) ≡ page = ap (take 4096) (drop-drop (4096 * k) pages bytes) ∙ sym is in
    let same : entry_of k (drop index bytes) (drop pages bytes) ≡ (p, page) = rw (first, second) refl in
    now ∙ (ap (λ xs. xs ++ (p, page) ∷ []) was ∙ (ap (λ x. entries k (drop index bytes) (drop pages bytes) ++ x ∷ []) (sym same) ∙ sym (entries_more k (drop index bytes) (drop pages bytes))))

-- where the numbers of all entries rise, the next one is above those so far
pub rises_next : (n k index pages : ℕ) (bytes : List ℕ) (images : Numbered) (p : ℕ) → k < n → images ≡ entries k (drop index bytes) (drop pages bytes)
    → p ≡ big_number 4 (drop (index + 4 * k) bytes) → AreRising (entries n (drop index bytes) (drop pages bytes)) → All (λ y. y.0 < p) images
rises_next n k index pages bytes images p lt was number rising =
    let front = entries_front (k + 1) n (drop index bytes) (drop pages bytes) (omega arith) in
    let x : ℕ × List ℕ = entry_of k (drop index bytes) (drop pages bytes) in
    let split : entries n (drop index bytes) (drop pages bytes) ≡ entries k (drop index bytes) (drop pages bytes) ++ entry_of k (drop index bytes) (drop pages bytes) ∷ front.0 =
    front.1 ∙ (ap (λ xs. xs ++ front.0) (entries_more k (drop index bytes) (drop pages bytes)) ∙ append_assoc (entries k (drop index bytes) (drop pages bytes)) (entry_of k (drop index bytes) (drop pages bytes) ∷ []) front.0) in
    let below : All (λ y. y.0 < big_number 4 (drop (4 * k) (drop index bytes))) (entries k (drop index bytes) (drop pages bytes)) =
    below_next (entries k (drop index bytes) (drop pages bytes)) (entry_of k (drop index bytes) (drop pages bytes)) front.0 (subst AreRising split rising) in
    let first : big_number 4 (drop (4 * k) (drop index bytes)) ≡ p = ap (big_number 4) (drop-drop (4 * k) index bytes) ∙ sym number in
    rw was (λ j d less. let b = below j d less in rw first at b)

-- a journal that lies outside the file
pub outside_file : (bytes : List ℕ) (start number pages end : ℕ) → start ≡ start_of bytes → number ≡ number_of bytes → pages ≡ index_pages number → end ≡ length bytes
    → (start < 66) ⊎ (end < start * 4096 + pages * 4096 + number * 4096) → IsJournal bytes → ⊥
outside_file bytes start number pages end is_start is_number is_pages is_end wrong journal =
    let within = journal.within in
    let same : pages ≡ index_pages (number_of bytes) = is_pages ∙ ap index_pages is_number in
    elim wrong [ inl low ↦ omega (arith, journal.behind_gates) | inr high ↦ omega (arith, within) ]

-- the entries, where they stand
pub journal_read : (bytes : List ℕ) (start number pages index_at pages_at : ℕ) (images : Numbered) → start ≡ start_of bytes → number ≡ number_of bytes → pages ≡ index_pages number
    → index_at ≡ start * 4096 → pages_at ≡ start * 4096 + pages * 4096 → images ≡ entries number (drop index_at bytes) (drop pages_at bytes) → images ≡ journal_of bytes
journal_read bytes start number pages index_at pages_at images is_start is_number is_pages is_index is_at was =
    let same : pages ≡ index_pages (number_of bytes) = is_pages ∙ ap index_pages is_number in
    let first : index_at ≡ 4096 * start_of bytes = omega arith in
    let second : pages_at ≡ 4096 * (start_of bytes + index_pages (number_of bytes)) = omega arith in
    was ∙ (ap (λ n. entries n (drop index_at bytes) (drop pages_at bytes)) is_number
    ∙ (ap (λ n. entries (number_of bytes) (drop n bytes) (drop pages_at bytes)) first ∙ ap (λ n. entries (number_of bytes) (drop (4096 * start_of bytes) bytes) (drop n bytes)) second))
