-- What an image keeps of a file, and what it stands for then.
use Rattle.std.proofs.Common.{◌≡◌, ◌⊎◌, ◌≤◌, ◌<◌, ◌+◌, ◌*◌, ℕ, zero, suc, IsTrue, List, [], ◌++◌, Option, Some, None, length, get_or, nat_eq, unwrap_or, arith, refl, ap, sym, subst, ◌∙◌, inl, inr, if◌then◌else◌}
use Rattle.std.specs.Prelude.{IsSome}
use Rattle.std.specs.List.{All}
use Rattle.std.proofs.lemmas.Bool.{cases_Bool, cases_lt}
use Rattle.mdc_words.specs.Listed.{listed}
use Rattle.mdc_words.proofs.ListedLemmas.{listed_same}
use Rattle.store_api.specs.StoreState.{stated_in}
use Rattle.page_file.specs.Layout.{home_page, home_start, page_start}
use Rattle.page_file.proofs.BytesLemmas.{same_part}
use Rattle.redo_journal.specs.Images.{Numbered, AreRising}
use Rattle.redo_journal.specs.Layout.{is_open, start_of, number_of, journal_of, index_pages}
use Rattle.redo_log.specs.Layout.{header_at, record_at, start_at, end_at, log_end, records_in, newest, HasRecords, IsLaid, AreLaid}
use Rattle.redo_log.specs.Standing.{image_of, journaled, counted_by, page_by, count_by, count_under, pages_by, IsFitting, IsFormedBy, FrontStaysBesideLog, Stands}
use Rattle.redo_log.proofs.Stored.{SameStored, same_stored, end_same}
use Rattle.redo_log.proofs.Leading.{is_records}

-- An image has the file's first n records, its journal, and all else that says what it stands for but for the gates of the
-- log and the home pages.
pub record KeepsLog (n : ℕ) (bytes image : List ℕ) : Type 0 where
  pub no_shorter : length bytes ≤ length image
  pub gate : is_open image ≡ is_open bytes
  pub journal : IsTrue (is_open bytes) → SameStored 1024 image bytes
  pub log : (k : ℕ) → k < n → SameStored (header_at k) image bytes
  pub under : IsTrue (is_open bytes) → 0 < n → image_of (newest n bytes) 0 ≡ None → home_page image 0 ≡ home_page bytes 0

-- the first n records are the same
pub newest_same : (n : ℕ) (bytes image : List ℕ) → ((k : ℕ) → k < n → SameStored (header_at k) image bytes) → newest n image ≡ newest n bytes
newest_same zero bytes image log = refl
newest_same (suc n) bytes image log =
    let first : record_at n image ≡ record_at n bytes = (log n (omega arith)).images in
    let rest : newest n image ≡ newest n bytes = newest_same n bytes image (λ k lt. log k (omega arith)) in
    ap (λ xs. xs ++ newest n image) first ∙ ap (λ xs. record_at n bytes ++ xs) rest

-- the journal is the same
pub journaled_same : (bytes image : List ℕ) → is_open image ≡ is_open bytes → (IsTrue (is_open bytes) → SameStored 1024 image bytes) → journaled image ≡ journaled bytes
journaled_same bytes image gate same = elim (cases_Bool (is_open bytes)) [
  | inl opened ↦
      let images : journal_of image ≡ journal_of bytes = (same opened).images in
      let open_too : is_open image ≡ is_open bytes = gate in
      ap (λ b. if b then journal_of image else []) open_too
      ∙ ap (λ xs. if is_open bytes then xs else []) images
  | inr shut ↦ ap (λ b. if b then journal_of image else []) (gate ∙ shut) ∙ ap (λ b. if b then journal_of bytes else []) (sym shut)
]

-- all images that count are the same
pub counted_same : (n : ℕ) (bytes image : List ℕ) → KeepsLog n bytes image → counted_by n image ≡ counted_by n bytes
counted_same n bytes image keeps =
    ap (λ xs. xs ++ newest n image) (journaled_same bytes image keeps.gate keeps.journal) ∙ ap (λ xs. journaled bytes ++ xs) (newest_same n bytes image keeps.log)

-- a whole home page whose bytes are the same
pub home_same : (p : ℕ) (bytes image : List ℕ) → home_start (suc p) ≤ length bytes → length bytes ≤ length image
    → ((i : ℕ) → home_start p ≤ i → i < home_start p + 4096 → get_or image i 0 ≡ get_or bytes i 0) → home_page image p ≡ home_page bytes p
home_same p bytes image whole longer same = same_part (home_start p) 4096 image bytes (omega arith) (λ i low high lt. same i low high)

-- where there is an image, the home page doesn't count
pub unwrap_or-same : (image : Option (List ℕ)) (x y : List ℕ) → (image ≡ None → x ≡ y) → unwrap_or image x ≡ unwrap_or image y
unwrap_or-same None x y same = same refl
unwrap_or-same (Some page) x y same = refl

-- a page that has an image, or whose home page is the same, is the same
pub page_same : (n p : ℕ) (bytes image : List ℕ) → KeepsLog n bytes image
    → (image_of (counted_by n bytes) p ≡ None → home_page image p ≡ home_page bytes p) → page_by n image p ≡ page_by n bytes p
page_same n p bytes image keeps home =
    ap (λ xs. unwrap_or (image_of xs p) (home_page image p)) (counted_same n bytes image keeps) ∙ unwrap_or-same (image_of (counted_by n bytes) p) (home_page image p) (home_page bytes p) home

-- so is the count without the journal's images
count_under_same : (n : ℕ) (bytes image : List ℕ) → KeepsLog n bytes image → IsTrue (is_open bytes) → 0 < n → count_under n image ≡ count_under n bytes
count_under_same n bytes image keeps opened more =
    ap (λ xs. stated_in (unwrap_or (image_of xs 0) (home_page image 0))) (newest_same n bytes image keeps.log)
    ∙ ap stated_in (unwrap_or-same (image_of (newest n bytes) 0) (home_page image 0) (home_page bytes 0) (keeps.under opened more))

-- a page below the count whose home page, where it is whole, is the same
pub pages_same : (n : ℕ) (bytes image : List ℕ) → KeepsLog n bytes image → IsFormedBy n bytes
    → ((p i : ℕ) → p < count_by n bytes → home_start (suc p) ≤ length bytes → image_of (counted_by n bytes) p ≡ None → home_start p ≤ i → i < home_start p + 4096 → get_or image i 0 ≡ get_or bytes i 0)
    → (p : ℕ) → p < count_by n bytes → page_by n image p ≡ page_by n bytes p
pages_same n bytes image keeps formed same p lt = page_same n p bytes image keeps (λ none. elim (formed.whole p lt) [
  | inl some ↦ (let wrong = subst IsSome none some in absurd (cc))
  | inr whole ↦ home_same p bytes image whole keeps.no_shorter (λ i low high. same p i lt whole none low high)
])

-- a journal that fits the file fits the image
fitting_same : (n : ℕ) (bytes image : List ℕ) → KeepsLog n bytes image → count_by n image ≡ count_by n bytes → IsTrue (is_open bytes) → IsFitting n bytes → IsFitting n image
fitting_same n bytes image keeps count opened fit =
    let kept = keeps.journal opened in
    let start : start_of image ≡ start_of bytes = kept.start in
    let number : number_of image ≡ number_of bytes = kept.number in
    let images : journal_of image ≡ journal_of bytes = kept.images in
    record {
      behind = omega (arith, fit.behind);
      behind_under = λ more. omega (arith, fit.behind_under more, count_under_same n bytes image keeps opened more);
      journal = record {
        behind_gates = omega (arith, fit.journal.behind_gates);
        within = let within : page_start (start_of image + index_pages (number_of image) + number_of image) ≤ length bytes = rw (start, number) fit.journal.within in omega (arith, keeps.no_shorter);
        rising = subst AreRising (sym images) fit.journal.rising;
      };
      named = rw (count, images) fit.named;
    }

-- a record that is laid in the file's log is laid in the image's
laid_same : (k : ℕ) (bytes image : List ℕ) → length bytes ≤ length image → ((j : ℕ) → j ≤ k → SameStored (header_at j) image bytes) → IsLaid k bytes → IsLaid k image
laid_same k bytes image longer kept is =
    let here = kept k (omega arith) in
    let start : start_at k image ≡ start_at k bytes = here.start in
    let end : end_at k image ≡ end_at k bytes = end_same (header_at k) image bytes here in
    record {
      behind_gates = omega (arith, is.behind_gates);
      behind = λ j lt. omega (arith, is.behind j lt, end_same (header_at j) image bytes (kept j (omega arith)));
      in_log = omega (arith, is.in_log);
      in_file = omega (arith, is.in_file);
      rising = subst AreRising (sym here.images) is.rising;
    }

-- an image that keeps so many records and the same pages is formed by them
pub formed_same : (n : ℕ) (bytes image : List ℕ) → KeepsLog n bytes image → IsFormedBy n bytes → ((p : ℕ) → p < count_by n bytes → page_by n image p ≡ page_by n bytes p)
    → IsFormedBy n image
formed_same n bytes image keeps formed same =
    let count : count_by n image ≡ count_by n bytes = ap stated_in (same 0 formed.some) in
    let counted : counted_by n image ≡ counted_by n bytes = counted_same n bytes image keeps in
    record {
      long = omega (arith, formed.long, keeps.no_shorter);
      some = omega (arith, formed.some);
      journal = λ opened. let gate : IsTrue (is_open bytes) = sym keeps.gate ∙ opened in fitting_same n bytes image keeps count gate (formed.journal gate);
      laid = λ k lt. laid_same k bytes image keeps.no_shorter (λ j le. keeps.log j (omega arith)) (formed.laid k lt);
      named = λ k lt. subst (λ (m : ℕ). All (λ (x : ℕ × List ℕ). x.0 < m) (record_at k image)) (sym count)
          (subst (λ (xs : Numbered). All (λ (x : ℕ × List ℕ). x.0 < count_by n bytes) xs) (sym (keeps.log k lt).images) (formed.named k lt));
      whole = λ p lt. elim (formed.whole p (omega arith)) [
        | inl some ↦ inl (subst (λ (xs : Numbered). IsSome (image_of xs p)) (sym counted) some)
        | inr whole ↦ inr (omega (arith, keeps.no_shorter))
      ];
    }

-- An image in which exactly the first n records count and which is the file but for that.
pub record StandsBy (n : ℕ) (bytes image : List ℕ) : Type 0 where
  pub has : HasRecords n image
  pub formed : IsFormedBy n image
  pub keeps : KeepsLog n bytes image
  pub same : (p : ℕ) → p < count_by n bytes → page_by n image p ≡ page_by n bytes p
  pub pages : pages_by n image ≡ pages_by n bytes
  pub stands : Stands bytes (pages_by n bytes) image

-- An image that keeps so many records, of which exactly these count, and the same pages stands for these pages.
pub stands_by : (n : ℕ) (bytes image : List ℕ) → KeepsLog n bytes image → IsFormedBy n bytes → HasRecords n image
    → ((p : ℕ) → p < count_by n bytes → page_by n image p ≡ page_by n bytes p) → FrontStaysBesideLog bytes image → StandsBy n bytes image
stands_by n bytes image keeps formed has same front =
    let again = formed_same n bytes image keeps formed same in
    let is : records_in image ≡ n = is_records has in
    let count : count_by n image ≡ count_by n bytes = ap stated_in (same 0 formed.some) in
    let pages : pages_by n image ≡ pages_by n bytes = ap (λ (m : ℕ). listed m (page_by n image)) count ∙ listed_same (count_by n bytes) (page_by n image) (page_by n bytes) same in
    record {
      has = has;
      formed = again;
      keeps = keeps;
      same = same;
      pages = pages;
      stands = record {
        formed = subst (λ (m : ℕ). IsFormedBy m image) (sym is) again;
        pages = ap (λ (m : ℕ). pages_by m image) is ∙ pages;
        front = front;
      };
    }

-- the log ends at the same file page
pub log_end_same : (n : ℕ) (bytes image : List ℕ) → KeepsLog n bytes image → log_end n image ≡ log_end n bytes
log_end_same zero bytes image keeps = refl
log_end_same (suc n) bytes image keeps = end_same (header_at n) image bytes (keeps.log n (omega arith))

-- one change after another
pub stands_through : {first second third : List ℕ} {some all : List (List ℕ)} → Stands first some second → Stands second all third → Stands first all third
stands_through {first} {second} {third} one two = record {
  formed = two.formed;
  pages = two.pages;
  front = record {
    no_shorter = omega (arith, one.front.no_shorter, two.front.no_shorter);
    same = λ i lt low place. two.front.same i (omega (arith, lt, one.front.no_shorter)) low place ∙ one.front.same i lt low place;
  };
}

-- each record ends where the log does or before
pub end_below : (n : ℕ) (bytes : List ℕ) → AreLaid n bytes → (k : ℕ) → k < n → end_at k bytes ≤ log_end n bytes
end_below zero bytes laid k lt = absurd (omega arith)
end_below (suc n) bytes laid k lt = elim (cases_lt k n) [
  | inl below ↦ (let behind : end_at k bytes ≤ start_at n bytes = (laid n (omega arith)).behind k below in omega arith)
  | inr last ↦ (let same : k ≡ n = omega arith in subst (λ (m : ℕ). end_at m bytes ≤ end_at n bytes) (sym same) (omega arith))
]

-- the log ends behind file page 1
pub log_low : (n : ℕ) (bytes : List ℕ) → AreLaid n bytes → 2 ≤ log_end n bytes
log_low zero bytes laid = omega arith
log_low (suc n) bytes laid = let last = laid n (omega arith) in omega (arith, last.behind_gates)

-- the log ends within its pages and within the file
pub log_within : (n : ℕ) (bytes : List ℕ) → IsFormedBy n bytes → (2 ≤ log_end n bytes) × (log_end n bytes ≤ 66) × (page_start (log_end n bytes) ≤ length bytes)
log_within zero bytes formed = (omega arith, omega arith, omega (arith, formed.long))
log_within (suc n) bytes formed = let last = formed.laid n (omega arith) in (omega (arith, last.behind_gates), omega (arith, last.in_log), omega (arith, last.in_file))

-- An image that has the file's bytes at all of these places keeps its first n records.
pub keeps_log : (n : ℕ) (bytes image : List ℕ) → IsFormedBy n bytes → length bytes ≤ length image → n ≤ 32
    → ((i : ℕ) → i < 2048 → (i < 1024) ⊎ IsTrue (is_open bytes) → i < length bytes → get_or image i 0 ≡ get_or bytes i 0)
    → ((i : ℕ) → 3072 ≤ i → i < 3072 + 8 * n → i < length bytes → get_or image i 0 ≡ get_or bytes i 0)
    → ((i : ℕ) → 4096 ≤ i → i < page_start (log_end n bytes) → i < length bytes → get_or image i 0 ≡ get_or bytes i 0)
    → (IsTrue (is_open bytes) → (i : ℕ) → page_start (start_of bytes) ≤ i → i < length bytes → get_or image i 0 ≡ get_or bytes i 0)
    → (IsTrue (is_open bytes) → 0 < n → image_of (newest n bytes) 0 ≡ None → home_page image 0 ≡ home_page bytes 0)
    → KeepsLog n bytes image
keeps_log n bytes image formed longer most front headers records journal under =
    let long : page_start 2 ≤ length bytes = formed.long in
    record {
      no_shorter = longer;
      gate = ap (λ b. nat_eq b 79) (front 512 (omega arith) (inl (omega arith)) (omega arith));
      journal = λ opened. let fit = (formed.journal opened).journal in
          same_stored 1024 image bytes (omega arith) fit.within longer (λ i low high. front i (omega arith) (inr opened) (omega arith)) (λ i low high. journal opened i low (omega (arith, fit.within)));
      log = λ k lt.
          let is = formed.laid k lt in
          let below = end_below n bytes formed.laid k lt in
          same_stored (header_at k) image bytes (omega arith) is.in_file longer
          (λ i low high. headers i (omega arith) (omega arith) (omega arith))
          (λ i low high. records i (omega (arith, is.behind_gates)) (omega arith) (omega (arith, is.in_file)));
      under = under;
    }
