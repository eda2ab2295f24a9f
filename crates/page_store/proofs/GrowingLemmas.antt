-- What any run of calls makes of a file beside its pages.
use Rattle.std.proofs.Common.{◌≡◌, ◌⊎◌, ◌≤◌, ◌+◌, ℕ, List, length, max, Option, Some, IsTrue, inl, inr, arith, sym, ap, subst, ◌∙◌}
use Rattle.std.proofs.lemmas.Bool.{cases_lt}
use Rattle.std.proofs.lemmas.List.{length-replicate}
use Rattle.mdc_words.proofs.ListedLemmas.{length-listed}
use Rattle.mdc_outside.specs.Disk.{File, IsImage}
use Rattle.page_file.specs.Growing.{most_bytes}
use Rattle.page_file.specs.Layout.{FrontStays}
use Rattle.page_file.proofs.FrontLemmas.{front_stays_itself}
use Rattle.page_file.proofs.LeavesLemmas.{one_file}
use Rattle.store_api.specs.Extents.{first_count, is_shape, map_pages}
use Rattle.store_api.specs.StoreState.{zero_page}
use Rattle.page_store.specs.Empty.{IsEmptyDatabase}
use Rattle.page_store.specs.FileStore.{GrewWhere}
use Rattle.page_store.specs.Fresh.{HoldsFresh, IsOfMaking, fresh_len}
use Rattle.page_store.specs.Growing.{GrewByCalls}
use Rattle.page_store.specs.Opening.{StandsAs}
use Rattle.page_store.specs.Standing.{count_of, page_of}
use Rattle.page_store.proofs.FreshBytes.{length-file_with}
use Rattle.page_store.proofs.Roots.{limits_of}

-- a bound by two is one of them
either_bound : (n a b : ℕ) → n ≤ max a b → (n ≤ a) ⊎ (n ≤ b)
either_bound n a b le = elim (cases_lt a n) [ inl more ↦ inr (omega (arith, le, more)) | inr low ↦ inl low ]

-- nothing is cut off a file without a byte, and it has no front
front_of_none : (first file : List ℕ) → length first ≡ 0 → FrontStays first file
front_of_none first file none = record { no_shorter = omega (arith, none); same = λ i lt low other. absurd (omega (arith, none, lt)) }

-- ---- a file that was only read

-- the same bytes
pub grew_itself : {Failed : Type 0} (before : File) (bytes : List ℕ) → bytes ≡ before.bytes → GrewByCalls Failed before bytes
grew_itself before bytes is = inl (record {
  front = subst (λ (xs : List ℕ). FrontStays before.bytes xs) (sym is) (front_stays_itself before.bytes);
  size = inl (omega (arith, ap length is));
})

-- the same file
pub grew_not_at_all : {Failed : Type 0} {told new : Option File} (before after : File) → new ≡ told → told ≡ Some before → new ≡ Some after → GrewByCalls Failed before after.bytes
grew_not_at_all {Failed} {told} {new} before after same is now =
    let one : after ≡ before = one_file now (same ∙ is) in
    grew_itself before after.bytes (ap (λ (f : File). f.bytes) one)

-- ---- a file that was opened

-- what stands for it is no longer
pub grew_standing : {Failed : Type 0} (before : File) (bytes : List ℕ) → StandsAs before.bytes bytes → GrewByCalls Failed before bytes
grew_standing before bytes stands = inl (record { front = stands.0; size = inl stands.2 })

-- what commits made of it ends by its pages, unless one failed
pub grew_where : {Going Failed : Type 0} (before : File) (bytes : List ℕ) → ((Failed → ⊥) → Going) → GrewWhere Going before.bytes bytes → GrewByCalls Failed before bytes
grew_where before bytes going grew = inl (record {
  front = grew.3.front;
  size = elim (either_bound (length bytes) (length before.bytes) (most_bytes grew.0) grew.3.size) [
    | inl low ↦ inl low
    | inr high ↦ inr (record { count = grew.0; few = grew.1; its = λ whole. grew.2 (going whole); size = high })
  ];
})

-- ---- a file that was made

-- a database just made is no longer than its pages
made_size : (extents : ℕ) → fresh_len extents ≤ most_bytes (first_count extents)
made_size extents = omega arith

-- nor has it too many
few_made : (extents extent_pages : ℕ) → IsTrue (is_shape extents extent_pages) → first_count extents ≤ 262289
few_made extents extent_pages shape = omega (arith, (limits_of extents extent_pages shape).few)

-- the whole
pub grew_made : {Failed : Type 0} (extents extent_pages : ℕ) (before after : File) → IsTrue (is_shape extents extent_pages) → length before.bytes ≡ 0
    → HoldsFresh extents extent_pages after → IsEmptyDatabase extents after.bytes → GrewByCalls Failed before after.bytes
grew_made extents extent_pages before after shape none holds empty =
    let count : count_of after.bytes ≡ first_count extents =
    sym (length-listed (count_of after.bytes) (page_of after.bytes)) ∙ (ap length empty.pages ∙ omega (arith, length-replicate {A = List ℕ} (16 + map_pages extents) zero_page)) in
    inl (record {
      front = front_of_none before.bytes after.bytes none;
      size = inr (record {
        count = first_count extents;
        few = few_made extents extent_pages shape;
        its = λ whole. sym count;
        size = omega (arith, ap length holds.bytes, length-file_with 77 extents extent_pages, made_size extents);
      });
    })

-- what a failure leaves of it
pub grew_unmade : {Failed : Type 0} (extents extent_pages : ℕ) (before : File) (bytes : List ℕ) → IsTrue (is_shape extents extent_pages) → Failed → IsImage before.since before.bytes
    → IsOfMaking extents extent_pages before bytes → GrewByCalls Failed before bytes
grew_unmade extents extent_pages before bytes shape failed as_read (inl image) = inr (failed, image)
grew_unmade extents extent_pages before bytes shape failed as_read (inr (none, blank, size)) =
    let never : length before.since.synced ≡ 0 = omega (arith, as_read.no_shorter, none) in
    elim (either_bound (length bytes) before.since.longest (fresh_len extents) size) [
      | inl low ↦ inr (failed, record { no_shorter = omega (arith, never); no_longer = low; kept = λ i lt outside. absurd (omega (arith, never, lt)) })
      | inr high ↦ inl (record {
        front = front_of_none before.bytes bytes none;
        size = inr (record { count = first_count extents; few = few_made extents extent_pages shape; its = λ whole. absurd (whole failed); size = omega (arith, high, made_size extents) });
      })
    ]
