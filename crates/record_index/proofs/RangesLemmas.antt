-- Which entries a walk over a range of the first part goes over, and the numbers of the places that they name.
use Rattle.std.proofs.Common.{◌≡◌, ◌<◌, ◌≤◌, ◌+◌, ◌^◌, ℕ, List, [], ◌∷◌, ◌++◌, refl, ap, sym, ◌∙◌, subst, get_or, length, drop, take}
use Rattle.std.specs.Prelude.{false, None, filter, map}
use Rattle.std.specs.List.{AllByRecursion}
use Rattle.std.proofs.lemmas.List.{map-append}
use Rattle.mdc_words.specs.ByteOrder.{Entry}
use Rattle.key_codec.specs.Spans.{is_in_range}
use Rattle.entry_tree.specs.Entries.{AreOfWidth}
use Rattle.entry_tree.specs.EntryBounds.{Rises}
use Rattle.block_index.specs.PartRanges.{ends_walk, walked}
use Rattle.block_index.specs.declared.part_range.PartRange.{PartRange}
use Rattle.block_index.proofs.PartRangesLemmas.{walk_of_first}
use Rattle.block_index.proofs.TakenLemmas.{IsTakingOf, taking_next_of, taking_none_of}
use Rattle.record_index.specs.FoundRids.{rid_in_entry, rid_of_number}

-- a walk for a range of the first part goes over the entries in the range
pub walked_are : (width : ℕ) (range : PartRange) (all : List Entry) → range.at ≡ 0 → length range.low ≤ width → AreOfWidth width all → Rises None None all → walked width range all ≡ filter (is_in_range range.low range.high) all
walked_are width range all first within wide rises = walk_of_first width range all first within wide rises ∙ ap (λ n. filter (λ entry. is_in_range range.low range.high (drop n entry)) all) first

-- ---- the entries of a leaf

-- the first i entries of a leaf were gone over, and the numbers of their places were taken
pub record IsTaking (range : PartRange) (leaf : List Entry) (i : ℕ) (old numbers : List ℕ) (before count : ℕ) : Type 0 where
  pub taking : IsTakingOf (map rid_in_entry) range leaf i (map rid_of_number old) (map rid_of_number numbers) before count
  pub small : AllByRecursion (λ rid_number. rid_number < 2 ^ 48) numbers

pub taking_none : (range : PartRange) (leaf : List Entry) (old : List ℕ) (before : ℕ) → AllByRecursion (λ rid_number. rid_number < 2 ^ 48) old → IsTaking range leaf 0 old old before before
taking_none range leaf old before small = record { taking = taking_none_of (map rid_in_entry) range leaf (map rid_of_number old) before refl; small = small }

-- what holds of each number of a list, and of one more
small_push : (numbers : List ℕ) (n : ℕ) → AllByRecursion (λ rid_number. rid_number < 2 ^ 48) numbers → n < 2 ^ 48 → AllByRecursion (λ rid_number. rid_number < 2 ^ 48) (numbers ++ n ∷ [])
small_push [] n all low = (low, tt)
small_push (x ∷ xs) n all low = (all.0, small_push xs n all.1 low)

pub taking_next : (range : PartRange) (leaf : List Entry) (i : ℕ) (old numbers : List ℕ) (before count : ℕ) → IsTaking range leaf i old numbers before count → (x : Entry) → i < length leaf → x ≡ get_or leaf i []
    → (numbers_now : List ℕ) (n : ℕ) → ends_walk range x ≡ false → rid_of_number n ≡ rid_in_entry x → n < 2 ^ 48 → numbers_now ≡ numbers ++ n ∷ [] → IsTaking range leaf (i + 1) old numbers_now before (count + 1)
taking_next range leaf i old numbers before count so x within here numbers_now n goes_on is low now = record {
  taking = taking_next_of so.taking x within here (rid_in_entry x ∷ []) (map rid_of_number numbers_now) goes_on (map-append rid_in_entry (take i leaf) (x ∷ []))
      (ap (map rid_of_number) now ∙ (map-append rid_of_number numbers (n ∷ []) ∙ ap (λ r. map rid_of_number numbers ++ r ∷ []) is));
  small = subst (AllByRecursion (λ rid_number. rid_number < 2 ^ 48)) (sym now) (small_push numbers n so.small low);
}
