-- The places of rows under one key, as the numbers under it.
use Rattle.std.proofs.Common.{◌≡◌, ◌<◌, ◌≤◌, ◌+◌, ◌^◌, ℕ, List, [], ◌∷◌, ◌++◌, refl, ap, arith, sym, ◌∙◌, subst, append_assoc, inl, inr}
use Rattle.std.specs.Prelude.{Contains, Some, None, map}
use Rattle.std.proofs.lemmas.List.{map-append}
use Rattle.std.proofs.lemmas.List.Elements.{Contains-append_cases}
use Rattle.byteorder.specs.Endian.{big_bytes}
use Rattle.mdc_words.specs.ByteOrder.{Entry}
use Rattle.mdc_values.specs.Rising.{IsEarlier, IsLower, LastIsBefore}
use Rattle.mdc_values.specs.declared.rid.Rid.{Rid}
use Rattle.entry_tree.specs.EntryBounds.{IsEntryOf}
use Rattle.block_index.specs.Numbered.{FindsNumber, numbered}
use Rattle.block_index.proofs.NumberedLemmas.{AreNumbersBelow, numbers_below_all, numbers_below_most, numbers_below_next, numbers_below_none}
use Rattle.block_index.proofs.RisingLemmas.{last_put, none_of, one_of}
use Rattle.record_index.specs.FoundRids.{AreRidsUnder, FindsRidUnder, IsRid, entry_of_rid, rid_number, rid_of_number}
use Rattle.record_index.proofs.PlacesLemmas.{is_rid, number_of_rid, number_small, place_bytes, rid_of_place}
use Rattle.record_index.proofs.RisingRidsLemmas.{behind_rids, from_map, in_map}

-- the entry of a place is that of its number
pub entry_of_place : (key : List ℕ) (rid : Rid) → rid.slot < 65536 → entry_of_rid key rid ≡ numbered 6 key (rid_number rid)
entry_of_place key rid low = append_assoc key (big_bytes 4 rid.block) (big_bytes 2 rid.slot) ∙ ap (λ b. key ++ b) (place_bytes rid low)

-- ---- the first place from one on

-- an entry of a place is that of its number
at_number : (key : List ℕ) (entries : List Entry) (rid : Rid) → IsRid rid → IsEntryOf (entry_of_rid key rid) entries → IsEntryOf (numbered 6 key (rid_number rid)) entries
at_number key entries rid is there = subst (λ x. IsEntryOf x entries) (entry_of_place key rid (omega (arith, is.slot))) there

pub no_rid_from : (key : List ℕ) (entries : List Entry) (from : Rid) → FindsNumber 6 key entries (rid_number from) None → FindsRidUnder key entries from None
no_rid_from key entries from none other is there high = none (rid_number other) (number_small other is) (at_number key entries other is there) high

pub first_rid_from : (key : List ℕ) (entries : List Entry) (from : Rid) (n : ℕ) → n < 2 ^ 48 → FindsNumber 6 key entries (rid_number from) (Some n) → FindsRidUnder key entries from (Some (rid_of_number n))
first_rid_from key entries from n small found =
    let low : (rid_of_number n).slot < 65536 = omega arith in
    record {
      place = is_rid n small;
      there = subst (λ x. IsEntryOf x entries) (sym (entry_of_place key (rid_of_number n) low ∙ ap (numbered 6 key) (number_of_rid n))) found.there;
      reached = omega (arith, found.reached, number_of_rid n);
      first = λ other is there high. omega (arith, number_of_rid n, found.lowest (rid_number other) (number_small other is) (at_number key entries other is there) high);
    }

-- ---- a list of the places under a key

-- the places so far are those of the numbers below one, and what comes from there on stands behind them
pub record AreRowsBelow (Told : Type 0) (key : List ℕ) (entries : Told → List Entry) (from : ℕ) (rids : List Rid) : Type 0 where
  pub numbers : List ℕ
  pub rids_are : rids ≡ map rid_of_number numbers
  pub behind : (e : ℕ) → from ≤ e → LastIsBefore IsLower e numbers
  pub small : (n : ℕ) → Contains numbers n → n < 2 ^ 48
  pub so_far : (told : Told) → AreNumbersBelow 6 key (entries told) from numbers

module _ {Told : Type 0} (key : List ℕ) (entries : Told → List Entry) where
  pub rids_below_none : (rids : List Rid) → rids ≡ [] → AreRowsBelow Told key entries 0 rids
  rids_below_none rids is = record { numbers = []; rids_are = is; behind = λ e l. tt; small = λ n has. absurd (none_of n has); so_far = λ told. numbers_below_none 6 key (entries told) [] refl }

  module _ (from : ℕ) (rids : List Rid) (so : AreRowsBelow Told key entries from rids) where
    pub rid_behind : (n : ℕ) → from ≤ n → LastIsBefore IsEarlier (rid_of_number n) rids
    rid_behind n high = subst (LastIsBefore IsEarlier (rid_of_number n)) (sym so.rids_are) (behind_rids so.numbers n (so.behind n high))

    pub rids_below_next : (rid_number : ℕ) (rids_now : List Rid) → rid_number < 2 ^ 48 → ((told : Told) → FindsNumber 6 key (entries told) from (Some rid_number)) → rids_now ≡ rids ++ rid_of_number rid_number ∷ [] → AreRowsBelow Told key entries (rid_number + 1) rids_now
    rids_below_next rid_number rids_now fits found now = record {
      numbers = so.numbers ++ rid_number ∷ [];
      rids_are = now ∙ (ap (λ rs. rs ++ rid_of_number rid_number ∷ []) so.rids_are ∙ sym (map-append rid_of_number so.numbers (rid_number ∷ [])));
      behind = λ e l. last_put so.numbers rid_number e (omega (arith, l));
      small = λ n has. elim (Contains-append_cases so.numbers (rid_number ∷ []) n has) [
        | inl before ↦ so.small n before
        | inr last ↦ subst (λ m. m < 2 ^ 48) (one_of rid_number n last) fits
      ];
      so_far = λ told. numbers_below_next 6 key (entries told) from so.numbers (so.so_far told) rid_number (so.numbers ++ rid_number ∷ []) fits (found told) refl;
    }

    -- the places of all numbers, as places
    rows_of : (told : Told) → ((n : ℕ) → n < 2 ^ 48 → IsEntryOf (numbered 6 key n) (entries told) → Contains so.numbers n) → AreRidsUnder key (entries told) rids
    rows_of told whole = record {
      all = λ rid is there.
          let has = whole (rid_number rid) (number_small rid is) (subst (λ x. IsEntryOf x (entries told)) (entry_of_place key rid (omega (arith, is.slot))) there) in
          subst (λ rs. Contains rs rid) (sym so.rids_are) (subst (Contains (map rid_of_number so.numbers)) (rid_of_place rid is) (in_map rid_of_number so.numbers (rid_number rid) has));
      only = λ rid has.
          let r = from_map rid_of_number so.numbers rid (subst (λ rs. Contains rs rid) so.rids_are has) in
          let there = (so.so_far told).only r.0 r.1 in
          let low : (rid_of_number r.0).slot < 65536 = omega arith in
          subst (λ q. IsEntryOf (entry_of_rid key q) (entries told)) r.2
          (subst (λ x. IsEntryOf x (entries told)) (sym (entry_of_place key (rid_of_number r.0) low ∙ ap (numbered 6 key) (number_of_rid r.0))) there);
      places = λ rid has.
          let r = from_map rid_of_number so.numbers rid (subst (λ rs. Contains rs rid) so.rids_are has) in
          subst IsRid r.2 (is_rid r.0 (so.small r.0 r.1));
    }

    pub rids_below_all : (told : Told) → FindsNumber 6 key (entries told) from None → AreRidsUnder key (entries told) rids
    rids_below_all told none = rows_of told (numbers_below_all 6 key (entries told) from so.numbers (so.so_far told) none)

    pub rids_below_most : from ≡ 2 ^ 48 → (told : Told) → AreRidsUnder key (entries told) rids
    rids_below_most most told = rows_of told (numbers_below_most 6 key (entries told) from so.numbers (so.so_far told) most)
