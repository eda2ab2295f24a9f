-- A search for a live twin from place to place.
use Rattle.std.proofs.Common.{◌≡◌, ◌≤◌, ◌+◌, ◌*◌, ◌^◌, ℕ, List, true, false, ap, arith, sym, ◌∙◌, subst, inl, inr}
use Rattle.std.specs.Prelude.{Contains, Some, None}
use Rattle.std.proofs.lemmas.Bool.{cases_lt, false≢true}
use Rattle.mdc_words.specs.ByteOrder.{Entry}
use Rattle.mdc_values.specs.declared.rid.Rid.{Rid}
use Rattle.entry_tree.specs.Forest.{Forest}
use Rattle.record_index.specs.FoundRids.{FindsRidUnder, IsRid, rid_number, rid_of_number}
use Rattle.record_index.proofs.PlacesLemmas.{number_small, rid_of_place}
use Rattle.live_rows.specs.LiveRids.{is_used_block}
use Rattle.live_rows.specs.Twins.{FindsLiveTwin, IsLiveTwin}

module _ (key : List ℕ) (entries : List Entry) (map_tree : Forest) (but : List Rid) where
  -- each twin has a place from a number on
  pub record LieFrom (from : ℕ) : Type 0 where
    pub each : (rid : Rid) → IsLiveTwin key entries map_tree but rid → from ≤ rid_number rid

  pub all_lie : (from : Rid) → rid_number from ≡ 0 → LieFrom (rid_number from)
  all_lie from first = record { each = λ rid twin. omega (arith, first) }

  -- there is none where no more entries are, and where no more places are
  pub none_from : (from : Rid) → LieFrom (rid_number from) → FindsRidUnder key entries from None → FindsLiveTwin key entries map_tree but None
  none_from from so none rid twin = none rid twin.place twin.there (so.each rid twin)

  pub none_behind : (from : ℕ) → 2 ^ 48 ≤ from → LieFrom from → FindsLiveTwin key entries map_tree but None
  none_behind from high so rid twin = omega (arith, high, so.each rid twin, number_small rid twin.place)

  module _ (from rid : Rid) (so : LieFrom (rid_number from)) (found : FindsRidUnder key entries from (Some rid)) where
    -- from the first place that has the key
    reached : (other : Rid) → IsLiveTwin key entries map_tree but other → rid_number rid ≤ rid_number other
    reached other twin = found.first other twin.place twin.there (so.each other twin)

    same_place : (other : Rid) → IsRid other → rid_number other ≡ rid_number rid → other ≡ rid
    same_place other is same = sym (rid_of_place other is) ∙ ap rid_of_number same ∙ rid_of_place rid found.place

    -- on behind it, where it is one of those that don't count
    pub lie_behind : Contains but rid → LieFrom (rid_number rid + 1)
    lie_behind among = record {
      each = λ other twin. elim (cases_lt (rid_number rid) (rid_number other)) [
        | inl less ↦ omega (arith, less)
        | inr not ↦ absurd (twin.outside (subst (Contains but) (sym (same_place other twin.place (omega (arith, not, reached other twin)))) among))
      ];
    }

    -- on behind its block, where that isn't Used
    pub lie_behind_block : is_used_block map_tree rid.block ≡ false → LieFrom ((rid.block + 1) * 65536)
    lie_behind_block unused = record {
      each = λ other twin. elim (cases_lt rid.block other.block) [
        | inl less ↦ omega (arith, less)
        | inr not ↦
            let same : other.block ≡ rid.block = omega (arith, not, reached other twin, found.place.slot, twin.place.slot) in
            absurd (false≢true (sym unused ∙ (sym (ap (is_used_block map_tree) same) ∙ twin.used)))
      ];
    }

    -- it is one itself
    pub twin_found : (Contains but rid → ⊥) → is_used_block map_tree rid.block ≡ true → FindsLiveTwin key entries map_tree but (Some rid)
    twin_found outside used = record { place = found.place; there = found.there; used = used; outside = outside }
