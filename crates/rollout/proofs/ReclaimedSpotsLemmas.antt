-- Spots of which the Free blocks are given back.
use Rattle.std.proofs.Common.{◌≡◌, ◌≢◌, ◌+◌, ◌∙◌, ◌++◌, ℕ, zero, suc, List, [], ◌∷◌, get_or, map, refl, sym, ap, arith, inl, inr}
use Rattle.std.specs.Prelude.{Contains, Option, slice_index_or}
use Rattle.std.specs.List.{AllZip}
use Rattle.std.proofs.lemmas.List.{ext_get_or, length-map}
use Rattle.mdc_ast.specs.declared.row.Row.{Row}
use Rattle.mdc_sound.specs.Placing.{Spot, reclaimed_spot, rows_from_spot, rows_in_spot}
use Rattle.mdc_sound.specs.Placing.Spot.{FreeBlock, FreeExtent, IndexExtent, OtherBlock, PendingBlock, UsedBlock}
use Rattle.table_scan.proofs.ChoosingLemmas.{in_or_not}
use Rattle.cell_change.proofs.SpotStepsLemmas.{LeavesBlocks}
use Rattle.rollout.specs.RolledSome.{turned}
use Rattle.rollout.proofs.TurnedSpotsLemmas.{length-turned, turned_other, turned_there}

-- ---- one spot

-- a block that isn't Free stays
pub other_stays : (spot : Spot) → spot ≢ FreeBlock → reclaimed_spot spot ≡ spot
other_stays FreeExtent other = refl
other_stays IndexExtent other = refl
other_stays OtherBlock other = refl
other_stays FreeBlock other = absurd (other refl)
other_stays PendingBlock other = refl
other_stays (UsedBlock slots) other = refl

-- it has the rows that it had
rows_reclaimed : (e : ℕ) (spot : Spot) → rows_in_spot e (reclaimed_spot spot) ≡ rows_in_spot e spot
rows_reclaimed e FreeExtent = refl
rows_reclaimed e IndexExtent = refl
rows_reclaimed e OtherBlock = refl
rows_reclaimed e FreeBlock = refl
rows_reclaimed e PendingBlock = refl
rows_reclaimed e (UsedBlock slots) = refl

-- each Used block stays, and none becomes one
pub reclaims_leave : LeavesBlocks (λ a b. b ≡ reclaimed_spot a)
reclaims_leave = record { used = λ slots b is. is; was_used = was_used }
  where
    was_used : (a : Spot) (slots : List (Option Row)) → UsedBlock slots ≡ reclaimed_spot a → a ≡ UsedBlock slots
    was_used FreeExtent slots is = sym is
    was_used IndexExtent slots is = sym is
    was_used OtherBlock slots is = sym is
    was_used FreeBlock slots is = absurd cc
    was_used PendingBlock slots is = sym is
    was_used (UsedBlock before) slots is = sym is

-- ---- all of them

pub rows_of_reclaimed : (at : ℕ) (spots : List Spot) → rows_from_spot at (map reclaimed_spot spots) ≡ rows_from_spot at spots
rows_of_reclaimed at [] = refl
rows_of_reclaimed at (spot ∷ spots) = ap (λ rows. rows ++ rows_from_spot (at + 1) (map reclaimed_spot spots)) (rows_reclaimed at spot) ∙ ap (λ rest. rows_in_spot at spot ++ rest) (rows_of_reclaimed (at + 1) spots)

pub each_reclaimed : (spots : List Spot) → AllZip (λ a b. b ≡ reclaimed_spot a) spots (map reclaimed_spot spots)
each_reclaimed [] = tt
each_reclaimed (spot ∷ spots) = (refl, each_reclaimed spots)

reclaimed_at : (spots : List Spot) (e : ℕ) → get_or (map reclaimed_spot spots) e OtherBlock ≡ reclaimed_spot (get_or spots e OtherBlock)
reclaimed_at [] e = refl
reclaimed_at (spot ∷ spots) zero = refl
reclaimed_at (spot ∷ spots) (suc e) = reclaimed_at spots e

-- a Pending block stays
pub pending_stays : (spots : List Spot) (e : ℕ) → slice_index_or spots e OtherBlock ≡ PendingBlock → slice_index_or (map reclaimed_spot spots) e OtherBlock ≡ PendingBlock
pending_stays spots e is = reclaimed_at spots e ∙ ap reclaimed_spot is

-- ---- the Free blocks, one after the other

-- where all Free blocks are among these, and no other, these are given back
pub turned_all : (spots : List Spot) (blocks : List ℕ) → ((e : ℕ) → Contains blocks e → slice_index_or spots e OtherBlock ≡ FreeBlock) → ((e : ℕ) → slice_index_or spots e OtherBlock ≡ FreeBlock → Contains blocks e)
    → turned FreeExtent blocks spots ≡ map reclaimed_spot spots
turned_all spots blocks free among = ext_get_or OtherBlock (turned FreeExtent blocks spots) (map reclaimed_spot spots) (length-turned FreeExtent blocks spots ∙ sym (length-map spots reclaimed_spot)) (λ e low.
    elim (in_or_not e blocks) [
      | inl there ↦ turned_there FreeExtent blocks spots e there (omega (arith, low, length-turned FreeExtent blocks spots)) ∙ sym (reclaimed_at spots e ∙ ap reclaimed_spot (free e there))
      | inr out ↦ turned_other FreeExtent blocks spots e out ∙ sym (reclaimed_at spots e ∙ other_stays (get_or spots e OtherBlock) (λ is. out (among e is)))
    ])
