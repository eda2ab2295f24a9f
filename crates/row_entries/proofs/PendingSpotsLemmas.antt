-- Blocks that are Pending, by their spots, and what leaves them so.
use Rattle.std.proofs.Common.{◌≡◌, ◌≢◌, ℕ, zero, suc, List, [], ◌∷◌, Option, None, set, ap, sym, ◌∙◌, subst, inl, inr}
use Rattle.std.specs.Prelude.{slice_index_or}
use Rattle.std.specs.List.{AllZip}
use Rattle.std.proofs.lemmas.Bool.{cases_eq}
use Rattle.std.proofs.lemmas.List.{get_or-set_other}
use Rattle.mdc_values.specs.declared.rid.Rid.{Rid}
use Rattle.mdc_ast.specs.declared.definition.TableDef.{TableDef}
use Rattle.mdc_ast.specs.declared.row.Row.{Row}
use Rattle.mdc_sound.specs.Placing.{AfterClaims, AfterReturns, PutsRow, Spot, SpotsAfterClaims, SpotsAfterReturns, TakesRow, left_with, row_at_spot, slots_of_spot}
use Rattle.mdc_sound.specs.Placing.Spot.{FreeExtent, OtherBlock, FreeBlock, PendingBlock, UsedBlock}
use Rattle.row_entries.specs.SoundEntries.{StayPendingSpots}

-- ---- what trees claim or give back

after_each : (After : Spot → Spot → Type 0) → ((b : Spot) → After PendingBlock b → b ≡ PendingBlock) → (old new : List Spot) → AllZip After old new → StayPendingSpots old new
after_each After keeps [] [] all block is = is
after_each After keeps [] (y ∷ new) all block is = absurd all
after_each After keeps (x ∷ old) [] all block is = absurd all
after_each After keeps (x ∷ old) (y ∷ new) all zero is = keeps y (subst (λ a. After a y) is all.0)
after_each After keeps (x ∷ old) (y ∷ new) all (suc block) is = after_each After keeps old new all.1 block is

pub stay_claimed : (old new : List Spot) → SpotsAfterClaims old new → StayPendingSpots old new
stay_claimed = after_each AfterClaims (λ b same. sym same)

pub stay_returned : (old new : List Spot) → SpotsAfterReturns old new → StayPendingSpots old new
stay_returned = after_each AfterReturns (λ b same. sym same)

-- ---- a spot that isn't Pending becomes another

stay_set : (old : List Spot) (at : ℕ) (spot : Spot) → slice_index_or old at OtherBlock ≢ PendingBlock → StayPendingSpots old (set old at spot)
stay_set old at spot other block is = elim (cases_eq block at) [
  | inl same ↦ absurd (other (ap (λ n. slice_index_or old n OtherBlock) (sym same) ∙ is))
  | inr apart ↦ get_or-set_other old at block spot OtherBlock apart ∙ is
]

used_not_pending : (slots : List (Option Row)) → UsedBlock slots ≢ PendingBlock
used_not_pending slots same = cc

-- a spot that is seen isn't Pending
seen_not_pending : (spots : List Spot) (block : ℕ) (spot : Spot) → slice_index_or spots block OtherBlock ≡ spot → spot ≢ PendingBlock → slice_index_or spots block OtherBlock ≢ PendingBlock
seen_not_pending spots block spot is other same = other (sym is ∙ same)

-- where a row is put no row lies, and the block isn't Pending
pub bare_where_put : (def : TableDef) (n : ℕ) (old new : List Spot) (row : Row) (rid : Rid) → PutsRow def n old row new rid → (row_at_spot old rid ≡ None) × (slice_index_or old rid.block OtherBlock ≢ PendingBlock)
bare_where_put def n old new row _ (PutsRow.in_cell block slot slots room empty is) =
    (ap (λ (spot : Spot). slice_index_or (slots_of_spot spot) slot None) (room.is_it OtherBlock) ∙ empty.is_it None, seen_not_pending old block (UsedBlock slots) (room.is_it OtherBlock) (used_not_pending slots))
bare_where_put def n old new row _ (PutsRow.in_free_block block no_room free is) =
    (ap (λ (spot : Spot). slice_index_or (slots_of_spot spot) 0 None) (free.is_it OtherBlock), seen_not_pending old block FreeBlock (free.is_it OtherBlock) (λ e. cc))
bare_where_put def n old new row _ (PutsRow.in_free_extent block no_room no_free free is) =
    (ap (λ (spot : Spot). slice_index_or (slots_of_spot spot) 0 None) (free.is_it OtherBlock), seen_not_pending old block FreeExtent (free.is_it OtherBlock) (λ e. cc))

pub stay_put : (def : TableDef) (n : ℕ) (old mid new : List Spot) (row : Row) (rid : Rid) → PutsRow def n old row mid rid → SpotsAfterClaims mid new → StayPendingSpots old new
stay_put def n old mid new row _ (PutsRow.in_cell block slot slots room empty is) claims = λ b pending.
    stay_claimed mid new claims b (subst (λ spots. slice_index_or spots b OtherBlock ≡ PendingBlock) (sym is) (stay_set old block _ (seen_not_pending old block (UsedBlock slots) (room.is_it OtherBlock) (used_not_pending slots)) b pending))
stay_put def n old mid new row _ (PutsRow.in_free_block block no_room free is) claims = λ b pending.
    stay_claimed mid new claims b (subst (λ spots. slice_index_or spots b OtherBlock ≡ PendingBlock) (sym is) (stay_set old block _ (seen_not_pending old block FreeBlock (free.is_it OtherBlock) (λ e. cc)) b pending))
stay_put def n old mid new row _ (PutsRow.in_free_extent block no_room no_free free is) claims = λ b pending.
    stay_claimed mid new claims b (subst (λ spots. slice_index_or spots b OtherBlock ≡ PendingBlock) (sym is) (stay_set old block _ (seen_not_pending old block FreeExtent (free.is_it OtherBlock) (λ e. cc)) b pending))

pub stay_taken : (old mid new : List Spot) (row : Row) (rid : Rid) → TakesRow old rid row mid → SpotsAfterReturns mid new → StayPendingSpots old new
stay_taken old mid new row rid takes returns = λ b pending.
    stay_returned mid new returns b (subst (λ spots. slice_index_or spots b OtherBlock ≡ PendingBlock) (sym takes.is_left)
    (stay_set old rid.block (left_with (set takes.slots rid.slot None)) (seen_not_pending old rid.block (UsedBlock takes.slots) (takes.lies.block OtherBlock) (used_not_pending takes.slots)) b pending))
