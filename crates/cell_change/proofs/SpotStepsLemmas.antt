-- What trees do to spots between the steps of a change of one row: blocks stay with their rows, and so what is noted of them is right,
-- and steps compose.
use Rattle.std.proofs.Common.{◌≡◌, ◌<◌, ℕ, zero, suc, List, [], ◌∷◌, None, length, set, refl, ap, arith, sym, ◌∙◌, subst, inl, inr}
use Rattle.std.specs.Prelude.{Option, slice_index_or}
use Rattle.std.specs.List.{AllZip}
use Rattle.std.proofs.lemmas.Bool.{cases_eq}
use Rattle.std.proofs.lemmas.List.{get_or-set_other, get_or_default}
use Rattle.std.proofs.lemmas.List.Elements.{AllZip-get_or}
use Rattle.std.proofs.lemmas.Slice.Zip.{AllZip-long}
use Rattle.mdc_words.specs.ByteOrder.{Entry}
use Rattle.mdc_values.specs.declared.rid.Rid.{Rid}
use Rattle.mdc_ast.specs.declared.definition.TableDef.{TableDef}
use Rattle.mdc_ast.specs.declared.row.Row.{Row}
use Rattle.mdc_sound.specs.Placing.{AfterClaims, AfterReturns, IsRowAt, Spot, SpotsAfterClaims, SpotsAfterReturns, TakesRow, left_with}
use Rattle.mdc_sound.specs.Placing.Spot.{FreeExtent, IndexExtent, OtherBlock, FreeBlock, PendingBlock, UsedBlock}
use Rattle.mdc_sound.specs.StandingTable.{AreRightRooms, HoldsKey, RoomNote}
use Rattle.table_blocks.proofs.SpotChangesLemmas.{claims_change, returns_change}
use Rattle.mdc_table.proofs.KeptRoomsLemmas.{holds_used, used_below}

-- ---- what stays

-- trees leave each Used block with its slots, and make none
pub record LeavesBlocks (After : Spot → Spot → Type 0) : Type 0 where
  pub used : (slots : List (Option Row)) (b : Spot) → After (UsedBlock slots) b → b ≡ UsedBlock slots
  pub was_used : (a : Spot) (slots : List (Option Row)) → After a (UsedBlock slots) → a ≡ UsedBlock slots

pub claims_leave : LeavesBlocks AfterClaims
claims_leave = record { used = λ slots b is. sym is; was_used = was_used }
  where
    was_used : (a : Spot) (slots : List (Option Row)) → AfterClaims a (UsedBlock slots) → a ≡ UsedBlock slots
    was_used FreeExtent slots is = is
    was_used IndexExtent slots is = is
    was_used OtherBlock slots is = is
    was_used FreeBlock slots is = is
    was_used PendingBlock slots is = is
    was_used (UsedBlock before) slots is = is

pub returns_leave : LeavesBlocks AfterReturns
returns_leave = record { used = λ slots b is. sym is; was_used = was_used }
  where
    was_used : (a : Spot) (slots : List (Option Row)) → AfterReturns a (UsedBlock slots) → a ≡ UsedBlock slots
    was_used FreeExtent slots is = is
    was_used IndexExtent slots is = is
    was_used OtherBlock slots is = is
    was_used FreeBlock slots is = is
    was_used PendingBlock slots is = is
    was_used (UsedBlock before) slots is = is

module _ {After : Spot → Spot → Type 0} (leaves : LeavesBlocks After) (old new : List Spot) (all : AllZip After old new) where
  step_at : (e : ℕ) → e < length old → After (slice_index_or old e OtherBlock) (slice_index_or new e OtherBlock)
  step_at e low = AllZip-get_or After old new e OtherBlock OtherBlock all low

  pub used_on : (e : ℕ) (slots : List (Option Row)) → slice_index_or old e OtherBlock ≡ UsedBlock slots → slice_index_or new e OtherBlock ≡ UsedBlock slots
  used_on e slots is = leaves.used slots (slice_index_or new e OtherBlock) (subst (λ (a : Spot). After a (slice_index_or new e OtherBlock)) is (step_at e (used_below old e slots is)))

  pub used_back : (e : ℕ) (slots : List (Option Row)) → slice_index_or new e OtherBlock ≡ UsedBlock slots → slice_index_or old e OtherBlock ≡ UsedBlock slots
  used_back e slots is =
      let low : e < length old = omega (arith, used_below new e slots is, AllZip-long After old new all) in
      leaves.was_used (slice_index_or old e OtherBlock) slots (subst (After (slice_index_or old e OtherBlock)) is (step_at e low))

  -- a row lies where it lay, in the same slots
  pub row_on : {rid : Rid} {row : Row} {slots : List (Option Row)} → IsRowAt old rid row slots → IsRowAt new rid row slots
  row_on {rid} {row} {slots} lies =
      let is = used_on rid.block slots (lies.block OtherBlock) in
      let low = used_below new rid.block slots is in
      record { within = low; block = λ d. get_or_default new rid.block d OtherBlock low ∙ is; slot = lies.slot }

  pub row_back : {rid : Rid} {row : Row} {slots : List (Option Row)} → IsRowAt new rid row slots → IsRowAt old rid row slots
  row_back {rid} {row} {slots} lies =
      let is = used_back rid.block slots (lies.block OtherBlock) in
      let low = used_below old rid.block slots is in
      record { within = low; block = λ d. get_or_default old rid.block d OtherBlock low ∙ is; slot = lies.slot }

  -- the notes of rooms are right as they were
  pub rooms_on : (def : TableDef) (room_of : Entry → RoomNote) → AreRightRooms def room_of old → AreRightRooms def room_of new
  rooms_on def room_of right = record {
    full = λ block row slots is there low empty. right.full block row slots (used_back block slots is) there low empty;
    of_cell = λ key known. holds_on key (room_of key).from (right.of_cell key known);
  }
    where
      holds_on : (key : Entry) (e : ℕ) → HoldsKey def key (slice_index_or old e OtherBlock) → HoldsKey def key (slice_index_or new e OtherBlock)
      holds_on key e holds =
          let was = holds_used def key (slice_index_or old e OtherBlock) holds in
          subst (HoldsKey def key) (sym (used_on e was.0 was.1)) was.2

-- ---- one step behind another

zip_then : (After : Spot → Spot → Type 0) → ((a b c : Spot) → After a b → After b c → After a c) → (xs ys zs : List Spot) → AllZip After xs ys → AllZip After ys zs → AllZip After xs zs
zip_then After goes_on [] [] [] first second = tt
zip_then After goes_on [] [] (z ∷ zs) first second = absurd second
zip_then After goes_on [] (y ∷ ys) zs first second = absurd first
zip_then After goes_on (x ∷ xs) [] zs first second = absurd first
zip_then After goes_on (x ∷ xs) (y ∷ ys) [] first second = absurd second
zip_then After goes_on (x ∷ xs) (y ∷ ys) (z ∷ zs) first second = (goes_on x y z first.0 second.0, zip_then After goes_on xs ys zs first.1 second.1)

pub claims_then : (old mid new : List Spot) → SpotsAfterClaims old mid → SpotsAfterClaims mid new → SpotsAfterClaims old new
claims_then = zip_then AfterClaims claims_change.goes_on

pub returns_then : (old mid new : List Spot) → SpotsAfterReturns old mid → SpotsAfterReturns mid new → SpotsAfterReturns old new
returns_then = zip_then AfterReturns returns_change.goes_on

-- the same spot is set in both
pub set_both : (After : Spot → Spot → Type 0) (xs ys : List Spot) (i : ℕ) (spot : Spot) → After spot spot → AllZip After xs ys → AllZip After (set xs i spot) (set ys i spot)
set_both After [] [] i spot same all = all
set_both After [] (y ∷ ys) i spot same all = absurd all
set_both After (x ∷ xs) [] i spot same all = absurd all
set_both After (x ∷ xs) (y ∷ ys) zero spot same all = (same, all.1)
set_both After (x ∷ xs) (y ∷ ys) (suc i) spot same all = (all.0, set_both After xs ys i spot same all.1)

-- ---- a row that is taken out once trees gave extents back

-- the spots without a row, where its block has these slots
abbrev pub spots_without : List Spot → Rid → List (Option Row) → List Spot
spots_without spots rid slots = set spots rid.block (left_with (set slots rid.slot None))

module _ (old mid left : List Spot) (rid : Rid) (row : Row) (returns : SpotsAfterReturns old mid) (takes : TakesRow mid rid row left) where
  -- it could have been taken out before
  pub takes_before : TakesRow old rid row (spots_without old rid takes.slots)
  takes_before = record { slots = takes.slots; lies = row_back returns_leave old mid returns takes.lies; is_left = refl }

  -- and what trees gave back comes behind
  pub returned_behind : SpotsAfterReturns (spots_without old rid takes.slots) left
  returned_behind =
      let spot = left_with (set takes.slots rid.slot None) in
      subst (SpotsAfterReturns (set old rid.block spot)) (sym takes.is_left) (set_both AfterReturns old mid rid.block spot (returns_change.stays spot) returns)

-- ---- Pending blocks

-- a row that becomes another in its place leaves them
pub pending_turned : (old : List Spot) (rid : Rid) (slots left : List (Option Row)) (e : ℕ) → slice_index_or old rid.block OtherBlock ≡ UsedBlock slots → slice_index_or old e OtherBlock ≡ PendingBlock
    → slice_index_or (set old rid.block (UsedBlock left)) e OtherBlock ≡ PendingBlock
pending_turned old rid slots left e used is = elim (cases_eq e rid.block) [
  | inl same ↦ let wrong : UsedBlock slots ≡ PendingBlock = sym used ∙ (ap (λ (n : ℕ). slice_index_or old n OtherBlock) (sym same) ∙ is) in absurd (cc)
  | inr other ↦ get_or-set_other old rid.block e (UsedBlock left) OtherBlock other ∙ is
]
