-- Rows that are taken out one after the other leave the spots that a rollout of their blocks makes.
use Rattle.std.proofs.Common.{◌≡◌, ◌≢◌, ◌∙◌, ◌⊎◌, ℕ, zero, suc, Bool, true, false, IsTrue, List, [], ◌∷◌, None, Some, get_or, length, set, refl, sym, ap, subst, arith, inl, inr}
use Rattle.std.specs.Prelude.{◌↔◌, Contains, Option, is_none, cond}
use Rattle.std.specs.List.{list_all}
use Rattle.std.proofs.lemmas.Bool.{cases_eq, cases_lt}
use Rattle.std.proofs.lemmas.List.{get_or-set_other, get_or-set_same, get_or_past, length-set}
use Rattle.std.proofs.lemmas.List.Elements.{AllZip-get_or, Contains-get_or}
use Rattle.std.proofs.lemmas.Slice.Zip.{AllZip-long}
use Rattle.mdc_values.specs.declared.rid.Rid.{Rid}
use Rattle.mdc_ast.specs.declared.definition.TableDef.{TableDef}
use Rattle.mdc_ast.specs.TableLimits.{IsTableDef}
use Rattle.mdc_ast.specs.declared.predicate.Pred.{Pred}
use Rattle.mdc_ast.specs.declared.row.Row.{Row}
use Rattle.mdc_ast.specs.declared.statement.RolloutMode.TheVariants.{Immediate}
use Rattle.store_api.specs.declared.pages.Pages.{Ghosts}
use Rattle.store_api.specs.declared.shape.Shape.{Shape}
use Rattle.extent_map.specs.declared.kind.Kind.{Kind}
use Rattle.block_map.proofs.MapLinesLemmas.{contains_cases, contains_more}
use Rattle.mdc_sound.specs.Placing.{AfterReturns, HasChosenRow, RollsOut, RollsOutSpot, Spot, SpotsAfterReturns, TakesRow, left_with, rows_from_spot}
use Rattle.mdc_sound.specs.Placing.Spot.{FreeBlock, FreeExtent, IndexExtent, OtherBlock, PendingBlock, UsedBlock}
use Rattle.mdc_sound.specs.StandingTable.{StandsTable, TableForests, spots_of}
use Rattle.mdc_sound.specs.TableRows.{PlacedRow}
use Rattle.mdc_sound.proofs.PlacingLemmas.{rows_returned}
use Rattle.table_blocks.proofs.OpeningLemmas.{used_spot_now}
use Rattle.table_blocks.proofs.SpotChangesLemmas.{returns_change}
use Rattle.cell_change.proofs.SpotStepsLemmas.{returns_leave, used_on}
use Rattle.rollout.specs.Applying.{applies_to}
use Rattle.rollout.specs.LostEntries.{LosesEntries, LosesRows}
use Rattle.rollout.specs.RolledBlocks.{is_chosen}
use Rattle.rollout.specs.RowByRow.{AreChosenRows, AreWholeBlocks, DeletesRows, TakesRows}
use Rattle.rollout.proofs.CellRowsLemmas.{agree_on_dimensions}
use Rattle.rollout.proofs.LosingRowsLemmas.{loses_then}
use Rattle.rollout.proofs.LostEntriesLemmas.{all_lost}
use Rattle.rollout.proofs.NamedDimensionsLemmas.{qualify_alike}
use Rattle.rollout.proofs.RolledTableLemmas.{has_such, zip_from}

-- ---- one spot

-- what trees make of the spot at a place
after_at : (xs ys : List Spot) (e : ℕ) → SpotsAfterReturns xs ys → AfterReturns (get_or xs e OtherBlock) (get_or ys e OtherBlock)
after_at [] [] e all = refl
after_at [] (y ∷ ys) e all = absurd all
after_at (x ∷ xs) [] e all = absurd all
after_at (x ∷ xs) (y ∷ ys) zero all = all.0
after_at (x ∷ xs) (y ∷ ys) (suc e) all = after_at xs ys e all.1

-- another block is as it was when a row is taken out
other_taken : {old mid : List Spot} {rid : Rid} {row : Row} (e : ℕ) → TakesRow old rid row mid → e ≢ rid.block → get_or mid e OtherBlock ≡ get_or old e OtherBlock
other_taken {old} {mid} {rid} e takes other = ap (λ (spots : List Spot). get_or spots e OtherBlock) takes.is_left ∙ get_or-set_other old rid.block e (left_with (set takes.slots rid.slot None)) OtherBlock other

-- and its own is what is left of it
own_taken : {old mid : List Spot} {rid : Rid} {row : Row} (takes : TakesRow old rid row mid) → get_or mid rid.block OtherBlock ≡ left_with (set takes.slots rid.slot None)
own_taken {old} {mid} {rid} takes = ap (λ (spots : List Spot). get_or spots rid.block OtherBlock) takes.is_left ∙ get_or-set_same old rid.block (left_with (set takes.slots rid.slot None)) OtherBlock takes.lies.within

-- a Free block stays one
still_free : (spot : Spot) → AfterReturns FreeBlock spot → spot ≡ FreeBlock
still_free spot after = sym after

-- ---- rows taken out one after the other

pub taken_long : {old new : List Spot} {rows : List PlacedRow} → TakesRows old rows new → length new ≡ length old
taken_long TakesRows.none = refl
taken_long {old} (TakesRows.one {mid = mid} {next = next} placed takes after more) =
    let first : length mid ≡ length old = ap length takes.is_left ∙ length-set old placed.rid.block (left_with (set takes.slots placed.rid.slot None)) in
    omega (arith, taken_long more, AllZip-long AfterReturns mid next after, first)

-- what isn't Used stays, but for what trees give back
taken_idle : {old new : List Spot} {rows : List PlacedRow} (e : ℕ) → TakesRows old rows new → ((slots : List (Option Row)) → get_or old e OtherBlock ≡ UsedBlock slots → ⊥) → AfterReturns (get_or old e OtherBlock) (get_or new e OtherBlock)
taken_idle {old} e TakesRows.none idle = returns_change.stays (get_or old e OtherBlock)
taken_idle {old} {new} e (TakesRows.one {mid = mid} {next = next} placed takes after more) idle =
    let other : e ≢ placed.rid.block = λ here. idle takes.slots (ap (λ (n : ℕ). get_or old n OtherBlock) here ∙ takes.lies.block OtherBlock) in
    let here = other_taken e takes other in
    let step : AfterReturns (get_or old e OtherBlock) (get_or next e OtherBlock) = subst (λ (a : Spot). AfterReturns a (get_or next e OtherBlock)) here (after_at mid next e after) in
    let still = taken_idle e more (λ slots is. idle slots (used_was (get_or old e OtherBlock) (get_or next e OtherBlock) slots step is)) in
    returns_change.goes_on (get_or old e OtherBlock) (get_or next e OtherBlock) (get_or new e OtherBlock) step still
  where
    used_was : (a b : Spot) (slots : List (Option Row)) → AfterReturns a b → b ≡ UsedBlock slots → a ≡ UsedBlock slots
    used_was a b slots step is = returns_leave.was_used a slots (subst (AfterReturns a) is step)

-- a Used block of which no row is taken stays
taken_elsewhere : {old new : List Spot} {rows : List PlacedRow} (e : ℕ) (slots : List (Option Row)) → TakesRows old rows new → ((placed : PlacedRow) → Contains rows placed → placed.rid.block ≢ e) → get_or old e OtherBlock ≡ UsedBlock slots
    → get_or new e OtherBlock ≡ UsedBlock slots
taken_elsewhere e slots TakesRows.none apart is = is
taken_elsewhere e slots (TakesRows.one {mid = mid} {next = next} {rows = rows} placed takes after more) apart is =
    let here = other_taken e takes (λ same. apart placed (0, omega arith, refl) (sym same)) in
    taken_elsewhere e slots more (λ later there. apart later (contains_more later placed rows there)) (used_on returns_leave mid next after e slots (here ∙ is))

-- some slot that isn't empty
filled_of : (slots : List (Option Row)) → list_all is_none slots ≡ false → (i : ℕ) × (row : Row) × (get_or slots i None ≡ Some row)
filled_of [] is = absurd cc
filled_of (Some row ∷ slots) is = (0, row, refl)
filled_of (None ∷ slots) is = let later = filled_of slots is in (suc later.0, later.1, later.2)

-- no row lies in the slot that was emptied
emptied : (slots : List (Option Row)) (slot n : ℕ) (one : Row) → n ≡ slot → get_or (set slots slot None) n None ≡ Some one → ⊥
emptied slots slot n one same at = elim (cases_lt n (length slots)) [
  | inl low ↦ (let wrong : None ≡ Some one = sym (ap (λ (k : ℕ). get_or (set slots slot None) k None) same ∙ get_or-set_same slots slot None None (omega (arith, low, same))) ∙ at in absurd cc)
  | inr past ↦ (let wrong : None ≡ Some one = sym (get_or_past (set slots slot None) n None (omega (arith, past, length-set slots slot None))) ∙ at in absurd cc)
]

-- and one from which all rows are taken becomes Free
taken_all : {old new : List Spot} {rows : List PlacedRow} (e : ℕ) (slots : List (Option Row)) → TakesRows old rows new → get_or old e OtherBlock ≡ UsedBlock slots
    → ((i : ℕ) (row : Row) → get_or slots i None ≡ Some row → (placed : PlacedRow) × Contains rows placed × (placed.rid.block ≡ e) × (placed.rid.slot ≡ i))
    → (i : ℕ) (row : Row) → get_or slots i None ≡ Some row → get_or new e OtherBlock ≡ FreeBlock
taken_all e slots TakesRows.none is each i row filled = let r = each i row filled in absurd (omega (arith, r.1.1))
taken_all {old} {new} e slots (TakesRows.one {mid = mid} {next = next} {rows = rows} placed takes after more) is each i row filled = elim (cases_eq e placed.rid.block) [
  | inl here ↦ here_taken here (list_all is_none (set slots placed.rid.slot None)) refl (λ some.
      let left = set slots placed.rid.slot None in
      let one = filled_of left some in
      taken_all e left more (used_on returns_leave mid next after e left (mid_used here some)) (λ n other at. behind here n other at) one.0 one.1 one.2)
  | inr other ↦ taken_all e slots more (used_on returns_leave mid next after e slots (other_taken e takes other ∙ is)) (λ n one at. behind_other other n one at) i row filled
]
  where
    behind_other : e ≢ placed.rid.block → (n : ℕ) (one : Row) → get_or slots n None ≡ Some one → (later : PlacedRow) × Contains rows later × (later.rid.block ≡ e) × (later.rid.slot ≡ n)
    behind_other other n one at =
        let r = each n one at in
        elim (contains_cases r.0 placed rows r.1) [
          | inl first ↦ absurd (other (sym r.2 ∙ ap (λ (p : PlacedRow). p.rid.block) (sym first)))
          | inr later ↦ (r.0, later, r.2, r.3)
        ]

    slots_are : e ≡ placed.rid.block → takes.slots ≡ slots
    slots_are here = let both : UsedBlock takes.slots ≡ UsedBlock slots = sym (takes.lies.block OtherBlock) ∙ (ap (λ (n : ℕ). get_or old n OtherBlock) (sym here) ∙ is) in cc

    mid_is : e ≡ placed.rid.block → get_or mid e OtherBlock ≡ left_with (set slots placed.rid.slot None)
    mid_is here = ap (λ (n : ℕ). get_or mid n OtherBlock) here ∙ own_taken takes ∙ ap (λ (all : List (Option Row)). left_with (set all placed.rid.slot None)) (slots_are here)

    mid_used : e ≡ placed.rid.block → list_all is_none (set slots placed.rid.slot None) ≡ false → get_or mid e OtherBlock ≡ UsedBlock (set slots placed.rid.slot None)
    mid_used here some = mid_is here ∙ ap (λ test. cond test FreeBlock (UsedBlock (set slots placed.rid.slot None))) some

    here_taken : e ≡ placed.rid.block → (empty : Bool) → list_all is_none (set slots placed.rid.slot None) ≡ empty → (list_all is_none (set slots placed.rid.slot None) ≡ false → get_or new e OtherBlock ≡ FreeBlock)
        → get_or new e OtherBlock ≡ FreeBlock
    here_taken here true none again =
        let mid_free : get_or mid e OtherBlock ≡ FreeBlock = mid_is here ∙ ap (λ test. cond test FreeBlock (UsedBlock (set slots placed.rid.slot None))) none in
        let next_free : get_or next e OtherBlock ≡ FreeBlock = still_free (get_or next e OtherBlock) (subst (λ (a : Spot). AfterReturns a (get_or next e OtherBlock)) mid_free (after_at mid next e after)) in
        still_free (get_or new e OtherBlock) (subst (λ (a : Spot). AfterReturns a (get_or new e OtherBlock)) next_free (taken_idle e more (λ all used. let wrong : FreeBlock ≡ UsedBlock all = sym next_free ∙ used in absurd cc)))
    here_taken here false some again = again some

    behind : e ≡ placed.rid.block → (n : ℕ) (one : Row) → get_or (set slots placed.rid.slot None) n None ≡ Some one → (later : PlacedRow) × Contains rows later × (later.rid.block ≡ e) × (later.rid.slot ≡ n)
    behind here n one at =
        let apart : n ≢ placed.rid.slot = λ same. emptied slots placed.rid.slot n one same at in
        let r = each n one (sym (get_or-set_other slots placed.rid.slot n None None apart) ∙ at) in
        elim (contains_cases r.0 placed rows r.1) [
          | inl first ↦ absurd (apart (sym r.3 ∙ ap (λ (p : PlacedRow). p.rid.slot) (sym first)))
          | inr later ↦ (r.0, later, r.2, r.3)
        ]

-- ---- beside a rollout

-- a spot is a Used block, or it isn't
used_or_not : (spot : Spot) → ((slots : List (Option Row)) × (spot ≡ UsedBlock slots)) ⊎ ((slots : List (Option Row)) → spot ≡ UsedBlock slots → ⊥)
used_or_not FreeExtent = inr (λ slots is. absurd cc)
used_or_not IndexExtent = inr (λ slots is. absurd cc)
used_or_not OtherBlock = inr (λ slots is. absurd cc)
used_or_not FreeBlock = inr (λ slots is. absurd cc)
used_or_not PendingBlock = inr (λ slots is. absurd cc)
used_or_not (UsedBlock slots) = inl (slots, refl)

-- what rollout makes of a spot, where it is known what row by row makes of one that goes and of one that stays
beside : (chosen : Row → Bool) (spot rolled now : Spot) → RollsOutSpot chosen FreeBlock spot rolled → (HasChosenRow chosen spot → now ≡ FreeBlock) → ((HasChosenRow chosen spot → ⊥) → AfterReturns spot now) → AfterReturns rolled now
beside chosen spot _ now (RollsOutSpot.goes has) free stays = sym (free has)
beside chosen spot _ now (RollsOutSpot.stays none) free stays = stays none

-- a slot with a row is one of the slots
slot_in : (slots : List (Option Row)) (i : ℕ) (row : Row) → get_or slots i None ≡ Some row → Contains slots (Some row)
slot_in slots i row at = elim (cases_lt i (length slots)) [
  | inl low ↦ subst (Contains slots) at (Contains-get_or slots i None low)
  | inr past ↦ (let wrong : None ≡ Some row = sym (get_or_past slots i None past) ∙ at in absurd cc)
]

-- and one of them has a place
slot_of : (slots : List (Option Row)) (row : Row) → Contains slots (Some row) → (i : ℕ) × (get_or slots i None ≡ Some row)
slot_of [] row there = absurd (omega (arith, there.1))
slot_of (slot ∷ slots) row there = elim (contains_cases (Some row) slot slots there) [
  | inl here ↦ (0, here)
  | inr later ↦ (let r = slot_of slots row later in (suc r.0, r.1))
]

module _ (chosen : Row → Bool) (old now : List Spot) (rows : List PlacedRow) (whole : AreWholeBlocks chosen old) (are : AreChosenRows chosen old rows) (takes : TakesRows old rows now) where
  -- a block with a chosen row lost all its rows
  went : (e : ℕ) → HasChosenRow chosen (get_or old e OtherBlock) → get_or now e OtherBlock ≡ FreeBlock
  went e has =
      let one = has_such chosen (get_or old e OtherBlock) has in
      let first = slot_of one.slots one.row one.there in
      taken_all e one.slots takes one.is
      (λ i row at.
      let is_chosen : IsTrue (chosen row) = whole e one.slots one.is row one.row (slot_in one.slots i row at) one.there ∙ one.such in
      let placed : PlacedRow = record { rid = record { block = e; slot = i }; row = row } in
      (placed, are.all placed (record { slots = one.slots; block = one.is; slot = at }) is_chosen, refl, refl))
      first.0 one.row first.1

  -- any other is as it was
  stood : (e : ℕ) → (HasChosenRow chosen (get_or old e OtherBlock) → ⊥) → AfterReturns (get_or old e OtherBlock) (get_or now e OtherBlock)
  stood e none = elim (used_or_not (get_or old e OtherBlock)) [
    | inl used ↦
        let still = taken_elsewhere e used.0 takes (λ placed there here. none (has_row e placed there here)) used.1 in
        subst (λ (a : Spot). AfterReturns a (get_or now e OtherBlock)) (sym used.1) (sym still)
    | inr idle ↦ taken_idle e takes idle
  ]
    where
      has_row : (e : ℕ) (placed : PlacedRow) → Contains rows placed → placed.rid.block ≡ e → HasChosenRow chosen (get_or old e OtherBlock)
      has_row e placed there here =
          let lies = are.lie placed there in
          subst (HasChosenRow chosen) (sym (ap (λ (n : ℕ). get_or old n OtherBlock) (sym here) ∙ lies.0.block)) (placed.row, slot_in lies.0.slots placed.rid.slot placed.row lies.0.slot, lies.1)

  pub same_spots : (def : TableDef) (new : List Spot) (rolls : RollsOut def Immediate chosen old new) → SpotsAfterReturns rolls.rolled now
  same_spots def new rolls =
      zip_from AfterReturns rolls.rolled now (omega (arith, taken_long takes, AllZip-long (RollsOutSpot chosen FreeBlock) old rolls.rolled rolls.each))
      (λ e low. beside chosen (get_or old e OtherBlock) (get_or rolls.rolled e OtherBlock) (get_or now e OtherBlock)
      (AllZip-get_or (RollsOutSpot chosen FreeBlock) old rolls.rolled e OtherBlock OtherBlock rolls.each (omega (arith, low, AllZip-long (RollsOutSpot chosen FreeBlock) old rolls.rolled rolls.each))) (went e) (stood e))

  -- and so are the rows
  pub same_rows : (def : TableDef) (new : List Spot) → RollsOut def Immediate chosen old new → rows_from_spot 0 now ≡ rows_from_spot 0 new
  same_rows def new rolls = sym (rows_returned 0 rolls.rolled now (same_spots def new rolls)) ∙ rows_returned 0 rolls.rolled new rolls.returned

-- ---- where a predicate names dimension columns alone

-- of each block of a table that stands all rows qualify, or none does
pub whole_blocks : {S : Type 0} (g : Ghosts S) (shape : Shape) (s : S) (def : TableDef) (pred : Option Pred) → IsTableDef def.number def → applies_to pred def ≡ true → (owners : List Kind) (forests : TableForests) → StandsTable g shape s def owners forests
    → AreWholeBlocks (is_chosen pred) (spots_of g shape s def owners forests)
whole_blocks g shape s def pred defined applies owners forests st block slots is row other there there_too =
    let now = used_spot_now shape s def owners forests defined st block slots is in
    qualify_alike def row.values other.values (agree_on_dimensions def row.values other.values (now.1.cell.one_cell row there ∙ sym (now.1.cell.one_cell other there_too))) pred applies

-- ---- rows that calls delete

module _ {S : Type 0} (g : Ghosts S) (shape : Shape) (def : TableDef) where
  pub takes_deleted : {old new : S} {owners owners_now : List Kind} {forests forests_now : TableForests} {rows : List PlacedRow} → DeletesRows g shape def old owners forests rows new owners_now forests_now
      → TakesRows (spots_of g shape old def owners forests) rows (spots_of g shape new def owners_now forests_now)
  takes_deleted DeletesRows.none = TakesRows.none
  takes_deleted (DeletesRows.one placed deletes more) = TakesRows.one placed deletes.takes deletes.returns (takes_deleted more)

  loses_deleted : {old new : S} {owners owners_now : List Kind} {forests forests_now : TableForests} {rows : List PlacedRow} → DeletesRows g shape def old owners forests rows new owners_now forests_now
      → LosesRows def forests.indexes rows forests_now.indexes
  loses_deleted DeletesRows.none = LosesRows.none
  loses_deleted {forests = forests} {forests_now = forests_now} (DeletesRows.one {rows = rows} placed deletes more) =
      loses_then def forests.indexes deletes.forests_now.indexes forests_now.indexes (placed ∷ []) rows (LosesRows.one placed LosesRows.none deletes.entries refl) (loses_deleted more)

  pub loses_entries : {old new : S} {owners owners_now : List Kind} {forests forests_now : TableForests} {rows : List PlacedRow} → DeletesRows g shape def old owners forests rows new owners_now forests_now
      → length forests.indexes ≡ length def.indexes → LosesEntries def forests.indexes rows forests_now.indexes
  loses_entries {forests = forests} {forests_now = forests_now} {rows = rows} deletes long = all_lost def forests.indexes rows forests_now.indexes long (loses_deleted deletes)

-- rows that are chosen, in two orders
pub same_chosen : {chosen : Row → Bool} {spots : List Spot} {rows others : List PlacedRow} → AreChosenRows chosen spots rows → AreChosenRows chosen spots others → (placed : PlacedRow) → Contains rows placed ↔ Contains others placed
same_chosen are too placed = (λ there. let lies = are.lie placed there in too.all placed lies.0 lies.1, λ there. let lies = too.lie placed there in are.all placed lies.0 lies.1)
