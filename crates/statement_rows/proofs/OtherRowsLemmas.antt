-- A row that is taken out, put or becomes another leaves the other rows where they are.
use Rattle.std.proofs.Common.{◌≡◌, ◌≢◌, ◌<◌, ℕ, Bool, false, zero, suc, List, [], ◌∷◌, None, Some, length, replicate, set, get_or, cond, refl, ap, arith, sym, ◌∙◌, subst, inl, inr}
use Rattle.std.specs.Prelude.{AllPairs, Contains, Option, is_none}
use Rattle.std.specs.List.{AllZip, list_all}
use Rattle.std.proofs.lemmas.Bool.{cases_eq}
use Rattle.std.proofs.lemmas.List.{get_or-set_other, get_or-set_same, length-set}
use Rattle.std.proofs.lemmas.List.Elements.{AllZip-get_or}
use Rattle.std.proofs.lemmas.List.Quantifiers.{all_pairs_remove}
use Rattle.std.proofs.lemmas.Slice.Zip.{AllZip-long}
use Rattle.mdc_values.specs.declared.rid.Rid.{Rid}
use Rattle.mdc_ast.specs.declared.definition.TableDef.{TableDef}
use Rattle.mdc_ast.specs.declared.row.Row.{Row}
use Rattle.store_api.specs.declared.pages.Pages.{Ghosts}
use Rattle.store_api.specs.declared.shape.Shape.{Shape}
use Rattle.extent_map.specs.declared.kind.Kind.{Kind}
use Rattle.mdc_sound.specs.Placing.{AfterClaims, AfterReturns, ChangesRow, IsRowAt, PutsRow, Spot, SpotsAfterClaims, SpotsAfterReturns, TakesRow, left_with}
use Rattle.mdc_sound.specs.Placing.Spot.{FreeBlock, FreeExtent, OtherBlock, UsedBlock}
use Rattle.mdc_sound.specs.StandingTable.{TableForests, spots_of}
use Rattle.mdc_sound.specs.TableRows.{PlacedRow}
use Rattle.mdc_sound.proofs.BlockRulesLemmas.{each_as}
use Rattle.mdc_table.proofs.RowSpaceLemmas.{same_row}
use Rattle.table_blocks.specs.BlockSteps.{HasThisRow}
use Rattle.statement_rows.specs.RowsOfStatement.{HasTheseRows}

-- the row lies there, in whatever slots
pub record LiesAt (spots : List Spot) (at : Rid) (row : Row) : Type 0 where
  pub slots : List (Option Row)
  pub lies : IsRowAt spots at row slots

-- two places, of which neither is the other
abbrev pub AreApart : Rid → Rid → Type 0
AreApart a b = a.block ≡ b.block → a.slot ≡ b.slot → ⊥

-- so are the places of two that differ
pub apart_places : (a b : Rid) → a ≢ b → AreApart b a
apart_places a b differ block slot = differ (sym (ap (λ (k : ℕ). place_at k b.slot) block ∙ ap (place_at a.block) slot))
  where
    place_at : ℕ → ℕ → Rid
    place_at block slot = record { block = block; slot = slot }

-- rows of different numbers lie apart
pub apart_by_number : (spots : List Spot) (a b : Rid) (row other : Row) (slots more : List (Option Row)) → IsRowAt spots a row slots → IsRowAt spots b other more → row.number < other.number → AreApart b a
apart_by_number spots a b row other slots more one two less block slot =
    let place : b ≡ a = ap (λ (k : ℕ). rid_at k b.slot) block ∙ ap (rid_at a.block) slot in
    let is : row ≡ other = same_row spots a row other slots more one (subst (λ (rid : Rid). IsRowAt spots rid other more) place two) in
    omega (arith, less, ap (λ (r : Row). r.number) is)
  where
    rid_at : ℕ → ℕ → Rid
    rid_at block slot = record { block = block; slot = slot }

-- ---- one block becomes another

-- a block elsewhere
lies_beside : (spots : List Spot) (at : Rid) (row : Row) (block : ℕ) (spot : Spot) → LiesAt spots at row → at.block ≢ block → LiesAt (set spots block spot) at row
lies_beside spots at row block spot it other = record {
  slots = it.slots;
  lies = record {
    within = omega (arith, it.lies.within, length-set spots block spot);
    block = λ d. get_or-set_other spots block at.block spot d other ∙ it.lies.block d;
    slot = it.lies.slot;
  };
}

-- the row's own block, with other slots in which the row lies
lies_in : (spots : List Spot) (at : Rid) (row : Row) (block : ℕ) (slots : List (Option Row)) → at.block < length spots → at.block ≡ block → get_or slots at.slot None ≡ Some row
    → LiesAt (set spots block (UsedBlock slots)) at row
lies_in spots at row block slots low same slot = record {
  slots = slots;
  lies = record {
    within = omega (arith, low, length-set spots block (UsedBlock slots));
    block = λ d. ap (λ (i : ℕ). get_or (set spots block (UsedBlock slots)) i d) same ∙ get_or-set_same spots block (UsedBlock slots) d (omega (arith, low, same));
    slot = slot;
  };
}

-- another slot of the row's own block is set
lies_in_set : (spots : List Spot) (at : Rid) (row : Row) (block slot : ℕ) (slots : List (Option Row)) (now : Option Row) → (it : LiesAt spots at row) → at.block ≡ block → it.slots ≡ slots → at.slot ≢ slot
    → LiesAt (set spots block (UsedBlock (set slots slot now))) at row
lies_in_set spots at row block slot slots now it same is other =
    lies_in spots at row block (set slots slot now) it.lies.within same
    (get_or-set_other slots slot at.slot now None other ∙ (ap (λ (list : List (Option Row)). get_or list at.slot None) (sym is) ∙ it.lies.slot))

-- the slots of the row's block
slots_here : (spots : List Spot) (at : Rid) (row : Row) (block : ℕ) (slots : List (Option Row)) → (it : LiesAt spots at row) → at.block ≡ block → get_or spots block OtherBlock ≡ UsedBlock slots → it.slots ≡ slots
slots_here spots at row block slots it same is =
    let both : UsedBlock it.slots ≡ UsedBlock slots = sym (it.lies.block OtherBlock) ∙ (ap (λ (i : ℕ). get_or spots i OtherBlock) same ∙ is) in
    cc

-- a slot with a row isn't one with another, or with none
slots_differ : (slots : List (Option Row)) (i j : ℕ) (row : Row) → get_or slots i None ≡ Some row → get_or slots j None ≡ None → i ≢ j
slots_differ slots i j row some none same =
    let wrong : Some row ≡ None = sym some ∙ (ap (λ (k : ℕ). get_or slots k None) same ∙ none) in
    cc

-- ---- trees take extents or give them back

-- where each Used block stays as it is, a row lies where it lay
lies_on : (After : Spot → Spot → Type 0) → ((slots : List (Option Row)) (b : Spot) → After (UsedBlock slots) b → UsedBlock slots ≡ b) → (xs ys : List Spot) (at : Rid) (row : Row) → AllZip After xs ys → LiesAt xs at row
    → LiesAt ys at row
lies_on After used xs ys at row all it = record {
  slots = it.slots;
  lies = record {
    within = omega (arith, it.lies.within, AllZip-long After xs ys all);
    block = λ d. sym (used it.slots (get_or ys at.block d) (subst (λ (a : Spot). After a (get_or ys at.block d)) (it.lies.block d) (AllZip-get_or After xs ys at.block d d all it.lies.within)));
    slot = it.lies.slot;
  };
}

pub lies_after_claims : (xs ys : List Spot) (at : Rid) (row : Row) → SpotsAfterClaims xs ys → LiesAt xs at row → LiesAt ys at row
lies_after_claims xs ys at row = lies_on AfterClaims (λ slots b is. is) xs ys at row

pub lies_after_returns : (xs ys : List Spot) (at : Rid) (row : Row) → SpotsAfterReturns xs ys → LiesAt xs at row → LiesAt ys at row
lies_after_returns xs ys at row = lies_on AfterReturns (λ slots b is. is) xs ys at row

-- ---- a row is taken out, put or turned

-- slots with a row aren't all empty
some_there : (slots : List (Option Row)) (k : ℕ) (row : Row) → get_or slots k None ≡ Some row → list_all is_none slots ≡ false
some_there [] k row is = absurd (cc)
some_there (None ∷ slots) zero row is = absurd (cc)
some_there (Some other ∷ slots) zero row is = refl
some_there (None ∷ slots) (suc k) row is = some_there slots k row is
some_there (Some other ∷ slots) (suc k) row is = refl

pub lies_taken : (old new : List Spot) (rid at : Rid) (row there : Row) → TakesRow old rid row new → AreApart at rid → LiesAt old at there → LiesAt new at there
lies_taken old new rid at row there takes apart it = subst (λ (spots : List Spot). LiesAt spots at there) (sym takes.is_left) (elim (cases_eq at.block rid.block) [
  | inl same ↦
      let left = set takes.slots rid.slot None in
      let own = slots_here old at there rid.block takes.slots it same (takes.lies.block OtherBlock) in
      let stays : get_or left at.slot None ≡ Some there =
      get_or-set_other takes.slots rid.slot at.slot None None (apart same) ∙ (ap (λ (list : List (Option Row)). get_or list at.slot None) (sym own) ∙ it.lies.slot) in
      subst (λ (none : Bool). LiesAt (set old rid.block (cond none FreeBlock (UsedBlock left))) at there) (sym (some_there left at.slot there stays)) (lies_in old at there rid.block left it.lies.within same stays)
  | inr other ↦ lies_beside old at there rid.block (left_with (set takes.slots rid.slot None)) it other
])

pub lies_put : (def : TableDef) (n : ℕ) (old new : List Spot) (row there : Row) (to at : Rid) → PutsRow def n old row new to → LiesAt old at there → LiesAt new at there
lies_put def n old new row there _ at (PutsRow.in_cell block slot slots room empty is) it = subst (λ (spots : List Spot). LiesAt spots at there) (sym is) (elim (cases_eq at.block block) [
  | inl same ↦
      let own = slots_here old at there block slots it same (room.is_it OtherBlock) in
      lies_in_set old at there block slot slots (Some row) it same own
      (slots_differ slots at.slot slot there (ap (λ (list : List (Option Row)). get_or list at.slot None) (sym own) ∙ it.lies.slot) (empty.is_it None))
  | inr other ↦ lies_beside old at there block (UsedBlock (set slots slot (Some row))) it other
])
lies_put def n old new row there _ at (PutsRow.in_free_block block no_room free is) it =
    let wrong : at.block ≡ block → ⊥ = λ same. let both : UsedBlock it.slots ≡ FreeBlock = sym (it.lies.block OtherBlock) ∙ (ap (λ (i : ℕ). get_or old i OtherBlock) same ∙ free.is_it OtherBlock) in cc in
    subst (λ (spots : List Spot). LiesAt spots at there) (sym is) (lies_beside old at there block (UsedBlock (set (replicate n None) 0 (Some row))) it wrong)
lies_put def n old new row there _ at (PutsRow.in_free_extent block no_room no_free free is) it =
    let wrong : at.block ≡ block → ⊥ = λ same. let both : UsedBlock it.slots ≡ FreeExtent = sym (it.lies.block OtherBlock) ∙ (ap (λ (i : ℕ). get_or old i OtherBlock) same ∙ free.is_it OtherBlock) in cc in
    subst (λ (spots : List Spot). LiesAt spots at there) (sym is) (lies_beside old at there block (UsedBlock (set (replicate n None) 0 (Some row))) it wrong)

pub lies_turned : (def : TableDef) (n : ℕ) (old new : List Spot) (rid at to : Rid) (row other there : Row) → ChangesRow def n old rid row other new to → AreApart at rid → LiesAt old at there → LiesAt new at there
lies_turned def n old new rid at _ row other there (ChangesRow.stays slots cell lies returns) apart it =
    let now = set old rid.block (UsedBlock (set slots rid.slot (Some other))) in
    lies_after_returns now new at there returns (elim (cases_eq at.block rid.block) [
      | inl same ↦ lies_in_set old at there rid.block rid.slot slots (Some other) it same (slots_here old at there rid.block slots it same (lies.block OtherBlock)) (apart same)
      | inr beside ↦ lies_beside old at there rid.block (UsedBlock (set slots rid.slot (Some other))) it beside
    ])
lies_turned def n old new rid at _ row other there (ChangesRow.moves left free to cells takes returns puts) apart it =
    lies_put def n free new other there to at puts (lies_after_returns left free at there returns (lies_taken old left rid at row there takes apart it))

-- ---- the rows of a statement

-- where each two elements are related, the first is to each of the rest
pub first_related : {X : Type 0} (R : X → X → Type 0) (x : X) (xs : List X) → AllPairs R (x ∷ xs) → (z : X) → Contains xs z → R x z
first_related R x xs pairs z (k, low, at) = subst (R x) at (pairs 0 (suc k) z (omega arith) (omega (arith, low)))

abbrev is_before : PlacedRow → PlacedRow → Type 0
is_before a b = a.row.number < b.row.number

-- rows behind the first lie where they lay, where each row does that lies apart from it
pub rows_behind : {S : Type 0} (g : Ghosts S) (shape : Shape) (old new : S) (def : TableDef) (owners owners_now : List Kind) (forests forests_now : TableForests) (first : PlacedRow) (rows : List PlacedRow)
    → ((at : Rid) (row : Row) → AreApart at first.rid → LiesAt (spots_of g shape old def owners forests) at row → LiesAt (spots_of g shape new def owners_now forests_now) at row)
    → HasTheseRows g shape old def (first ∷ rows) owners forests → HasTheseRows g shape new def rows owners_now forests_now
rows_behind g shape old new def owners owners_now forests forests_now first rows stay has = record {
  each = each_as (λ placed. HasThisRow g shape old def placed.rid placed.row owners forests) (λ placed. HasThisRow g shape new def placed.rid placed.row owners_now forests_now) rows
      (λ placed within this.
      let less = first_related is_before first rows has.rising placed within in
      let apart = apart_by_number (spots_of g shape old def owners forests) first.rid placed.rid first.row placed.row has.each.0.slots this.slots has.each.0.lies this.lies less in
      let there = stay placed.rid placed.row apart (record { slots = this.slots; lies = this.lies }) in
      record { slots = there.slots; lies = there.lies })
      has.each.1;
  rising = all_pairs_remove is_before (first ∷ rows) 0 (omega arith) has.rising;
}
