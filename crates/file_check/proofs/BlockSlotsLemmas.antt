-- The rows of a block by their pages: which slot of which page each is in.
use Rattle.std.proofs.Common.{◌≡◌, ◌<◌, ◌≤◌, ◌+◌, ◌*◌, ◌/◌, ◌%◌, ℕ, zero, suc, List, [], ◌∷◌, Option, Some, None, refl, ap, sym, subst, ◌∙◌, arith, inl, inr, length, get_or}
use Rattle.std.specs.Prelude.{◌⊎◌, Contains}
use Rattle.std.proofs.Math.Nat.{mul-le-mul_left, mul-le-mul_right}
use Rattle.std.proofs.lemmas.Bool.{cases_lt}
use Rattle.std.proofs.lemmas.Nat.{div-add-mod', div-mul-add, div_below}
use Rattle.mdc_ast.specs.declared.definition.TableDef.{TableDef}
use Rattle.mdc_ast.specs.declared.row.Row.{Row}
use Rattle.mdc_words.proofs.ListedLemmas.{get_or-listed, length-listed}
use Rattle.store_api.specs.Extents.{first_page_of}
use Rattle.store_api.specs.declared.shape.Shape.{Shape}
use Rattle.row_page.specs.RowPage.{rows_of, slot_count, slot_row}
use Rattle.table_trees.specs.ToldPages.{PageList}
use Rattle.block_map.proofs.MapLinesLemmas.{contains_cases, contains_more}
use Rattle.block_rows.proofs.PartsLemmas.{get_or-part, part-parts}
use Rattle.mdc_sound.specs.BlockRules.{AreBlockRowsSound}
use Rattle.mdc_ast.specs.FittingRows.{RowFits}
use Rattle.mdc_sound.specs.TableRows.{PlacedRow, block_page, block_slots, rows_from_slot, rows_in_block}
use Rattle.mdc_sound.proofs.BlockRulesLemmas.{each_of}
use Rattle.mdc_sound.proofs.ElementsLemmas.{each_in}
use Rattle.mdc_sound.proofs.SlotRowsLemmas.{length-block_slots}
use Rattle.file_check.specs.Judging.{HoldsUnbroken, IsLowestBreak}
use Rattle.file_check.specs.BlocksJudged.{BreaksBlockRows, IsFittingPage, IsUnfitPage}

-- ---- rows and their slots

-- where the row of a slot is placed
abbrev pub placed_at : ℕ → ℕ → Row → PlacedRow
placed_at block slot row = record { rid = record { block = block; slot = slot }; row = row }

-- the slot of a placed row has it
pub record IsInSlot (at : ℕ) (slots : List (Option Row)) (placed : PlacedRow) : Type 0 where
  pub place : ℕ
  pub within : place < length slots
  pub stands : get_or slots place None ≡ Some placed.row
  pub number : placed.rid.slot ≡ at + place

in_later_slot : (at : ℕ) (first : Option Row) (slots : List (Option Row)) (placed : PlacedRow) → IsInSlot (at + 1) slots placed → IsInSlot at (first ∷ slots) placed
in_later_slot at first slots placed is = record { place = suc is.place; within = omega (arith, is.within); stands = is.stands; number = omega (arith, is.number) }

pub placed_in : (block at : ℕ) (slots : List (Option Row)) (placed : PlacedRow) → Contains (rows_from_slot block at slots) placed → IsInSlot at slots placed
placed_in block at [] placed (k, low, is) = absurd (omega (arith, low))
placed_in block at (None ∷ slots) placed there = in_later_slot at None slots placed (placed_in block (at + 1) slots placed there)
placed_in block at (Some row ∷ slots) placed there = go (contains_cases placed (placed_at block at row) (rows_from_slot block (at + 1) slots) there) (placed_in block (at + 1) slots placed)
  where
    go : (placed_at block at row ≡ placed) ⊎ Contains (rows_from_slot block (at + 1) slots) placed → (Contains (rows_from_slot block (at + 1) slots) placed → IsInSlot (at + 1) slots placed)
        → IsInSlot at (Some row ∷ slots) placed
    go (inl e) more = record { place = 0; within = omega arith; stands = ap (λ (p : PlacedRow). Some p.row) e; number = ap (λ (p : PlacedRow). p.rid.slot) (sym e) ∙ (let same : at ≡ at + 0 = omega arith in same) }
    go (inr later) more = in_later_slot at (Some row) slots placed (more later)

-- the row of a slot is placed there
pub slot_placed : (block at : ℕ) (slots : List (Option Row)) (place : ℕ) (row : Row) → place < length slots → get_or slots place None ≡ Some row
    → Contains (rows_from_slot block at slots) (placed_at block (at + place) row)
slot_placed block at [] place row low is = absurd (omega (arith, low))
slot_placed block at (None ∷ slots) zero row low is = absurd cc
slot_placed block at (Some first ∷ slots) zero row low is =
    let number : at ≡ at + 0 = omega arith in
    let same : first ≡ row = cc in
    (0, omega arith, ap (λ n. placed_at block n first) number ∙ ap (placed_at block (at + 0)) same)
slot_placed block at (None ∷ slots) (suc place) row low is =
    let number : at + 1 + place ≡ at + suc place = omega arith in
    subst (λ n. Contains (rows_from_slot block (at + 1) slots) (placed_at block n row)) number (slot_placed block (at + 1) slots place row (omega (arith, low)) is)
slot_placed block at (Some first ∷ slots) (suc place) row low is =
    let number : at + 1 + place ≡ at + suc place = omega arith in
    contains_more (placed_at block (at + suc place) row) (placed_at block at first) (rows_from_slot block (at + 1) slots)
    (subst (λ n. Contains (rows_from_slot block (at + 1) slots) (placed_at block n row)) number (slot_placed block (at + 1) slots place row (omega (arith, low)) is))

-- ---- slots and their pages

module _ (shape : Shape) (pages : PageList) (def : TableDef) (block : ℕ) where
  abbrev c : ℕ
  c = slot_count def.columns

  abbrev slots : List (Option Row)
  slots = block_slots shape pages def block

  -- a slot of page j
  slot_of_page : (j k : ℕ) → j < shape.extent_pages → k < c → get_or slots (j * c + k) None ≡ slot_row def.columns (block_page shape pages block j) k
  slot_of_page j k low less =
      let rows_at : ℕ → List (Option Row) = λ i. rows_of def.columns (block_page shape pages block i) in
      let here : 0 + j ≡ j = omega arith in
      sym (get_or-part c j k slots None less)
      ∙ (ap (λ (xs : List (Option Row)). get_or xs k None) (part-parts c rows_at 0 shape.extent_pages j (λ i. length-listed c (slot_row def.columns (block_page shape pages block i))) low ∙ ap rows_at here)
      ∙ get_or-listed c (slot_row def.columns (block_page shape pages block j)) k None less)

  -- a row of a page is one of the block, in a slot of that page
  pub record IsOnPage (j : ℕ) (row : Row) : Type 0 where
    pub placed : PlacedRow
    pub there : Contains (rows_in_block shape pages def block) placed
    pub row_is : placed.row ≡ row
    pub page_is : placed.rid.slot / slot_count def.columns ≡ j

  pub row_on_page : (j k : ℕ) (row : Row) → j < shape.extent_pages → k < slot_count def.columns → slot_row def.columns (block_page shape pages block j) k ≡ Some row → IsOnPage j row
  row_on_page j k row low less is =
      let all : (j + 1) * c ≤ shape.extent_pages * c = let next : j + 1 ≤ shape.extent_pages = omega (arith, low) in mul-le-mul_right c next in
      let within : j * c + k < length slots = omega (arith, all, less, length-block_slots shape pages def block) in
      record {
        placed = placed_at block (0 + (j * c + k)) row;
        there = slot_placed block 0 slots (j * c + k) row within (slot_of_page j k low less ∙ is);
        row_is = refl;
        page_is = (let same : 0 + (j * c + k) ≡ j * c + k = omega arith in ap (λ n. n / c) same) ∙ div-mul-add j c k less;
      }

  -- and the other way round
  pub record IsOfPage (placed : PlacedRow) : Type 0 where
    pub page : placed.rid.slot / slot_count def.columns < shape.extent_pages
    pub slot : placed.rid.slot % slot_count def.columns < slot_count def.columns
    pub stands : slot_row def.columns (block_page shape pages block (placed.rid.slot / slot_count def.columns)) (placed.rid.slot % slot_count def.columns) ≡ Some placed.row

  some_slots : (n : ℕ) → n < shape.extent_pages * c → 0 < c
  some_slots n low = elim (cases_lt 0 c) [
    | inl some ↦ some
    | inr none ↦ let zero_all : shape.extent_pages * c ≤ shape.extent_pages * 0 = mul-le-mul_left shape.extent_pages none in absurd (omega (arith, low, zero_all))
  ]

  pub page_of_row : (placed : PlacedRow) → Contains (rows_in_block shape pages def block) placed → IsOfPage placed
  page_of_row placed there =
      let in_slot = placed_in block 0 slots placed there in
      let n = placed.rid.slot in
      let low : n < shape.extent_pages * c = omega (arith, in_slot.within, in_slot.number, length-block_slots shape pages def block) in
      let some : 0 < c = some_slots n low in
      let page : n / c < shape.extent_pages = div_below n c shape.extent_pages some low in
      let slot : n % c < c = omega (arith, some) in
      let number : n / c * c + n % c ≡ in_slot.place = div-add-mod' n c ∙ (let same : n ≡ in_slot.place = omega (arith, in_slot.number) in same) in
      record {
        page = page;
        slot = slot;
        stands = sym (slot_of_page (n / c) (n % c) page slot) ∙ (ap (λ i. get_or slots i None) number ∙ in_slot.stands);
      }

  -- ---- the pages of a block, judged

  fitting_unfit : (bytes : List ℕ) → IsFittingPage def bytes → IsUnfitPage def bytes → ⊥
  fitting_unfit bytes fits (inl no_form) = no_form fits.form
  fitting_unfit bytes fits (inr misfit) = misfit.unfit (fits.rows misfit.slot misfit.row misfit.within misfit.stands)

  -- all of them fit
  pub block_fits : (n : ℕ) → shape.extent_pages ≤ n → ((j : ℕ) → j < n → IsFittingPage def (block_page shape pages block j))
      → HoldsUnbroken (AreBlockRowsSound shape pages def block) (BreaksBlockRows shape pages def block)
  block_fits n all each = record {
    holds = record {
      forms = λ j low. (each j (omega (arith, low, all))).form;
      rows = each_in (λ placed. RowFits def placed.row) (rows_in_block shape pages def block) (λ placed there.
          let is = page_of_row placed there in
          (each (placed.rid.slot / c) (omega (arith, is.page, all))).rows (placed.rid.slot % c) placed.row is.slot is.stands);
    };
    unbroken = λ p b. fitting_unfit (block_page shape pages block b.place) (each b.place (omega (arith, b.within, all))) b.unfit;
  }

  -- one doesn't, and those before it do
  pub block_breaks : (j p : ℕ) → j < shape.extent_pages → p ≡ first_page_of shape.extents shape.extent_pages block + j → ((i : ℕ) → i < j → IsFittingPage def (block_page shape pages block i))
      → IsUnfitPage def (block_page shape pages block j) → IsLowestBreak (BreaksBlockRows shape pages def block) p
  block_breaks j p low at each unfit = record {
    breaks = record { place = j; within = low; page = at; unfit = unfit };
    lowest = λ q b. elim (cases_lt b.place j) [
      | inl before ↦ absurd (fitting_unfit (block_page shape pages block b.place) (each b.place before) b.unfit)
      | inr behind ↦ omega (arith, behind, b.page, at)
    ];
  }

  -- no page of a block whose rows are sound breaks it
  pub sound_breaks_none : AreBlockRowsSound shape pages def block → (p : ℕ) → BreaksBlockRows shape pages def block p → ⊥
  sound_breaks_none sound p b = fitting_unfit (block_page shape pages block b.place) (record { form = sound.forms b.place b.within; rows = fit }) b.unfit
    where
      fit : (slot : ℕ) (row : Row) → slot < slot_count def.columns → slot_row def.columns (block_page shape pages block b.place) slot ≡ Some row → RowFits def row
      fit slot row low is =
          let on = row_on_page b.place slot row b.within low is in
          subst (RowFits def) on.row_is (each_of (λ placed. RowFits def placed.row) (rows_in_block shape pages def block) on.placed sound.rows on.there)
