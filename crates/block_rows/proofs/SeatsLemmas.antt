-- A row in a slot, compared with another one in the dimension columns; and the lowest empty slot behind full pages.
use Rattle.std.proofs.Common.{◌≡◌, ◌<◌, ◌+◌, ◌*◌, ℕ, Bool, true, false, List, length, take, get_or, ap, sym, ◌∙◌, arith, subst, Option, Some, None}
use Rattle.std.specs.Prelude.{◌↔◌, IsTrue, slice_get, unwrap_or}
use Rattle.std.proofs.lemmas.Option.{get_or_from_slice_get}
use Rattle.mdc_values.specs.declared.value.Value.{Value}
use Rattle.mdc_values.specs.declared.value.Value.TheVariants.{Null}
use Rattle.mdc_ast.specs.Truth.{value_at}
use Rattle.mdc_ast.specs.declared.definition.ColumnDef.{ColumnDef}
use Rattle.mdc_ast.specs.declared.definition.TableDef.{TableDef}
use Rattle.mdc_ast.specs.declared.row.Row.{Row}
use Rattle.store_api.specs.Extents.{first_page_of}
use Rattle.store_api.specs.declared.pages.Pages.{Ghosts}
use Rattle.store_api.specs.declared.shape.Shape.{Shape}
use Rattle.row_page.specs.Row.{column_value, is_stored_null, row_in, stored_bytes, value_or_null}
use Rattle.row_page.specs.RowPage.{slot_count}
use Rattle.row_page.proofs.RowLemmas.{get-row_in}
use Rattle.mdc_sound.specs.Placing.{HoldsNowhere, IsEmptySlot, IsLowestAt}
use Rattle.block_rows.specs.HeldRows.{HoldsRows}
use Rattle.block_rows.specs.PageRows.{HoldsRowPage, IsLowestEmpty}
use Rattle.block_rows.specs.Seats.{BeginsInCell}
use Rattle.block_rows.proofs.CellColumnsLemmas.{element_of}
use Rattle.block_rows.proofs.HeldRowsLemmas.{length_of_rows, lowest_in_block, nowhere_more, page_of_rows, parts_within}
use Rattle.block_rows.proofs.PageRowsLemmas.{rows_along}
use Rattle.block_rows.proofs.PartsLemmas.{get_or-part, part}

-- the value of an element that is there
pub value_there : (values : List Value) (place : ℕ) (value : Value) → slice_get values place ≡ Some value → value_at values place ≡ value
value_there values place value is = ap (λ found. unwrap_or found Null) is

module _ (columns : List ColumnDef) (place : ℕ) (bytes : List ℕ) (there : place < length columns) where
  stored : (d : ColumnDef) → value_at (row_in columns bytes).values place ≡ value_or_null (is_stored_null place bytes) (get_or columns place d).ty (stored_bytes columns place bytes)
  stored d = ap (λ found. unwrap_or found Null) (get-row_in columns place d bytes there)

  -- a value that is stored as a null, and one that isn't
  pub stored_null : is_stored_null place bytes ≡ true → value_at (row_in columns bytes).values place ≡ Null
  stored_null null = let d = element_of columns place there in stored d ∙ ap (λ b. value_or_null b (get_or columns place d).ty (stored_bytes columns place bytes)) null

  pub stored_value : (column : ColumnDef) → slice_get columns place ≡ Some column → is_stored_null place bytes ≡ false → value_at (row_in columns bytes).values place ≡ column_value column.ty (stored_bytes columns place bytes)
  stored_value column is some =
      stored column ∙ (ap (λ b. value_or_null b (get_or columns place column).ty (stored_bytes columns place bytes)) some
      ∙ ap (λ k. column_value k.ty (stored_bytes columns place bytes)) (get_or_from_slice_get columns place column column is))

-- a test of two values, by others that are the same
pub same_tested : {b : Bool} {v w x y : Value} → v ≡ x → w ≡ y → IsTrue b ↔ (x ≡ y) → IsTrue b ↔ (v ≡ w)
same_tested first second is = (λ yes. first ∙ (is.0 yes ∙ sym second), λ same. is.1 (sym first ∙ (same ∙ second)))

-- ---- the lowest empty slot

module _ {S : Type 0} {g : Ghosts S} (shape : Shape) (def : TableDef) (block : ℕ) {columns : List ColumnDef} (old mid : S) (p j : ℕ) (of : columns ≡ def.columns) (at : p ≡ first_page_of shape.extents shape.extent_pages block + j)
    (less : j < shape.extent_pages) (told : (g.state mid).is_told ≡ (g.state old).is_told) (same : (g.state mid).work ≡ (g.state old).work) where
  -- page j of the block, behind calls that left the work as it was
  page_of_slots : (slots : List (Option Row)) → HoldsRows g shape old def block slots → HoldsRowPage g columns mid p (part (slot_count def.columns) j slots)
  page_of_slots slots holds =
      subst (λ k. HoldsRowPage g k mid p (part (slot_count def.columns) j slots)) (sym of)
      (subst (λ q. HoldsRowPage g def.columns mid q (part (slot_count def.columns) j slots)) (sym at) (rows_along told same (page_of_rows g shape def block j less holds)))

  -- the lowest slot of the first page is that of the block
  pub begins_block : j ≡ 0 → 0 < slot_count def.columns → (row : Row) → ((slots : List (Option Row)) → HoldsRowPage g columns mid p slots → BeginsInCell def row slots)
      → (slots : List (Option Row)) → HoldsRows g shape old def block slots → BeginsInCell def row slots
  begins_block is some row begins slots holds =
      let b = begins (part (slot_count def.columns) j slots) (page_of_slots slots holds) in
      let none : 0 * slot_count def.columns + 0 ≡ 0 = omega arith in
      let place : j * slot_count def.columns + 0 ≡ 0 = ap (λ n. n * slot_count def.columns + 0) is ∙ none in
      record {
        first = b.first;
        there = ap (λ n. get_or slots n None) (sym place) ∙ (sym (get_or-part (slot_count def.columns) j 0 slots None some) ∙ b.there);
        one_cell = b.one_cell;
      }

  module _ (full : (slots : List (Option Row)) → HoldsRows g shape old def block slots → HoldsNowhere IsEmptySlot (take (j * slot_count def.columns) slots)) (found : Option ℕ)
      (lowest : (slots : List (Option Row)) → HoldsRowPage g columns mid p slots → IsLowestEmpty slots found) where
    -- it isn't on this page
    pub full_next : found ≡ None → (slots : List (Option Row)) → HoldsRows g shape old def block slots → HoldsNowhere IsEmptySlot (take ((j + 1) * slot_count def.columns) slots)
    full_next none slots holds =
        nowhere_more IsEmptySlot (slot_count def.columns) j slots (full slots holds)
        (subst (IsLowestEmpty (part (slot_count def.columns) j slots)) none (lowest (part (slot_count def.columns) j slots) (page_of_slots slots holds)))

    -- it is
    pub lowest_there : (slot number : ℕ) → found ≡ Some slot → number ≡ j * slot_count columns + slot → (slots : List (Option Row)) → HoldsRows g shape old def block slots → IsLowestAt IsEmptySlot slots number None
    lowest_there slot number is at_number slots holds =
        let c = slot_count def.columns in
        let this : number ≡ j * c + slot = at_number ∙ ap (λ k. j * slot_count k + slot) of in
        subst (λ n. IsLowestAt IsEmptySlot slots n None) (sym this)
        (lowest_in_block IsEmptySlot c j slots slot None (parts_within shape.extent_pages c j (length slots) (length_of_rows g shape def block holds) (omega (arith, less))) (full slots holds)
        (subst (IsLowestEmpty (part c j slots)) is (lowest (part c j slots) (page_of_slots slots holds))))
