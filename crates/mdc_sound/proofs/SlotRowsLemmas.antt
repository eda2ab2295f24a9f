-- Rows in the slots of a block: how many there are, and where they lie.
use Rattle.std.proofs.Common.{◌≡◌, ◌<◌, ◌≤◌, ◌+◌, ◌*◌, ◌^◌, ℕ, suc, List, [], ◌∷◌, refl, ap, arith, sym, ◌∙◌, length, ◌⊎◌, inl, inr}
use Rattle.std.specs.Prelude.{Contains, Option, Some, None, cond, is_some, sum_by}
use Rattle.std.specs.List.{range_with_len}
use Rattle.std.proofs.Math.Nat.{mul-le-mul}
use Rattle.std.proofs.lemmas.List.Concat.{length-flat_map}
use Rattle.std.proofs.lemmas.List.FromFn.{length-range_with_len}
use Rattle.std.proofs.lemmas.List.Sums.{count_by-le-length, sum_by-cons}
use Rattle.mdc_words.proofs.ListedLemmas.{length-listed}
use Rattle.mdc_ast.specs.declared.definition.TableDef.{TableDef}
use Rattle.mdc_ast.specs.declared.row.Row.{Row}
use Rattle.store_api.specs.declared.shape.Shape.{Shape}
use Rattle.extent_map.proofs.ExtentsLemmas.{extent_limits}
use Rattle.row_page.specs.RowPage.{count_rows, rows_of, slot_count, slot_row}
use Rattle.row_page.proofs.RowPageLemmas.{slot_count-le}
use Rattle.table_trees.specs.ToldPages.{PageList}
use Rattle.block_map.proofs.MapLinesLemmas.{contains_cases, contains_more}
use Rattle.mdc_sound.specs.TableRows.{PlacedRow, block_page, block_slots, rows_from_slot}

-- ---- slots

-- how many slots a block has
pub length-block_slots : (shape : Shape) (pages : PageList) (def : TableDef) (block : ℕ) → length (block_slots shape pages def block) ≡ shape.extent_pages * slot_count def.columns
length-block_slots shape pages def block =
    length-flat_map (λ j. rows_of def.columns (block_page shape pages block j)) (range_with_len 0 shape.extent_pages)
    ∙ each (range_with_len 0 shape.extent_pages) ∙ ap (λ (n : ℕ). n * slot_count def.columns) (length-range_with_len 0 shape.extent_pages)
  where
    each : (js : List ℕ) → sum_by (λ j. length (rows_of def.columns (block_page shape pages block j))) js ≡ length js * slot_count def.columns
    each [] = omega arith
    each (j ∷ js) =
        omega (arith, sum_by-cons (λ k. length (rows_of def.columns (block_page shape pages block k))) j js, length-listed (slot_count def.columns) (slot_row def.columns (block_page shape pages block j)), each js)

-- they are few enough that two bytes count them
pub few_slots : (shape : Shape) (pages : PageList) (def : TableDef) (block : ℕ) (slots : List (Option Row)) → block_slots shape pages def block ≡ slots → length slots ≤ 12864
few_slots shape pages def block slots are =
    let most : shape.extent_pages * slot_count def.columns ≤ 32 * 402 = mul-le-mul (extent_limits shape).1 (slot_count-le def.columns) in
    omega (arith, most, length-block_slots shape pages def block, ap length are)

pub few_rows : (shape : Shape) (pages : PageList) (def : TableDef) (block : ℕ) (slots : List (Option Row)) → block_slots shape pages def block ≡ slots → count_rows slots < 2 ^ 16
few_rows shape pages def block slots are = omega (arith, few_slots shape pages def block slots are, count_by-le-length is_some slots)

-- ---- the rows in them

-- the row of a slot, and where it lies
pub record IsPlaced (block : ℕ) (row : Row) (rows : List PlacedRow) : Type 0 where
  pub placed : PlacedRow
  pub there : Contains rows placed
  pub row_is : placed.row ≡ row
  pub block_is : placed.rid.block ≡ block

pub placed_in_slot : (block slot : ℕ) (slots : List (Option Row)) (row : Row) → Contains slots (Some row) → IsPlaced block row (rows_from_slot block slot slots)
placed_in_slot block slot [] row (k, l, e) = absurd (omega (arith, l))
placed_in_slot block slot (None ∷ slots) row there = go (contains_cases (Some row) None slots there) (placed_in_slot block (slot + 1) slots row)
  where
    go : (None ≡ Some row) ⊎ Contains slots (Some row) → (Contains slots (Some row) → IsPlaced block row (rows_from_slot block (slot + 1) slots)) → IsPlaced block row (rows_from_slot block (slot + 1) slots)
    go (inl e) more = cc
    go (inr c) more = more c
placed_in_slot block slot (Some first ∷ slots) row there = go (contains_cases (Some row) (Some first) slots there) (placed_in_slot block (slot + 1) slots row)
  where
    go : (Some first ≡ Some row) ⊎ Contains slots (Some row) → (Contains slots (Some row) → IsPlaced block row (rows_from_slot block (slot + 1) slots)) → IsPlaced block row (rows_from_slot block slot (Some first ∷ slots))
    go (inl e) more = record { placed = record { rid = record { block = block; slot = slot }; row = first }; there = (0, omega arith, refl); row_is = cc; block_is = refl }
    go (inr c) more = let r = more c in record {
      placed = r.placed;
      there = contains_more r.placed (record { rid = record { block = block; slot = slot }; row = first }) (rows_from_slot block (slot + 1) slots) r.there;
      row_is = r.row_is;
      block_is = r.block_is;
    }

pub slot_of_placed : (block slot : ℕ) (slots : List (Option Row)) (placed : PlacedRow) → Contains (rows_from_slot block slot slots) placed → Contains slots (Some placed.row) × (placed.rid.block ≡ block)
slot_of_placed block slot [] placed (k, l, e) = absurd (omega (arith, l))
slot_of_placed block slot (None ∷ slots) placed there =
    let r = slot_of_placed block (slot + 1) slots placed there in (contains_more (Some placed.row) None slots r.0, r.1)
slot_of_placed block slot (Some first ∷ slots) placed there =
    go (contains_cases placed (record { rid = record { block = block; slot = slot }; row = first }) (rows_from_slot block (slot + 1) slots) there) (slot_of_placed block (slot + 1) slots placed)
  where
    go : (record { rid = record { block = block; slot = slot }; row = first } ≡ placed) ⊎ Contains (rows_from_slot block (slot + 1) slots) placed
        → (Contains (rows_from_slot block (slot + 1) slots) placed → Contains slots (Some placed.row) × (placed.rid.block ≡ block)) → Contains (Some first ∷ slots) (Some placed.row) × (placed.rid.block ≡ block)
    go (inl e) more = ((0, omega arith, ap (λ (p : PlacedRow). Some p.row) e), ap (λ (p : PlacedRow). p.rid.block) (sym e))
    go (inr c) more = let r = more c in (contains_more (Some placed.row) (Some first) slots r.0, r.1)

-- ---- how many rows there are

-- one slot more
pub count_slot : (slot : Option Row) (slots : List (Option Row)) → count_rows (slot ∷ slots) ≡ cond (is_some slot) 1 0 + count_rows slots
count_slot slot slots = sum_by-cons (λ one. cond (is_some one) 1 0) slot slots

pub length-rows_from_slot : (block slot : ℕ) (slots : List (Option Row)) → length (rows_from_slot block slot slots) ≡ count_rows slots
length-rows_from_slot block slot [] = refl
length-rows_from_slot block slot (None ∷ slots) = length-rows_from_slot block (slot + 1) slots
length-rows_from_slot block slot (Some row ∷ slots) = let more : count_rows (Some row ∷ slots) ≡ 1 + count_rows slots = count_slot (Some row) slots in omega (arith, length-rows_from_slot block (slot + 1) slots, more)

-- slots with a row have one
pub some_row : (slots : List (Option Row)) → 0 < count_rows slots → (row : Row) × Contains slots (Some row)
some_row [] some = absurd (omega (arith, some))
some_row (Some row ∷ slots) some = (row, (0, omega arith, refl))
some_row (None ∷ slots) some =
    let none : count_rows (None ∷ slots) ≡ 0 + count_rows slots = count_slot None slots in
    let rest = some_row slots (omega (arith, some, none)) in (rest.0, contains_more (Some rest.0) None slots rest.1)

-- fewer rows than slots leave a slot empty, and an empty slot leaves fewer rows than slots
pub empty_slot : (slots : List (Option Row)) → count_rows slots < length slots → Contains slots None
empty_slot [] fewer = absurd (omega (arith, fewer))
empty_slot (None ∷ slots) fewer = (0, omega arith, refl)
empty_slot (Some row ∷ slots) fewer = contains_more None (Some row) slots (empty_slot slots (omega (arith, fewer, count_slot (Some row) slots)))

pub fewer_rows : (slots : List (Option Row)) → Contains slots None → count_rows slots < length slots
fewer_rows [] (k, l, e) = absurd (omega (arith, l))
fewer_rows (None ∷ slots) there = omega (arith, count_by-le-length is_some slots)
fewer_rows (Some row ∷ slots) there = go (contains_cases None (Some row) slots there) (fewer_rows slots)
  where
    go : (Some row ≡ None) ⊎ Contains slots None → (Contains slots None → count_rows slots < length slots) → count_rows (Some row ∷ slots) < suc (length slots)
    go (inl e) more = cc
    go (inr c) more = omega (arith, more c, count_slot (Some row) slots)
