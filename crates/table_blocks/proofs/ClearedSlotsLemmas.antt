-- Slots of a block of which one was emptied: how many rows are left, and which.
use Rattle.std.proofs.Common.{◌≡◌, ◌<◌, ◌+◌, ℕ, zero, suc, List, [], ◌∷◌, true, false, refl, ap, arith, cond, length, ◌⊎◌, inl, inr}
use Rattle.std.specs.Prelude.{Contains, Option, Some, None, is_none, is_some, slice_index_or, slice_set}
use Rattle.std.specs.List.{list_all}
use Rattle.std.proofs.lemmas.Bool.{cases_lt}
use Rattle.std.proofs.lemmas.List.{get_or_past}
use Rattle.std.proofs.lemmas.List.Sums.{sum_by-set}
use Rattle.mdc_values.specs.declared.value.Value.{Value}
use Rattle.mdc_ast.specs.declared.definition.TableDef.{TableDef}
use Rattle.mdc_ast.specs.declared.row.Row.{Row}
use Rattle.row_page.specs.RowPage.{count_rows}
use Rattle.block_map.proofs.MapLinesLemmas.{contains_cases, contains_more}
use Rattle.mdc_sound.proofs.SlotRowsLemmas.{count_slot}
use Rattle.mdc_sound.specs.Placing.{left_with}
use Rattle.mdc_sound.specs.Placing.Spot.{FreeBlock, UsedBlock}
use Rattle.table_blocks.specs.BlockNow.{AreOfCell}

-- ---- how many rows there are

-- a row lies within the slots
row_within : (slots : List (Option Row)) (slot : ℕ) (row : Row) → slice_index_or slots slot None ≡ Some row → slot < length slots
row_within slots slot row at = elim (cases_lt slot (length slots)) [
  | inl low ↦ low
  | inr past ↦ let none : slice_index_or slots slot None ≡ None = get_or_past slots slot None past in absurd (cc)
]

pub count_cleared : (slots : List (Option Row)) (slot : ℕ) (row : Row) → slice_index_or slots slot None ≡ Some row → count_rows (slice_set slots slot None) + 1 ≡ count_rows slots
count_cleared slots slot row at =
    let sums = sum_by-set (λ (s : Option Row). cond (is_some s) 1 0) slots slot None None (row_within slots slot row at) in
    let filled : ℕ = cond (is_some (slice_index_or slots slot None)) 1 0 in
    let one : filled ≡ 1 = ap (λ (s : Option Row). cond (is_some s) 1 0) at in
    omega (arith, sums, one)

-- ---- what the block is then

none_left : (slots : List (Option Row)) → count_rows slots ≡ 0 → list_all is_none slots ≡ true
none_left [] none = refl
none_left (None ∷ slots) none = none_left slots none
none_left (Some row ∷ slots) none = absurd (omega (arith, none, count_slot (Some row) slots))

some_left : (slots : List (Option Row)) → 0 < count_rows slots → list_all is_none slots ≡ false
some_left [] some = absurd (omega (arith, some))
some_left (None ∷ slots) some = some_left slots some
some_left (Some row ∷ slots) some = refl

pub left_free : (slots : List (Option Row)) → count_rows slots ≡ 0 → left_with slots ≡ FreeBlock
left_free slots none = ap (λ b. cond b FreeBlock (UsedBlock slots)) (none_left slots none)

pub left_used : (slots : List (Option Row)) → 0 < count_rows slots → left_with slots ≡ UsedBlock slots
left_used slots some = ap (λ b. cond b FreeBlock (UsedBlock slots)) (some_left slots some)

-- ---- which rows they are

pub row_there : (slots : List (Option Row)) (slot : ℕ) (row : Row) → slice_index_or slots slot None ≡ Some row → Contains slots (Some row)
row_there [] slot row at = absurd cc
row_there (first ∷ slots) zero row at = (0, omega arith, at)
row_there (first ∷ slots) (suc slot) row at = contains_more (Some row) first slots (row_there slots slot row at)

was_there : (slots : List (Option Row)) (slot : ℕ) (row : Row) → Contains (slice_set slots slot None) (Some row) → Contains slots (Some row)
was_there [] slot row there = there
was_there (first ∷ slots) zero row there = go (contains_cases (Some row) None slots there)
  where
    go : (None ≡ Some row) ⊎ Contains slots (Some row) → Contains (first ∷ slots) (Some row)
    go (inl e) = absurd cc
    go (inr c) = contains_more (Some row) first slots c
was_there (first ∷ slots) (suc slot) row there = go (contains_cases (Some row) first (slice_set slots slot None) there) (was_there slots slot row)
  where
    go : (first ≡ Some row) ⊎ Contains (slice_set slots slot None) (Some row) → (Contains (slice_set slots slot None) (Some row) → Contains slots (Some row)) → Contains (first ∷ slots) (Some row)
    go (inl e) more = (0, omega arith, e)
    go (inr c) more = contains_more (Some row) first slots (more c)

-- they are still of one cell
pub cleared_cell : (def : TableDef) (values : List Value) (slots : List (Option Row)) (slot : ℕ) → 0 < count_rows (slice_set slots slot None) → AreOfCell def values slots → AreOfCell def values (slice_set slots slot None)
cleared_cell def values slots slot some are = record {
  some = some;
  fit = λ row there. are.fit row (was_there slots slot row there);
  one_cell = λ row there. are.one_cell row (was_there slots slot row there);
}
