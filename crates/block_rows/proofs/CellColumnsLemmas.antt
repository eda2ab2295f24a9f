-- Columns of the cell: the values in them, by the bytes of a row.
use Rattle.std.proofs.Common.{◌≡◌, ◌<◌, ◌≤◌, ◌+◌, ◌-◌, ◌/◌, ◌%◌, ◌^◌, ℕ, zero, suc, Bool, true, false, List, [], ◌∷◌, length, map, take, drop, get_or, refl, ap, sym, ◌∙◌, arith, subst}
use Rattle.std.specs.Prelude.{◌==◌, unwrap_or}
use Rattle.std.specs.Int.{bit_at}
use Rattle.std.specs.Int.Bits.{bit_xor}
use Rattle.std.specs.List.{AllByRecursion}
use Rattle.std.proofs.lemmas.Bool.Decides.{nat_tests}
use Rattle.std.proofs.lemmas.List.{get_or-map, length-map}
use Rattle.std.proofs.lemmas.Nat.Bits.{bit_at-lt, bit_at_xor}
use Rattle.mdc_values.specs.declared.value.Value.TheVariants.{Null}
use Rattle.mdc_ast.specs.Definitions.{width}
use Rattle.mdc_ast.specs.Truth.{value_at}
use Rattle.mdc_ast.specs.declared.definition.ColumnDef.{ColumnDef}
use Rattle.mdc_ast.specs.TableLimits.{IsTableDef}
use Rattle.mdc_ast.specs.declared.definition.TableDef.{TableDef}
use Rattle.key_codec.proofs.KeyLemmas.{first_there}
use Rattle.table_trees.specs.TableTrees.{AreIndexParts, rising_parts}
use Rattle.table_trees.proofs.TableTreesLemmas.{AreColumns}
use Rattle.mdc_sound.proofs.DefinitionTreesLemmas.{has_block_indexes}
use Rattle.row_page.specs.Row.{column_value, nulls_in, row_in, row_width_of, value_or_null}
use Rattle.row_page.proofs.RowLemmas.{get-row_in, row_width_of-ge, row_width_of-take_more, stored_bytes-take}
use Rattle.block_rows.specs.CellColumns.{IsCellColumn}
use Rattle.block_rows.specs.declared.cell_columns.CellColumn.{CellColumn}

-- ---- null bits

-- a bit in which two numbers don't differ
pub same_bit : (nulls others a b i : ℕ) → nulls ≡ a → others ≡ b → (bit_xor nulls others / 2 ^ i % 2 ≡ 1 → ⊥) → bit_at a i ≡ bit_at b i
same_bit nulls others a b i is also other =
    let zero : bit_at (bit_xor nulls others) i ≡ 0 = omega (arith, other, bit_at-lt (bit_xor nulls others) i) in
    omega (arith, bit_at_xor nulls others i, zero, bit_at-lt nulls i, bit_at-lt others i, ap (λ n. bit_at n i) is, ap (λ n. bit_at n i) also)

-- ---- one column

-- one column more
width_more : (columns : List ColumnDef) (i : ℕ) (d : ColumnDef) → i < length columns → row_width_of (take (suc i) columns) ≡ row_width_of (take i columns) + width (get_or columns i d).ty
width_more [] i d low = absurd (omega (arith, low))
width_more (column ∷ columns) zero d low = omega arith
width_more (column ∷ columns) (suc i) d low =
    omega (arith, width_more columns i d (omega (arith, low)), row_width_of-ge (take (suc i) columns), row_width_of-ge (take i columns))

row_width_of-next : (columns : List ColumnDef) (i : ℕ) (d : ColumnDef) → i < length columns → row_width_of (take (i + 1) columns) ≡ row_width_of (take i columns) + width (get_or columns i d).ty
row_width_of-next columns i d low = let more : i + 1 ≡ suc i = omega arith in ap (λ n. row_width_of (take n columns)) more ∙ width_more columns i d low

-- an element of a list that has one
pub element_of : {X : Type 0} (xs : List X) (i : ℕ) → i < length xs → X
element_of [] i low = absurd (omega (arith, low))
element_of (x ∷ xs) i low = x

module _ (columns : List ColumnDef) (column : CellColumn) (is : IsCellColumn columns column) where
  d : ColumnDef
  d = element_of columns column.place is.there

  -- its bytes end behind its width
  pub column_end : column.end ≡ column.start + width column.ty
  column_end = is.end ∙ (row_width_of-next columns column.place d is.there ∙ (ap (λ n. n + width (get_or columns column.place d).ty) (sym is.start) ∙ ap (λ t. column.start + width t) (sym (is.ty d))))

  -- within the row
  pub column_within : column.end ≤ row_width_of columns
  column_within = omega (arith, column_end, is.start, ap width (is.ty d), row_width_of-take_more columns column.place d is.there)

  -- the value in it
  pub value_in_column : (row : List ℕ) → value_at (row_in columns row).values column.place ≡ value_or_null (nulls_in row / 2 ^ column.place % 2 == 1) column.ty (take (width column.ty) (drop column.start row))
  value_in_column row =
      ap (λ found. unwrap_or found Null) (get-row_in columns column.place d row is.there)
      ∙ (ap (value_or_null (nulls_in row / 2 ^ column.place % 2 == 1) (get_or columns column.place d).ty) (stored_bytes-take columns column.place d row is.there)
      ∙ (ap (λ t. value_or_null (nulls_in row / 2 ^ column.place % 2 == 1) t (take (width t) (drop (row_width_of (take column.place columns)) row))) (sym (is.ty d))
      ∙ ap (λ n. value_or_null (nulls_in row / 2 ^ column.place % 2 == 1) column.ty (take (width column.ty) (drop n row))) (sym is.start)))

  -- it is null, or isn't
  pub null_in_column : (row : List ℕ) (nulls : ℕ) → nulls ≡ nulls_in row → nulls / 2 ^ column.place % 2 ≡ 1 → value_at (row_in columns row).values column.place ≡ Null
  null_in_column row nulls are one =
      let bit : (nulls_in row / 2 ^ column.place % 2 == 1) ≡ true = rw (← are) (grind (arith, nat_tests)) in
      value_in_column row ∙ ap (λ b. value_or_null b column.ty (take (width column.ty) (drop column.start row))) bit

  pub read_in_column : (row : List ℕ) (nulls : ℕ) → nulls ≡ nulls_in row → (nulls / 2 ^ column.place % 2 ≡ 1 → ⊥) → value_at (row_in columns row).values column.place ≡ column_value column.ty (take (width column.ty) (drop column.start row))
  read_in_column row nulls are other =
      let bit : (nulls_in row / 2 ^ column.place % 2 == 1) ≡ false = rw (← are) (grind (arith, nat_tests)) in
      value_in_column row ∙ ap (λ b. value_or_null b column.ty (take (width column.ty) (drop column.start row))) bit

  -- it is the same in rows that are alike there
  pub same_in_column : (first second : List ℕ) → bit_at (nulls_in first) column.place ≡ bit_at (nulls_in second) column.place
      → column_value column.ty (take (column.end - column.start) (drop column.start first)) ≡ column_value column.ty (take (column.end - column.start) (drop column.start second))
      → value_at (row_in columns first).values column.place ≡ value_at (row_in columns second).values column.place
  same_in_column first second bits same =
      let wide : column.end - column.start ≡ width column.ty = omega (arith, column_end) in
      let alike : column_value column.ty (take (width column.ty) (drop column.start first)) ≡ column_value column.ty (take (width column.ty) (drop column.start second)) =
      subst (λ k. column_value column.ty (take k (drop column.start first)) ≡ column_value column.ty (take k (drop column.start second))) wide same in
      value_in_column first
      ∙ (ap (λ bit. value_or_null (bit == 1) column.ty (take (width column.ty) (drop column.start first))) bits
      ∙ (both_null (bit_at (nulls_in second) column.place == 1) _ _ alike ∙ sym (value_in_column second)))
    where
      both_null : (null : Bool) (one other : List ℕ) → column_value column.ty one ≡ column_value column.ty other → value_or_null null column.ty one ≡ value_or_null null column.ty other
      both_null true one other same = refl
      both_null false one other same = same

-- ---- all of them

-- the places of a dimension are there
there_of : (columns : List ColumnDef) (places : List ℕ) → AreColumns columns (rising_parts places) → AllByRecursion (λ place. place < length columns) places
there_of columns [] there = tt
there_of columns (place ∷ places) there =
    let split = first_there columns (record { column = place; descending = false }) (rising_parts places) there in
    (grind (arith, nat_tests, split.0), there_of columns places split.1)

each_there : (columns : List ColumnDef) (dims : List (List ℕ)) (i : ℕ) (dim : List ℕ) → AllByRecursion (λ dim. AreIndexParts columns (rising_parts dim)) dims → i < length dims → dim ≡ get_or dims i dim
    → AllByRecursion (λ place. place < length columns) dim
each_there columns [] i dim all low at = absurd (omega (arith, low))
each_there columns (first ∷ dims) zero dim all low at = subst (AllByRecursion (λ place. place < length columns)) (sym at) (there_of columns first all.0.key.there)
each_there columns (first ∷ dims) (suc i) dim all low at = each_there columns dims i dim all.1 (omega (arith, low)) at

pub dimension_there : (def : TableDef) (items : List (List ℕ)) (i : ℕ) (dim : List ℕ) → IsTableDef def.number def → items ≡ def.dims → i < length items → dim ≡ get_or items i dim
    → AllByRecursion (λ place. place < length def.columns) dim
dimension_there def items i dim is same low at =
    each_there def.columns items i dim (subst (AllByRecursion (λ dim. AreIndexParts def.columns (rising_parts dim))) (sym same) (has_block_indexes def.number def is).dimensions) low at

-- an element of equal lists, of which one is mapped twice
pub same_at : {X V : Type 0} (f : ℕ → V) (g : X → ℕ) (values : List V) (xs : List X) (i : ℕ) (value : V) (d : X) → values ≡ map f (map g xs) → i < length xs → value ≡ get_or values i value
    → value ≡ f (g (get_or xs i d))
same_at f g values xs i value d all low at =
    at ∙ (ap (λ l. get_or l i value) all ∙ (get_or-map f (map g xs) i (g d) value (omega (arith, low, length-map xs g)) ∙ ap f (get_or-map g xs i d (g d) low)))
