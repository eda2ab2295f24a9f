-- The rows of blocks whose pages are as they were.
use Rattle.std.proofs.Common.{◌≡◌, ◌<◌, ◌≤◌, ◌+◌, ℕ, zero, suc, List, [], ◌∷◌, refl, ap, arith}
use Rattle.std.specs.Prelude.{Contains, flat_map}
use Rattle.std.specs.List.{range_with_len}
use Rattle.mdc_ast.specs.declared.definition.TableDef.{TableDef}
use Rattle.store_api.specs.declared.shape.Shape.{Shape}
use Rattle.row_page.specs.RowPage.{rows_of}
use Rattle.entry_tree.specs.Forest.{Forest}
use Rattle.table_trees.specs.ToldPages.{PageList}
use Rattle.block_map.specs.MapLines.{used_blocks}
use Rattle.block_map.proofs.MapLinesLemmas.{contains_more}
use Rattle.mdc_sound.specs.TableRows.{block_page, block_slots, rows_from_slot, rows_in_block, rows_in_table}

-- functions that agree on the numbers of a range
flat_map_range : {A : Type 0} (f h : ℕ → List A) (a n : ℕ) → ((k : ℕ) → a ≤ k → k < a + n → f k ≡ h k) → flat_map f (range_with_len a n) ≡ flat_map h (range_with_len a n)
flat_map_range f h a zero same = refl
flat_map_range f h a (suc n) same =
    let first : f a ≡ h a = same a (omega arith) (omega arith) in
    let rest : flat_map f (range_with_len (a + 1) n) ≡ flat_map h (range_with_len (a + 1) n) =
    flat_map_range f h (a + 1) n (λ k low high. same k (omega (arith, low)) (omega (arith, high))) in
    cc (first, rest)

-- and on the elements of a list
pub flat_map_members : {X A : Type 0} (f h : X → List A) (xs : List X) → ((x : X) → Contains xs x → f x ≡ h x) → flat_map f xs ≡ flat_map h xs
flat_map_members f h [] same = refl
flat_map_members f h (x ∷ xs) same =
    let first : f x ≡ h x = same x (0, omega arith, refl) in
    let rest : flat_map f xs ≡ flat_map h xs = flat_map_members f h xs (λ y y_in. same y (contains_more y x xs y_in)) in
    cc (first, rest)

-- each page of a block is as it was
pub record KeepsBlockPages (shape : Shape) (old new : PageList) (block : ℕ) : Type 0 where
  pub each : (j : ℕ) → j < shape.extent_pages → block_page shape new block j ≡ block_page shape old block j

module _ (shape : Shape) (old new : PageList) (def : TableDef) where
  pub block_slots-kept : (block : ℕ) → KeepsBlockPages shape old new block → block_slots shape new def block ≡ block_slots shape old def block
  block_slots-kept block kept =
      flat_map_range (λ j. rows_of def.columns (block_page shape new block j)) (λ j. rows_of def.columns (block_page shape old block j)) 0 shape.extent_pages
      (λ j low high. ap (rows_of def.columns) (kept.each j (omega (arith, high))))

  pub rows_in_block-kept : (block : ℕ) → KeepsBlockPages shape old new block → rows_in_block shape new def block ≡ rows_in_block shape old def block
  rows_in_block-kept block kept = ap (rows_from_slot block 0) (block_slots-kept block kept)

  pub rows_in_table-kept : (map_tree : Forest) → ((block : ℕ) → Contains (used_blocks map_tree) block → KeepsBlockPages shape old new block)
      → rows_in_table shape new def map_tree ≡ rows_in_table shape old def map_tree
  rows_in_table-kept map_tree kept =
      flat_map_members (rows_in_block shape new def) (rows_in_block shape old def) (used_blocks map_tree) (λ block used. rows_in_block-kept block (kept block used))
