-- The values of a cell, as they are copied one after the other.
use Rattle.std.proofs.Common.{◌≡◌, ℕ, ◌+◌, ◌<◌, ◌≤◌, List, [], ◌∷◌, ◌++◌, length, get_or, sym, ap, subst, ◌∙◌, add-one, append_assoc, append-nil, drop, drop-cons}
use Rattle.std.specs.Prelude.{map}
use Rattle.std.proofs.lemmas.List.{drop_all, map-append}
use Rattle.mdc_values.specs.declared.value.Value.{Value}
use Rattle.mdc_ast.specs.Truth.{value_at}
use Rattle.mdc_ast.specs.declared.definition.ColumnDef.{ColumnDef}
use Rattle.table_trees.proofs.TableTreesLemmas.{places_in}
use Rattle.block_index.specs.Cells.{HaveKeys}

-- the places that are left, and what the cell becomes with them
pub record IsCopiedSo (columns : List ColumnDef) (values : List Value) (whole : List Value) (places : List ℕ) (cell : List Value) : Type 0 where
  pub keys : HaveKeys columns places values
  pub copies : cell ++ map (value_at values) places ≡ whole

-- with none left the cell is the whole
pub all_dims_copied : (columns : List ColumnDef) (values whole : List Value) (items : List (List ℕ)) (i : ℕ) (cell : List Value) → IsCopiedSo columns values whole (places_in (drop i items)) cell → length items ≤ i → cell ≡ whole
all_dims_copied columns values whole items i cell is end =
    let none : drop i items ≡ [] = drop_all i items end in
    sym (append-nil cell) ∙ ap (λ ds. cell ++ map (value_at values) (places_in ds)) (sym none) ∙ is.copies

-- ---- a loop over the dimensions

keys_front : (columns : List ColumnDef) (first second : List ℕ) (values : List Value) → HaveKeys columns (first ++ second) values → HaveKeys columns first values
keys_front columns [] second values keys = tt
keys_front columns (place ∷ first) second values keys = (keys.0, keys_front columns first second values keys.1)

keys_behind : (columns : List ColumnDef) (first second : List ℕ) (values : List Value) → HaveKeys columns (first ++ second) values → HaveKeys columns second values
keys_behind columns [] second values keys = keys
keys_behind columns (place ∷ first) second values keys = keys_behind columns first second values keys.1

module _ (columns : List ColumnDef) (values : List Value) (whole : List Value) (items : List (List ℕ)) (i : ℕ) (dim : List ℕ) (here : dim ≡ get_or items i dim) (within : i < length items) (cell : List Value)
    (is : IsCopiedSo columns values whole (places_in (drop i items)) cell) where
  dims_left : places_in (drop i items) ≡ dim ++ places_in (drop (i + 1) items)
  dims_left =
      let left : drop i items ≡ dim ∷ drop (i + 1) items = rw (add-one i) (drop-cons items i dim within) ∙ ap (λ d. d ∷ drop (i + 1) items) (sym here) in
      ap places_in left

  dims_keys : HaveKeys columns (dim ++ places_in (drop (i + 1) items)) values
  dims_keys = subst (λ ps. HaveKeys columns ps values) dims_left is.keys

  pub dim_copied_keys : HaveKeys columns dim values
  dim_copied_keys = keys_front columns dim (places_in (drop (i + 1) items)) values dims_keys

  pub dim_copied_next : (cell_now : List Value) → cell_now ≡ cell ++ map (value_at values) dim → IsCopiedSo columns values whole (places_in (drop (i + 1) items)) cell_now
  dim_copied_next cell_now now = record {
    keys = keys_behind columns dim (places_in (drop (i + 1) items)) values dims_keys;
    copies =
        let rest = map (value_at values) (places_in (drop (i + 1) items)) in
        let part = map (value_at values) dim in
        let step : map (value_at values) (places_in (drop i items)) ≡ part ++ rest = ap (map (value_at values)) dims_left ∙ map-append (value_at values) dim (places_in (drop (i + 1) items)) in
        ap (λ c. c ++ rest) now ∙ (append_assoc cell part rest ∙ (ap (λ b. cell ++ b) (sym step) ∙ is.copies));
  }
