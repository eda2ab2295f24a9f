-- The rules on the blocks of a table, where their pages are as they were.
use Rattle.std.proofs.Common.{◌≡◌, ◌<◌, ℕ, zero, suc, List, [], ◌∷◌, length, refl, ap, arith, sym, ◌∙◌, subst, inl, inr}
use Rattle.std.specs.Prelude.{AllPairs, Contains, map}
use Rattle.std.specs.List.{AllByRecursion, AllZip}
use Rattle.mdc_ast.specs.declared.definition.TableDef.{TableDef}
use Rattle.store_api.specs.declared.shape.Shape.{Shape}
use Rattle.extent_map.specs.Owners.{owner_of}
use Rattle.extent_map.specs.declared.kind.Kind.{Kind}
use Rattle.extent_map.specs.declared.kind.Kind.TheVariants.{Block}
use Rattle.row_page.specs.RowPage.{IsRowPage, rows_of}
use Rattle.entry_tree.specs.EntryBounds.{IsEntryOf}
use Rattle.entry_tree.specs.Forest.{Forest, leaf_entries}
use Rattle.mdc_words.specs.ByteOrder.{Entry}
use Rattle.block_map.specs.MapLines.{MapLine, map_line, map_lines, blocks_of_state, used_blocks}
use Rattle.block_map.proofs.MapLinesLemmas.{contains_more, named_in_state}
use Rattle.mdc_sound.specs.BlockRules.{AreBlockRowsSound, AreTableBlockIndexesSound, IsBlockIndexSound, IsOfOneCell, IsUsedCountSound}
use Rattle.table_trees.specs.RowCells.{AreOfOneCell}
use Rattle.mdc_ast.specs.FittingRows.{RowFits}
use Rattle.mdc_sound.specs.SpaceRules.{IsBlockMapSound, IsMapLineSound}
use Rattle.mdc_sound.specs.TableRows.{PlacedRow, rows_in_table}
use Rattle.mdc_sound.proofs.TableRowsLemmas.{KeepsBlockPages, rows_in_block-kept, rows_in_table-kept}
use Rattle.table_trees.specs.TableTrees.{cell_parts, rising_parts}
use Rattle.table_trees.specs.ToldPages.{PageList}

-- ---- what holds of each element

-- so it does of one, and another fact of each follows
pub each_of : {X : Type 0} (P : X → Type 0) (xs : List X) (x : X) → AllByRecursion P xs → Contains xs x → P x
each_of P [] x all (k, low, at) = absurd (omega (arith, low))
each_of P (y ∷ xs) x all (zero, low, at) = subst P at all.0
each_of P (y ∷ xs) x all (suc k, low, at) = each_of P xs x all.1 (k, omega (arith, low), at)

pub each_as : {X : Type 0} (P Q : X → Type 0) (xs : List X) → ((x : X) → Contains xs x → P x → Q x) → AllByRecursion P xs → AllByRecursion Q xs
each_as P Q [] turn all = tt
each_as P Q (x ∷ xs) turn all = (turn x (0, omega arith, refl) all.0, each_as P Q xs (λ y y_in. turn y (contains_more y x xs y_in)) all.1)

-- ---- the lines of a block map

-- what holds of each line holds of the line of each entry
pub line_at : (P : MapLine → Type 0) (entries : List Entry) (entry : Entry) → AllByRecursion P (map map_line entries) → IsEntryOf entry entries → P (map_line entry)
line_at P [] entry all there = absurd there
line_at P (first ∷ entries) entry all (inl e) = subst (λ x. P (map_line x)) (sym e) all.0
line_at P (first ∷ entries) entry all (inr later) = line_at P entries entry all.1 later

-- a block that is named in some state is one of the table
pub named_owned : (shape : Shape) (owners : List Kind) (def : TableDef) (map_tree : Forest) (state block : ℕ) → IsBlockMapSound shape owners def map_tree
    → Contains (blocks_of_state state map_tree) block → (block < shape.extents) × (owner_of owners block ≡ Block def.number)
named_owned shape owners def map_tree state block sound there =
    let named = named_in_state state (leaf_entries map_tree) block there in
    let line = line_at (IsMapLineSound shape owners def) (leaf_entries map_tree) named.entry sound.lines named.there in (
      subst (λ e. e < shape.extents) named.block_is line.within,
      subst (λ e. owner_of owners e ≡ Block def.number) named.block_is line.owned,
    )

-- ---- what stays

module _ (shape : Shape) (old new : PageList) (def : TableDef) (owners : List Kind) (map_tree : Forest) (sound : IsBlockMapSound shape owners def map_tree)
    (kept : (block : ℕ) → owner_of owners block ≡ Block def.number → KeepsBlockPages shape old new block) where
  pub used_kept : (block : ℕ) → Contains (used_blocks map_tree) block → KeepsBlockPages shape old new block
  used_kept block used = kept block (named_owned shape owners def map_tree 1 block sound used).1

  block_rows_kept : (block : ℕ) → KeepsBlockPages shape old new block → AreBlockRowsSound shape old def block → AreBlockRowsSound shape new def block
  block_rows_kept block stays was = record {
    forms = λ j low.
        subst (λ page. IsRowPage def.columns page (rows_of def.columns page)) (sym (stays.each j low)) (was.forms j low);
    rows = subst (AllByRecursion (λ (placed : PlacedRow). RowFits def placed.row)) (sym (rows_in_block-kept shape old new def block stays)) was.rows;
  }

  pub rows_kept : AllByRecursion (AreBlockRowsSound shape old def) (used_blocks map_tree) → AllByRecursion (AreBlockRowsSound shape new def) (used_blocks map_tree)
  rows_kept all = each_as (AreBlockRowsSound shape old def) (AreBlockRowsSound shape new def) (used_blocks map_tree) (λ block used was. block_rows_kept block (used_kept block used) was) all

  pub cells_kept : AllByRecursion (IsOfOneCell shape old def) (used_blocks map_tree) → AllByRecursion (IsOfOneCell shape new def) (used_blocks map_tree)
  cells_kept all =
      each_as (IsOfOneCell shape old def) (IsOfOneCell shape new def) (used_blocks map_tree)
      (λ block used was. subst (AllPairs (λ (a b : PlacedRow). AreOfOneCell def a.row.values b.row.values)) (sym (rows_in_block-kept shape old new def block (used_kept block used))) was) all

  counts_kept : (lines : List MapLine) → AllByRecursion (IsMapLineSound shape owners def) lines → AllByRecursion (IsUsedCountSound shape old def) lines → AllByRecursion (IsUsedCountSound shape new def) lines
  counts_kept [] owned was = tt
  counts_kept (line ∷ lines) owned was = (
    record {
      some_row = was.0.some_row;
      counted = λ used. was.0.counted used ∙ sym (ap length (rows_in_block-kept shape old new def line.block (kept line.block owned.0.owned)));
    },
    counts_kept lines owned.1 was.1,
  )

  pub used_counts_kept : AllByRecursion (IsUsedCountSound shape old def) (map_lines map_tree) → AllByRecursion (IsUsedCountSound shape new def) (map_lines map_tree)
  used_counts_kept was = counts_kept (map_lines map_tree) sound.lines was

  pub table_rows_kept : rows_in_table shape new def map_tree ≡ rows_in_table shape old def map_tree
  table_rows_kept = rows_in_table-kept shape old new def map_tree used_kept

  pub indexes_kept : (composite : Forest) (dims indexes : List Forest)
      → AreTableBlockIndexesSound shape old (record { def = def; map = map_tree; composite = composite; dims = dims; indexes = indexes })
      → AreTableBlockIndexesSound shape new (record { def = def; map = map_tree; composite = composite; dims = dims; indexes = indexes })
  indexes_kept composite dims indexes was = record {
    composite = subst (λ rows. IsBlockIndexSound def rows (cell_parts def) composite) (sym table_rows_kept) was.composite;
    dims = subst (λ rows. AllZip (λ dim index. IsBlockIndexSound def rows (rising_parts dim) index) def.dims dims) (sym table_rows_kept) was.dims;
  }

-- a block map names what it named, where the blocks of its table are the same
lines_kept : (shape : Shape) (owners owners_now : List Kind) (def : TableDef) (lines : List MapLine)
    → ((e : ℕ) → owner_of owners e ≡ Block def.number → owner_of owners_now e ≡ Block def.number)
    → AllByRecursion (IsMapLineSound shape owners def) lines → AllByRecursion (IsMapLineSound shape owners_now def) lines
lines_kept shape owners owners_now def lines still was =
    each_as (IsMapLineSound shape owners def) (IsMapLineSound shape owners_now def) lines
    (λ line there is. record { state = is.state; within = is.within; owned = still line.block is.owned }) was

pub block_map_kept : (shape : Shape) (owners owners_now : List Kind) (def : TableDef) (map_tree : Forest)
    → ((e : ℕ) → owner_of owners e ≡ Block def.number → owner_of owners_now e ≡ Block def.number)
    → ((e : ℕ) → owner_of owners_now e ≡ Block def.number → owner_of owners e ≡ Block def.number)
    → IsBlockMapSound shape owners def map_tree → IsBlockMapSound shape owners_now def map_tree
block_map_kept shape owners owners_now def map_tree still back was = record {
  entries = was.entries;
  lines = lines_kept shape owners owners_now def (map_lines map_tree) still was.lines;
  once_each = was.once_each;
  all_named = λ e low is. was.all_named e low (back e is);
}
