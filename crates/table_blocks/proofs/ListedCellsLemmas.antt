-- A block is listed alike under the values of all rows of its cell.
use Rattle.std.proofs.Common.{◌≡◌, ℕ, List, [], ◌∷◌, map, ap, sym, ◌∙◌, subst}
use Rattle.std.specs.List.{AllZip}
use Rattle.mdc_values.specs.declared.value.Value.{Value}
use Rattle.mdc_ast.specs.declared.definition.KeyPart.{KeyPart}
use Rattle.mdc_ast.specs.declared.definition.TableDef.{TableDef}
use Rattle.entry_tree.specs.EntryBounds.{IsEntryOf}
use Rattle.entry_tree.specs.Forest.{Forest, leaf_entries}
use Rattle.table_trees.specs.RowCells.{cell_places}
use Rattle.table_trees.specs.TableTrees.{block_entry, cell_parts, rising_parts}
use Rattle.block_index.specs.Cells.{dimension_entries, entry_under, key_of_values}
use Rattle.block_index.proofs.CellsLemmas.{dimension_entries-row, key_of_values-row}
use Rattle.table_trees.specs.RowCells.{AreOfOneCell}
use Rattle.mdc_sound.specs.StandingTable.{TableForests}
use Rattle.table_blocks.specs.BlockNow.{IsListedInEach, IsListedIn, IsUnlisted, IsUnlistedIn}

listed_under : (def : TableDef) (parts : List KeyPart) (a b : List Value) (block : ℕ) (index : Forest) → block_entry def.columns parts a block ≡ block_entry def.columns parts b block
    → IsListedIn def parts a block index → IsListedIn def parts b block index
listed_under def parts a b block index same listed = record {
  has = subst (λ y. IsEntryOf y (leaf_entries index)) same listed.has;
  only = λ y at names. listed.only y at names ∙ same;
}

listed_under_each : (def : TableDef) (a b : List Value) (block : ℕ) (dims : List (List ℕ)) (indexes : List Forest)
    → map (λ dim. block_entry def.columns (rising_parts dim) a block) dims ≡ map (λ dim. block_entry def.columns (rising_parts dim) b block) dims
    → AllZip (λ dim index. IsListedIn def (rising_parts dim) a block index) dims indexes → AllZip (λ dim index. IsListedIn def (rising_parts dim) b block index) dims indexes
listed_under_each def a b block [] [] same listed = tt
listed_under_each def a b block [] (index ∷ indexes) same listed = absurd listed
listed_under_each def a b block (dim ∷ dims) [] same listed = absurd listed
listed_under_each def a b block (dim ∷ dims) (index ∷ indexes) same listed =
    let first : block_entry def.columns (rising_parts dim) a block ≡ block_entry def.columns (rising_parts dim) b block = cc in
    let rest : map (λ d. block_entry def.columns (rising_parts d) a block) dims ≡ map (λ d. block_entry def.columns (rising_parts d) b block) dims = cc in
    (listed_under def (rising_parts dim) a b block index first listed.0, listed_under_each def a b block dims indexes rest listed.1)

pub listed_in_cell : (def : TableDef) (forests : TableForests) (a b : List Value) (block : ℕ) → AreOfOneCell def a b → IsListedInEach def forests a block → IsListedInEach def forests b block
listed_in_cell def forests a b block same listed = record {
  composite =
      let key_is = sym (key_of_values-row def.columns (cell_places def) a) ∙ ap (key_of_values def.columns (cell_places def)) same ∙ key_of_values-row def.columns (cell_places def) b in
      listed_under def (cell_parts def) a b block forests.composite (ap (λ key. entry_under key block) key_is) listed.composite;
  dims =
      let entries_are = sym (dimension_entries-row def.columns def.dims a block) ∙ ap (λ vs. dimension_entries def.columns def.dims vs block) same ∙ dimension_entries-row def.columns def.dims b block in
      listed_under_each def a b block def.dims forests.dims entries_are listed.dims;
}

-- where the indexes are as they were
pub listed_still : (def : TableDef) (forests forests_now : TableForests) (values : List Value) (block : ℕ) → forests_now.composite ≡ forests.composite → forests_now.dims ≡ forests.dims
    → IsListedInEach def forests values block → IsListedInEach def forests_now values block
listed_still def forests forests_now values block composite dims listed = record {
  composite = subst (λ (index : Forest). IsListedIn def (cell_parts def) values block index) (sym composite) listed.composite;
  dims = subst (λ (indexes : List Forest). AllZip (λ dim index. IsListedIn def (rising_parts dim) values block index) def.dims indexes) (sym dims) listed.dims;
}

pub unlisted_still : (def : TableDef) (forests forests_now : TableForests) (block : ℕ) → forests_now.composite ≡ forests.composite → forests_now.dims ≡ forests.dims → IsUnlisted def forests block → IsUnlisted def forests_now block
unlisted_still def forests forests_now block composite dims unlisted = record {
  composite = subst (λ (index : Forest). IsUnlistedIn def (cell_parts def) block index) (sym composite) unlisted.composite;
  dims = subst (λ (indexes : List Forest). AllZip (λ dim index. IsUnlistedIn def (rising_parts dim) block index) def.dims indexes) (sym dims) unlisted.dims;
}
