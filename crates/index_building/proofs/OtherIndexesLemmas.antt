-- A table with other record indexes: what the rules say of its blocks and of each of its indexes speaks of none of the others.
use Rattle.std.proofs.Common.{ℕ, List, [], ◌∷◌}
use Rattle.std.specs.List.{AllByRecursion, AllZip}
use Rattle.mdc_ast.specs.FittingRows.{RowFits}
use Rattle.mdc_ast.specs.TableLimits.{AreTableIndexes, IsTableDef}
use Rattle.mdc_ast.specs.declared.definition.IndexDef.{IndexDef}
use Rattle.mdc_ast.specs.declared.definition.KeyPart.{KeyPart}
use Rattle.mdc_ast.specs.declared.definition.TableDef.{TableDef}
use Rattle.store_api.specs.declared.shape.Shape.{Shape}
use Rattle.extent_map.specs.declared.kind.Kind.{Kind}
use Rattle.entry_tree.specs.Forest.{Forest}
use Rattle.block_map.specs.MapLines.{MapLine, map_lines}
use Rattle.table_trees.specs.TableTrees.{cell_parts, rising_parts}
use Rattle.table_trees.specs.ToldPages.{PageList}
use Rattle.mdc_sound.specs.BlockRules.{AreBlockRowsSound, AreRowNumbersSound, AreTableBlockIndexesSound, IsBlockIndexSound, IsSoundIndex, IsUsedCountSound}
use Rattle.mdc_sound.specs.SpaceRules.{IsBlockMapSound, IsMapLineSound}
use Rattle.mdc_sound.specs.TableRows.{PlacedRow, rows_in_block, rows_in_table}
use Rattle.mdc_sound.proofs.BlockRulesLemmas.{each_as}

-- the definition with these record indexes
abbrev pub with_indexes : TableDef → List IndexDef → TableDef
with_indexes def indexes = record def { indexes = indexes }

pub limits_other : (t : ℕ) (def : TableDef) (indexes : List IndexDef) → AreTableIndexes def.columns indexes → IsTableDef t def → IsTableDef t (with_indexes def indexes)
limits_other t def indexes are is = record {
  stands = is.stands;
  name = is.name;
  columns = is.columns;
  dims = is.dims;
  indexes = are;
  next = is.next;
  roots = is.roots;
}

module _ (shape : Shape) (pages : PageList) (def : TableDef) (indexes : List IndexDef) where
  pub map_other : (owners : List Kind) (map_tree : Forest) → IsBlockMapSound shape owners def map_tree → IsBlockMapSound shape owners (with_indexes def indexes) map_tree
  map_other owners map_tree is = record {
    entries = is.entries;
    lines = each_as (IsMapLineSound shape owners def) (IsMapLineSound shape owners (with_indexes def indexes)) (map_lines map_tree)
        (λ line there at. record { state = at.state; within = at.within; owned = at.owned }) is.lines;
    once_each = is.once_each;
    all_named = is.all_named;
  }

  pub rows_other : (blocks : List ℕ) → AllByRecursion (AreBlockRowsSound shape pages def) blocks → AllByRecursion (AreBlockRowsSound shape pages (with_indexes def indexes)) blocks
  rows_other blocks all = each_as (AreBlockRowsSound shape pages def) (AreBlockRowsSound shape pages (with_indexes def indexes)) blocks
      (λ block there at. record {
        forms = at.forms;
        rows = each_as (λ (placed : PlacedRow). RowFits def placed.row) (λ (placed : PlacedRow). RowFits (with_indexes def indexes) placed.row) (rows_in_block shape pages def block)
            (λ placed in_block fits. record { values = fits.values; generated = fits.generated }) at.rows;
      }) all

  pub counts_other : (lines : List MapLine) → AllByRecursion (IsUsedCountSound shape pages def) lines → AllByRecursion (IsUsedCountSound shape pages (with_indexes def indexes)) lines
  counts_other lines all = each_as (IsUsedCountSound shape pages def) (IsUsedCountSound shape pages (with_indexes def indexes)) lines (λ line there at. record { some_row = at.some_row; counted = at.counted }) all

  index_other : (rows : List PlacedRow) (parts : List KeyPart) (index : Forest) → IsBlockIndexSound def rows parts index → IsBlockIndexSound (with_indexes def indexes) rows parts index
  index_other rows parts index is = record { has = is.has; only = is.only }

  dims_other : (rows : List PlacedRow) (dims : List (List ℕ)) (trees : List Forest) → AllZip (λ dim index. IsBlockIndexSound def rows (rising_parts dim) index) dims trees
      → AllZip (λ dim index. IsBlockIndexSound (with_indexes def indexes) rows (rising_parts dim) index) dims trees
  dims_other rows [] [] all = tt
  dims_other rows [] (index ∷ trees) all = absurd all
  dims_other rows (dim ∷ dims) [] all = absurd all
  dims_other rows (dim ∷ dims) (index ∷ trees) all = (index_other rows (rising_parts dim) index all.0, dims_other rows dims trees all.1)

  -- its block indexes, whatever the trees of its record indexes are
  pub block_indexes_other : (map composite : Forest) (dims trees others : List Forest)
      → AreTableBlockIndexesSound shape pages (record { def = def; map = map; composite = composite; dims = dims; indexes = trees })
      → AreTableBlockIndexesSound shape pages (record { def = with_indexes def indexes; map = map; composite = composite; dims = dims; indexes = others })
  block_indexes_other map composite dims trees others is = record {
    composite = index_other (rows_in_table shape pages def map) (cell_parts def) composite is.composite;
    dims = dims_other (rows_in_table shape pages def map) def.dims dims is.dims;
  }

  -- a record index of it
  pub sound_index_other : (rows : List PlacedRow) (pending : List ℕ) (index : IndexDef) (tree : Forest) → IsSoundIndex def rows pending index tree → IsSoundIndex (with_indexes def indexes) rows pending index tree
  sound_index_other rows pending index tree is = record { has = is.has; only = is.only }

  pub sound_indexes_other : (rows : List PlacedRow) (pending : List ℕ) (some : List IndexDef) (trees : List Forest) → AllZip (IsSoundIndex def rows pending) some trees
      → AllZip (IsSoundIndex (with_indexes def indexes) rows pending) some trees
  sound_indexes_other rows pending [] [] all = tt
  sound_indexes_other rows pending [] (tree ∷ trees) all = absurd all
  sound_indexes_other rows pending (index ∷ some) [] all = absurd all
  sound_indexes_other rows pending (index ∷ some) (tree ∷ trees) all = (sound_index_other rows pending index tree all.0, sound_indexes_other rows pending some trees all.1)

  pub numbers_other : (rows : List PlacedRow) → AreRowNumbersSound def rows → AreRowNumbersSound (with_indexes def indexes) rows
  numbers_other rows is = record { below_next = is.below_next; differ = is.differ }
