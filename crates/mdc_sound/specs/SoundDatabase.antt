-- When the pages of a database are sound: the twelve rules, and what they make up (docs/FORMAT.md, "Rules").
use Rattle.std.specs.Prelude.{◌≡◌, ◌+◌, Some, slice_get, slice_set}
use Rattle.mdc_ast.specs.declared.definition.TableDef.{TableDef}
use Rattle.store_api.specs.declared.shape.Shape.{Shape}
use Rattle.table_trees.specs.ToldPages.{PageList}
use Rattle.mdc_sound.specs.BlockRules.{AreRowPagesSound, AreUsedCountsSound, AreIdleCountsSound, AreCellsSound, AreBlockIndexesSound, AreSoundIndexes, AreNumbersSound, AreOtherKeysSound, AreUniqueKeysSound}
use Rattle.mdc_sound.specs.SpaceRules.{DatabaseView, IsRootSound, IsMapSound, AreTablePagesSound, AreTreesSound, AreTreePagesSound, AreBlockMapsSound}
use Rattle.table_page.specs.TablePage.{table_page}
use Rattle.mdc_sound.specs.TableViews.{TableView}

-- ---- the twelve rules

-- 8: each Used block has a row and is counted right, and any other block has no row in the block map
pub record AreCountsSound (shape : Shape) (pages : PageList) (view : DatabaseView) : Type 0 where
  pub used : AreUsedCountsSound shape pages view
  pub idle : AreIdleCountsSound view

-- 12: row numbers differ and lie below the next one, and UNIQUE indexes have no two rows of equal key
pub record AreKeysSound (shape : Shape) (pages : PageList) (view : DatabaseView) : Type 0 where
  pub numbers : AreNumbersSound shape pages view
  pub unique : AreUniqueKeysSound shape pages view

-- the first ten rules, which say nothing of record indexes, row numbers and unique keys
pub record KeepFirstRules (shape : Shape) (pages : PageList) (view : DatabaseView) : Type 0 where
  pub rule1 : IsRootSound shape pages
  pub rule2 : IsMapSound shape pages view.owners
  pub rule3 : AreTablePagesSound shape pages view
  pub rule4 : AreTreesSound pages view
  pub rule5 : AreTreePagesSound shape view
  pub rule6 : AreBlockMapsSound shape view
  pub rule7 : AreRowPagesSound shape pages view
  pub rule8 : AreCountsSound shape pages view
  pub rule9 : AreCellsSound shape pages view
  pub rule10 : AreBlockIndexesSound shape pages view

-- these pages show this, and keep all twelve rules
pub record KeepAllRules (shape : Shape) (pages : PageList) (view : DatabaseView) : Type 0 where
  pub first : KeepFirstRules shape pages view
  pub rule11 : AreSoundIndexes shape pages view
  pub rule12 : AreKeysSound shape pages view

-- the pages are those of a sound database
abbrev pub IsSoundDatabase : Shape → PageList → Type 0
IsSoundDatabase shape pages = (view : DatabaseView) × KeepAllRules shape pages view

-- ---- what they make up

-- sound space: the root page, the extent map, the table pages, the trees, whose pages they are, the block maps, and no rows
-- in Free and Pending blocks there
pub record IsSoundSpace (shape : Shape) (pages : PageList) (view : DatabaseView) : Type 0 where
  pub root : IsRootSound shape pages
  pub extents : IsMapSound shape pages view.owners
  pub tables : AreTablePagesSound shape pages view
  pub trees : AreTreesSound pages view
  pub tree_pages : AreTreePagesSound shape view
  pub block_maps : AreBlockMapsSound shape view
  pub idle_counts : AreIdleCountsSound view

-- sound blocks: rows that fit, counts, cells, block indexes, row numbers and unique keys
pub record AreSoundBlocks (shape : Shape) (pages : PageList) (view : DatabaseView) : Type 0 where
  pub rows : AreRowPagesSound shape pages view
  pub used_counts : AreUsedCountsSound shape pages view
  pub cells : AreCellsSound shape pages view
  pub block_indexes : AreBlockIndexesSound shape pages view
  pub numbers : AreNumbersSound shape pages view
  pub unique : AreUniqueKeysSound shape pages view

-- sound space, sound blocks and sound record indexes
pub record IsSoundInParts (shape : Shape) (pages : PageList) (view : DatabaseView) : Type 0 where
  pub space : IsSoundSpace shape pages view
  pub blocks : AreSoundBlocks shape pages view
  pub indexes : AreSoundIndexes shape pages view

-- ---- sound with a definition in hand

-- the pages with a definition in the place of its table page, which is written at the end of a statement
abbrev pub with_table_page : TableDef → PageList → PageList
with_table_page def pages = slice_set pages (1 + def.number) (table_page def)

-- The first ten rules hold with a definition in hand, which is that of a table of the view. Record indexes, row numbers and
-- unique keys may be behind.
pub record IsSoundWith (shape : Shape) (def : TableDef) (pages : PageList) : Type 0 where
  pub view : DatabaseView
  pub table : TableView
  pub first : KeepFirstRules shape (with_table_page def pages) view
  pub there : slice_get view.places def.number ≡ Some (Some table)
  pub same : table.def ≡ def

-- sound between two changes of rows: UNIQUE indexes of that table alone may have two rows of equal key
pub record IsSoundBetweenChanges (shape : Shape) (def : TableDef) (pages : PageList) : Type 0 where
  pub sound : IsSoundWith shape def pages
  pub rule11 : AreSoundIndexes shape (with_table_page def pages) sound.view
  pub numbers : AreNumbersSound shape (with_table_page def pages) sound.view
  pub other_keys : AreOtherKeysSound shape (with_table_page def pages) sound.view def.number
