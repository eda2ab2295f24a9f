-- What one walk over the Used blocks of a table says, and what is said of a table whose row pages are sound.
use Rattle.std.specs.Prelude.{List, None, flat_map, length, ℕ, ◌≡◌}
use Rattle.std.specs.List.{AllByRecursion}
use Rattle.mdc_ast.specs.declared.definition.TableDef.{TableDef}
use Rattle.store_api.specs.declared.shape.Shape.{Shape}
use Rattle.entry_tree.specs.Forest.{Forest}
use Rattle.block_map.specs.MapLines.{blocks_of_state, map_lines, used_blocks}
use Rattle.table_trees.specs.ToldPages.{PageList}
use Rattle.mdc_sound.specs.BlockRules.{IsOfOneCell}
use Rattle.mdc_sound.specs.TableRows.{rows_in_block, rows_in_table}
use Rattle.file_check.specs.BlockEntries.{IsBlockEntered, LacksBlock}
use Rattle.file_check.specs.BlocksJudged.{BreaksBlockCell, BreaksBlockCount, BreaksLineCount, IsBlockCounted, IsLineCounted}
use Rattle.file_check.specs.Judging.{BreaksAny, Judges, JudgesEach}
use Rattle.file_check.specs.KeysJudged.{AreNumbersOf, AreTableKeys, BreaksTableKeys}
use Rattle.file_check.specs.KnownTables.{TableHasCells}
use Rattle.file_check.specs.TableIndexes.{JudgesIndexes}
use Rattle.file_check.specs.declared.block_judging.UsedRows.{UsedRows}
use Rattle.file_check.specs.declared.findings.Findings.{Findings}
use Rattle.file_check.specs.declared.table_index.IndexKind.TheVariants.{Blocks, Rows}

-- ---- blocks

-- the rows of these blocks were judged, and their numbers gathered
pub record JudgesUsed (shape : Shape) (pages : PageList) (def : TableDef) (map_tree : Forest) (blocks : List ℕ) (found : UsedRows) : Type 0 where
  pub counts : JudgesEach (IsBlockCounted shape pages def map_tree) (BreaksBlockCount shape pages def map_tree) blocks found.counts
  pub cells : JudgesEach (IsOfOneCell shape pages def) (BreaksBlockCell shape pages def) blocks found.cells
  pub entries : JudgesEach (IsBlockEntered shape pages def) (LacksBlock shape pages def) blocks found.entries
  pub numbers : AreNumbersOf found.numbers.items (flat_map (rows_in_block shape pages def) blocks)

-- so were those of all Used blocks
pub record JudgesAllUsed (shape : Shape) (pages : PageList) (def : TableDef) (map_tree : Forest) (found : UsedRows) : Type 0 where
  pub judged : JudgesUsed shape pages def map_tree (used_blocks map_tree) found
  pub count : found.blocks ≡ length (used_blocks map_tree)

-- the blocks of a state are counted right, or one isn't
abbrev pub AreCounted : Shape → PageList → TableDef → Forest → ℕ → Type 0
AreCounted shape pages def map_tree state = AllByRecursion (IsBlockCounted shape pages def map_tree) (blocks_of_state state map_tree)

abbrev pub AnyMiscounted : Shape → PageList → TableDef → Forest → ℕ → ℕ → Type 0
AnyMiscounted shape pages def map_tree state = BreaksAny (BreaksBlockCount shape pages def map_tree) (blocks_of_state state map_tree)

-- ---- a table

-- rules 8 to 12 were judged of a table with row pages whose rows fit
pub record JudgesTable (shape : Shape) (pages : PageList) (def : TableDef) (map_tree : Forest) (found : Findings) : Type 0 where
  pub row_pages : found.row_pages ≡ None
  pub counts : JudgesEach (IsLineCounted shape pages def) (BreaksLineCount shape pages def) (map_lines map_tree) found.counts
  pub cells : JudgesEach (IsOfOneCell shape pages def) (BreaksBlockCell shape pages def) (used_blocks map_tree) found.cells
  pub block_indexes : TableHasCells shape pages def map_tree → JudgesIndexes Blocks shape pages def map_tree found.block_indexes
  pub record_indexes : JudgesIndexes Rows shape pages def map_tree found.record_indexes
  pub keys : Judges (AreTableKeys def (rows_in_table shape pages def map_tree)) (BreaksTableKeys def (rows_in_table shape pages def map_tree)) found.keys
