-- The rules on what lies in the tables, by rule: its number, what is known when it is judged, when it is kept, and where it is broken.
use Rattle.std.specs.Prelude.{List, Option, [], ◌∷◌, ℕ}
use Rattle.std.specs.List.{AllByRecursion}
use Rattle.mdc_ast.specs.declared.definition.TableDef.{TableDef}
use Rattle.mdc_ast.specs.Definitions.{Definitions}
use Rattle.store_api.specs.declared.shape.Shape.{Shape}
use Rattle.entry_tree.specs.Forest.{Forest}
use Rattle.table_trees.specs.ToldPages.{PageList}
use Rattle.block_map.specs.MapLines.{map_lines, used_blocks}
use Rattle.mdc_sound.specs.BlockRules.{AreBlockIndexesSound, AreBlockRowsSound, AreCellsSound, AreRowPagesSound, AreSoundIndexes, IsOfOneCell}
use Rattle.mdc_sound.specs.SoundDatabase.{AreCountsSound, AreKeysSound}
use Rattle.mdc_sound.specs.SpaceRules.{DatabaseView}
use Rattle.mdc_sound.specs.TableRows.{rows_in_table}
use Rattle.mdc_sound.specs.TableViews.{TableView}
use Rattle.file_check.specs.BlocksJudged.{BreaksBlockCell, BreaksBlockRows, BreaksLineCount, IsLineCounted}
use Rattle.file_check.specs.Judging.{BreaksAny}
use Rattle.file_check.specs.KeysJudged.{AreTableKeys, BreaksTableKeys}
use Rattle.file_check.specs.Known.{ViewHasBlocks, ViewHasCells, ViewHasRows}
use Rattle.file_check.specs.KnownTables.{TableHasCells, TableHasRows, TableHasTrees}
use Rattle.file_check.specs.TableIndexes.{BreaksPlace, IsPlaceSound, indexes_of_kind}
use Rattle.file_check.specs.declared.block_rule.BlockRule.TheVariants.{Cells, Counts, RowPages}
use Rattle.file_check.specs.declared.findings.Findings.{Findings}
use Rattle.file_check.specs.declared.table_index.IndexKind.TheVariants.{Blocks, Rows}
use Rattle.file_check.specs.declared.table_rule.TableRule.{TableRule}
use Rattle.file_check.specs.declared.table_rule.TableRule.TheVariants.{Block, Index, Keys}

-- ---- all tables

-- the number of a rule
abbrev pub rule_number : TableRule → ℕ
rule_number (Block RowPages) = 7
rule_number (Block Counts) = 8
rule_number (Block Cells) = 9
rule_number (Index Blocks) = 10
rule_number (Index Rows) = 11
rule_number Keys = 12

-- all of them, in their order
abbrev pub table_rules : List TableRule
table_rules = Block RowPages ∷ Block Counts ∷ Block Cells ∷ Index Blocks ∷ Index Rows ∷ Keys ∷ []

-- what is known of a view when a rule is judged
abbrev pub ViewKnownFor : TableRule → Shape → PageList → Definitions → DatabaseView → Type 0
ViewKnownFor (Block RowPages) shape pages defs view = ViewHasBlocks shape pages defs view
ViewKnownFor (Block Counts) shape pages defs view = ViewHasRows shape pages defs view
ViewKnownFor (Block Cells) shape pages defs view = ViewHasRows shape pages defs view
ViewKnownFor (Index kind) shape pages defs view = ViewHasCells shape pages defs view
ViewKnownFor Keys shape pages defs view = ViewHasCells shape pages defs view

-- a view keeps it
abbrev pub ViewKeeps : TableRule → Shape → PageList → DatabaseView → Type 0
ViewKeeps (Block RowPages) shape pages view = AreRowPagesSound shape pages view
ViewKeeps (Block Counts) shape pages view = AreCountsSound shape pages view
ViewKeeps (Block Cells) shape pages view = AreCellsSound shape pages view
ViewKeeps (Index Blocks) shape pages view = AreBlockIndexesSound shape pages view
ViewKeeps (Index Rows) shape pages view = AreSoundIndexes shape pages view
ViewKeeps Keys shape pages view = AreKeysSound shape pages view

-- ---- one table

-- what is known of a table with this block map when a rule is judged
abbrev pub TableKnownFor : TableRule → Shape → PageList → TableDef → Forest → Type 0
TableKnownFor (Block RowPages) shape pages def map_tree = TableHasTrees shape pages def map_tree
TableKnownFor (Block Counts) shape pages def map_tree = TableHasRows shape pages def map_tree
TableKnownFor (Block Cells) shape pages def map_tree = TableHasRows shape pages def map_tree
TableKnownFor (Index kind) shape pages def map_tree = TableHasCells shape pages def map_tree
TableKnownFor Keys shape pages def map_tree = TableHasCells shape pages def map_tree

-- it keeps the rule
abbrev pub TableKeeps : TableRule → Shape → PageList → TableDef → Forest → Type 0
TableKeeps (Block RowPages) shape pages def map_tree = AllByRecursion (AreBlockRowsSound shape pages def) (used_blocks map_tree)
TableKeeps (Block Counts) shape pages def map_tree = AllByRecursion (IsLineCounted shape pages def) (map_lines map_tree)
TableKeeps (Block Cells) shape pages def map_tree = AllByRecursion (IsOfOneCell shape pages def) (used_blocks map_tree)
TableKeeps (Index kind) shape pages def map_tree = AllByRecursion (IsPlaceSound kind shape pages def map_tree) (indexes_of_kind kind def)
TableKeeps Keys shape pages def map_tree = AreTableKeys def (rows_in_table shape pages def map_tree)

-- it breaks it at a page
abbrev pub TableBreaks : TableRule → Shape → PageList → TableDef → Forest → ℕ → Type 0
TableBreaks (Block RowPages) shape pages def map_tree = BreaksAny (BreaksBlockRows shape pages def) (used_blocks map_tree)
TableBreaks (Block Counts) shape pages def map_tree = BreaksAny (BreaksLineCount shape pages def) (map_lines map_tree)
TableBreaks (Block Cells) shape pages def map_tree = BreaksAny (BreaksBlockCell shape pages def) (used_blocks map_tree)
TableBreaks (Index kind) shape pages def map_tree = BreaksAny (BreaksPlace kind shape pages def map_tree) (indexes_of_kind kind def)
TableBreaks Keys shape pages def map_tree = BreaksTableKeys def (rows_in_table shape pages def map_tree)

-- so does a table of a view
abbrev pub KeepsTableRule : TableRule → Shape → PageList → TableView → Type 0
KeepsTableRule rule shape pages table = TableKeeps rule shape pages table.def table.map

-- or it breaks it at a page
abbrev pub BreaksTableRule : TableRule → Shape → PageList → TableView → ℕ → Type 0
BreaksTableRule rule shape pages table = TableBreaks rule shape pages table.def table.map

-- ---- what was found

-- the page that was found for a rule, if there is one
abbrev pub found_of : TableRule → Findings → Option ℕ
found_of (Block RowPages) found = found.row_pages
found_of (Block Counts) found = found.counts
found_of (Block Cells) found = found.cells
found_of (Index Blocks) found = found.block_indexes
found_of (Index Rows) found = found.record_indexes
found_of Keys found = found.keys
