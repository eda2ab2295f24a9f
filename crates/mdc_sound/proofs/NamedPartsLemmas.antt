-- A part of a table that damage names is the same part whatever the next row number is.
use Rattle.std.proofs.Common.{ℕ}
use Rattle.mdc_ast.specs.declared.definition.TableDef.{TableDef}
use Rattle.store_api.specs.declared.fault.Damage.{Damage}
use Rattle.store_api.specs.declared.shape.Shape.{Shape}
use Rattle.mdc_sound.specs.StandingTable.{NamesTablePart}
use Rattle.mdc_sound.proofs.NextNumberLemmas.{with_next}

-- what damage names, whatever the next row number is
pub names_next : (shape : Shape) (def : TableDef) (next : ℕ) (damage : Damage) → NamesTablePart shape (with_next def next) damage → NamesTablePart shape def damage
names_next shape def next damage (NamesTablePart.count rule page) = NamesTablePart.count rule page
names_next shape def next damage (NamesTablePart.map_page rule page) = NamesTablePart.map_page rule page
names_next shape def next damage (NamesTablePart.tree rule page) = NamesTablePart.tree rule page
names_next shape def next damage (NamesTablePart.tree_page rule) = NamesTablePart.tree_page rule
names_next shape def next damage (NamesTablePart.block_map rule page) = NamesTablePart.block_map rule page
names_next shape def next damage (NamesTablePart.row_page block rule page) = NamesTablePart.row_page block rule page
names_next shape def next damage (NamesTablePart.row_count block rule page) = NamesTablePart.row_count block rule page
names_next shape def next damage (NamesTablePart.row_cell block rule page) = NamesTablePart.row_cell block rule page
names_next shape def next damage (NamesTablePart.block_index rule page) = NamesTablePart.block_index rule page
names_next shape def next damage (NamesTablePart.record_index rule page) = NamesTablePart.record_index rule page
