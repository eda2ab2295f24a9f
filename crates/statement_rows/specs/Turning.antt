-- Rows that become others.
use Rattle.std.specs.Prelude.{◌≡◌}
use Rattle.mdc_ast.specs.declared.definition.TableDef.{TableDef}
use Rattle.mdc_ast.specs.declared.row.Row.{Row}
use Rattle.block_rows.specs.HeldRows.{HasReadValues, placed_row}
use Rattle.mdc_ast.specs.FittingRows.{RowFits}
use Rattle.mdc_sound.specs.TableRows.{PlacedRow}
use Rattle.statement_rows.specs.declared.changing.Turned.{Turned}

-- a row in its place, and the one that it becomes
abbrev pub turned_row : Turned → PlacedRow × Row
turned_row turned = (placed_row turned.hit, turned.row)

-- the row was read, and becomes one that fits and has its number
pub record MayTurn (def : TableDef) (turned : Turned) : Type 0 where
  pub was : HasReadValues def.columns turned.hit.row
  pub fits : RowFits def turned.row
  pub number : turned.row.number ≡ turned.hit.row.number
