-- How the rows of a block are judged: their cell once, and each row by what the cell leaves open.
use Rattle.std.specs.Prelude.{Bool, true, if◌then◌else◌, List, [], ◌∷◌, None, Option, Some}
use Rattle.mdc_values.specs.declared.value.Value.{Value}
use Rattle.mdc_ast.specs.declared.definition.TableDef.{TableDef}
use Rattle.mdc_ast.specs.declared.predicate.Pred.{Pred}
use Rattle.cell_filter.specs.Cells.{may_hold_at}
use Rattle.block_rows.specs.HeldRows.{qualifying}
use Rattle.table_trees.specs.RowCells.{cell_places, cell_values}
use Rattle.mdc_sound.specs.TableRows.{PlacedRow}

-- a predicate, where there is one, may hold in the cell of a row of these values
abbrev pub may_hold_if_any : TableDef → Option Pred → List Value → Bool
may_hold_if_any def None values = true
may_hold_if_any def (Some pred) values = may_hold_at (cell_places def) (cell_values def values) pred

-- whether it may hold in the cell of some rows, as the first of them says
abbrev pub verdict_of : TableDef → Option Pred → List PlacedRow → Option Bool
verdict_of def pred [] = None
verdict_of def pred (first ∷ rest) = Some (may_hold_if_any def pred first.row.values)

-- what is known, or else this
abbrev pub known_or : Option Bool → Bool → Bool
known_or None verdict = verdict
known_or (Some known) verdict = known

-- those of some rows that are taken: of which what is left is true, where the predicate may hold in the cell of the first, and else none
abbrev pub settled : TableDef → Option Pred → Option Pred → List PlacedRow → List PlacedRow
settled def pred left [] = []
settled def pred left (first ∷ rest) = if may_hold_if_any def pred first.row.values then qualifying left (first ∷ rest) else []
