-- Why a row has no place.
use Rattle.mdc_ast.specs.declared.definition.TableDef.{TableDef}
use Rattle.mdc_ast.specs.declared.row.Row.{Row}
use Rattle.store_api.specs.declared.pages.Pages.{Ghosts}
use Rattle.store_api.specs.declared.shape.Shape.{Shape}
use Rattle.std.specs.Prelude.{List}
use Rattle.extent_map.specs.declared.kind.Kind.{Kind}
use Rattle.mdc_sound.specs.Placing.{HasRoomFor, HoldsNowhere}
use Rattle.mdc_sound.specs.RunningFull.{RowRunsFull}
use Rattle.mdc_sound.specs.StandingTable.{TableForests, pages_of, spots_of}

-- no Used block of the row's cell has room, and what it needs asks for more extents than are free
pub record LacksPlace {S : Type 0} (g : Ghosts S) (shape : Shape) (s : S) (def : TableDef) (row : Row) (owners : List Kind) (forests : TableForests) : Type 0 where
  pub no_room : HoldsNowhere (HasRoomFor def row) (spots_of g shape s def owners forests)
  pub runs_full : RowRunsFull shape (pages_of g s) def (spots_of g shape s def owners forests) row
