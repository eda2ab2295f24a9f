-- What the change of one table leaves of the others: the blocks of each, in their states, with their rows in their slots.
use Rattle.store_api.specs.declared.shape.Shape.{Shape}
use Rattle.std.specs.Prelude.{◌≡◌, ◌≢◌, ◌<◌, ℕ, List, map}
use Rattle.mdc_ast.specs.declared.definition.TableDef.{TableDef}
use Rattle.table_trees.specs.ToldPages.{PageList}
use Rattle.mdc_sound.specs.Placing.{Spot}
use Rattle.mdc_sound.specs.Placing.Spot.{FreeExtent, IndexExtent, OtherBlock}
use Rattle.mdc_sound.specs.RunningFull.{ShowsTableSpots}
use Rattle.mdc_sound.specs.TablePages.{DefinesTable}

-- a spot, as far as it is a block of the table
abbrev pub own_spot : Spot → Spot
own_spot FreeExtent = OtherBlock
own_spot IndexExtent = OtherBlock
own_spot spot = spot

-- The blocks of a table are those that it had, each in its state, and with its rows in their slots.
abbrev pub KeepsTableBlocks : Shape → PageList → PageList → TableDef → Type 0
KeepsTableBlocks shape old new def =
    (was : List Spot) → ShowsTableSpots shape old def was → (is : List Spot) × ShowsTableSpots shape new def is × (map own_spot is ≡ map own_spot was)

-- so it is of each table but the one of this number
pub record KeepsOtherTables (shape : Shape) (old new : PageList) (number : ℕ) : Type 0 where
  pub each : (t : ℕ) (other : TableDef) → t < 16 → t ≢ number → DefinesTable old t other → KeepsTableBlocks shape old new other
