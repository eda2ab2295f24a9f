-- What a record index more makes of the pages of a sound database.
use Rattle.std.proofs.Common.{ℕ, List, Some}
use Rattle.mdc_ast.specs.declared.definition.IndexDef.{IndexDef}
use Rattle.store_api.specs.declared.shape.Shape.{Shape}
use Rattle.extent_map.specs.declared.space_notes.SpaceNotes.{SpaceNotes}
use Rattle.table_trees.specs.ToldPages.{PageList}
use Rattle.mdc_sound.specs.BlockRules.{IsUniqueSound}
use Rattle.mdc_sound.specs.SoundDatabase.{KeepAllRules}
use Rattle.mdc_sound.specs.SpaceRules.{DatabaseView}
use Rattle.mdc_sound.specs.TableRows.{PlacedRow}
use Rattle.stored_catalog.specs.AroundTable.{view_with}
use Rattle.index_building.specs.IndexSteps.{AddsIndex}
use Rattle.index_building.specs.IndexViews.{view_with_index}

-- where UNIQUE keys of the rows differ, all twelve rules hold
pub sound_added : (shape : Shape) (before noted : SpaceNotes) (old new : PageList) (t : ℕ) (index : IndexDef) (rows : List PlacedRow) (view : DatabaseView)
    (added : AddsIndex shape before noted old new t index rows view) → IsUniqueSound rows index
    → KeepAllRules shape new (view_with view added.owners_now t (Some (view_with_index added.table index added.tree)))
sound_added shape before noted old new t index rows view added unique = record {
  first = added.first;
  rule11 = added.rule11;
  rule12 = record { numbers = added.numbers; unique = added.unique unique };
}
