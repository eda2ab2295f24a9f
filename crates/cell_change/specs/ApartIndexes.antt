-- Record indexes that lie apart from a block and from the block map: what is seen of these behind a change of the indexes was so before it.
use Rattle.std.specs.Prelude.{◌≡◌, ◌⊎◌, ◌<◌, ℕ, []}
use Rattle.mdc_ast.specs.declared.definition.TableDef.{TableDef}
use Rattle.store_api.specs.declared.pages.Pages.{Ghosts}
use Rattle.store_api.specs.declared.shape.Shape.{Shape}
use Rattle.table_trees.specs.TableTrees.{map_place, record_places}
use Rattle.table_trees.specs.TreesBeside.{IsTreePageAt, IsTreesOrMapPage}
use Rattle.mdc_sound.specs.StandingTable.{IsPageOfBlock}

-- The pages hold the record indexes and the extent map, and no page of the block, which is one of the extents, or of the block map is
-- one of theirs.
pub record DoIndexesStandApart {S : Type 0} (g : Ghosts S) (shape : Shape) (s : S) (def : TableDef) (block : ℕ) : Type 0 where
  pub within : block < shape.extents
  pub apart : (p : ℕ) → IsPageOfBlock shape block p ⊎ IsTreePageAt g s (map_place def) p → IsTreesOrMapPage g shape s (record_places def) p → ⊥

-- so it is, or the table has no record indexes
abbrev pub AreIndexesApart : {S : Type 0} → Ghosts S → Shape → S → TableDef → ℕ → Type 0
AreIndexesApart g shape s def block = (def.indexes ≡ []) ⊎ DoIndexesStandApart g shape s def block
