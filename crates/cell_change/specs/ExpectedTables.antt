-- What a change of one row expects of a table besides that it stands, and when the put of a row runs full.
use Rattle.std.specs.Prelude.{List, [], ◌∷◌, slice_index_or}
use Rattle.mdc_values.specs.declared.rid.Rid.{Rid}
use Rattle.mdc_ast.specs.declared.definition.TableDef.{TableDef}
use Rattle.mdc_ast.specs.declared.row.Row.{Row}
use Rattle.store_api.specs.declared.pages.Pages.{Ghosts}
use Rattle.store_api.specs.declared.shape.Shape.{Shape}
use Rattle.extent_map.specs.declared.kind.Kind.{Kind}
use Rattle.table_trees.specs.SpaceChanges.{RunsFull}
use Rattle.table_trees.specs.SpaceChanges.SpaceChange.{ClaimBlock}
use Rattle.table_trees.specs.ToldPages.{PageList}
use Rattle.mdc_sound.specs.Placing.{PutsRow, Spot, block_slot_count}
use Rattle.mdc_sound.specs.Placing.Spot.{OtherBlock}
use Rattle.mdc_sound.specs.RunningFull.{HasNoSpot, putting_changes}
use Rattle.mdc_sound.specs.StandingTable.{TableForests}
pub use Rattle.row_entries.specs.SoundEntries.{HasSoundIndexes}

-- ---- what is expected

-- so it is of a table which is as it is expected
abbrev pub WithSoundIndexes : {S : Type 0} → Ghosts S → Shape → S → TableDef → (List Kind → TableForests → Type 0) → List Kind → TableForests → Type 0
WithSoundIndexes g shape s def Expected owners forests = Expected owners forests × HasSoundIndexes g shape s def owners forests

-- ---- a full file

-- The put of a row with its entries in all record indexes runs full: what it asks for where placing puts it, or, where there is no
-- spot for it, a block.
pub data PutRunsFull (shape : Shape) (work : PageList) (def : TableDef) (spots : List Spot) (row : Row) : Type 0 where
  placed : (rid : Rid) (mid : List Spot) → PutsRow def (block_slot_count shape def) spots row mid rid
      → RunsFull shape work (putting_changes def row rid (slice_index_or spots rid.block OtherBlock)) → PutRunsFull shape work def spots row
  stuck : HasNoSpot def spots row → RunsFull shape work (ClaimBlock def.number 0 ∷ []) → PutRunsFull shape work def spots row
