-- A record index that is filled with the rows of a table: its tree, the changes of space, and the damage that may be met.
use Rattle.std.specs.Prelude.{◌≡◌, ℕ, List, [], ◌∷◌, map, set, Some, slice_get}
use Rattle.mdc_ast.specs.declared.definition.IndexDef.{IndexDef}
use Rattle.mdc_ast.specs.declared.definition.TableDef.{TableDef}
use Rattle.store_api.specs.declared.fault.Damage.{Damage}
use Rattle.store_api.specs.declared.pages.Pages.{Ghosts}
use Rattle.store_api.specs.declared.shape.Shape.{Shape}
use Rattle.extent_map.specs.declared.kind.Kind.{Kind}
use Rattle.extent_map.specs.declared.space_notes.SpaceNotes.{SpaceNotes}
use Rattle.entry_tree.specs.Forest.{Forest, leaf_entries}
use Rattle.table_trees.specs.SpaceChanges.{SpaceChange}
use Rattle.table_trees.specs.SpaceChanges.SpaceChange.{AddEntry}
use Rattle.table_trees.specs.TableTrees.{TreePlace}
use Rattle.table_trees.specs.TreesBeside.{ChangesTrees, StandTrees}
use Rattle.mdc_sound.specs.BlockRules.{IsSoundIndex}
use Rattle.mdc_sound.specs.StandingTable.{NamesTablePart}
use Rattle.mdc_sound.specs.TableRows.{PlacedRow}
use Rattle.record_index.specs.RecordIndexes.{entry_in_record_index, place_of_record_index}
use Rattle.record_index.specs.SoundRows.{LieApart}

-- the changes of space of rows that come into a record index, in order: an entry each
abbrev pub entering_changes : TableDef → ℕ → List PlacedRow → List SpaceChange
entering_changes def index rows = map (λ placed. AddEntry (place_of_record_index def index) (entry_in_record_index def index placed.row.values placed.rid)) rows

-- The i-th of some trees, that of a record index, has the entries of these rows now, and no others where it had none; all other
-- trees are those that they were. They stand side by side, the blocks are the same, and right notes are right afterwards.
pub record FillsIndex {S : Type 0} (g : Ghosts S) (shape : Shape) (before noted : SpaceNotes) (new : S) (def : TableDef) (index : ℕ) (rows : List PlacedRow)
    (owners : List Kind) (places : List TreePlace) (trees : List Forest) (i : ℕ) : Type 0 where
  pub owners_now : List Kind
  pub was : Forest
  pub is : Forest
  pub there : slice_get trees i ≡ Some was
  pub entries : (which : IndexDef) → slice_get def.indexes index ≡ Some which → leaf_entries was ≡ [] → IsSoundIndex def rows [] which is
  pub changes : ChangesTrees g shape before noted new places owners trees owners_now (set trees i is)

-- The damage is of a part of the table, and never where the map and an empty tree of the index were told to stand and the rows lie
-- apart.
pub record BreaksFilling {S : Type 0} (g : Ghosts S) (shape : Shape) (s : S) (def : TableDef) (index : ℕ) (rows : List PlacedRow) (damage : Damage) : Type 0 where
  pub names : NamesTablePart shape def damage
  pub broken : (owners : List Kind) (tree : Forest) → StandTrees g shape s owners (place_of_record_index def index ∷ []) (tree ∷ []) → leaf_entries tree ≡ [] → LieApart rows → ⊥
