-- What a walk over the chosen record indexes of a table makes of their trees, whatever else stands beside them.
use Rattle.std.specs.Prelude.{◌≡◌, ℕ, Bool, true, List, Contains, Option, Some, slice_get}
use Rattle.mdc_words.specs.ByteOrder.{Entry}
use Rattle.mdc_ast.specs.declared.definition.IndexDef.{IndexDef}
use Rattle.mdc_ast.specs.declared.definition.TableDef.{TableDef}
use Rattle.store_api.specs.declared.fault.Damage.{Damage}
use Rattle.store_api.specs.declared.fault.StoreFault.{StoreFault}
use Rattle.store_api.specs.declared.fault.StoreFault.TheVariants.{Damaged}
use Rattle.store_api.specs.declared.pages.Pages.{Ghosts}
use Rattle.store_api.specs.declared.shape.Shape.{Shape}
use Rattle.extent_map.specs.Map.{IsMapPage}
use Rattle.extent_map.specs.declared.kind.Kind.{Kind}
use Rattle.extent_map.specs.declared.space_notes.SpaceNotes.{SpaceNotes}
use Rattle.entry_tree.specs.Forest.{Forest}
use Rattle.table_trees.specs.TableTrees.{record_place, record_places}
use Rattle.table_trees.specs.TreesBeside.{ChangesTrees, StandTrees}
use Rattle.mdc_sound.specs.StandingTable.{roots_in}
use Rattle.row_entries.specs.ChosenIndexes.{MoveChosen}

-- the record indexes of a table stand side by side
abbrev pub StandIndexes : {S : Type 0} → Ghosts S → Shape → S → TableDef → List Kind → List Forest → Type 0
StandIndexes g shape s def owners trees = StandTrees g shape s owners (record_places def) trees

-- The tree of each chosen index gained or lost its entry, and no other changed; they stand side by side.
pub record MovesTrees {S : Type 0} (g : Ghosts S) (Moves : Entry → Forest → Forest → Type 0) (shape : Shape) (before noted : SpaceNotes) (new : S) (def : TableDef) (entry_in : IndexDef → Entry) (chosen : List Bool)
    (owners : List Kind) (trees : List Forest) : Type 0 where
  pub owners_now : List Kind
  pub trees_now : List Forest
  pub changes : ChangesTrees g shape before noted new (record_places def) owners trees owners_now trees_now
  pub moves : MoveChosen Moves entry_in chosen def.indexes trees trees_now

-- ---- damage

-- What damage met in the record indexes of a table names: the count of pages, a page of the extent map, the root of an index by the
-- rule on trees or by that on record indexes, or a page of a tree that isn't a used one; so no row page, block map or block index.
pub data NamesIndexPart (shape : Shape) (def : TableDef) (damage : Damage) : Type 0 where
  count : damage.rule ≡ 1 → damage.page ≡ 0 → NamesIndexPart shape def damage
  map_page : damage.rule ≡ 2 → IsMapPage shape damage.page → NamesIndexPart shape def damage
  tree : damage.rule ≡ 4 → Contains (roots_in (record_places def)) damage.page → NamesIndexPart shape def damage
  tree_page : damage.rule ≡ 5 → NamesIndexPart shape def damage
  record_index : damage.rule ≡ 11 → Contains (roots_in (record_places def)) damage.page → NamesIndexPart shape def damage

-- The damage is rule 11 at the root of a chosen index whose tree was wrong.
pub record NamesWrongIndex (def : TableDef) (chosen : List Bool) (Wrong : IndexDef → Forest → Type 0) (trees : List Forest) (damage : Damage) : Type 0 where
  pub n : ℕ
  pub which : IndexDef
  pub tree : Forest
  pub is_chosen : slice_get chosen n ≡ Some true
  pub index : slice_get def.indexes n ≡ Some which
  pub there : slice_get trees n ≡ Some tree
  pub rule : damage.rule ≡ 11
  pub page : damage.page ≡ (record_place def which).root
  pub wrong : Wrong which tree

-- The damage is a part of the table's record indexes. Where these were told to stand side by side, it is a chosen one's whose tree
-- was wrong.
pub record BreaksIndexes {S : Type 0} (g : Ghosts S) (shape : Shape) (s : S) (def : TableDef) (chosen : List Bool) (Wrong : IndexDef → Forest → Type 0) (damage : Damage) : Type 0 where
  pub names : NamesIndexPart shape def damage
  pub wrong : (owners : List Kind) (trees : List Forest) → StandIndexes g shape s def owners trees → NamesWrongIndex def chosen Wrong trees damage

-- where a call ended with damage, a fact on it
abbrev pub IfDamaged : Option StoreFault → (Damage → Type 0) → Type 0
IfDamaged fault Names = (damage : Damage) → fault ≡ Some (Damaged damage) → Names damage
