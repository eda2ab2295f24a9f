-- What a record index more, or one less, makes of the pages of a sound database; which pages that touches, and which damage it may name.
use Rattle.std.specs.Prelude.{◌≡◌, ◌<◌, ℕ, List, [], ◌∷◌, AllPairs, IsPermutation, Some, slice_get}
use Rattle.mdc_ast.specs.declared.definition.IndexDef.{IndexDef}
use Rattle.mdc_ast.specs.declared.definition.TableDef.{TableDef}
use Rattle.mdc_ast.specs.Definitions.{Definitions, def_at, with_index}
use Rattle.store_api.specs.declared.fault.Damage.{Damage}
use Rattle.store_api.specs.declared.pages.Pages.{Ghosts}
use Rattle.store_api.specs.declared.shape.Shape.{Shape}
use Rattle.extent_map.specs.Map.{HoldsMap}
use Rattle.extent_map.specs.Owners.{AreRightNotes}
use Rattle.extent_map.specs.declared.kind.Kind.{Kind}
use Rattle.extent_map.specs.declared.space_notes.SpaceNotes.{SpaceNotes}
use Rattle.entry_tree.specs.Forest.{Forest, times}
use Rattle.entry_tree.specs.Pruning.{without_pages}
use Rattle.entry_tree.specs.Standing.{IsIdlePage}
use Rattle.entry_tree.specs.TreeChanges.{times_among}
use Rattle.table_trees.specs.SpaceChanges.{MakesChanges}
use Rattle.table_trees.specs.TableTrees.{TreePlace, record_places}
use Rattle.table_trees.specs.ToldPages.{PageList}
use Rattle.table_trees.specs.TreesBeside.{IsTreesOrMapPage, StandTrees}
use Rattle.mdc_sound.specs.BlockRules.{AreNumbersSound, AreSoundIndexes, AreUniqueKeysSound, IsSoundIndex, IsUniqueSound}
use Rattle.mdc_sound.specs.RunningFull.{indexing_changes}
use Rattle.mdc_sound.specs.SoundDatabase.{KeepAllRules, KeepFirstRules}
use Rattle.mdc_sound.specs.SpaceRules.{DatabaseView}
use Rattle.mdc_sound.specs.StandingTable.{NamesTablePart}
use Rattle.mdc_sound.specs.TableRows.{PlacedRow, rows_in_table}
use Rattle.mdc_sound.specs.TableViews.{TableView}
pub use Rattle.record_index.specs.SoundRows.{LieApart}
use Rattle.stored_catalog.specs.AroundTable.{view_with}
use Rattle.index_building.specs.IndexViews.{index_tree, rooted_index, view_with_index, view_without_index}

-- ---- one less

-- The record index in a place of table t was dropped. Each page of its tree was given back, and no other; the pages are sound
-- without it, with all else of the table as it was, and the notes are as right as they were.
pub record DropsIndex (shape : Shape) (before noted : SpaceNotes) (new : PageList) (t place : ℕ) (view : DatabaseView) : Type 0 where
  pub table : TableView
  pub there : slice_get view.places t ≡ Some (Some table)
  pub given : List ℕ
  pub pages : (p : ℕ) → times_among p given ≡ times p (index_tree table place)
  pub sound : KeepAllRules shape new (view_with view (without_pages shape view.owners given) t (Some (view_without_index table place)))
  pub notes : AreRightNotes shape before view.owners → AreRightNotes shape noted (without_pages shape view.owners given)

-- the pages of the tree of a record index of a definition, and those of the extent map, where both were told to have their form
abbrev pub IsIndexTreePage : {S : Type 0} → Ghosts S → Shape → S → TableDef → ℕ → ℕ → Type 0
IsIndexTreePage g shape s def place p = (at : TreePlace) → slice_get (record_places def) place ≡ Some at → IsTreesOrMapPage g shape s (at ∷ []) p

-- the damage is of a part of its table, and the tree wasn't told to stand
pub record BreaksIndexTree {S : Type 0} (g : Ghosts S) (shape : Shape) (s : S) (def : TableDef) (place : ℕ) (damage : Damage) : Type 0 where
  pub names : NamesTablePart shape def damage
  pub broken : (owners : List Kind) (at : TreePlace) (tree : Forest) → slice_get (record_places def) place ≡ Some at → StandTrees g shape s owners (at ∷ []) (tree ∷ []) → ⊥

-- the pages that the dropping of one brings to hand: those of its tree, where table t of these stands, and those of the extent map
abbrev pub IsDroppedIndexPage : {S : Type 0} → Ghosts S → Shape → S → Definitions → ℕ → ℕ → ℕ → Type 0
IsDroppedIndexPage g shape s defs t place p = (def : TableDef) × (def_at defs t ≡ Some def) × IsIndexTreePage g shape s def place p

-- the damage is of a part of that table, and the tree wasn't told to stand
abbrev pub BreaksDroppingIndex : {S : Type 0} → Ghosts S → Shape → S → Definitions → ℕ → ℕ → Damage → Type 0
BreaksDroppingIndex g shape s defs t place damage = (def : TableDef) × (def_at defs t ≡ Some def) × BreaksIndexTree g shape s def place damage

-- ---- one more

-- these are the rows of table t, those in its Used blocks
pub record AreRowsOf (shape : Shape) (pages : PageList) (view : DatabaseView) (t : ℕ) (rows : List PlacedRow) : Type 0 where
  pub table : TableView
  pub there : slice_get view.places t ≡ Some (Some table)
  pub same : IsPermutation rows (rows_in_table shape pages table.def table.map)

-- The record index was made behind those of table t. Its tree has an entry for each of these rows, and no other; the pages are
-- sound with it, with all else of the table as it was; that UNIQUE keys differ needs that those of these rows do. Where the notes were
-- right they are so now, and no more space was taken than the making of its tree and its entries in this order ask for.
pub record AddsIndex (shape : Shape) (before noted : SpaceNotes) (old new : PageList) (t : ℕ) (index : IndexDef) (rows : List PlacedRow) (view : DatabaseView) : Type 0 where
  pub table : TableView
  pub there : slice_get view.places t ≡ Some (Some table)
  pub owners_now : List Kind
  pub tree : Forest
  pub entries : IsSoundIndex table.def rows [] index tree
  pub first : KeepFirstRules shape new (view_with view owners_now t (Some (view_with_index table index tree)))
  pub rule11 : AreSoundIndexes shape new (view_with view owners_now t (Some (view_with_index table index tree)))
  pub numbers : AreNumbersSound shape new (view_with view owners_now t (Some (view_with_index table index tree)))
  pub unique : IsUniqueSound rows index → AreUniqueKeysSound shape new (view_with view owners_now t (Some (view_with_index table index tree)))
  pub notes : AreRightNotes shape before view.owners → AreRightNotes shape noted owners_now
  pub makes : AreRightNotes shape before view.owners → MakesChanges shape old (indexing_changes table.def index rows) new

-- rows by rising row number
abbrev pub ByRowNumber : List PlacedRow → Type 0
ByRowNumber rows = AllPairs (λ a b. a.row.number < b.row.number) rows

-- The damage of a run that makes the tree of a record index of table t of these definitions, and fills it: a part of the table with
-- the index, whose root was an idle page where the map was told; never where besides the rows lie apart.
pub record BreaksIndexing {S : Type 0} (g : Ghosts S) (shape : Shape) (s : S) (defs : Definitions) (t : ℕ) (index : IndexDef) (rows : List PlacedRow) (damage : Damage) : Type 0 where
  pub def : TableDef
  pub stands : def_at defs t ≡ Some def
  pub root : ℕ
  pub idle : (owners : List Kind) → HoldsMap g shape s owners → IsIdlePage shape owners root
  pub names : NamesTablePart shape (with_index def (rooted_index index root)) damage
  pub broken : (owners : List Kind) → HoldsMap g shape s owners → LieApart rows → ⊥
