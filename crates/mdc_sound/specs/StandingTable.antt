-- A table that stands among the extents of a store which tells its pages, whatever else is in them; what calls on its rows make
-- of it, and which pages they touch. These are the rules on its trees, its block map, its blocks and its block indexes, with the
-- definition in hand in the place of its table page.
use Rattle.std.specs.Prelude.{◌≡◌, ◌≢◌, ◌⊎◌, ◌<◌, ℕ, Bool, IsTrue, List, ◌∷◌, ◌++◌, map, sum_by, Contains, Option, Some, None, slice_index_or, slice_set}
use Rattle.std.specs.List.{AllByRecursion}
use Rattle.mdc_words.specs.ByteOrder.{Entry}
use Rattle.mdc_values.specs.declared.rid.Rid.{Rid}
use Rattle.mdc_ast.specs.declared.definition.TableDef.{TableDef}
use Rattle.mdc_ast.specs.declared.row.Row.{Row}
use Rattle.store_api.specs.Extents.{first_page_of}
use Rattle.store_api.specs.StoreState.{page_at}
use Rattle.store_api.specs.declared.fault.Damage.{Damage}
use Rattle.store_api.specs.declared.pages.Pages.{Ghosts}
use Rattle.store_api.specs.declared.shape.Shape.{Shape}
use Rattle.extent_map.specs.Map.{HoldsMap, IsMapPage, IsSpacePage}
use Rattle.extent_map.specs.Owners.{AreRightNotes, HasNoFree, IsExtentPage, IsUsedPage, extent_of, owner_of}
use Rattle.extent_map.specs.declared.kind.Kind.{Kind}
use Rattle.extent_map.specs.declared.kind.Kind.TheVariants.{Block}
use Rattle.extent_map.specs.declared.space_notes.SpaceNotes.{SpaceNotes}
use Rattle.key_codec.specs.Keys.{key_bytes}
use Rattle.entry_tree.specs.Forest.{Forest, times}
use Rattle.entry_tree.specs.Standing.{IsIdlePage}
use Rattle.block_map.specs.MapLines.{map_lines, used_blocks}
use Rattle.table_trees.specs.TableTrees.{TreePlace, block_index_places, cell_parts, record_places, tree_places}
use Rattle.table_trees.specs.TreesBeside.{GrowsPages, StandTrees}
use Rattle.table_trees.specs.ToldPages.{PageList}
use Rattle.mdc_sound.specs.BlockRules.{AreBlockRowsSound, AreTableBlockIndexesSound, IsIdleCountSound, IsOfOneCell, IsUsedCountSound}
use Rattle.mdc_sound.specs.Placing.{IsRowAt, PutsRow, Spot, SpotsAfterClaims, SpotsAfterReturns, TakesRow, block_slot_count, table_spots}
use Rattle.mdc_sound.specs.Placing.Spot.{OtherBlock, UsedBlock}
use Rattle.mdc_sound.specs.SpaceRules.{IsBlockMapSound}
use Rattle.mdc_sound.specs.TableViews.{TableView}

-- ---- the table

-- the trees of a table
pub record TableForests : Type 0 where
  pub map : Forest
  pub composite : Forest
  pub dims : List Forest
  pub indexes : List Forest

-- a definition with the trees of its table
abbrev pub view_of : TableDef → TableForests → TableView
view_of def forests = record { def = def; map = forests.map; composite = forests.composite; dims = forests.dims; indexes = forests.indexes }

-- all of them, in the order of their places
abbrev pub forests_in_order : TableForests → List Forest
forests_in_order forests = forests.map ∷ forests.composite ∷ forests.dims ++ forests.indexes

-- the pages of a store as they are now
abbrev pub pages_of : {S : Type 0} → Ghosts S → S → PageList
pages_of g s = (g.state s).work

-- The store tells the table: its trees stand among the extents, its block map names exactly its blocks, its Used blocks hold
-- rows that fit and are of one cell each, all is counted right, and its block indexes have exactly the Used blocks.
pub record StandsTable {S : Type 0} (g : Ghosts S) (shape : Shape) (s : S) (def : TableDef) (owners : List Kind) (forests : TableForests) : Type 0 where
  pub told : IsTrue (g.state s).is_told
  pub trees : StandTrees g shape s owners (tree_places def) (forests_in_order forests)
  pub map : IsBlockMapSound shape owners def forests.map
  pub rows : AllByRecursion (AreBlockRowsSound shape (pages_of g s) def) (used_blocks forests.map)
  pub used_counts : AllByRecursion (IsUsedCountSound shape (pages_of g s) def) (map_lines forests.map)
  pub idle_counts : AllByRecursion IsIdleCountSound (map_lines forests.map)
  pub cells : AllByRecursion (IsOfOneCell shape (pages_of g s) def) (used_blocks forests.map)
  pub indexes : AreTableBlockIndexesSound shape (pages_of g s) (view_of def forests)

-- what each extent is to the table, in these pages
abbrev pub spots_of : {S : Type 0} → Ghosts S → Shape → S → TableDef → List Kind → TableForests → List Spot
spots_of g shape s def owners forests = table_spots shape (pages_of g s) def owners forests.map

-- ---- what calls on it make of it

-- Calls on a table made it another one that stands. The blocks of other tables and the used index pages outside its trees are
-- as they were, and its trees, those of its record indexes too, took only pages that were theirs or idle.
pub record ChangesTable {S : Type 0} (g : Ghosts S) (shape : Shape) (before noted : SpaceNotes) (old new : S) (def : TableDef)
    (owners : List Kind) (forests : TableForests) (owners_now : List Kind) (forests_now : TableForests) : Type 0 where
  pub stands : StandsTable g shape new def owners_now forests_now
  pub others_blocks : (e t : ℕ) → t ≢ def.number → owner_of owners e ≡ Block t → owner_of owners_now e ≡ Block t
  pub no_others_blocks : (e t : ℕ) → t ≢ def.number → owner_of owners_now e ≡ Block t → owner_of owners e ≡ Block t
  pub others_pages : (p : ℕ) → IsUsedPage shape owners p → sum_by (times p) (forests_in_order forests) ≡ 0 → IsUsedPage shape owners_now p
  pub used_pages : (p : ℕ) → IsUsedPage shape owners_now p
      → 0 < sum_by (times p) (forests_in_order forests_now) ⊎ (IsUsedPage shape owners p × (sum_by (times p) (forests_in_order forests) ≡ 0))
  pub pages : (p : ℕ) → 0 < sum_by (times p) (forests_in_order forests_now) → 0 < sum_by (times p) (forests_in_order forests) ⊎ IsIdlePage shape owners p
  pub grows : GrowsPages g shape old new
  pub notes : AreRightNotes shape before owners → AreRightNotes shape noted owners_now

-- ---- which pages they touch

-- a page of a block of this table
pub record IsBlockPageOf (shape : Shape) (owners : List Kind) (t p : ℕ) : Type 0 where
  pub page : IsExtentPage shape p
  pub block : owner_of owners (extent_of shape p) ≡ Block t

-- a page of one block
abbrev pub IsPageOfBlock : Shape → ℕ → ℕ → Type 0
IsPageOfBlock shape block p = IsExtentPage shape p × (extent_of shape p ≡ block)

-- a page of one block, which is the table's
pub record IsPageOfOwnBlock (shape : Shape) (owners : List Kind) (t block p : ℕ) : Type 0 where
  pub page : IsPageOfBlock shape block p
  pub own : owner_of owners block ≡ Block t

-- The pages that a call on a table's rows may change and bring to hand, where the table was told to stand: those of its trees
-- and its blocks, those of the extent map with page 0, and idle ones.
abbrev pub IsTableSpace : {S : Type 0} → Ghosts S → Shape → S → TableDef → ℕ → Type 0
IsTableSpace g shape s def p =
    (owners : List Kind) (forests : TableForests) → StandsTable g shape s def owners forests
    → 0 < sum_by (times p) (forests_in_order forests) ⊎ (IsBlockPageOf shape owners def.number p ⊎ (IsSpacePage shape p ⊎ IsIdlePage shape owners p))

-- the same of a call that claims nothing
abbrev pub IsTableOrMapPage : {S : Type 0} → Ghosts S → Shape → S → TableDef → ℕ → Type 0
IsTableOrMapPage g shape s def p =
    (owners : List Kind) (forests : TableForests) → StandsTable g shape s def owners forests
    → 0 < sum_by (times p) (forests_in_order forests) ⊎ (IsBlockPageOf shape owners def.number p ⊎ IsMapPage shape p)

-- the pages of the table's blocks, but of those that may change, are as they were
pub record KeepsBlocksBut {S : Type 0} (g : Ghosts S) (shape : Shape) (old new : S) (def : TableDef) (owners : List Kind) (May : ℕ → Type 0) : Type 0 where
  pub stay : (p : ℕ) → IsBlockPageOf shape owners def.number p → (May (extent_of shape p) → ⊥) → page_at (pages_of g new) p ≡ page_at (pages_of g old) p

-- The pages that a call on one block of a table may change, where the table was told to stand: those of its trees and of the
-- block, those of the extent map with page 0, and idle ones.
abbrev pub IsSpaceOfBlock : {S : Type 0} → Ghosts S → Shape → S → TableDef → ℕ → ℕ → Type 0
IsSpaceOfBlock g shape s def block p =
    (owners : List Kind) (forests : TableForests) → StandsTable g shape s def owners forests
    → 0 < sum_by (times p) (forests_in_order forests) ⊎ (IsPageOfOwnBlock shape owners def.number block p ⊎ (IsSpacePage shape p ⊎ IsIdlePage shape owners p))

-- the same of a call that claims nothing
abbrev pub IsBlockOrMapPage : {S : Type 0} → Ghosts S → Shape → S → TableDef → ℕ → ℕ → Type 0
IsBlockOrMapPage g shape s def block p =
    (owners : List Kind) (forests : TableForests) → StandsTable g shape s def owners forests
    → 0 < sum_by (times p) (forests_in_order forests) ⊎ (IsPageOfOwnBlock shape owners def.number block p ⊎ IsMapPage shape p)

-- and of one that claims a block, which changes none that there is
abbrev pub IsTreeSpaceOfTable : {S : Type 0} → Ghosts S → Shape → S → TableDef → ℕ → Type 0
IsTreeSpaceOfTable g shape s def p =
    (owners : List Kind) (forests : TableForests) → StandsTable g shape s def owners forests
    → 0 < sum_by (times p) (forests_in_order forests) ⊎ (IsSpacePage shape p ⊎ IsIdlePage shape owners p)

-- the pages of a table's own trees, where it was told to stand
abbrev pub IsTableTreePage : {S : Type 0} → Ghosts S → Shape → S → TableDef → ℕ → Type 0
IsTableTreePage g shape s def p =
    (owners : List Kind) (forests : TableForests) → StandsTable g shape s def owners forests → 0 < sum_by (times p) (forests_in_order forests)

-- ---- damage and full files

-- the roots of the trees in some places
abbrev pub roots_in : List TreePlace → List ℕ
roots_in places = map (λ place. place.root) places

-- What damage met by a call on a table names: the count of pages, a page of the extent map, a root by the rules on trees, block
-- maps, block indexes and record indexes, a page of a tree that isn't a used one, a row page, or the first page of a block whose
-- count isn't right or whose rows aren't of its cell.
pub data NamesTablePart (shape : Shape) (def : TableDef) (damage : Damage) : Type 0 where
  count : damage.rule ≡ 1 → damage.page ≡ 0 → NamesTablePart shape def damage
  map_page : damage.rule ≡ 2 → IsMapPage shape damage.page → NamesTablePart shape def damage
  tree : damage.rule ≡ 4 → Contains (roots_in (tree_places def)) damage.page → NamesTablePart shape def damage
  tree_page : damage.rule ≡ 5 → NamesTablePart shape def damage
  block_map : damage.rule ≡ 6 → damage.page ≡ def.roots.map → NamesTablePart shape def damage
  row_page : (block : ℕ) → damage.rule ≡ 7 → IsPageOfBlock shape block damage.page → NamesTablePart shape def damage
  row_count : (block : ℕ) → damage.rule ≡ 8 → damage.page ≡ first_page_of shape.extents shape.extent_pages block → NamesTablePart shape def damage
  row_cell : (block : ℕ) → damage.rule ≡ 9 → damage.page ≡ first_page_of shape.extents shape.extent_pages block → NamesTablePart shape def damage
  block_index : damage.rule ≡ 10 → Contains (roots_in (block_index_places def)) damage.page → NamesTablePart shape def damage
  record_index : damage.rule ≡ 11 → Contains (roots_in (record_places def)) damage.page → NamesTablePart shape def damage

-- the damage is such a part's, and the table wasn't told to stand
pub record BreaksTable {S : Type 0} (g : Ghosts S) (shape : Shape) (s : S) (def : TableDef) (damage : Damage) : Type 0 where
  pub names : NamesTablePart shape def damage
  pub broken : (owners : List Kind) (forests : TableForests) → StandsTable g shape s def owners forests → ⊥

-- the same of a call that expects more of a table than that it stands
pub record BreaksExpected {S : Type 0} (g : Ghosts S) (shape : Shape) (s : S) (def : TableDef) (Expected : List Kind → TableForests → Type 0) (damage : Damage) : Type 0 where
  pub names : NamesTablePart shape def damage
  pub broken : (owners : List Kind) (forests : TableForests) → StandsTable g shape s def owners forests → Expected owners forests → ⊥

-- the extent map is told now with no free extent
pub record MeetsNoFree {S : Type 0} (g : Ghosts S) (shape : Shape) (s : S) : Type 0 where
  pub owners : List Kind
  pub map : HoldsMap g shape s owners
  pub none_free : HasNoFree owners

-- ---- rows put and taken out

-- what is noted of a cell: the block from which on one may have room, and whether that is known to be one of its blocks
pub record RoomNote : Type 0 where
  pub from : ℕ
  pub is_of_cell : Bool

-- a Used block with a row whose cell has this key
abbrev pub HoldsKey : TableDef → Entry → Spot → Type 0
HoldsKey def key (UsedBlock slots) = (row : Row) × Contains slots (Some row) × (key_bytes def.columns (cell_parts def) row.values ≡ key)
HoldsKey def key spot = ⊥

-- The notes of which block of a cell may be the first with room: one for each key of a cell. They are right where each Used
-- block of the cell below the noted one has no empty slot, and where the noted one is a Used block of the cell if it is known
-- to be.
pub record AreRightRooms (def : TableDef) (room_of : Entry → RoomNote) (spots : List Spot) : Type 0 where
  pub full : (block : ℕ) (row : Row) (slots : List (Option Row)) → slice_index_or spots block OtherBlock ≡ UsedBlock slots
      → Contains slots (Some row) → block < (room_of (key_bytes def.columns (cell_parts def) row.values)).from → Contains slots None → ⊥
  pub of_cell : (key : Entry) → IsTrue (room_of key).is_of_cell → HoldsKey def key (slice_index_or spots (room_of key).from OtherBlock)

-- the table is told to stand, and the notes in memory are right
pub record IsReadyTable {S : Type 0} (g : Ghosts S) (shape : Shape) (noted : SpaceNotes) (room_of : Entry → RoomNote) (s : S) (def : TableDef) (owners : List Kind) (forests : TableForests) : Type 0 where
  pub stands : StandsTable g shape s def owners forests
  pub notes : AreRightNotes shape noted owners
  pub rooms : AreRightRooms def room_of (spots_of g shape s def owners forests)

-- A row was put where placing says, after which trees may have taken free extents. The table stands, its record indexes have the
-- trees that they had, and the notes are right.
pub record PlacesRow {S : Type 0} (g : Ghosts S) (shape : Shape) (before noted : SpaceNotes) (room_of : Entry → RoomNote) (old new : S) (def : TableDef)
    (owners : List Kind) (forests : TableForests) (row : Row) (rid : Rid) : Type 0 where
  pub owners_now : List Kind
  pub forests_now : TableForests
  pub changes : ChangesTable g shape before noted old new def owners forests owners_now forests_now
  pub records : forests_now.indexes ≡ forests.indexes
  pub rooms : AreRightRooms def room_of (spots_of g shape new def owners_now forests_now)
  pub mid : List Spot
  pub puts : PutsRow def (block_slot_count shape def) (spots_of g shape old def owners forests) row mid rid
  pub claims : SpotsAfterClaims mid (spots_of g shape new def owners_now forests_now)

-- The row in a place was taken out, after which trees may have given extents back. The table stands, its record indexes have the
-- trees that they had, and the notes are right.
pub record TakesRowOut {S : Type 0} (g : Ghosts S) (shape : Shape) (before noted : SpaceNotes) (room_of : Entry → RoomNote) (old new : S) (def : TableDef)
    (owners : List Kind) (forests : TableForests) (row : Row) (rid : Rid) : Type 0 where
  pub owners_now : List Kind
  pub forests_now : TableForests
  pub changes : ChangesTable g shape before noted old new def owners forests owners_now forests_now
  pub records : forests_now.indexes ≡ forests.indexes
  pub rooms : AreRightRooms def room_of (spots_of g shape new def owners_now forests_now)
  pub mid : List Spot
  pub takes : TakesRow (spots_of g shape old def owners forests) rid row mid
  pub returns : SpotsAfterReturns mid (spots_of g shape new def owners_now forests_now)

-- The row in a place became another of the same cell, in its place. All trees are those that there were, and so are the owners.
pub record OverwritesRow {S : Type 0} (g : Ghosts S) (shape : Shape) (before noted : SpaceNotes) (room_of : Entry → RoomNote) (old new : S) (def : TableDef)
    (owners : List Kind) (forests : TableForests) (row other : Row) (rid : Rid) : Type 0 where
  pub changes : ChangesTable g shape before noted old new def owners forests owners forests
  pub rooms : AreRightRooms def room_of (spots_of g shape new def owners forests)
  pub slots : List (Option Row)
  pub lay : IsRowAt (spots_of g shape old def owners forests) rid row slots
  pub spots : spots_of g shape new def owners forests ≡ slice_set (spots_of g shape old def owners forests) rid.block (UsedBlock (slice_set slots rid.slot (Some other)))

-- a row lies in a place of a table that stands
pub record HasRowAt {S : Type 0} (g : Ghosts S) (shape : Shape) (s : S) (def : TableDef) (rid : Rid) (owners : List Kind) (forests : TableForests) : Type 0 where
  pub row : Row
  pub slots : List (Option Row)
  pub lies : IsRowAt (spots_of g shape s def owners forests) rid row slots
