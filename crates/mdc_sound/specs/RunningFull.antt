-- When a statement runs full: the changes of space that it makes one after the other, up to one that asks for more extents than
-- are free (docs/FORMAT.md, "Running full").
use Rattle.std.specs.Prelude.{◌≡◌, ◌<◌, ℕ, ◌+◌, ◌-◌, ◌==◌, if◌then◌else◌, slice_index_or, zip, List, [], ◌∷◌, ◌++◌, map, filter, not, Option, AllPairs, IsPermutation}
use Rattle.std.specs.Str.{bytes_eq}
use Rattle.mdc_words.specs.ByteOrder.{Entry}
use Rattle.mdc_values.specs.declared.rid.Rid.{Rid}
use Rattle.mdc_ast.specs.declared.definition.IndexDef.{IndexDef}
use Rattle.mdc_ast.specs.declared.definition.Roots.{Roots}
use Rattle.mdc_ast.specs.declared.definition.TableDef.{TableDef}
use Rattle.mdc_ast.specs.declared.row.Row.{Row}
use Rattle.store_api.specs.declared.shape.Shape.{Shape}
use Rattle.extent_map.specs.Map.{HoldsMap}
use Rattle.extent_map.specs.declared.kind.Kind.{Kind}
use Rattle.key_codec.specs.Keys.{key_bytes}
use Rattle.row_page.specs.RowPage.{count_rows}
use Rattle.entry_tree.specs.Forest.{Forest}
use Rattle.block_map.specs.MapLines.{map_entry}
use Rattle.table_trees.specs.RowCells.{AreOfOneCell}
use Rattle.table_trees.specs.SpaceChanges.{RunsFull, SpaceChange, added_entries, removed_entries}
use Rattle.table_trees.specs.SpaceChanges.SpaceChange.{AddEntry, AmendEntry, ClaimBlock, MakeTree}
use Rattle.table_trees.specs.TableTrees.{TreePlace, block_entry, cell_parts, composite_place, dimension_place, dimension_places, map_place, record_entry, record_place, rising_parts}
use Rattle.table_trees.specs.ToldPages.{HasTree, PageList, told_pages}
use Rattle.mdc_sound.specs.Placing.{Spot, ChangesRow, IsRowAt, PutsRow, TakesRow, SpotsAfterClaims, SpotsAfterReturns, HoldsNowhere, HasRoomFor, IsFreeBlock, IsFreeExtent, block_slot_count, rows_from_spot, table_spots}
use Rattle.mdc_sound.specs.Placing.Spot.{FreeExtent, FreeBlock, UsedBlock, OtherBlock}
use Rattle.mdc_sound.specs.TableRows.{PlacedRow}

-- ---- the changes of a row that is put or taken

-- the composite index and the index of each dimension, each with the entry of a block under the values of a row
abbrev pub block_listings : TableDef → Row → ℕ → List (TreePlace × Entry)
block_listings def row block =
    (composite_place def, block_entry def.columns (cell_parts def) row.values block)
    ∷ map (λ pair. (dimension_place def pair.0 pair.1, block_entry def.columns (rising_parts pair.0) row.values block)) (zip def.dims def.roots.dims)

-- these record indexes, each with the entry of a row
abbrev pub listings_in : TableDef → List IndexDef → Row → Rid → List (TreePlace × Entry)
listings_in def indexes row rid = map (λ index. (record_place def index, record_entry def.columns index.parts row.values rid)) indexes

-- all record indexes, each with the entry of a row
abbrev pub row_listings : TableDef → Row → Rid → List (TreePlace × Entry)
row_listings def row rid = listings_in def def.indexes row rid

-- the record indexes in which two rows have different keys
abbrev pub differing_indexes : TableDef → Row → Row → List IndexDef
differing_indexes def a b =
    filter (λ index. not (bytes_eq (key_bytes def.columns index.parts a.values) (key_bytes def.columns index.parts b.values))) def.indexes

-- what the block of a row that is put needs, by what it was: first the block, then its entry in the block map, and then those
-- in the composite and dimension indexes
abbrev pub block_changes : TableDef → Row → ℕ → Spot → List SpaceChange
block_changes def row block FreeExtent =
    ClaimBlock def.number block ∷ AddEntry (map_place def) (map_entry block 1 1) ∷ added_entries (block_listings def row block)
block_changes def row block FreeBlock =
    AmendEntry (map_place def) (map_entry block 0 0) (map_entry block 1 1) ∷ added_entries (block_listings def row block)
block_changes def row block (UsedBlock slots) =
    AmendEntry (map_place def) (map_entry block 1 (count_rows slots)) (map_entry block 1 (count_rows slots + 1)) ∷ []
block_changes def row block spot = []

-- the changes of a row that is put there: what its block needs, and then its entries in the record indexes
abbrev pub putting_changes : TableDef → Row → Rid → Spot → List SpaceChange
putting_changes def row rid spot = block_changes def row rid.block spot ++ added_entries (row_listings def row rid)

-- what becomes of the block of a row that is taken out: it has a row less, or is Free and leaves the block indexes
abbrev pub left_changes : TableDef → Row → ℕ → ℕ → List SpaceChange
left_changes def row block rows =
    if rows == 1
    then AmendEntry (map_place def) (map_entry block 1 1) (map_entry block 0 0) ∷ removed_entries (block_listings def row block)
    else AmendEntry (map_place def) (map_entry block 1 rows) (map_entry block 1 (rows - 1)) ∷ []

-- the changes of a row that is taken out of a block of so many rows: its entries in the record indexes, and its block
abbrev pub taking_changes : TableDef → Row → Rid → ℕ → List SpaceChange
taking_changes def row rid rows = removed_entries (row_listings def row rid) ++ left_changes def row rid.block rows

-- ---- the changes of statements

-- no block of the table has room for the row, none is Free, and no extent is free
abbrev pub HasNoSpot : TableDef → List Spot → Row → Type 0
HasNoSpot def spots row = HoldsNowhere (HasRoomFor def row) spots × HoldsNowhere IsFreeBlock spots × HoldsNowhere IsFreeExtent spots

-- The changes of an INSERT of these rows, each put where placing says, or of the first of them, up to a row for which there is
-- no spot. Blocks have n slots, and after each row trees may have taken free extents.
pub data InsertingChanges (def : TableDef) (n : ℕ) : List Spot → List Row → List SpaceChange → Type 0 where
  none : {spots : List Spot} {rows : List Row} → InsertingChanges def n spots rows []
  one : {old mid next : List Spot} {row : Row} {rows : List Row} {changes : List SpaceChange} (rid : Rid)
      → PutsRow def n old row mid rid → SpotsAfterClaims mid next → InsertingChanges def n next rows changes
      → InsertingChanges def n old (row ∷ rows) (putting_changes def row rid (slice_index_or old rid.block OtherBlock) ++ changes)
  stuck : {spots : List Spot} {row : Row} {rows : List Row} → HasNoSpot def spots row
      → InsertingChanges def n spots (row ∷ rows) (ClaimBlock def.number 0 ∷ [])

-- The changes of an UPDATE that makes these rows others, by rising row number, or of the first of them. All that is taken out
-- for a row goes before what is put for it. A row that keeps its cell changes the record indexes in which its keys differ.
pub data UpdatingChanges (def : TableDef) (n : ℕ) : List Spot → List (PlacedRow × Row) → List SpaceChange → Type 0 where
  none : {spots : List Spot} {rows : List (PlacedRow × Row)} → UpdatingChanges def n spots rows []
  stays : {old mid next : List Spot} {row other : Row} {rid : Rid} {rows : List (PlacedRow × Row)} {changes : List SpaceChange}
      → AreOfOneCell def row.values other.values → ChangesRow def n old rid row other mid rid → SpotsAfterClaims mid next
      → UpdatingChanges def n next rows changes
      → UpdatingChanges def n old ((record { rid = rid; row = row }, other) ∷ rows)
      (removed_entries (listings_in def (differing_indexes def row other) row rid)
      ++ added_entries (listings_in def (differing_indexes def row other) other rid) ++ changes)
  moves : {old left mid next : List Spot} (free : List Spot) {row other : Row} {rid to : Rid} {slots : List (Option Row)} {rows : List (PlacedRow × Row)}
      {changes : List SpaceChange} → (AreOfOneCell def row.values other.values → ⊥) → IsRowAt old rid row slots → TakesRow old rid row left
      → SpotsAfterReturns left free → PutsRow def n free other mid to → SpotsAfterClaims mid next → UpdatingChanges def n next rows changes
      → UpdatingChanges def n old ((record { rid = rid; row = row }, other) ∷ rows)
      (taking_changes def row rid (count_rows slots)
      ++ putting_changes def other to (slice_index_or free to.block OtherBlock) ++ changes)
  stuck : {old left : List Spot} (free : List Spot) {row other : Row} {rid : Rid} {slots : List (Option Row)} {rows : List (PlacedRow × Row)}
      → (AreOfOneCell def row.values other.values → ⊥) → IsRowAt old rid row slots → TakesRow old rid row left
      → SpotsAfterReturns left free → HasNoSpot def free other
      → UpdatingChanges def n old ((record { rid = rid; row = row }, other) ∷ rows)
      (taking_changes def row rid (count_rows slots) ++ ClaimBlock def.number 0 ∷ [])

-- The put of a row runs full: what it needs where placing puts it, or, where there is no spot for it, a block.
pub data RowRunsFull (shape : Shape) (work : PageList) (def : TableDef) (spots : List Spot) (row : Row) : Type 0 where
  placed : (rid : Rid) (mid : List Spot) → PutsRow def (block_slot_count shape def) spots row mid rid
      → RunsFull shape work (block_changes def row rid.block (slice_index_or spots rid.block OtherBlock)) → RowRunsFull shape work def spots row
  stuck : HasNoSpot def spots row → RunsFull shape work (ClaimBlock def.number 0 ∷ []) → RowRunsFull shape work def spots row

-- the changes of a CREATE TABLE: its block map, its composite index and its dimension indexes are made
abbrev pub creating_changes : TableDef → List SpaceChange
creating_changes def = MakeTree (map_place def) ∷ MakeTree (composite_place def) ∷ map MakeTree (dimension_places def)

-- the changes of a CREATE INDEX: its tree is made, and has the entry of each of these rows, in order
abbrev pub indexing_changes : TableDef → IndexDef → List PlacedRow → List SpaceChange
indexing_changes def index rows =
    MakeTree (record_place def index)
    ∷ map (λ placed. AddEntry (record_place def index) (record_entry def.columns index.parts placed.row.values placed.rid)) rows

-- ---- statements that run full

-- the pages show a table with this definition, and its spots
pub record ShowsTableSpots (shape : Shape) (pages : PageList) (def : TableDef) (spots : List Spot) : Type 0 where
  pub owners : List Kind
  pub map_tree : Forest
  pub has_extents : HoldsMap told_pages shape pages owners
  pub has_map : HasTree pages (map_place def) map_tree
  pub spots_are : spots ≡ table_spots shape pages def owners map_tree

-- an INSERT of these rows into a table runs full
pub record InsertRunsFull (shape : Shape) (work : PageList) (def : TableDef) (rows : List Row) : Type 0 where
  pub spots : List Spot
  pub changes : List SpaceChange
  pub shows : ShowsTableSpots shape work def spots
  pub inserting : InsertingChanges def (block_slot_count shape def) spots rows changes
  pub full : RunsFull shape work changes

-- an UPDATE of these rows of a table, by rising row number, each to another, runs full
pub record UpdateRunsFull (shape : Shape) (work : PageList) (def : TableDef) (rows : List (PlacedRow × Row)) : Type 0 where
  pub spots : List Spot
  pub changes : List SpaceChange
  pub shows : ShowsTableSpots shape work def spots
  pub rising : AllPairs (λ a b. a.0.row.number < b.0.row.number) rows
  pub updating : UpdatingChanges def (block_slot_count shape def) spots rows changes
  pub full : RunsFull shape work changes

-- a CREATE TABLE runs full, whatever roots its trees would have had
abbrev pub CreateRunsFull : Shape → PageList → TableDef → Type 0
CreateRunsFull shape work def = (roots : Roots) × RunsFull shape work (creating_changes (record def { roots = roots }))

-- a CREATE INDEX on a table runs full: the rows of its Used blocks are entered by rising row number
pub record IndexRunsFull (shape : Shape) (work : PageList) (def : TableDef) (index : IndexDef) : Type 0 where
  pub root : ℕ
  pub spots : List Spot
  pub rows : List PlacedRow
  pub shows : ShowsTableSpots shape work def spots
  pub same_rows : IsPermutation rows (rows_from_spot 0 spots)
  pub rising : AllPairs (λ a b. a.row.number < b.row.number) rows
  pub full : RunsFull shape work (indexing_changes def (record index { root = root }) rows)
