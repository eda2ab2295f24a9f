-- The indexes of a table of one kind, whether their entries name blocks or rows, and when one of them is sound.
use Rattle.std.specs.Prelude.{◌≡◌, ◌⊎◌, ◌+◌, ◌<◌, ℕ, IsTrue, List, [], ◌∷◌, map, flat_map, zip, Option, Contains}
use Rattle.mdc_words.specs.ByteOrder.{Entry}
use Rattle.mdc_ast.specs.declared.definition.KeyPart.{KeyPart}
use Rattle.mdc_ast.specs.declared.definition.TableDef.{TableDef}
use Rattle.store_api.specs.declared.fault.Damage.{Damage}
use Rattle.store_api.specs.declared.pages.Pages.{Ghosts}
use Rattle.store_api.specs.declared.shape.Shape.{Shape}
use Rattle.key_codec.specs.Keys.{ArePartsOf, width_of_parts}
use Rattle.node_page.specs.Node.{number_within}
use Rattle.entry_tree.specs.Forest.{Forest, leaf_entries}
use Rattle.block_map.specs.BlockMaps.{IsMapForm}
use Rattle.block_map.specs.MapLines.{pending_blocks, used_blocks}
use Rattle.table_trees.specs.TableTrees.{TreePlace, block_entry, cell_parts, composite_place, dimension_place, map_place, place_of_tree, record_entry, record_place, rising_parts}
use Rattle.table_trees.specs.ToldPages.{HasTree, PageList}
use Rattle.mdc_sound.specs.TableRows.{PlacedRow, rows_in_block}
use Rattle.file_check.specs.Judging.{JudgesEach}
use Rattle.file_check.specs.Known.{BlockHasRowPages}
use Rattle.file_check.specs.declared.entry_set.EntrySet.{EntrySet}
use Rattle.file_check.specs.declared.table_index.IndexKind.{IndexKind}
use Rattle.file_check.specs.declared.table_index.IndexKind.TheVariants.{Blocks, Rows}
use Rattle.file_check.specs.declared.table_index.TableIndex.{TableIndex}

-- ---- the indexes of a table

-- where an index is, and the parts of its keys
pub record PlacedIndex : Type 0 where
  pub place : TreePlace
  pub parts : List KeyPart

-- the index of a dimension
abbrev pub index_of_dimension : TableDef → List ℕ × ℕ → PlacedIndex
index_of_dimension def pair = record { place = dimension_place def pair.0 pair.1; parts = rising_parts pair.0 }

-- the indexes of a kind
abbrev pub indexes_of_kind : IndexKind → TableDef → List PlacedIndex
indexes_of_kind Blocks def = record { place = composite_place def; parts = cell_parts def } ∷ map (index_of_dimension def) (zip def.dims def.roots.dims)
indexes_of_kind Rows def = map (λ index. record { place = record_place def index; parts = index.parts }) def.indexes

-- where an index in hand is
abbrev pub place_of_index : TableIndex → PlacedIndex
place_of_index index = record { place = place_of_tree index.tree; parts = index.parts }

-- how many bytes stand behind the key in an entry
abbrev pub bytes_behind_key : IndexKind → ℕ
bytes_behind_key Blocks = 4
bytes_behind_key Rows = 6

-- an index in hand has keys of columns of the table, and entries that are as wide as its kind has them
pub record FitsTable (def : TableDef) (index : TableIndex) : Type 0 where
  pub parts : ArePartsOf def.columns index.parts
  pub width : index.tree.width ≡ width_of_parts def.columns index.parts + bytes_behind_key index.kind

-- ---- their entries

-- the entry of a row in an index of a kind with these parts
abbrev pub entry_of_kind : IndexKind → TableDef → List KeyPart → PlacedRow → Entry
entry_of_kind Blocks def parts placed = block_entry def.columns parts placed.row.values placed.rid.block
entry_of_kind Rows def parts placed = record_entry def.columns parts placed.row.values placed.rid

-- the blocks that any entry may name
abbrev pub spare_blocks : IndexKind → Forest → List ℕ
spare_blocks Blocks map_tree = []
spare_blocks Rows map_tree = pending_blocks map_tree

-- each entry of these rows is among those of an index, and any other one has a spare block behind its key
pub record AreSoundEntries (wanted : List Entry) (spare : List ℕ) (key : ℕ) (entries : List Entry) : Type 0 where
  pub has : (entry : Entry) → Contains wanted entry → Contains entries entry
  pub only : (entry : Entry) → Contains entries entry → Contains wanted entry ⊎ Contains spare (number_within key 4 entry)

-- the entries of the rows in some blocks
abbrev pub entries_of_blocks : IndexKind → Shape → PageList → TableDef → List KeyPart → List ℕ → List Entry
entries_of_blocks kind shape pages def parts blocks = map (entry_of_kind kind def parts) (flat_map (rows_in_block shape pages def) blocks)

-- an index of a table with this block map is sound
abbrev pub IsSoundTree : IndexKind → Shape → PageList → TableDef → Forest → PlacedIndex → Forest → Type 0
IsSoundTree kind shape pages def map_tree index tree =
    AreSoundEntries (entries_of_blocks kind shape pages def index.parts (used_blocks map_tree)) (spare_blocks kind map_tree) (width_of_parts def.columns index.parts) (leaf_entries tree)

-- so it is, where its tree stands
abbrev pub IsPlaceSound : IndexKind → Shape → PageList → TableDef → Forest → PlacedIndex → Type 0
IsPlaceSound kind shape pages def map_tree index = (tree : Forest) → HasTree pages index.place tree → IsSoundTree kind shape pages def map_tree index tree

-- its root is this page, and it isn't sound
abbrev pub BreaksPlace : IndexKind → Shape → PageList → TableDef → Forest → PlacedIndex → ℕ → Type 0
BreaksPlace kind shape pages def map_tree index p = (p ≡ index.place.root) × ((tree : Forest) → HasTree pages index.place tree → IsSoundTree kind shape pages def map_tree index tree → ⊥)

-- the indexes of a kind of a table with this block map are judged
abbrev pub JudgesIndexes : IndexKind → Shape → PageList → TableDef → Forest → Option ℕ → Type 0
JudgesIndexes kind shape pages def map_tree = JudgesEach (IsPlaceSound kind shape pages def map_tree) (BreaksPlace kind shape pages def map_tree) (indexes_of_kind kind def)

-- ---- entries that were noted

-- the entries of a set
abbrev pub noted_entries : EntrySet → List Entry
noted_entries set = map (λ entry. entry.items) set.entries.keys

-- each of these entries is among those of an index, and was noted besides those before
pub record NotesEntries (wanted entries : List Entry) (old new : EntrySet) : Type 0 where
  pub has : (entry : Entry) → Contains (noted_entries new) entry → Contains entries entry
  pub noted : (entry : Entry) → Contains (noted_entries old) entry ⊎ Contains wanted entry → Contains (noted_entries new) entry
  pub only : (entry : Entry) → Contains (noted_entries new) entry → Contains (noted_entries old) entry ⊎ Contains wanted entry

-- one of these entries isn't among those of an index
abbrev pub LacksOne : List Entry → List Entry → Type 0
LacksOne wanted entries = (entry : Entry) × Contains wanted entry × (Contains entries entry → ⊥)

-- ---- what is known of a table

-- each of these blocks is an extent of row pages
abbrev pub AreReadable : Shape → PageList → TableDef → List ℕ → Type 0
AreReadable shape pages def blocks = (block : ℕ) → Contains blocks block → (block < shape.extents) × BlockHasRowPages shape pages def block

-- a table's block map and its indexes of a kind stand, and its Used blocks can be read
pub record HasIndexes (kind : IndexKind) (shape : Shape) (pages : PageList) (def : TableDef) (map_tree : Forest) : Type 0 where
  pub map : HasTree pages (map_place def) map_tree
  pub form : IsMapForm map_tree
  pub used : AreReadable shape pages def (used_blocks map_tree)
  pub trees : (index : PlacedIndex) → Contains (indexes_of_kind kind def) index → (tree : Forest) × HasTree pages index.place tree

-- damage of a tree: it isn't told to stand
abbrev pub UnlessTree : {S : Type 0} → Ghosts S → S → TreePlace → Damage → Type 0
UnlessTree g s place damage = IsTrue (g.state s).is_told → (tree : Forest) → HasTree (g.state s).work place tree → ⊥

-- damage of a block map: it isn't told to stand with its form
abbrev pub UnlessMap : {S : Type 0} → Ghosts S → S → TreePlace → Damage → Type 0
UnlessMap g s place damage = IsTrue (g.state s).is_told → (map_tree : Forest) → HasTree (g.state s).work place map_tree → IsMapForm map_tree → ⊥

-- damage where a tree stands and these blocks can be read: the pages aren't told
abbrev pub UnlessReadable : {S : Type 0} → Ghosts S → Shape → S → TableDef → List ℕ → TreePlace → Damage → Type 0
UnlessReadable g shape s def blocks place damage =
    IsTrue (g.state s).is_told → AreReadable shape (g.state s).work def blocks → (tree : Forest) → HasTree (g.state s).work place tree → ⊥
