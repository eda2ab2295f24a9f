-- What is known of pages once the first rules were judged and hold, as far as the next ones rest on it.
use Rattle.std.specs.Prelude.{AllPairs, List, None, Option, Some, [], flat_map, length, map, option_map, slice_index_or, ℕ, ◌<◌, ◌∷◌, ◌≡◌, ◌≢◌}
use Rattle.std.specs.List.{AllByRecursion, AllZip, range_with_len}
use Rattle.mdc_ast.specs.declared.definition.TableDef.{TableDef}
use Rattle.mdc_ast.specs.Definitions.{Definitions}
use Rattle.store_api.specs.StoreState.{zero_page}
use Rattle.store_api.specs.declared.shape.Shape.{Shape}
use Rattle.extent_map.specs.declared.kind.Kind.{Kind}
use Rattle.table_trees.specs.ToldPages.{HasTree, PageList}
use Rattle.mdc_sound.specs.BlockRules.{AreCellsSound, AreRowPagesSound, IsBlockPageSound}
use Rattle.mdc_sound.specs.SoundDatabase.{AreCountsSound}
use Rattle.mdc_sound.specs.SpaceRules.{AreBlockMapsSound, AreRootsInIndexes, AreTablePagesSound, AreTreePagesSound, AreTreesSound, DatabaseView, EachTable, IsMapSound, IsRootSound, times_in_trees}
use Rattle.mdc_sound.specs.TablePages.{DefinesTable, table_page_at}
use Rattle.entry_tree.specs.Forest.{Forest}
use Rattle.block_map.specs.BlockMaps.{IsMapForm}
use Rattle.block_map.specs.MapLines.{AreMapEntries, map_lines}
use Rattle.table_trees.specs.TableTrees.{map_place}

-- ---- 3: definitions, before their trees are known

-- none, or the one that there is
abbrev pub list_of : Option TableDef → List TableDef
list_of None = []
list_of (Some def) = def ∷ []

-- the definitions that are there
abbrev pub defs_there : Definitions → List TableDef
defs_there defs = flat_map list_of defs

-- table page t has zeros alone, or is that of a definition whose roots are pages of index extents
abbrev pub IsDefinitionSound : Shape → PageList → List Kind → ℕ → Option TableDef → Type 0
IsDefinitionSound shape pages owners t None = table_page_at pages t ≡ zero_page
IsDefinitionSound shape pages owners t (Some def) = DefinesTable pages t def × AreRootsInIndexes shape owners def

-- so it is of each of the 16, and no two tables and no two record indexes have one name
pub record AreDefinitionsSound (shape : Shape) (pages : PageList) (owners : List Kind) (defs : Definitions) : Type 0 where
  pub each : AllZip (IsDefinitionSound shape pages owners) (range_with_len 0 16) defs
  pub tables_differ : AllPairs (λ a b. a.name ≢ b.name) (defs_there defs)
  pub indexes_differ : AllPairs (λ a b. a.name ≢ b.name) (flat_map (λ def. def.indexes) (defs_there defs))

-- the first three rules hold, with these owners and definitions
pub record HasDefinitions (shape : Shape) (pages : PageList) (owners : List Kind) (defs : Definitions) : Type 0 where
  pub rule1 : IsRootSound shape pages
  pub rule2 : IsMapSound shape pages owners
  pub rule3 : AreDefinitionsSound shape pages owners defs

-- ---- 4: trees

-- the definitions of a view, place by place
abbrev pub defs_of : DatabaseView → Definitions
defs_of view = map (option_map (λ table. table.def)) view.places

-- of the trees behind the first two of each table, as many are block indexes as it has dimensions
abbrev pub HasDimensionTrees : DatabaseView → Type 0
HasDimensionTrees view = EachTable view (λ table. length table.dims ≡ length table.def.dims)

-- The view has these definitions, and their trees stand.
pub record HasTheirTrees (pages : PageList) (owners : List Kind) (defs : Definitions) (view : DatabaseView) : Type 0 where
  pub owned : view.owners ≡ owners
  pub defined : defs_of view ≡ defs
  pub rule4 : AreTreesSound pages view
  pub split : HasDimensionTrees view

-- in the trees of all tables each page stands as often as these numbers say
pub record AreTimesInTrees (pages : PageList) (view : DatabaseView) (times : List ℕ) : Type 0 where
  pub count : length times ≡ length pages
  pub each : (p : ℕ) → p < length pages → slice_index_or times p 0 ≡ times_in_trees p view

-- the first four rules hold of a view with these definitions
pub record ViewHasTrees (shape : Shape) (pages : PageList) (defs : Definitions) (view : DatabaseView) : Type 0 where
  pub defined : defs_of view ≡ defs
  pub rule1 : IsRootSound shape pages
  pub rule2 : IsMapSound shape pages view.owners
  pub rule3 : AreTablePagesSound shape pages view
  pub rule4 : AreTreesSound pages view
  pub split : HasDimensionTrees view

-- ---- 5 to 9: blocks

-- the first six
pub record ViewHasBlocks (shape : Shape) (pages : PageList) (defs : Definitions) (view : DatabaseView) : Type 0 where
  pub trees : ViewHasTrees shape pages defs view
  pub rule5 : AreTreePagesSound shape view
  pub rule6 : AreBlockMapsSound shape view

-- each page of a block is a row page of these columns
abbrev pub BlockHasRowPages : Shape → PageList → TableDef → ℕ → Type 0
BlockHasRowPages shape pages def block = (j : ℕ) → j < shape.extent_pages → IsBlockPageSound shape pages def block j

-- the first seven
pub record ViewHasRows (shape : Shape) (pages : PageList) (defs : Definitions) (view : DatabaseView) : Type 0 where
  pub blocks : ViewHasBlocks shape pages defs view
  pub rule7 : AreRowPagesSound shape pages view

-- the first nine
pub record ViewHasCells (shape : Shape) (pages : PageList) (defs : Definitions) (view : DatabaseView) : Type 0 where
  pub rows : ViewHasRows shape pages defs view
  pub rule8 : AreCountsSound shape pages view
  pub rule9 : AreCellsSound shape pages view

-- ---- the block map of a table

-- the block map of a table stands, and names extents alone
pub record HasBlockMap (shape : Shape) (pages : PageList) (def : TableDef) (map_tree : Forest) : Type 0 where
  pub tree : HasTree pages (map_place def) map_tree
  pub form : IsMapForm map_tree
  pub entries : AreMapEntries map_tree
  pub within : AllByRecursion (λ line. line.block < shape.extents) (map_lines map_tree)
