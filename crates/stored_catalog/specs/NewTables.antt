-- Tables that are new: their definitions, which have no roots and no rows yet, and what their trees are at first.
use Rattle.std.specs.Prelude.{◌≡◌, ℕ, IsTrue, List, [], ◌∷◌, map, zip}
use Rattle.mdc_ast.specs.declared.definition.Roots.{Roots}
use Rattle.mdc_ast.specs.declared.definition.TableDef.{TableDef}
use Rattle.entry_tree.specs.Forest.{Forest}
use Rattle.entry_tree.specs.Forest.Forest.{Nil, Leaf}
use Rattle.mdc_ast.specs.TableLimits.{AreTableColumns, AreTableDims, is_given_name}
use Rattle.table_trees.specs.TableTrees.{TreePlace, block_index_places, dimension_place, map_place}
use Rattle.mdc_sound.specs.TableViews.{TableView}

-- a definition that CREATE TABLE can make, whatever its number, its next row number and its roots are
pub record IsNewTableDef (def : TableDef) : Type 0 where
  pub name : IsTrue (is_given_name def.name)
  pub columns : AreTableColumns def.columns
  pub dims : AreTableDims def.columns def.dims
  pub no_indexes : def.indexes ≡ []

-- the definition of a new table with these roots
abbrev pub rooted : TableDef → Roots → TableDef
rooted def roots = record def { next = 0; roots = roots }

-- where the trees of a table without record indexes are: its block map and its block indexes
abbrev pub own_places : TableDef → List TreePlace
own_places def = map_place def ∷ block_index_places def

-- where the indexes of all dimensions are, with these roots
abbrev pub places_with_roots : TableDef → List ℕ → List TreePlace
places_with_roots def roots = map (λ pair. dimension_place def pair.0 pair.1) (zip def.dims roots)

-- a tree without entries
abbrev pub empty_tree : ℕ → Forest
empty_tree root = Leaf root [] Nil

-- one in each of these places
abbrev pub empty_trees : List TreePlace → List Forest
empty_trees places = map (λ place. empty_tree place.root) places

-- a table without rows and record indexes
abbrev pub empty_table : TableDef → TableView
empty_table def = record {
  def = def;
  map = empty_tree def.roots.map;
  composite = empty_tree def.roots.composite;
  dims = map empty_tree def.roots.dims;
  indexes = [];
}
