-- A table with the trees that its pages hold.
use Rattle.std.specs.Prelude.{List, ◌∷◌, ◌++◌}
use Rattle.mdc_ast.specs.declared.definition.TableDef.{TableDef}
use Rattle.entry_tree.specs.Forest.{Forest}

-- a table with its trees
pub record TableView : Type 0 where
  pub def : TableDef
  pub map : Forest
  pub composite : Forest
  pub dims : List Forest
  pub indexes : List Forest

-- all of them, in the order of their places
abbrev pub trees_of_table : TableView → List Forest
trees_of_table table = table.map ∷ table.composite ∷ table.dims ++ table.indexes
