-- Used blocks with a row of which something holds, and how many they are.
use Rattle.std.specs.Prelude.{◌≡◌, ◌↔◌, ℕ, List, length, Contains}
use Rattle.mdc_values.specs.Rising.{IsLower, IsRising}
use Rattle.mdc_ast.specs.declared.definition.TableDef.{TableDef}
use Rattle.store_api.specs.declared.shape.Shape.{Shape}
use Rattle.entry_tree.specs.Forest.{Forest}
use Rattle.block_map.specs.MapLines.{used_blocks}
use Rattle.table_trees.specs.ToldPages.{PageList}
use Rattle.mdc_sound.specs.TableRows.{PlacedRow, rows_in_block}

-- a Used block with a row of which that holds
pub record IsBlockWith (shape : Shape) (pages : PageList) (def : TableDef) (map_tree : Forest) (Has : PlacedRow → Type 0) (block : ℕ) : Type 0 where
  pub used : Contains (used_blocks map_tree) block
  pub placed : PlacedRow
  pub there : Contains (rows_in_block shape pages def block) placed
  pub has : Has placed

-- there are so many numbers of which that holds
pub record IsCountOf (Is : ℕ → Type 0) (count : ℕ) : Type 0 where
  pub numbers : List ℕ
  pub rising : IsRising IsLower numbers
  pub are : (n : ℕ) → Contains numbers n ↔ Is n
  pub counted : count ≡ length numbers
