-- What a call that changed the row in a place has seen, whatever the pages hold.
use Rattle.std.specs.Prelude.{ℕ, Option, Contains}
use Rattle.mdc_values.specs.declared.rid.Rid.{Rid}
use Rattle.mdc_ast.specs.declared.definition.TableDef.{TableDef}
use Rattle.mdc_ast.specs.declared.row.Row.{Row}
use Rattle.store_api.specs.declared.pages.Pages.{Ghosts}
use Rattle.store_api.specs.declared.shape.Shape.{Shape}
use Rattle.entry_tree.specs.Forest.{Forest}
use Rattle.block_map.specs.MapLines.{used_blocks}
use Rattle.block_rows.specs.SeenRows.{SeesSlot}
use Rattle.table_trees.specs.TableTrees.{map_place}
use Rattle.table_trees.specs.TreesBeside.{HoldsTreeAt, IsTreePageAt}
use Rattle.mdc_sound.specs.StandingTable.{IsPageOfBlock, pages_of}

-- any tree that the pages hold where the block map lies lists the block as a Used one
abbrev pub IsUsedInMap : {S : Type 0} → Ghosts S → S → TableDef → ℕ → Type 0
IsUsedInMap g s def block = (t : Forest) → HoldsTreeAt g s (map_place def) t → Contains (used_blocks t) block

-- a slot of a Used block was seen
pub record SeesUsedSlot {S : Type 0} (g : Ghosts S) (shape : Shape) (s : S) (def : TableDef) (rid : Rid) (row : Option Row) : Type 0 where
  pub used : IsUsedInMap g s def rid.block
  pub slot : SeesSlot shape (pages_of g s) def rid row

-- the pages hold a tree where the block map lies, and no page of the block is one of the tree
abbrev pub IsMapApart : {S : Type 0} → Ghosts S → Shape → S → TableDef → ℕ → Type 0
IsMapApart g shape s def block = (p : ℕ) → IsPageOfBlock shape block p → IsTreePageAt g s (map_place def) p → ⊥
