-- What a walk over the parts of a plan's lists has seen of a table, whatever its pages hold.
use Rattle.std.specs.Prelude.{◌<◌, ℕ, List, Option, None, Some, All, Contains}
use Rattle.mdc_ast.specs.declared.definition.TableDef.{TableDef}
use Rattle.store_api.specs.declared.pages.Pages.{Ghosts}
use Rattle.store_api.specs.declared.shape.Shape.{Shape}
use Rattle.entry_tree.specs.Forest.{Forest}
use Rattle.block_map.specs.MapLines.{map_lines}
use Rattle.table_trees.specs.TableTrees.{map_place}
use Rattle.table_trees.specs.TreesBeside.{HoldsTreeAt}
use Rattle.mdc_sound.specs.StandingTable.{pages_of}
use Rattle.mdc_table.specs.SeenBlocks.{HasSeenCountedBlock, used_line_of}
use Rattle.mdc_table.specs.SeenPlaces.{SeesSlots}
use Rattle.mdc_table.specs.declared.listed.ListedBlock.{ListedBlock}
use Rattle.block_lists.specs.Merging.{ArePartsOf}
use Rattle.block_lists.specs.declared.part.Part.{Part}
use Rattle.block_lists.specs.declared.tree.ListTree.{ListTree}
use Rattle.plan_chooser.specs.declared.plan.Plan.{Plan}
use Rattle.plan_lists.specs.PlanTrees.{StandsForPlan}

-- a block with what its line says, without a cell
abbrev pub whole_listed : ℕ → ℕ → ListedBlock
whole_listed block rows = record { block = block; rows = rows; cell = None }

-- the block map has the line of the block as a Used one with a row, and the block was seen to be as that says, up to its last counted row
pub record HasSeenWhole {S : Type 0} (g : Ghosts S) (shape : Shape) (s : S) (def : TableDef) (block : ℕ) : Type 0 where
  pub rows : ℕ
  pub line : (t : Forest) → HoldsTreeAt g s (map_place def) t → Contains (map_lines t) (used_line_of (whole_listed block rows))
  pub some : 0 < rows
  pub seen : HasSeenCountedBlock shape (pages_of g s) def (whole_listed block rows)

-- a block was seen: the whole, or the pages of some of its slots
abbrev pub HasSeenOf : {S : Type 0} → Ghosts S → Shape → S → TableDef → ℕ → Option (List ℕ) → Type 0
HasSeenOf g shape s def block None = HasSeenWhole g shape s def block
HasSeenOf g shape s def block (Some slots) = SeesSlots g shape s def block slots

-- so was that of a part
abbrev pub HasSeenPart : {S : Type 0} → Ghosts S → Shape → S → TableDef → Part → Type 0
HasSeenPart g shape s def part = HasSeenOf g shape s def part.block part.slots

-- so was each part of a tree of lists that stands for the rows of a plan
pub record HasSeenPlan {S : Type 0} (g : Ghosts S) (shape : Shape) (s : S) (def : TableDef) (plan : Plan) : Type 0 where
  pub tree : ListTree
  pub stands : StandsForPlan g shape s def plan tree
  pub parts : List Part
  pub are : ArePartsOf tree parts
  pub seen : All (HasSeenPart g shape s def) parts
