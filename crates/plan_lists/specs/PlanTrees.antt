-- Trees of lists that stand for the rows of a plan, and the pages that are looked at for them.
use Rattle.std.specs.Prelude.{◌≡◌, ◌⊎◌, ℕ, Bool, IsTrue, List, true, false, Contains}
use Rattle.mdc_values.specs.declared.rid.Rid.{Rid}
use Rattle.mdc_values.specs.declared.value.Value.{Value}
use Rattle.mdc_ast.specs.declared.definition.TableDef.{TableDef}
use Rattle.mdc_ast.specs.declared.span.Span.{Span}
use Rattle.store_api.specs.declared.pages.Pages.{Ghosts}
use Rattle.store_api.specs.declared.shape.Shape.{Shape}
use Rattle.extent_map.specs.declared.kind.Kind.{Kind}
use Rattle.entry_tree.specs.Forest.{Forest}
use Rattle.block_map.specs.MapLines.{used_blocks}
use Rattle.table_trees.specs.TableTrees.{TreePlace, map_place, place_of_dimension}
use Rattle.table_trees.specs.TreesBeside.{IsTreePageAt}
use Rattle.mdc_sound.specs.BlockRules.{AreTableIndexesSound}
use Rattle.mdc_sound.specs.StandingTable.{StandsTable, TableForests, pages_of, view_of}
use Rattle.mdc_sound.specs.TableRows.{PlacedRow, rows_in_table}
use Rattle.record_index.specs.RecordIndexes.{place_of_record_index}
use Rattle.block_lists.specs.declared.tree.ListTree.{ListTree}
use Rattle.block_lists.specs.Trees.{each_has_members, tree_holds, tree_lists_block}
use Rattle.plan_chooser.specs.declared.plan.Plan.{Plan}
use Rattle.plan_chooser.specs.declared.plan.Plan.TheVariants as plan
use Rattle.plan_chooser.specs.PlanRows.{plan_row}

-- ---- what a tree holds of the rows of a table

-- one of these rows lies in the place
abbrev pub HasRowIn : List PlacedRow → Rid → Type 0
HasRowIn rows rid = (placed : PlacedRow) × Contains rows placed × (placed.rid ≡ rid)

-- Of these rows a tree holds the places of those whose values pass a test, and of no other one. A place that it holds in a Used block
-- that it doesn't name whole is one of a row.
pub record HoldsPassing (passes : List Value → Bool) (rows : List PlacedRow) (map_tree : Forest) (tree : ListTree) : Type 0 where
  pub exact : (placed : PlacedRow) → Contains rows placed → tree_holds tree placed.rid ≡ passes placed.row.values
  pub lies : (rid : Rid) → tree_holds tree rid ≡ true → tree_lists_block tree rid.block ≡ false → Contains (used_blocks map_tree) rid.block → HasRowIn rows rid

-- each block that a tree names whole is Used
abbrev pub NamesUsed : Forest → ListTree → Type 0
NamesUsed map_tree tree = (block : ℕ) → tree_lists_block tree block ≡ true → Contains (used_blocks map_tree) block

-- A tree of lists, in which each All and each Any has a member, stands for the rows of a table whose values pass a test, where the table
-- stands and its record indexes are sound; the blocks that it names whole are Used ones where the table stands.
pub record StandsFor {S : Type 0} (g : Ghosts S) (shape : Shape) (s : S) (def : TableDef) (passes : List Value → Bool) (tree : ListTree) : Type 0 where
  pub members : IsTrue (each_has_members tree)
  pub rows : (owners : List Kind) (forests : TableForests) → StandsTable g shape s def owners forests → AreTableIndexesSound shape (pages_of g s) (view_of def forests)
      → HoldsPassing passes (rows_in_table shape (pages_of g s) def forests.map) forests.map tree
  pub blocks : (owners : List Kind) (forests : TableForests) → StandsTable g shape s def owners forests → NamesUsed forests.map tree

-- it stands for the rows that a plan has
abbrev pub StandsForPlan : {S : Type 0} → Ghosts S → Shape → S → TableDef → Plan → ListTree → Type 0
StandsForPlan g shape s def plan tree = StandsFor g shape s def (λ values. plan_row def values plan) tree

-- ---- the pages that are looked at

-- a plan names the tree in a place: the index of a dimension, or a record index
pub data NamesTree (def : TableDef) : Plan → TreePlace → Type 0 where
  of_blocks : (dim column : ℕ) (span : Span) → NamesTree def (plan.Blocks dim column span) (place_of_dimension def dim)
  of_rids : (index : ℕ) (span : Span) → NamesTree def (plan.Rids index span) (place_of_record_index def index)
  of_all : (parts : List Plan) (part : Plan) (place : TreePlace) → Contains parts part → NamesTree def part place → NamesTree def (plan.All parts) place
  of_any : (parts : List Plan) (part : Plan) (place : TreePlace) → Contains parts part → NamesTree def part place → NamesTree def (plan.Any parts) place

-- a page of a tree that the plan names, or of the block map, where it is told to have its form
abbrev pub IsListPage : {S : Type 0} → Ghosts S → S → TableDef → Plan → ℕ → Type 0
IsListPage g s def plan p = IsTreePageAt g s (map_place def) p ⊎ ((place : TreePlace) × NamesTree def plan place × IsTreePageAt g s place p)
