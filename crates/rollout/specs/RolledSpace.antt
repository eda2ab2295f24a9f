-- What a rollout makes of the space of a file: none is taken, and what isn't the table's stays.
use Rattle.std.specs.Prelude.{◌≡◌, ℕ, List, length, sum_by}
use Rattle.std.specs.List.{AllZip}
use Rattle.mdc_ast.specs.declared.definition.TableDef.{TableDef}
use Rattle.store_api.specs.StoreState.{page_at}
use Rattle.store_api.specs.declared.shape.Shape.{Shape}
use Rattle.extent_map.specs.Owners.{IsUsedPage}
use Rattle.extent_map.specs.declared.kind.Kind.{Kind}
use Rattle.entry_tree.specs.Forest.{Forest, times}
use Rattle.table_trees.specs.TableTrees.{tree_places}
use Rattle.table_trees.specs.ToldPages.{HasTree, PageList}
use Rattle.record_index.specs.SweptLeaf.{TakesNoSpace}

-- each used index page that isn't one of these trees stays as it is, and in use
pub record KeepsPagesBeside (shape : Shape) (old_owners new_owners : List Kind) (old new : PageList) (trees : List Forest) : Type 0 where
  pub bytes : (p : ℕ) → IsUsedPage shape old_owners p → sum_by (times p) trees ≡ 0 → page_at new p ≡ page_at old p
  pub used : (p : ℕ) → IsUsedPage shape old_owners p → sum_by (times p) trees ≡ 0 → IsUsedPage shape new_owners p

-- Calls on a table gave space back or left it. No fewer extents are free, each index page that is used was, those that are none of
-- the table's trees' stay as they are and in use, and there are as many pages as there were.
pub record RollsInSpace (shape : Shape) (def : TableDef) (old new : PageList) : Type 0 where
  pub takes : TakesNoSpace shape old new
  pub trees : List Forest
  pub had : AllZip (HasTree old) (tree_places def) trees
  pub others : KeepsPagesBeside shape takes.old_owners takes.new_owners old new trees
  pub no_more : (p : ℕ) → IsUsedPage shape takes.new_owners p → IsUsedPage shape takes.old_owners p
  pub count : length new ≡ length old
