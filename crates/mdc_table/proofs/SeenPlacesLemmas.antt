-- What is seen of the row in a place.
use Rattle.std.proofs.Common.{◌≡◌, ◌<◌, ◌^◌, ℕ, Option, None, Some, inl, subst}
use Rattle.mdc_values.specs.declared.rid.Rid.{Rid}
use Rattle.mdc_ast.specs.declared.definition.TableDef.{TableDef}
use Rattle.mdc_ast.specs.declared.row.Row.{Row}
use Rattle.store_api.specs.declared.pages.Pages.{Ghosts}
use Rattle.store_api.specs.declared.shape.Shape.{Shape}
use Rattle.entry_tree.specs.Forest.{Forest}
use Rattle.entry_tree.specs.HeldTrees.{HoldsTree}
use Rattle.entry_tree.specs.declared.tree.Tree.{Tree}
use Rattle.block_map.specs.BlockMaps.{FindsBlock}
use Rattle.block_map.specs.declared.row.BlockRow.{BlockRow}
use Rattle.block_map.specs.declared.state.BlockState.TheVariants as state
use Rattle.block_rows.specs.SeenRows.{SeesSlot}
use Rattle.table_trees.specs.TableTrees.{map_place}
use Rattle.table_trees.specs.TreesBeside.{HoldsTreeAt}
use Rattle.mdc_sound.specs.StandingTable.{pages_of}
use Rattle.table_blocks.specs.SeenSlots.{IsUsedInMap}
use Rattle.table_blocks.proofs.SeenSlotsLemmas.{holds_map, used_of_line}
use Rattle.mdc_table.specs.SeenPlaces.{IsSeenUnused, IsUnusedRow, SeesPlace}

-- ---- the block map

module _ {S : Type 0} {g : Ghosts S} (s : S) (def : TableDef) (tree : Tree) (root : tree.root ≡ def.roots.map) (width : tree.width ≡ 7) (block : ℕ) (found : Option BlockRow) (finds : (t : Forest) → HoldsTree g s tree t → FindsBlock t block found) where
  -- what was found holds of any tree where the block map lies
  finds_at : (t : Forest) → HoldsTreeAt g s (map_place def) t → FindsBlock t block found
  finds_at t held = finds t (holds_map s def tree t root width held)

  -- the row of a Used block
  pub used_in_map : (row : BlockRow) → block < 2 ^ 32 → found ≡ Some row → row.state ≡ state.Used → IsUsedInMap g s def block
  used_in_map row small is used t held = used_of_line t block row small (subst (FindsBlock t block) is (finds_at t held)) used

  -- another, or none
  pub unused_in_map : IsUnusedRow found → IsSeenUnused g s def block
  unused_in_map unused = record { found = found; finds = finds_at; unused = unused }

-- ---- the slot

-- a slot of a Used block, behind a call that changed nothing
pub sees_place : {S : Type 0} {g : Ghosts S} (shape : Shape) (old mid : S) (def : TableDef) (rid : Rid) (row : Option Row) → (g.state mid).work ≡ (g.state old).work
    → IsUsedInMap g old def rid.block → SeesSlot shape (pages_of g mid) def rid row → SeesPlace g shape old def rid row
sees_place shape old mid def rid None same used slot = inl (record { used = used; slot = subst (λ pages. SeesSlot shape pages def rid None) same slot })
sees_place shape old mid def rid (Some row) same used slot = record { used = used; slot = subst (λ pages. SeesSlot shape pages def rid (Some row)) same slot }
