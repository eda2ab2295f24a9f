-- What is seen of a slot that is changed.
use Rattle.std.proofs.Common.{◌≡◌, ◌<◌, ◌≤◌, ◌*◌, ◌/◌, ◌+◌, ◌^◌, ℕ, zero, suc, Bool, true, IsTrue, List, length, get_or, refl, ap, arith, sym, ◌∙◌, subst}
use Rattle.std.specs.Prelude.{Contains, Option, Some, None, is_some}
use Rattle.std.proofs.Math.Nat.{div-lt_iff_lt-mul}
use Rattle.std.proofs.lemmas.Bool.{eq-eqb}
use Rattle.mdc_values.specs.declared.rid.Rid.{Rid}
use Rattle.mdc_ast.specs.declared.definition.TableDef.{TableDef}
use Rattle.mdc_ast.specs.declared.row.Row.{Row}
use Rattle.store_api.specs.Extents.{first_page_of}
use Rattle.store_api.specs.Frame.{Touches}
use Rattle.store_api.specs.StoreState.{page_at}
use Rattle.store_api.specs.declared.pages.Pages.{Ghosts}
use Rattle.store_api.specs.declared.shape.Shape.{Shape}
use Rattle.row_page.specs.RowPage.{StartsAsRowPage, slot_count}
use Rattle.entry_tree.specs.Forest.{Forest, leaf_entries}
use Rattle.entry_tree.specs.HeldTrees.{HoldsTree, IsTreePage}
use Rattle.entry_tree.specs.declared.tree.Tree.{Tree}
use Rattle.block_map.specs.BlockMaps.{FindsBlock, HasRow}
use Rattle.block_map.specs.MapLines.{map_line, used_blocks}
use Rattle.block_map.specs.MapRows.{row_entry, state_number}
use Rattle.block_map.specs.declared.row.BlockRow.{BlockRow}
use Rattle.block_map.specs.declared.state.BlockState.TheVariants as state
use Rattle.block_map.proofs.MapLinesLemmas.{in_state_named, row_block, row_state}
use Rattle.block_rows.specs.HeldRows.{HoldsRows, IsFilledSlot}
use Rattle.block_rows.specs.SeenRows.{SeesIfRow, SeesSlot, SeesSomeRow}
use Rattle.block_rows.proofs.HeldRowsLemmas.{only_page_of_block}
use Rattle.table_trees.specs.TableTrees.{map_place, place_of_tree}
use Rattle.table_trees.specs.TreesBeside.{HoldsTreeAt}
use Rattle.table_trees.proofs.TableTreesLemmas.{same_tree_place}
use Rattle.table_trees.proofs.TreesBesideLemmas.{holds_at}
use Rattle.mdc_sound.specs.Placing.{block_slot_count}
use Rattle.mdc_sound.specs.StandingTable.{IsPageOfBlock, pages_of}
use Rattle.mdc_sound.specs.TableRows.{block_page}
use Rattle.mdc_sound.proofs.TableRowsLemmas.{block_slots-kept}
use Rattle.table_blocks.specs.SeenSlots.{IsMapApart, IsUsedInMap}

-- ---- the row

-- what was seen was a row
pub row_seen : (Sees : Option Row → Type 0) (filled : Bool) → filled ≡ true → SeesIfRow Sees filled → SeesSomeRow Sees
row_seen Sees filled is sees = go sees.row sees.sees (sym sees.filled_is ∙ is)
  where
    go : (row : Option Row) → Sees row → is_some row ≡ true → SeesSomeRow Sees
    go None seen some = absurd cc
    go (Some row) seen some = (row, seen)

-- what was seen is so of the slots that the block holds
pub filled_seen : {S : Type 0} {g : Ghosts S} {shape : Shape} {s : S} {def : TableDef} {rid : Rid} {slots : List (Option Row)} {filled : Bool} → SeesIfRow (SeesSlot shape (pages_of g s) def rid) filled → HoldsRows g shape s def rid.block slots
    → IsFilledSlot slots rid.slot filled
filled_seen {rid = rid} sees held = sees.filled_is ∙ ap is_some (sees.sees.row_is ∙ ap (λ l. get_or l rid.slot None) held.slots_are)

-- ---- the block map

-- a block whose line says so is Used
pub used_of_line : (map_tree : Forest) (block : ℕ) (row : BlockRow) → block < 2 ^ 32 → FindsBlock map_tree block (Some row) → row.state ≡ state.Used → Contains (used_blocks map_tree) block
used_of_line map_tree block row small found used =
    let low : row.block < 2 ^ 32 = omega (arith, small, found.0) in
    let is : (map_line (row_entry row)).state ≡ 1 = row_state row ∙ ap state_number used in
    in_state_named 1 (leaf_entries map_tree) block
    (record { entry = row_entry row; there = found.1; state = eq-eqb (map_line (row_entry row)).state 1 is; block_is = row_block row low ∙ found.0 })

-- a map with the root and width of the table's holds each tree that stands there
pub holds_map : {S : Type 0} {g : Ghosts S} (s : S) (def : TableDef) (tree : Tree) (t : Forest) → tree.root ≡ def.roots.map → tree.width ≡ 7 → HoldsTreeAt g s (map_place def) t → HoldsTree g s tree t
holds_map s def tree t root width held = holds_at s tree (map_place def) t (same_tree_place (place_of_tree tree) (map_place def) root width) held

module _ {S : Type 0} {g : Ghosts S} (s : S) (def : TableDef) (tree : Tree) (root : tree.root ≡ def.roots.map) (width : tree.width ≡ 7) where
  -- the line of a Used block, in any tree where the block map lies
  pub used_by_line : (block : ℕ) (line : BlockRow) → block < 2 ^ 32 → line.block ≡ block → line.state ≡ state.Used → ((t : Forest) → HoldsTree g s tree t → HasRow line t) → IsUsedInMap g s def block
  used_by_line block line small named used there t held = used_of_line t block line small (named, there t (holds_map s def tree t root width held)) used

  -- it lies apart from the block
  pub tree_apart : (shape : Shape) (block : ℕ) → IsMapApart g shape s def block → (p : ℕ) → IsPageOfBlock shape block p → IsTreePage g s tree p → ⊥
  tree_apart shape block apart p of is = apart p of (λ t held. is t (holds_map s def tree t root width held))

-- ---- the slot

-- a page has slots, where a block has some
positive : (pages each slot : ℕ) → slot < pages * each → 0 < each
positive pages zero slot within = absurd (omega (arith, within))
positive pages (suc each) slot within = omega arith

module _ {S : Type 0} (g : Ghosts S) (shape : Shape) (old mid : S) (def : TableDef) (rid : Rid) where
  -- the same pages
  pub seen_same : (row : Option Row) → (g.state mid).work ≡ (g.state old).work → SeesSlot shape (pages_of g mid) def rid row → SeesSlot shape (pages_of g old) def rid row
  seen_same row same sees = subst (λ pages. SeesSlot shape pages def rid row) same sees

  -- behind a call that changed no page of the block
  pub seen_before : {Mine : ℕ → Type 0} (row : Option Row) → rid.block < shape.extents → rid.slot < block_slot_count shape def → IsTrue (g.state old).is_told → length (g.state mid).work ≡ length (g.state old).work
      → Touches g Mine old mid → ((p : ℕ) → IsPageOfBlock shape rid.block p → Mine p → ⊥) → SeesSlot shape (pages_of g mid) def rid row → SeesSlot shape (pages_of g old) def rid row
  seen_before {Mine} row low within told count touches apart sees = record {
    there = there;
    starts = subst (StartsAsRowPage def.columns) (kept (rid.slot / slot_count def.columns) its_page) sees.starts;
    row_is = sees.row_is ∙ ap (λ slots. get_or slots rid.slot None) (block_slots-kept shape (pages_of g old) (pages_of g mid) def rid.block (record { each = kept }));
  }
    where
      there : first_page_of shape.extents shape.extent_pages (rid.block + 1) ≤ length (pages_of g old)
      there = omega (arith, sees.there, count)

      its_page : rid.slot / slot_count def.columns < shape.extent_pages
      its_page = let some : 0 < slot_count def.columns = positive shape.extent_pages (slot_count def.columns) rid.slot within in (div-lt_iff_lt-mul some).1 within

      kept : (j : ℕ) → j < shape.extent_pages → block_page shape (pages_of g mid) rid.block j ≡ block_page shape (pages_of g old) rid.block j
      kept j less =
          let p = first_page_of shape.extents shape.extent_pages rid.block + j in
          (touches.others p (page_at (pages_of g old) p) (apart p (only_page_of_block shape rid.block p j low less refl)) (record { is_told = told; within = omega (arith, there, less); bytes_are = refl })).bytes_are
