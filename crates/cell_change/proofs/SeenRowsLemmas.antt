-- What taking a row out of its slot has seen once its entries have left the record indexes, as seen before that.
use Rattle.std.proofs.Common.{◌≡◌, ◌<◌, ◌+◌, ◌*◌, ◌/◌, ℕ, zero, suc, IsTrue, List, Option, Some, None, length, get_or, ap, arith, sym, ◌∙◌, subst, inl, inr}
use Rattle.std.specs.Prelude.{Contains}
use Rattle.std.proofs.Math.Nat.{div-lt_iff_lt-mul}
use Rattle.mdc_values.specs.declared.rid.Rid.{Rid}
use Rattle.mdc_ast.specs.declared.definition.TableDef.{TableDef}
use Rattle.mdc_ast.specs.declared.row.Row.{Row}
use Rattle.store_api.specs.Extents.{first_page_of}
use Rattle.store_api.specs.Frame.{Touches}
use Rattle.store_api.specs.declared.pages.Pages.{Ghosts}
use Rattle.store_api.specs.declared.shape.Shape.{Shape}
use Rattle.extent_map.specs.Owners.{owner_of}
use Rattle.extent_map.specs.declared.kind.Kind.{Kind}
use Rattle.extent_map.specs.declared.space_notes.SpaceNotes.{SpaceNotes}
use Rattle.extent_map.proofs.ExtentsLemmas.{extent_of-page, is_extent_page}
use Rattle.row_page.specs.RowPage.{StartsAsRowPage, slot_count}
use Rattle.entry_tree.specs.Forest.{Forest, times}
use Rattle.entry_tree.specs.HeldTrees.{nodes_in}
use Rattle.entry_tree.proofs.ForestLemmas.{same_forest}
use Rattle.block_map.specs.MapLines.{used_blocks}
use Rattle.block_rows.specs.SeenRows.{SeesSlot, SeesSomeRow}
use Rattle.table_trees.specs.TableTrees.{map_place, record_places}
use Rattle.table_trees.specs.ToldPages.{PageList}
use Rattle.table_trees.specs.TreesBeside.{HoldsTreeAt, IsTreesOrMapPage}
use Rattle.table_trees.proofs.SideBySideLemmas.{tree_still}
use Rattle.mdc_sound.specs.Placing.{block_slot_count}
use Rattle.mdc_sound.specs.StandingTable.{StandsTable, TableForests, pages_of}
use Rattle.mdc_sound.specs.TableRows.{block_slots}
use Rattle.mdc_sound.proofs.BlockRulesLemmas.{named_owned}
use Rattle.mdc_sound.proofs.PlacingLemmas.{filled_below}
use Rattle.mdc_sound.proofs.SlotRowsLemmas.{length-block_slots}
use Rattle.mdc_sound.proofs.TableRowsLemmas.{KeepsBlockPages, block_slots-kept}
use Rattle.row_entries.specs.RowEntries.{LeavesRow}
use Rattle.table_blocks.specs.SeenSlots.{IsMapApart, SeesUsedSlot}
use Rattle.table_blocks.proofs.SeenSlotsLemmas.{seen_before}
use Rattle.cell_change.specs.ApartIndexes.{DoIndexesStandApart}

-- the slot of a row that was seen is one of the block's
slot_within : (shape : Shape) (pages : PageList) (def : TableDef) (rid : Rid) (row : Row) → SeesSlot shape pages def rid (Some row) → rid.slot < block_slot_count shape def
slot_within shape pages def rid row slot = omega (arith, filled_below (block_slots shape pages def rid.block) rid.slot row (sym slot.row_is), length-block_slots shape pages def rid.block)

-- two trees where the block map lies are one
one_map : {S : Type 0} (g : Ghosts S) (s : S) (def : TableDef) (t other : Forest) → HoldsTreeAt g s (map_place def) t → HoldsTreeAt g s (map_place def) other → t ≡ other
one_map g s def t other here holds = same_forest (nodes_in (map_place def).width (g.state s)) t other here.is_tree.holds holds.is_tree.holds (here.is_tree.head ∙ sym holds.is_tree.head)

-- ---- in a table that stands

-- a slot of some lies on one of the pages that they are on
on_page : (pages each slot : ℕ) → slot < pages * each → slot / each < pages
on_page pages zero slot within = absurd (omega (arith, within))
on_page pages (suc each) slot within = let some : 0 < suc each = omega arith in (div-lt_iff_lt-mul some).1 within

module _ {S : Type 0} (g : Ghosts S) (shape : Shape) {before mid : SpaceNotes} (old middle : S) (def : TableDef) (row : Row) (rid : Rid) (owners : List Kind) (forests : TableForests) (st : StandsTable g shape old def owners forests)
    (leaves : LeavesRow g shape before mid old middle def row rid owners forests) where
  -- the block map is where it was
  held_then : HoldsTreeAt g middle (map_place def) forests.map
  held_then = leaves.table.changes.stands.trees.held.0

  one_map_tree : (t : Forest) → HoldsTreeAt g old (map_place def) t → forests.map ≡ t
  one_map_tree t holds = one_map g old def forests.map t st.trees.held.0 holds

  -- and as far apart from the block
  pub apart_left : IsMapApart g shape old def rid.block → IsMapApart g shape middle def rid.block
  apart_left apart p of tree = apart p of (λ t holds. subst (λ (m : Forest). 0 < times p m) (one_map_tree t holds) (tree forests.map held_then))

  -- the pages of a Used block are what they were
  pages_kept : Contains (used_blocks forests.map) rid.block → KeepsBlockPages shape (pages_of g old) (pages_of g middle) rid.block
  pages_kept used =
      let owned = named_owned shape owners def forests.map 1 rid.block st.map used in
      record {
        each = λ j within.
            leaves.table.blocks.stay (first_page_of shape.extents shape.extent_pages rid.block + j)
            (record { page = is_extent_page shape rid.block j owned.0 within; block = ap (owner_of owners) (extent_of-page shape rid.block j within) ∙ owned.1 }) (λ wrong. wrong);
      }

  pub row_seen : length (pages_of g middle) ≡ length (pages_of g old) → SeesSomeRow (SeesUsedSlot g shape middle def rid) → SeesSomeRow (SeesUsedSlot g shape old def rid)
  row_seen count sees =
      let slot = sees.1.slot in
      let used = sees.1.used forests.map held_then in
      let kept = pages_kept used in
      let within = slot_within shape (pages_of g middle) def rid sees.0 slot in (
        sees.0,
        record {
          used = λ t holds. subst (λ (m : Forest). Contains (used_blocks m) rid.block) (one_map_tree t holds) used;
          slot = record {
            there = omega (arith, slot.there, count);
            starts = subst (StartsAsRowPage def.columns) (kept.each (rid.slot / slot_count def.columns) (on_page shape.extent_pages (slot_count def.columns) rid.slot within)) slot.starts;
            row_is = slot.row_is ∙ ap (λ (slots : List (Option Row)). get_or slots rid.slot None) (block_slots-kept shape (pages_of g old) (pages_of g middle) def rid.block kept);
          };
        },
      )

-- ---- on told pages that hold the record indexes apart

module _ {S : Type 0} (g : Ghosts S) (shape : Shape) (old middle : S) (def : TableDef) (rid : Rid) (told : IsTrue (g.state old).is_told) (still : (g.state middle).is_told ≡ (g.state old).is_told)
    (touched : Touches g (IsTreesOrMapPage g shape old (record_places def)) old middle) (beside : DoIndexesStandApart g shape old def rid.block) where
  -- each tree that stood where the block map lies stands there
  map_still : (t : Forest) → HoldsTreeAt g old (map_place def) t → HoldsTreeAt g middle (map_place def) t
  map_still t held =
      tree_still (IsTreesOrMapPage g shape old (record_places def)) old middle (map_place def) t held touched still
      (λ p of. beside.apart p (inr (λ other holds. subst (λ (m : Forest). 0 < times p m) (one_map g old def t other held holds) of)))

  pub apart_beside : IsMapApart g shape old def rid.block → IsMapApart g shape middle def rid.block
  apart_beside apart p of tree = apart p of (λ t held. tree t (map_still t held))

  pub seen_beside : length (pages_of g middle) ≡ length (pages_of g old) → SeesSomeRow (SeesUsedSlot g shape middle def rid)
      → SeesSomeRow (SeesUsedSlot g shape old def rid)
  seen_beside count sees = (
    sees.0,
    record {
      used = λ t held. sees.1.used t (map_still t held);
      slot = seen_before g shape old middle def rid (Some sees.0) beside.within (slot_within shape (pages_of g middle) def rid sees.0 sees.1.slot) told count touched (λ p of. beside.apart p (inl of)) sees.1.slot;
    },
  )
