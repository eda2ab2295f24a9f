-- Which blocks of a cell have room, as a walk over the blocks of its key meets them.
use Rattle.std.proofs.Common.{◌≡◌, ◌<◌, ◌≤◌, ◌+◌, ◌*◌, ◌^◌, ◌%◌, ℕ, List, [], ◌++◌, refl, ap, arith, sym, ◌∙◌, subst, length, map, inl, inr}
use Rattle.std.specs.Prelude.{Contains, IsTrue, Option, Some, None, slice_index_or}
use Rattle.std.proofs.Math.Nat.{mod-eq_of_lt}
use Rattle.std.proofs.lemmas.Bool.{cases_eq, cases_lt}
use Rattle.byteorder.specs.Endian.{big_bytes}
use Rattle.byteorder.specs.Numbers.{big_from-bytes}
use Rattle.mdc_words.specs.ByteOrder.{Entry}
use Rattle.mdc_ast.specs.declared.definition.TableDef.{TableDef}
use Rattle.mdc_ast.specs.declared.row.Row.{Row}
use Rattle.mdc_ast.specs.Database.{fits_all}
use Rattle.store_api.specs.declared.pages.Pages.{Ghosts}
use Rattle.store_api.specs.declared.shape.Shape.{Shape}
use Rattle.extent_map.specs.declared.kind.Kind.{Kind}
use Rattle.row_page.specs.RowPage.{count_rows, slot_count}
use Rattle.key_codec.specs.Keys.{ArePartsOf, width_of_parts}
use Rattle.key_codec.proofs.KeyLemmas.{length-key_bytes}
use Rattle.entry_tree.specs.EntryBounds.{IsEntryOf}
use Rattle.entry_tree.specs.Forest.{Forest, leaf_entries}
use Rattle.block_map.specs.BlockMaps.{FindsBlock, HasRow}
use Rattle.block_map.specs.MapLines.{map_entry, map_line, mapped_blocks, used_blocks}
use Rattle.block_map.specs.MapRows.{row_entry, state_number}
use Rattle.block_map.specs.declared.row.BlockRow.{BlockRow}
use Rattle.block_map.specs.declared.state.BlockState.TheVariants as state
use Rattle.block_map.proofs.MapFormLemmas.{form_one}
use Rattle.block_map.proofs.MapLinesLemmas.{entry_small, row_block, row_state}
use Rattle.block_index.specs.Cells.{entry_under}
use Rattle.block_index.specs.Reading.{FindsUnder, IsLowestUnder}
use Rattle.table_trees.specs.TableTrees.{cell_parts, composite_place}
use Rattle.table_trees.specs.TreesBeside.{HoldsTreeAt}
use Rattle.mdc_sound.specs.BlockRules.{AreBlockRowsSound, IsUsedCountSound, entry_of_block}
use Rattle.mdc_ast.specs.FittingRows.{RowFits}
use Rattle.mdc_sound.specs.Placing.{HasRoomFor, Spot}
use Rattle.mdc_sound.specs.Placing.Spot.{FreeBlock, FreeExtent, IndexExtent, OtherBlock, PendingBlock, UsedBlock}
use Rattle.mdc_sound.specs.StandingTable.{StandsTable, TableForests, pages_of, spots_of}
use Rattle.mdc_sound.specs.TableRows.{PlacedRow, block_slots, rows_in_block, rows_in_table}
use Rattle.mdc_sound.proofs.BlockRulesLemmas.{each_of, line_at, named_owned}
use Rattle.mdc_sound.proofs.ElementsLemmas.{contains_flat, each_entry, entry_in, flat_contains, from_map, contains_block}
use Rattle.mdc_sound.proofs.MappedBlocksLemmas.{IsUsedLine, map_form, used_line, used_number}
use Rattle.mdc_sound.proofs.SlotRowsLemmas.{IsPlaced, empty_slot, fewer_rows, length-block_slots, length-rows_from_slot, placed_in_slot, slot_of_placed}
use Rattle.mdc_sound.proofs.StandingTableLemmas.{stands_same}
use Rattle.mdc_sound.proofs.TableSpotsLemmas.{used_of_spot, used_spot}
use Rattle.free_space.specs.FoundRoom.{FindsRoom, cell_key_of}
use Rattle.free_space.proofs.CellKeysLemmas.{cell_key_of-same, one_cell, same_entry}

-- ---- rows of the block map

-- how many rows an entry says
line_rows : (block state rows : ℕ) → (map_line (map_entry block state rows)).rows ≡ rows % 256 ^ 2
line_rows block state rows = big_from-bytes 2 rows []

-- a spot with room is a Used block
has_room : (def : TableDef) (row : Row) (spot : Spot) → HasRoomFor def row spot → (slots : List (Option Row)) × (spot ≡ UsedBlock slots) × HasRoomFor def row (UsedBlock slots)
has_room def row (UsedBlock slots) room = (slots, refl, room)
has_room def row FreeExtent room = absurd room
has_room def row IndexExtent room = absurd room
has_room def row OtherBlock room = absurd room
has_room def row FreeBlock room = absurd room
has_room def row PendingBlock room = absurd room

module _ {S : Type 0} {g : Ghosts S} (shape : Shape) (s : S) (def : TableDef) (owners : List Kind) (forests : TableForests) (st : StandsTable g shape s def owners forests) where
  -- a Used block has a number of four bytes
  used_small : (block : ℕ) → Contains (used_blocks forests.map) block → block < 2 ^ 32
  used_small block used = let line = used_line forests.map block used in subst (λ (b : ℕ). b < 2 ^ 32) line.block_is (entry_small line.entry (st.map.entries line.entry line.there))

  -- ---- what is found of it in the block map

  -- it is named
  pub used_is_mapped : (block : ℕ) → Contains (used_blocks forests.map) block → FindsBlock forests.map block None → ⊥
  used_is_mapped block used none =
      let line = used_line forests.map block used in
      none (st.map.entries, subst (Contains (mapped_blocks forests.map)) line.block_is (contains_block (leaf_entries forests.map) line.entry line.there))

  -- its row is that of its entry
  row_of_line : (block : ℕ) (row : BlockRow) → Contains (used_blocks forests.map) block → row.block ≡ block → HasRow row forests.map → (line : IsUsedLine forests.map block) → row_entry row ≡ line.entry
  row_of_line block row used same there line =
      let small : row.block < 2 ^ 32 = subst (λ (b : ℕ). b < 2 ^ 32) (sym same) (used_small block used) in
      form_one forests.map (row_entry row) line.entry (map_form shape owners def forests.map st.map) there line.there (row_block row small ∙ same ∙ sym line.block_is)

  pub used_is_used : (block : ℕ) (row : BlockRow) → Contains (used_blocks forests.map) block → FindsBlock forests.map block (Some row) → row.state ≡ state.Used
  used_is_used block row used found =
      let line = used_line forests.map block used in
      used_number row.state (sym (row_state row) ∙ ap (λ (x : Entry). (map_line x).state) (row_of_line block row used found.0 found.1 line) ∙ line.used)

  pub used_within : (block : ℕ) → Contains (used_blocks forests.map) block → block < shape.extents
  used_within block used = (named_owned shape owners def forests.map 1 block st.map used).0

  -- it counts the rows of the block's slots
  rows_counted : (block : ℕ) (row : BlockRow) → Contains (used_blocks forests.map) block → row.block ≡ block → row.rows < 2 ^ 16 → HasRow row forests.map → row.rows ≡ count_rows (block_slots shape (pages_of g s) def block)
  rows_counted block row used same few there =
      let line = used_line forests.map block used in
      let is = row_of_line block row used same there line in
      let counts = line_at (IsUsedCountSound shape (pages_of g s) def) (leaf_entries forests.map) line.entry st.used_counts line.there in
      sym (mod-eq_of_lt few) ∙ sym (line_rows row.block (state_number row.state) row.rows) ∙ ap (λ (x : Entry). (map_line x).rows) is ∙ counts.counted line.used
      ∙ ap (λ (b : ℕ). length (rows_in_block shape (pages_of g s) def b)) line.block_is ∙ length-rows_from_slot block 0 (block_slots shape (pages_of g s) def block)

  -- ---- what the composite index has of it

  -- a block with room is there under the key of its cell
  pub room_listed : (row : Row) (key : Entry) (block : ℕ) → key ≡ cell_key_of def row.values → HasRoomFor def row (slice_index_or (spots_of g shape s def owners forests) block OtherBlock)
      → (block < 2 ^ 32) × IsEntryOf (entry_under key block) (leaf_entries forests.composite)
  room_listed row key block is room =
      let r = has_room def row (slice_index_or (spots_of g shape s def owners forests) block OtherBlock) room in
      let spot = used_of_spot shape (pages_of g s) def owners forests.map st.map block r.0 r.1 in
      let other = r.2.0.0 in
      let at : IsPlaced block other (rows_in_block shape (pages_of g s) def block) =
      placed_in_slot block 0 (block_slots shape (pages_of g s) def block) other (subst (λ (all : List (Option Row)). Contains all (Some other)) spot.1 r.2.0.1) in
      let in_table : Contains (rows_in_table shape (pages_of g s) def forests.map) at.placed =
      contains_flat (rows_in_block shape (pages_of g s) def) (used_blocks forests.map) block at.placed spot.0 at.there in
      let listed : Contains (leaf_entries forests.composite) (entry_of_block def (cell_parts def) at.placed) =
      each_of (λ placed. Contains (leaf_entries forests.composite) (entry_of_block def (cell_parts def) placed)) (rows_in_table shape (pages_of g s) def forests.map) at.placed st.indexes.composite.has in_table in
      let same_key : cell_key_of def at.placed.row.values ≡ key =
      ap (λ (p : Row). cell_key_of def p.values) at.row_is ∙ cell_key_of-same def other.values row.values r.2.0.2 ∙ sym is in
      let entry_is : entry_of_block def (cell_parts def) at.placed ≡ entry_under key block =
      ap (λ (k : Entry). k ++ big_bytes 4 at.placed.rid.block) same_key ∙ ap (λ (b : ℕ). key ++ big_bytes 4 b) at.block_is in
      (used_small block spot.0, entry_in (leaf_entries forests.composite) (entry_under key block) (subst (Contains (leaf_entries forests.composite)) entry_is listed))

  -- a block that is there under a key is Used, and holds a row of that key
  pub record IsBlockOfKey (key : Entry) (block : ℕ) : Type 0 where
    pub used : Contains (used_blocks forests.map) block
    pub placed : PlacedRow
    pub there : Contains (rows_in_block shape (pages_of g s) def block) placed
    pub fits : IsTrue (fits_all def.columns placed.row.values)
    pub key_is : cell_key_of def placed.row.values ≡ key

  pub listed_of_key : (key : Entry) (block : ℕ) → ArePartsOf def.columns (cell_parts def) → length key ≡ width_of_parts def.columns (cell_parts def) → block < 2 ^ 32
      → IsEntryOf (entry_under key block) (leaf_entries forests.composite) → IsBlockOfKey key block
  listed_of_key key block are wide small there =
      let in_map = each_entry (Contains (map (entry_of_block def (cell_parts def)) (rows_in_table shape (pages_of g s) def forests.map))) (leaf_entries forests.composite) (entry_under key block) st.indexes.composite.only there in
      let r = from_map (entry_of_block def (cell_parts def)) (rows_in_table shape (pages_of g s) def forests.map) (entry_under key block) in_map in
      let placed : PlacedRow = r.0 in
      let b = flat_contains (rows_in_block shape (pages_of g s) def) (used_blocks forests.map) placed r.1 in
      let slot = slot_of_placed b.0 0 (block_slots shape (pages_of g s) def b.0) placed b.2 in
      let placed_fits : RowFits def placed.row = each_of (λ (p : PlacedRow). RowFits def p.row) (rows_in_block shape (pages_of g s) def b.0) placed
      (each_of (AreBlockRowsSound shape (pages_of g s) def) (used_blocks forests.map) b.0 st.rows b.1).rows b.2 in
      let widths : length (cell_key_of def placed.row.values) ≡ length key = length-key_bytes def.columns (cell_parts def) placed.row.values are.there placed_fits.values ∙ sym wide in
      let small_placed : placed.rid.block < 2 ^ 32 = subst (λ (n : ℕ). n < 2 ^ 32) (sym slot.1) (used_small b.0 b.1) in
      let same = same_entry (cell_key_of def placed.row.values) key placed.rid.block block widths small_placed small r.2 in
      let block_is : b.0 ≡ block = sym slot.1 ∙ same.1 in record {
        used = subst (Contains (used_blocks forests.map)) block_is b.1;
        placed = placed;
        there = subst (λ (n : ℕ). Contains (rows_in_block shape (pages_of g s) def n) placed) block_is b.2;
        fits = placed_fits.values;
        key_is = same.0;
      }

  -- what a call on the composite index found, where the work stayed before it
  pub found_under : (mid : S) (key : Entry) (next : ℕ) (found as_found : Option ℕ) → (g.state mid).is_told ≡ (g.state s).is_told → (g.state mid).work ≡ (g.state s).work
      → ((t : Forest) → HoldsTreeAt g mid (composite_place def) t → FindsUnder key (leaf_entries t) next found) → found ≡ as_found → FindsUnder key (leaf_entries forests.composite) next as_found
  found_under mid key next found as_found told same finds is =
      subst (FindsUnder key (leaf_entries forests.composite) next) is (finds forests.composite (stands_same shape s mid def owners forests told same st).trees.held.1.0)

  -- ---- the walk

  module _ (row : Row) (key : Entry) (from next : ℕ) (are : ArePartsOf def.columns (cell_parts def)) (fits : IsTrue (fits_all def.columns row.values)) (is : key ≡ cell_key_of def row.values)
      (passed : (block : ℕ) → from ≤ block → block < next → HasRoomFor def row (slice_index_or (spots_of g shape s def owners forests) block OtherBlock) → ⊥) where
    -- no block is left
    pub none_left : FindsUnder key (leaf_entries forests.composite) next None → FindsRoom def (spots_of g shape s def owners forests) forests.map row from None
    none_left none block reached room = elim (cases_lt block next) [
      | inl low ↦ passed block reached low room
      | inr high ↦ let listed = room_listed row key block is room in none block listed.0 listed.1 high
    ]

    -- no block below the next one has room
    before_next : (found block : ℕ) → IsLowestUnder key (leaf_entries forests.composite) next found → from ≤ block → block < found
        → HasRoomFor def row (slice_index_or (spots_of g shape s def owners forests) block OtherBlock) → ⊥
    before_next found block first reached low room = elim (cases_lt block next) [
      | inl before ↦ passed block reached before room
      | inr high ↦ let listed = room_listed row key block is room in omega (arith, low, first.lowest block listed.0 listed.1 high)
    ]

    -- the next one is full
    pub none_passed : (found : ℕ) (mapped : BlockRow) → IsLowestUnder key (leaf_entries forests.composite) next found → IsBlockOfKey key found → mapped.block ≡ found → mapped.rows < 2 ^ 16 → HasRow mapped forests.map
        → shape.extent_pages * slot_count def.columns ≤ mapped.rows → (block : ℕ) → from ≤ block → block < found + 1 → HasRoomFor def row (slice_index_or (spots_of g shape s def owners forests) block OtherBlock) → ⊥
    none_passed found mapped first cell same few there full block reached low room = elim (cases_eq block found) [
      | inl e ↦
          let r = has_room def row (slice_index_or (spots_of g shape s def owners forests) block OtherBlock) room in
          let spot = used_of_spot shape (pages_of g s) def owners forests.map st.map block r.0 r.1 in
          let fewer = fewer_rows r.0 r.2.1 in
          let counted : mapped.rows ≡ count_rows r.0 = rows_counted block mapped spot.0 (same ∙ sym e) few there ∙ ap count_rows (sym spot.1) in
          let many : length r.0 ≡ shape.extent_pages * slot_count def.columns = ap length spot.1 ∙ length-block_slots shape (pages_of g s) def block in
          omega (arith, fewer, counted, many, full)
      | inr n ↦ before_next found block first reached (omega (arith, low, n)) room
    ]

    -- the next one has room
    pub first_room : (found : ℕ) (mapped : BlockRow) → from ≤ next → IsLowestUnder key (leaf_entries forests.composite) next found → IsBlockOfKey key found → mapped.block ≡ found → mapped.rows < 2 ^ 16
        → mapped.state ≡ state.Used → HasRow mapped forests.map → mapped.rows < shape.extent_pages * slot_count def.columns
        → FindsRoom def (spots_of g shape s def owners forests) forests.map row from (Some mapped)
    first_room found mapped begun first cell same few used there room =
        let slots = block_slots shape (pages_of g s) def found in
        let spot : slice_index_or (spots_of g shape s def owners forests) found OtherBlock ≡ UsedBlock slots = used_spot shape (pages_of g s) def owners forests.map found OtherBlock st.map cell.used in
        let counted = rows_counted found mapped cell.used same few there in
        let many = length-block_slots shape (pages_of g s) def found in
        let empty : Contains slots None = empty_slot slots (omega (arith, room, counted, many)) in
        let there_slot = (slot_of_placed found 0 slots cell.placed cell.there).0 in
        let has : HasRoomFor def row (UsedBlock slots) = ((cell.placed.row, there_slot, one_cell def cell.placed.row.values row.values are cell.fits fits (cell.key_is ∙ is)), empty) in
        let at_mapped : slice_index_or (spots_of g shape s def owners forests) mapped.block OtherBlock ≡ UsedBlock slots =
        ap (λ (b : ℕ). slice_index_or (spots_of g shape s def owners forests) b OtherBlock) same ∙ spot in record {
          reached = omega (arith, begun, first.reached, same);
          room = subst (HasRoomFor def row) (sym at_mapped) has;
          lowest = λ block reached low. before_next found block first reached (omega (arith, low, same));
          mapped = there;
          used = used;
          counted = λ (all : List (Option Row)) at. let e : UsedBlock slots ≡ UsedBlock all = sym at_mapped ∙ at in let s : slots ≡ all = cc in counted ∙ ap count_rows s;
        }
