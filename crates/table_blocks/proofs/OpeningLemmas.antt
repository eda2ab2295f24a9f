-- A table that stands does so around each of its blocks, and what it says of that block.
use Rattle.std.proofs.Common.{◌≡◌, ◌≢◌, ◌<◌, ◌/◌, ◌^◌, ℕ, zero, suc, List, [], ◌∷◌, refl, ap, arith, sym, ◌∙◌, subst, length}
use Rattle.std.specs.Prelude.{AllPairs, Contains, Option, map, slice_index_or}
use Rattle.std.proofs.lemmas.Bool.{eq-eqb, eqb-true}
use Rattle.mdc_words.specs.ByteOrder.{Entry}
use Rattle.mdc_values.specs.declared.value.Value.{Value}
use Rattle.mdc_ast.specs.declared.definition.KeyPart.{KeyPart}
use Rattle.mdc_ast.specs.declared.definition.TableDef.{TableDef}
use Rattle.mdc_ast.specs.declared.row.Row.{Row}
use Rattle.store_api.specs.declared.pages.Pages.{Ghosts}
use Rattle.store_api.specs.declared.shape.Shape.{Shape}
use Rattle.extent_map.specs.Owners.{owner_of}
use Rattle.extent_map.specs.declared.kind.Kind.{Kind}
use Rattle.extent_map.specs.declared.kind.Kind.TheVariants.{Free, Block}
use Rattle.extent_map.proofs.HoldsMapLemmas.{on_map}
use Rattle.mdc_ast.specs.TableLimits.{IsTableDef}
use Rattle.key_codec.specs.Keys.{ArePartsOf, key_bytes}
use Rattle.row_page.specs.RowPage.{count_rows}
use Rattle.entry_tree.specs.EntryBounds.{IsEntryOf}
use Rattle.entry_tree.specs.Forest.{Forest, leaf_entries}
use Rattle.block_map.specs.BlockMaps.{HasRow}
use Rattle.block_map.specs.Counting.{used_row}
use Rattle.block_map.specs.MapLines.{blocks_of_state, free_blocks, map_entry, map_line, used_blocks}
use Rattle.block_map.specs.MapRows.{row_entry, state_number}
use Rattle.block_map.specs.declared.row.BlockRow.{BlockRow}
use Rattle.block_map.proofs.MapLinesLemmas.{in_state_named, named_in_state, row_block}
use Rattle.table_trees.specs.TableTrees.{AreIndexParts, block_entry, cell_parts, rising_parts}
use Rattle.mdc_sound.specs.BlockRules.{AreBlockRowsSound, IsBlockIndexSound, IsIdleCountSound, IsOfOneCell, IsUsedCountSound, entry_of_block, block_in_entry}
use Rattle.table_trees.specs.RowCells.{AreOfOneCell}
use Rattle.table_trees.specs.ToldPages.{PageList}
use Rattle.mdc_ast.specs.FittingRows.{RowFits}
use Rattle.mdc_sound.specs.Placing.Spot.{OtherBlock, UsedBlock}
use Rattle.mdc_sound.specs.SpaceRules.{IsMapLineSound}
use Rattle.mdc_sound.specs.StandingTable.{StandsTable, TableForests, pages_of, spots_of}
use Rattle.mdc_sound.specs.TableRows.{PlacedRow, block_slots, rows_in_block, rows_in_table}
use Rattle.mdc_sound.proofs.BlockRulesLemmas.{each_of, line_at, named_owned}
use Rattle.mdc_sound.proofs.DefinitionTreesLemmas.{has_block_indexes}
use Rattle.mdc_sound.proofs.TableSpotsLemmas.{state_of_block, used_of_spot}
use Rattle.block_rows.specs.HeldRows.{HoldsRows}
use Rattle.mdc_sound.proofs.CellKeysLemmas.{cell_key-same, dimension_key-same}
use Rattle.mdc_sound.proofs.ElementsLemmas.{contains_flat, each_entry, entry_in, flat_contains, from_map, zip_as}
use Rattle.mdc_sound.proofs.MappedBlocksLemmas.{few_extents, map_form}
use Rattle.mdc_sound.proofs.SlotRowsLemmas.{length-rows_from_slot, placed_in_slot, slot_of_placed}
use Rattle.table_blocks.specs.AroundBlock.{IsIndexAround, IsLineSound, StandsAround}
use Rattle.table_blocks.specs.BlockNow.{AreOfCell, IsFreeNow, IsListedInEach, IsListedIn, IsOwnBlock, IsUnlisted, IsUnlistedIn, IsUnnamed, IsUsedNow, free_line}
use Rattle.table_blocks.proofs.BlockEntriesLemmas.{block_in_entry-block_entry}

-- ---- the block map

-- the entry of a row, by what it says
row_of_entry : (row : BlockRow) (x : Entry) → x ≡ map_entry (map_line x).block (map_line x).state (map_line x).rows → (map_line x).block ≡ row.block → (map_line x).state ≡ state_number row.state → (map_line x).rows ≡ row.rows
    → row_entry row ≡ x
row_of_entry row x is block state rows =
    sym (is ∙ ap (λ (n : ℕ). map_entry n (map_line x).state (map_line x).rows) block ∙ ap (λ (n : ℕ). map_entry row.block n (map_line x).rows) state ∙ ap (λ (n : ℕ). map_entry row.block (state_number row.state) n) rows)

-- ---- rows of Used blocks

-- a row of a Used block
record IsRowOfUsed (shape : Shape) (pages : PageList) (def : TableDef) (map_tree : Forest) (placed : PlacedRow) : Type 0 where
  used : Contains (used_blocks map_tree) placed.rid.block
  there : Contains (rows_in_block shape pages def placed.rid.block) placed

row_of_used : (shape : Shape) (pages : PageList) (def : TableDef) (map_tree : Forest) (placed : PlacedRow) → Contains (rows_in_table shape pages def map_tree) placed → IsRowOfUsed shape pages def map_tree placed
row_of_used shape pages def map_tree placed at =
    let b = flat_contains (rows_in_block shape pages def) (used_blocks map_tree) placed at in
    let same : placed.rid.block ≡ b.0 = (slot_of_placed b.0 0 (block_slots shape pages def b.0) placed b.2).1 in
    record {
      used = subst (Contains (used_blocks map_tree)) (sym same) b.1;
      there = subst (λ (n : ℕ). Contains (rows_in_block shape pages def n) placed) (sym same) b.2;
    }

-- some row of a block whose rows are of one cell, with each other one
one_of_rows : (def : TableDef) (rows : List PlacedRow) → 0 < length rows → AllPairs (λ a b. AreOfOneCell def a.row.values b.row.values) rows
    → (placed : PlacedRow) × Contains rows placed × ((other : PlacedRow) → Contains rows other → AreOfOneCell def other.row.values placed.row.values)
one_of_rows def [] some pairs = absurd (omega (arith, some))
one_of_rows def (first ∷ rows) some pairs = (first, (0, omega arith, refl), λ other there. of_first other there)
  where
    of_first : (other : PlacedRow) → Contains (first ∷ rows) other → AreOfOneCell def other.row.values first.row.values
    of_first other (zero, low, at) = subst (λ (p : PlacedRow). AreOfOneCell def p.row.values first.row.values) at refl
    of_first other (suc k, low, at) = sym (subst (λ (p : PlacedRow). AreOfOneCell def first.row.values p.row.values) at (pairs zero (suc k) other (omega arith) low))

-- ---- the table

module _ {S : Type 0} {g : Ghosts S} (shape : Shape) (s : S) (def : TableDef) (owners : List Kind) (forests : TableForests) (defined : IsTableDef def.number def) (st : StandsTable g shape s def owners forests) where
  -- the parts of its keys
  composite_parts : ArePartsOf def.columns (cell_parts def)
  composite_parts = (has_block_indexes def.number def defined).composite.key

  dimension_parts : (dim : List ℕ) → Contains def.dims dim → ArePartsOf def.columns (rising_parts dim)
  dimension_parts dim at = (each_of (λ d. AreIndexParts def.columns (rising_parts d)) def.dims dim (has_block_indexes def.number def defined).dimensions at).key

  -- a line of the block map, whose block is named in its state
  line_in_state : (x : Entry) (state : ℕ) → IsEntryOf x (leaf_entries forests.map) → (map_line x).state ≡ state → Contains (blocks_of_state state forests.map) (map_line x).block
  line_in_state x state at is = in_state_named state (leaf_entries forests.map) (map_line x).block (record { entry = x; there = at; state = eq-eqb (map_line x).state state is; block_is = refl })

  line_sound : (x : Entry) → IsEntryOf x (leaf_entries forests.map) → IsLineSound shape (pages_of g s) owners def (map_line x)
  line_sound x at = record {
    mapped = line_at (IsMapLineSound shape owners def) (leaf_entries forests.map) x st.map.lines at;
    used_count = line_at (IsUsedCountSound shape (pages_of g s) def) (leaf_entries forests.map) x st.used_counts at;
    idle_count = line_at IsIdleCountSound (leaf_entries forests.map) x st.idle_counts at;
    rows = λ is. each_of (AreBlockRowsSound shape (pages_of g s) def) (used_blocks forests.map) (map_line x).block st.rows (line_in_state x 1 at is);
    cell = λ is. each_of (IsOfOneCell shape (pages_of g s) def) (used_blocks forests.map) (map_line x).block st.cells (line_in_state x 1 at is);
  }

  -- a block of a state
  state_own : (state block : ℕ) → Contains (blocks_of_state state forests.map) block → IsOwnBlock shape owners def block
  state_own state block at = let owned = named_owned shape owners def forests.map state block st.map at in record { within = owned.0; owned = owned.1 }

  -- and its row in the block map
  state_row : (row : BlockRow) → Contains (blocks_of_state (state_number row.state) forests.map) row.block
      → ((x : Entry) → IsEntryOf x (leaf_entries forests.map) → (map_line x).block ≡ row.block → (map_line x).state ≡ state_number row.state → (map_line x).rows ≡ row.rows) → HasRow row forests.map
  state_row row at counted =
      let named = named_in_state (state_number row.state) (leaf_entries forests.map) row.block at in
      let x = named.entry in
      let state : (map_line x).state ≡ state_number row.state = eqb-true (map_line x).state (state_number row.state) named.state in
      subst (λ (y : Entry). IsEntryOf y (leaf_entries forests.map)) (sym (row_of_entry row x (st.map.entries x named.there).bytes_are named.block_is state (counted x named.there named.block_is state))) named.there

  -- ---- the rows of its Used blocks

  used_small : (block : ℕ) → Contains (used_blocks forests.map) block → block < 2 ^ 32
  used_small block used = let own = state_own 1 block used in omega (arith, own.within, few_extents shape)

  row_fits : (placed : PlacedRow) → IsRowOfUsed shape (pages_of g s) def forests.map placed → RowFits def placed.row
  row_fits placed of =
      each_of (λ (p : PlacedRow). RowFits def p.row) (rows_in_block shape (pages_of g s) def placed.rid.block) placed
      (each_of (AreBlockRowsSound shape (pages_of g s) def) (used_blocks forests.map) placed.rid.block st.rows of.used).rows of.there

  row_in_table : (placed : PlacedRow) → IsRowOfUsed shape (pages_of g s) def forests.map placed → Contains (rows_in_table shape (pages_of g s) def forests.map) placed
  row_in_table placed of = contains_flat (rows_in_block shape (pages_of g s) def) (used_blocks forests.map) placed.rid.block placed of.used of.there

  -- ---- one of its block indexes

  module _ (parts : List KeyPart) (index : Forest) (are : ArePartsOf def.columns parts) (sound : IsBlockIndexSound def (rows_in_table shape (pages_of g s) def forests.map) parts index) where
    -- an entry is that of a row, and names its block
    record IsEntryOfRow (y : Entry) : Type 0 where
      placed : PlacedRow
      of : IsRowOfUsed shape (pages_of g s) def forests.map placed
      is : y ≡ entry_of_block def parts placed
      names : block_in_entry def parts y ≡ placed.rid.block

    entry_of_row : (y : Entry) → IsEntryOf y (leaf_entries index) → IsEntryOfRow y
    entry_of_row y at =
        let in_map = each_entry (Contains (map (entry_of_block def parts) (rows_in_table shape (pages_of g s) def forests.map))) (leaf_entries index) y sound.only at in
        let r = from_map (entry_of_block def parts) (rows_in_table shape (pages_of g s) def forests.map) y in_map in
        let placed : PlacedRow = r.0 in
        let of = row_of_used shape (pages_of g s) def forests.map placed r.1 in
        record {
          placed = placed;
          of = of;
          is = sym r.2;
          names = ap (block_in_entry def parts) (sym r.2) ∙ block_in_entry-block_entry def parts placed.row.values placed.rid.block are (row_fits placed of).values (used_small placed.rid.block of.used);
        }

    row_listed : (placed : PlacedRow) → IsRowOfUsed shape (pages_of g s) def forests.map placed → IsEntryOf (entry_of_block def parts placed) (leaf_entries index)
    row_listed placed of =
        entry_in (leaf_entries index) (entry_of_block def parts placed)
        (each_of (λ p. Contains (leaf_entries index) (entry_of_block def parts p)) (rows_in_table shape (pages_of g s) def forests.map) placed sound.has (row_in_table placed of))

    index_around : (block : ℕ) → IsIndexAround shape (pages_of g s) def forests.map parts block index
    index_around block = record {
      has = λ placed other. row_listed placed (record { used = other.used; there = other.there });
      only = λ y at elsewhere.
          let r = entry_of_row y at in
          (r.placed, record { used = r.of.used; other = λ same. elsewhere (r.names ∙ same); there = r.of.there }, r.is);
    }

    index_lists : (values : List Value) (block : ℕ) (first : PlacedRow) → IsRowOfUsed shape (pages_of g s) def forests.map first → first.rid.block ≡ block
        → ((placed : PlacedRow) → IsRowOfUsed shape (pages_of g s) def forests.map placed → placed.rid.block ≡ block → key_bytes def.columns parts placed.row.values ≡ key_bytes def.columns parts values)
        → IsListedIn def parts values block index
    index_lists values block first of here keys = record {
      has = subst (λ (y : Entry). IsEntryOf y (leaf_entries index)) (entry_is first of here) (row_listed first of);
      only = λ y at names.
          let r = entry_of_row y at in
          r.is ∙ entry_is r.placed r.of (sym r.names ∙ names);
    }
      where
        entry_is : (placed : PlacedRow) → IsRowOfUsed shape (pages_of g s) def forests.map placed → placed.rid.block ≡ block → entry_of_block def parts placed ≡ block_entry def.columns parts values block
        entry_is placed of here = let key = keys placed of here in cc (key, here)

    index_lacks : (block : ℕ) → (Contains (used_blocks forests.map) block → ⊥) → IsUnlistedIn def parts block index
    index_lacks block unused y at names = let r = entry_of_row y at in unused (subst (Contains (used_blocks forests.map)) (sym r.names ∙ names) r.of.used)

  -- no index names a block that isn't Used
  lacks_all : (block : ℕ) → (Contains (used_blocks forests.map) block → ⊥) → IsUnlisted def forests block
  lacks_all block unused = record {
    composite = index_lacks (cell_parts def) forests.composite composite_parts st.indexes.composite block unused;
    dims = zip_as (λ dim index. IsBlockIndexSound def (rows_in_table shape (pages_of g s) def forests.map) (rising_parts dim) index) (λ dim index. IsUnlistedIn def (rising_parts dim) block index) def.dims forests.dims
        (λ dim index at sound. index_lacks (rising_parts dim) index (dimension_parts dim at) sound block unused) st.indexes.dims;
  }

  -- ---- around a block

  pub around_block : (block : ℕ) → StandsAround g shape s def owners forests block
  around_block block = record {
    told = st.told;
    trees = st.trees;
    map = record {
      entries = st.map.entries;
      form = map_form shape owners def forests.map st.map;
      others = λ x at other. line_sound x at;
      all_named = λ e other low is. st.map.all_named e low is;
    };
    composite = index_around (cell_parts def) forests.composite composite_parts st.indexes.composite block;
    dims = zip_as (λ dim index. IsBlockIndexSound def (rows_in_table shape (pages_of g s) def forests.map) (rising_parts dim) index)
        (λ dim index. IsIndexAround shape (pages_of g s) def forests.map (rising_parts dim) block index) def.dims forests.dims
        (λ dim index at sound. index_around (rising_parts dim) index (dimension_parts dim at) sound block) st.indexes.dims;
  }

  -- a block that the block map names
  pub own_of_small : (line : BlockRow) → HasRow line forests.map → line.block < 2 ^ 32 → IsOwnBlock shape owners def line.block
  own_of_small line there small =
      let named : (map_line (row_entry line)).block ≡ line.block = row_block line small in
      let mapped = (line_sound (row_entry line) there).mapped in
      record { within = omega (arith, named, mapped.within); owned = subst (λ (e : ℕ). owner_of owners e ≡ Block def.number) named mapped.owned }

  pub own_of_line : (line : BlockRow) → HasRow line forests.map → line.block < shape.extents → IsOwnBlock shape owners def line.block
  own_of_line line there low = own_of_small line there (omega (arith, low, few_extents shape))

  -- a Used line counts the rows of its block, which has some
  used_counted : (x : Entry) (block : ℕ) → IsEntryOf x (leaf_entries forests.map) → (map_line x).block ≡ block → (map_line x).state ≡ 1
      → ((map_line x).rows ≡ count_rows (block_slots shape (pages_of g s) def block)) × (0 < count_rows (block_slots shape (pages_of g s) def block))
  used_counted x block at here is =
      let counts = (line_sound x at).used_count in
      let counted : (map_line x).rows ≡ count_rows (block_slots shape (pages_of g s) def block) =
      counts.counted is ∙ ap (λ (b : ℕ). length (rows_in_block shape (pages_of g s) def b)) here ∙ length-rows_from_slot block 0 (block_slots shape (pages_of g s) def block) in
      (counted, omega (arith, counted, counts.some_row is))

  used_counts : (block : ℕ) → Contains (used_blocks forests.map) block → 0 < count_rows (block_slots shape (pages_of g s) def block)
  used_counts block used =
      let named = named_in_state 1 (leaf_entries forests.map) block used in
      (used_counted named.entry block named.there named.block_is (eqb-true (map_line named.entry).state 1 named.state)).1

  -- a row of the block, with each other one
  record IsOneRow (block : ℕ) : Type 0 where
    placed : PlacedRow
    there : Contains (rows_in_block shape (pages_of g s) def block) placed
    here : placed.rid.block ≡ block
    same : (other : PlacedRow) → Contains (rows_in_block shape (pages_of g s) def block) other → AreOfOneCell def other.row.values placed.row.values

  one_row : (block : ℕ) → Contains (used_blocks forests.map) block → IsOneRow block
  one_row block used =
      let some : 0 < length (rows_in_block shape (pages_of g s) def block) = omega (arith, used_counts block used, length-rows_from_slot block 0 (block_slots shape (pages_of g s) def block)) in
      let r = one_of_rows def (rows_in_block shape (pages_of g s) def block) some (each_of (IsOfOneCell shape (pages_of g s) def) (used_blocks forests.map) block st.cells used) in
      record { placed = r.0; there = r.1; here = (slot_of_placed block 0 (block_slots shape (pages_of g s) def block) r.0 r.1).1; same = r.2 }

  block_listed : (block : ℕ) → Contains (used_blocks forests.map) block → (one : IsOneRow block) → IsListedInEach def forests one.placed.row.values block
  block_listed block used one =
      let of : IsRowOfUsed shape (pages_of g s) def forests.map one.placed = record {
        used = subst (Contains (used_blocks forests.map)) (sym one.here) used;
        there = subst (λ (n : ℕ). Contains (rows_in_block shape (pages_of g s) def n) one.placed) (sym one.here) one.there;
      } in
      let same : (other : PlacedRow) → IsRowOfUsed shape (pages_of g s) def forests.map other → other.rid.block ≡ block → AreOfOneCell def other.row.values one.placed.row.values =
      λ other of_other at. one.same other (subst (λ (n : ℕ). Contains (rows_in_block shape (pages_of g s) def n) other) at of_other.there) in
      record {
        composite = index_lists (cell_parts def) forests.composite composite_parts st.indexes.composite one.placed.row.values block one.placed of one.here
            (λ other of_other at. cell_key-same def other.row.values one.placed.row.values (same other of_other at));
        dims = zip_as (λ dim index. IsBlockIndexSound def (rows_in_table shape (pages_of g s) def forests.map) (rising_parts dim) index)
            (λ dim index. IsListedIn def (rising_parts dim) one.placed.row.values block index) def.dims forests.dims
            (λ dim index at_dim sound. index_lists (rising_parts dim) index (dimension_parts dim at_dim) sound one.placed.row.values block one.placed of one.here
            (λ other of_other at. dimension_key-same def dim other.row.values one.placed.row.values at_dim (same other of_other at))) st.indexes.dims;
      }

  block_of_cell : (block : ℕ) → Contains (used_blocks forests.map) block → (one : IsOneRow block) → AreOfCell def one.placed.row.values (block_slots shape (pages_of g s) def block)
  block_of_cell block used one = record {
    some = used_counts block used;
    fit = λ row at.
        let r = placed_in_slot block 0 (block_slots shape (pages_of g s) def block) row at in
        subst (RowFits def) r.row_is
        (each_of (λ (p : PlacedRow). RowFits def p.row) (rows_in_block shape (pages_of g s) def block) r.placed (each_of (AreBlockRowsSound shape (pages_of g s) def) (used_blocks forests.map) block st.rows used).rows r.there);
    one_cell = λ row at.
        let r = placed_in_slot block 0 (block_slots shape (pages_of g s) def block) row at in
        subst (λ (v : Row). AreOfOneCell def v.values one.placed.row.values) r.row_is (one.same r.placed r.there);
  }

  block_held : (block : ℕ) → Contains (used_blocks forests.map) block → HoldsRows g shape s def block (block_slots shape (pages_of g s) def block)
  block_held block used =
      let own = state_own 1 block used in
      let owned : owner_of owners block ≢ Free = λ free. let wrong = sym own.owned ∙ free in absurd (cc) in
      record {
        told = st.told;
        there = (st.trees.map.pages (block / 512) (on_map shape.extents block own.within)).there block refl owned;
        forms = (each_of (AreBlockRowsSound shape (pages_of g s) def) (used_blocks forests.map) block st.rows used).forms;
        slots_are = refl;
      }

  pub used_now : (block : ℕ) → Contains (used_blocks forests.map) block → (values : List Value) × IsUsedNow g shape s def owners forests block values (block_slots shape (pages_of g s) def block)
  used_now block used =
      let one = one_row block used in (
        one.placed.row.values,
        record {
          own = state_own 1 block used;
          line = state_row (used_row block (count_rows (block_slots shape (pages_of g s) def block))) used (λ x at here is. (used_counted x block at here is).0);
          rows = block_held block used;
          cell = block_of_cell block used one;
          listed = block_listed block used one;
        },
      )

  -- the same by its spot
  pub used_spot_now : (block : ℕ) (slots : List (Option Row)) → slice_index_or (spots_of g shape s def owners forests) block OtherBlock ≡ UsedBlock slots → (values : List Value) × IsUsedNow g shape s def owners forests block values slots
  used_spot_now block slots is =
      let spot = used_of_spot shape (pages_of g s) def owners forests.map st.map block slots is in
      subst (λ (all : List (Option Row)). (values : List Value) × IsUsedNow g shape s def owners forests block values all) (sym spot.1) (used_now block spot.0)

  pub free_now : (block : ℕ) → Contains (free_blocks forests.map) block → IsFreeNow shape def owners forests block
  free_now block free = record {
    own = state_own 0 block free;
    line = state_row (free_line block) free (λ x at here is. (line_sound x at).idle_count (λ used. absurd (omega (arith, is, used))));
    unlisted = lacks_all block (λ used.
        let one = state_of_block shape owners def forests.map 1 block st.map used in
        let none = state_of_block shape owners def forests.map 0 block st.map free in
        omega (arith, one, none));
  }

  -- an extent that is no block of the table
  pub unnamed_now : (block : ℕ) → owner_of owners block ≡ Free → IsUnnamed forests.map block
  unnamed_now block free x at here =
      let owned : owner_of owners block ≡ Block def.number = subst (λ (e : ℕ). owner_of owners e ≡ Block def.number) here (line_sound x at).mapped.owned in
      let wrong = sym owned ∙ free in absurd (cc)

  pub unlisted_now : (block : ℕ) → owner_of owners block ≡ Free → IsUnlisted def forests block
  unlisted_now block free = lacks_all block (λ used. let wrong = sym (state_own 1 block used).owned ∙ free in absurd (cc))
