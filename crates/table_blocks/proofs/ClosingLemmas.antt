-- A table that stands around a block stands, where the block is sound too; what it is then.
use Rattle.std.proofs.Common.{◌≡◌, ◌≢◌, ◌<◌, ◌≤◌, ◌^◌, ◌==◌, ℕ, List, [], ◌∷◌, length, get_or, set, map, refl, ap, arith, sym, ◌∙◌, subst, inl, inr}
use Rattle.std.specs.Prelude.{Contains, IsTrue, Option, Some, slice_set}
use Rattle.std.specs.List.{AllByRecursion, AllZip}
use Rattle.std.proofs.lemmas.Bool.{cases_eq, eq-eqb, eqb-true}
use Rattle.std.proofs.lemmas.List.{get_or-set_other, get_or-set_same, length-set}
use Rattle.std.proofs.lemmas.List.Elements.{Contains-get_or}
use Rattle.std.proofs.lemmas.Bool.Decides.{nat_tests}
use Rattle.mdc_words.specs.ByteOrder.{Entry}
use Rattle.mdc_values.specs.declared.value.Value.{Value}
use Rattle.mdc_ast.specs.declared.definition.KeyPart.{KeyPart}
use Rattle.mdc_ast.specs.declared.definition.TableDef.{TableDef}
use Rattle.mdc_ast.specs.declared.row.Row.{Row}
use Rattle.store_api.specs.declared.pages.Pages.{Ghosts}
use Rattle.store_api.specs.declared.shape.Shape.{Shape}
use Rattle.extent_map.specs.Owners.{owner_of}
use Rattle.extent_map.specs.declared.kind.Kind.{Kind}
use Rattle.extent_map.specs.declared.kind.Kind.TheVariants.{Free, Block, Index}
use Rattle.extent_map.specs.declared.space_notes.SpaceNotes.{SpaceNotes}
use Rattle.row_page.specs.RowPage.{count_rows}
use Rattle.key_codec.specs.Keys.{key_bytes}
use Rattle.entry_tree.specs.EntryBounds.{IsEntryOf}
use Rattle.entry_tree.specs.Forest.{Forest, leaf_entries}
use Rattle.block_map.specs.BlockMaps.{HasRow}
use Rattle.block_map.specs.Counting.{used_row}
use Rattle.block_map.specs.MapLines.{map_line, mapped_blocks, used_blocks}
use Rattle.block_map.specs.MapRows.{row_entry, state_number}
use Rattle.block_map.specs.declared.row.BlockRow.{BlockRow}
use Rattle.block_map.specs.declared.state.BlockState.{BlockState}
use Rattle.block_map.specs.declared.state.BlockState.TheVariants as state
use Rattle.block_map.proofs.MapFormLemmas.{form_one}
use Rattle.block_map.proofs.MapLinesLemmas.{in_state_named, named_in_state, row_block, row_state}
use Rattle.block_index.specs.Cells.{entry_under}
use Rattle.mdc_ast.specs.TableLimits.{IsTableDef}
use Rattle.table_trees.specs.TableTrees.{block_entry, cell_parts, rising_parts}
use Rattle.table_trees.specs.TreesBeside.{table_of_block}
use Rattle.table_trees.specs.ToldPages.{PageList}
use Rattle.mdc_sound.specs.BlockRules.{AreBlockRowsSound, IsBlockIndexSound, IsIdleCountSound, IsOfOneCell, IsUsedCountSound, entry_of_block, block_in_entry}
use Rattle.mdc_ast.specs.FittingRows.{RowFits}
use Rattle.mdc_sound.specs.Placing.{Spot, spot_of_state}
use Rattle.mdc_sound.specs.Placing.Spot.{OtherBlock, UsedBlock}
use Rattle.mdc_sound.specs.SpaceRules.{IsMapLineSound}
use Rattle.mdc_sound.specs.StandingTable.{ChangesTable, StandsTable, TableForests, pages_of, spots_of}
use Rattle.mdc_sound.specs.TableRows.{PlacedRow, block_slots, rows_in_block, rows_in_table}
use Rattle.mdc_sound.proofs.TableSpotsLemmas.{length-spots, own_spot, spot_at, state_of_named, used_spot}
use Rattle.mdc_sound.proofs.CellKeysLemmas.{cell_key-same, dimension_key-same}
use Rattle.mdc_sound.proofs.ElementsLemmas.{contains_entry, contains_flat, each_in, each_line, entry_in, flat_contains, in_map, contains_block, zip_of}
use Rattle.mdc_sound.proofs.MappedBlocksLemmas.{entry_rows, small_block}
use Rattle.mdc_sound.proofs.SlotRowsLemmas.{few_rows, length-rows_from_slot, placed_in_slot, slot_of_placed, some_row}
use Rattle.table_blocks.specs.AroundBlock.{IsIndexAround, IsLineSound, StandsAround}
use Rattle.table_blocks.specs.BlockChanges.{ChangesAround, IsSpotChange, TurnsSpot, spot_in}
use Rattle.table_blocks.specs.BlockNow.{IsListedIn, IsOwnBlock, IsReleasedNow, IsUnlisted, IsUnlistedIn, IsUnnamed, IsUsedNow, released_line, released_spot}

-- ---- states

-- a state other than Used has another number
not_used : (given : BlockState) → given ≢ state.Used → state_number given ≡ 1 → ⊥
not_used state.Free idle is = absurd (omega (arith, is))
not_used state.Used idle is = idle refl
not_used state.Pending idle is = absurd (omega (arith, is))

-- there are three
few_states : (given : BlockState) → state_number given ≤ 2
few_states state.Free = omega arith
few_states state.Used = omega arith
few_states state.Pending = omega arith

-- in which slots don't matter to what a block is, unless it is Used
no_slots : (given : BlockState) → given ≢ state.Used → (slots : List (Option Row)) → spot_of_state (state_number given) slots ≡ released_spot given
no_slots state.Free idle slots = refl
no_slots state.Used idle slots = absurd (idle refl)
no_slots state.Pending idle slots = refl

-- ---- the block indexes

-- what an index says of one block: it has the block under the cell of each of its rows, and in no other way
record IsIndexHere (shape : Shape) (pages : PageList) (def : TableDef) (map_tree : Forest) (block : ℕ) (parts : List KeyPart) (index : Forest) : Type 0 where
  pub has : (placed : PlacedRow) → Contains (used_blocks map_tree) block → Contains (rows_in_block shape pages def block) placed → IsEntryOf (entry_of_block def parts placed) (leaf_entries index)
  pub only : (y : Entry) → IsEntryOf y (leaf_entries index) → block_in_entry def parts y ≡ block
      → (placed : PlacedRow) × Contains (used_blocks map_tree) block × Contains (rows_in_block shape pages def block) placed × (y ≡ entry_of_block def parts placed)

module _ (shape : Shape) (pages : PageList) (def : TableDef) (map_tree : Forest) (block : ℕ) where
  index_closed : (parts : List KeyPart) (index : Forest) → IsIndexAround shape pages def map_tree parts block index → IsIndexHere shape pages def map_tree block parts index
      → IsBlockIndexSound def (rows_in_table shape pages def map_tree) parts index
  index_closed parts index around here = record {
    has = each_in (λ placed. Contains (leaf_entries index) (entry_of_block def parts placed)) (rows_in_table shape pages def map_tree) (λ placed there.
        let b = flat_contains (rows_in_block shape pages def) (used_blocks map_tree) placed there in
        let at = slot_of_placed b.0 0 (block_slots shape pages def b.0) placed b.2 in
        contains_entry (leaf_entries index) (entry_of_block def parts placed) (elim (cases_eq b.0 block) [
          | inl same ↦ here.has placed (subst (Contains (used_blocks map_tree)) same b.1) (subst (λ n. Contains (rows_in_block shape pages def n) placed) same b.2)
          | inr other ↦ around.has placed (record {
            used = subst (Contains (used_blocks map_tree)) (sym at.1) b.1;
            other = λ e. other (sym at.1 ∙ e);
            there = subst (λ n. Contains (rows_in_block shape pages def n) placed) (sym at.1) b.2;
          })
        ]));
    only = each_in (Contains (map (entry_of_block def parts) (rows_in_table shape pages def map_tree))) (leaf_entries index) (λ y there.
        elim (cases_eq (block_in_entry def parts y) block) [
          | inl same ↦ let r = here.only y (entry_in (leaf_entries index) y there) same in listed y r.0 block r.1 r.2 r.3
          | inr other ↦ let r = around.only y (entry_in (leaf_entries index) y there) other in listed y r.0 r.0.rid.block r.1.used r.1.there r.2
        ]);
  }
    where
      listed : (y : Entry) (placed : PlacedRow) (b : ℕ) → Contains (used_blocks map_tree) b → Contains (rows_in_block shape pages def b) placed → y ≡ entry_of_block def parts placed
          → Contains (map (entry_of_block def parts) (rows_in_table shape pages def map_tree)) y
      listed y placed b used there is =
          subst (Contains (map (entry_of_block def parts) (rows_in_table shape pages def map_tree))) (sym is)
          (in_map (entry_of_block def parts) (rows_in_table shape pages def map_tree) placed (contains_flat (rows_in_block shape pages def) (used_blocks map_tree) b placed used there))

  -- so with the indexes of all dimensions
  dims_closed : (dims : List (List ℕ)) (indexes : List Forest) → AllZip (λ dim index. IsIndexAround shape pages def map_tree (rising_parts dim) block index) dims indexes
      → AllZip (λ dim index. IsIndexHere shape pages def map_tree block (rising_parts dim) index) dims indexes
      → AllZip (λ dim index. IsBlockIndexSound def (rows_in_table shape pages def map_tree) (rising_parts dim) index) dims indexes
  dims_closed [] [] around here = tt
  dims_closed [] (index ∷ indexes) around here = absurd around
  dims_closed (dim ∷ dims) [] around here = absurd around
  dims_closed (dim ∷ dims) (index ∷ indexes) around here = (index_closed (rising_parts dim) index around.0 here.0, dims_closed dims indexes around.1 here.1)

  -- ---- a Used block

  module _ (values : List Value) (slots : List (Option Row)) (used : Contains (used_blocks map_tree) block) (are : block_slots shape pages def block ≡ slots) (some : 0 < count_rows slots) where
    listed_here : (parts : List KeyPart) (index : Forest) → ((row : Row) → Contains slots (Some row) → key_bytes def.columns parts row.values ≡ key_bytes def.columns parts values)
        → IsListedIn def parts values block index → IsIndexHere shape pages def map_tree block parts index
    listed_here parts index keys listed = record {
      has = λ placed now there.
          let at = slot_of_placed block 0 (block_slots shape pages def block) placed there in
          subst (λ x. IsEntryOf x (leaf_entries index)) (sym (entry_is placed (subst (λ all. Contains all (Some placed.row)) are at.0) at.1)) listed.has;
      only = λ y there same.
          let row = some_row slots some in
          let at = placed_in_slot block 0 (block_slots shape pages def block) row.0 (subst (λ all. Contains all (Some row.0)) (sym are) row.1) in
          let placed_there : Contains slots (Some at.placed.row) = subst (λ r. Contains slots (Some r)) (sym at.row_is) row.1 in
          (at.placed, used, at.there, listed.only y there same ∙ sym (entry_is at.placed placed_there at.block_is));
    }
      where
        entry_is : (placed : PlacedRow) → Contains slots (Some placed.row) → placed.rid.block ≡ block → entry_of_block def parts placed ≡ block_entry def.columns parts values block
        entry_is placed there is = ap (λ key. entry_under key placed.rid.block) (keys placed.row there) ∙ ap (entry_under (key_bytes def.columns parts values)) is

    dims_listed : (dims : List (List ℕ)) (indexes : List Forest)
        → ((row : Row) → Contains slots (Some row) → AllByRecursion (λ dim. key_bytes def.columns (rising_parts dim) row.values ≡ key_bytes def.columns (rising_parts dim) values) dims)
        → AllZip (λ dim index. IsListedIn def (rising_parts dim) values block index) dims indexes
        → AllZip (λ dim index. IsIndexHere shape pages def map_tree block (rising_parts dim) index) dims indexes
    dims_listed [] [] keys listed = tt
    dims_listed [] (index ∷ indexes) keys listed = absurd listed
    dims_listed (dim ∷ dims) [] keys listed = absurd listed
    dims_listed (dim ∷ dims) (index ∷ indexes) keys listed = (
      listed_here (rising_parts dim) index (λ row there. (keys row there).0) listed.0,
      dims_listed dims indexes (λ row there. (keys row there).1) listed.1,
    )

  -- ---- a block that isn't Used

  module _ (unused : Contains (used_blocks map_tree) block → ⊥) where
    unlisted_here : (parts : List KeyPart) (index : Forest) → IsUnlistedIn def parts block index → IsIndexHere shape pages def map_tree block parts index
    unlisted_here parts index unlisted = record { has = λ placed now there. absurd (unused now); only = λ y there same. absurd (unlisted y there same) }

    dims_unlisted : (dims : List (List ℕ)) (indexes : List Forest) → AllZip (λ dim index. IsUnlistedIn def (rising_parts dim) block index) dims indexes
        → AllZip (λ dim index. IsIndexHere shape pages def map_tree block (rising_parts dim) index) dims indexes
    dims_unlisted [] [] unlisted = tt
    dims_unlisted [] (index ∷ indexes) unlisted = absurd unlisted
    dims_unlisted (dim ∷ dims) [] unlisted = absurd unlisted
    dims_unlisted (dim ∷ dims) (index ∷ indexes) unlisted = (unlisted_here (rising_parts dim) index unlisted.0, dims_unlisted dims indexes unlisted.1)

-- ---- the table

-- a block is sound: so are its line in the block map, which it has where it is one of the table, and what the block indexes say of it
record IsBlockSound (shape : Shape) (pages : PageList) (owners : List Kind) (def : TableDef) (forests : TableForests) (block : ℕ) : Type 0 where
  pub line : (x : Entry) → IsEntryOf x (leaf_entries forests.map) → (map_line x).block ≡ block → IsLineSound shape pages owners def (map_line x)
  pub named : owner_of owners block ≡ Block def.number → Contains (mapped_blocks forests.map) block
  pub composite : IsIndexHere shape pages def forests.map block (cell_parts def) forests.composite
  pub dims : AllZip (λ dim index. IsIndexHere shape pages def forests.map block (rising_parts dim) index) def.dims forests.dims

module _ {S : Type 0} {g : Ghosts S} (shape : Shape) (s : S) (def : TableDef) (owners : List Kind) (forests : TableForests) where
  stands_sound : (block : ℕ) → StandsAround g shape s def owners forests block → IsBlockSound shape (pages_of g s) owners def forests block → StandsTable g shape s def owners forests
  stands_sound block st sound = record {
    told = st.told;
    trees = st.trees;
    map = record {
      entries = st.map.entries;
      lines = each_line (IsMapLineSound shape owners def) (leaf_entries forests.map) (λ x there. (line x there).mapped);
      once_each = st.map.form.once_each;
      all_named = λ e low owned. elim (cases_eq e block) [
        | inl same ↦ subst (Contains (mapped_blocks forests.map)) (sym same) (sound.named (ap (owner_of owners) (sym same) ∙ owned))
        | inr other ↦ st.map.all_named e other low owned
      ];
    };
    rows = each_in (AreBlockRowsSound shape (pages_of g s) def) (used_blocks forests.map) (λ b used.
        let named = named_in_state 1 (leaf_entries forests.map) b used in
        subst (AreBlockRowsSound shape (pages_of g s) def) named.block_is ((line named.entry named.there).rows (is_used named.entry named.state)));
    used_counts = each_line (IsUsedCountSound shape (pages_of g s) def) (leaf_entries forests.map) (λ x there. (line x there).used_count);
    idle_counts = each_line IsIdleCountSound (leaf_entries forests.map) (λ x there. (line x there).idle_count);
    cells = each_in (IsOfOneCell shape (pages_of g s) def) (used_blocks forests.map) (λ b used.
        let named = named_in_state 1 (leaf_entries forests.map) b used in
        subst (IsOfOneCell shape (pages_of g s) def) named.block_is ((line named.entry named.there).cell (is_used named.entry named.state)));
    indexes = record {
      composite = index_closed shape (pages_of g s) def forests.map block (cell_parts def) forests.composite st.composite sound.composite;
      dims = dims_closed shape (pages_of g s) def forests.map block def.dims forests.dims st.dims sound.dims;
    };
  }
    where
      line : (x : Entry) → IsEntryOf x (leaf_entries forests.map) → IsLineSound shape (pages_of g s) owners def (map_line x)
      line x there = elim (cases_eq (map_line x).block block) [
        | inl same ↦ sound.line x there same
        | inr other ↦ st.map.others x there other
      ]

      is_used : (x : Entry) → IsTrue ((map_line x).state == 1) → (map_line x).state ≡ 1
      is_used x test = grind (arith, nat_tests)

  -- the entry of a block is that of its row
  pub row_of_block : (line : BlockRow) (x : Entry) (block : ℕ) → StandsAround g shape s def owners forests block → block < shape.extents → HasRow line forests.map → line.block ≡ block
      → IsEntryOf x (leaf_entries forests.map) → (map_line x).block ≡ block → row_entry line ≡ x
  row_of_block line x block st low there is there_too same =
      let small : line.block < 2 ^ 32 = subst (λ b. b < 2 ^ 32) (sym is) (small_block shape block low) in
      form_one forests.map (row_entry line) x st.map.form there there_too (row_block line small ∙ is ∙ sym same)

  -- ---- a Used block

  module _ (block : ℕ) (values : List Value) (slots : List (Option Row)) (st : StandsAround g shape s def owners forests block) (now : IsUsedNow g shape s def owners forests block values slots) where
    abbrev its_line : BlockRow
    its_line = used_row block (count_rows slots)

    its_entry : (x : Entry) → IsEntryOf x (leaf_entries forests.map) → (map_line x).block ≡ block → row_entry its_line ≡ x
    its_entry x there same = row_of_block its_line x block st now.own.within now.line refl there same

    is_used : Contains (used_blocks forests.map) block
    is_used = in_state_named 1 (leaf_entries forests.map) block (record {
      entry = row_entry its_line;
      there = now.line;
      state = eq-eqb (map_line (row_entry its_line)).state 1 (row_state its_line);
      block_is = row_block its_line (small_block shape block now.own.within);
    })

    rows_are : (x : Entry) → IsEntryOf x (leaf_entries forests.map) → (map_line x).block ≡ block → (map_line x).rows ≡ count_rows slots
    rows_are x there same = sym (ap (λ (y : Entry). (map_line y).rows) (its_entry x there same)) ∙ entry_rows its_line (few_rows shape (pages_of g s) def block slots now.rows.slots_are)

    -- a row of the block is one of its slots
    slot_there : (placed : PlacedRow) → Contains (rows_in_block shape (pages_of g s) def block) placed → Contains slots (Some placed.row)
    slot_there placed there = subst (λ all. Contains all (Some placed.row)) now.rows.slots_are (slot_of_placed block 0 (block_slots shape (pages_of g s) def block) placed there).0

    rows_sound : AreBlockRowsSound shape (pages_of g s) def block
    rows_sound = record {
      forms = now.rows.forms;
      rows = each_in (λ placed. RowFits def placed.row) (rows_in_block shape (pages_of g s) def block) (λ placed there. now.cell.fit placed.row (slot_there placed there));
    }

    cell_sound : IsOfOneCell shape (pages_of g s) def block
    cell_sound i j d low high =
        let all = rows_in_block shape (pages_of g s) def block in
        let first = slot_there (get_or all i d) (Contains-get_or all i d (omega (arith, low, high))) in
        let second = slot_there (get_or all j d) (Contains-get_or all j d high) in
        now.cell.one_cell (get_or all i d).row first ∙ sym (now.cell.one_cell (get_or all j d).row second)

    used_sound : IsBlockSound shape (pages_of g s) owners def forests block
    used_sound = record {
      line = λ x there same.
          let state_is : (map_line x).state ≡ 1 = sym (ap (λ (y : Entry). (map_line y).state) (its_entry x there same)) ∙ row_state its_line in
          let rows_is = rows_are x there same in
          record {
            mapped = record { state = omega (arith, state_is); within = omega (arith, same, now.own.within); owned = ap (owner_of owners) same ∙ now.own.owned };
            used_count = record {
              some_row = λ used. omega (arith, rows_is, now.cell.some);
              counted = λ used. rows_is ∙ ap count_rows (sym now.rows.slots_are) ∙ sym (length-rows_from_slot block 0 (block_slots shape (pages_of g s) def block))
                  ∙ ap (λ b. length (rows_in_block shape (pages_of g s) def b)) (sym same);
            };
            idle_count = λ unused. absurd (unused state_is);
            rows = λ used. subst (AreBlockRowsSound shape (pages_of g s) def) (sym same) rows_sound;
            cell = λ used. subst (IsOfOneCell shape (pages_of g s) def) (sym same) cell_sound;
          };
      named = λ owned. subst (Contains (mapped_blocks forests.map)) (row_block its_line (small_block shape block now.own.within)) (contains_block (leaf_entries forests.map) (row_entry its_line) now.line);
      composite = listed_here shape (pages_of g s) def forests.map block values slots is_used now.rows.slots_are now.cell.some (cell_parts def) forests.composite
          (λ row there. cell_key-same def row.values values (now.cell.one_cell row there)) now.listed.composite;
      dims = dims_listed shape (pages_of g s) def forests.map block values slots is_used now.rows.slots_are now.cell.some def.dims forests.dims
          (λ row there. each_in (λ dim. key_bytes def.columns (rising_parts dim) row.values ≡ key_bytes def.columns (rising_parts dim) values) def.dims (λ dim at. dimension_key-same def dim row.values values at (now.cell.one_cell row there))) now.listed.dims;
    }

  -- ---- a block in a state other than Used

  module _ (given : BlockState) (idle : given ≢ state.Used) (block : ℕ) (st : StandsAround g shape s def owners forests block) (now : IsReleasedNow shape def given owners forests block) where
    released_entry : (x : Entry) → IsEntryOf x (leaf_entries forests.map) → (map_line x).block ≡ block → row_entry (released_line given block) ≡ x
    released_entry x there same = row_of_block (released_line given block) x block st now.own.within now.line refl there same

    its_state : (x : Entry) → IsEntryOf x (leaf_entries forests.map) → (map_line x).block ≡ block → (map_line x).state ≡ state_number given
    its_state x there same = sym (ap (λ (y : Entry). (map_line y).state) (released_entry x there same)) ∙ row_state (released_line given block)

    unused : Contains (used_blocks forests.map) block → ⊥
    unused used =
        let named = named_in_state 1 (leaf_entries forests.map) block used in
        not_used given idle (sym (its_state named.entry named.there named.block_is) ∙ eqb-true (map_line named.entry).state 1 named.state)

    released_sound : IsBlockSound shape (pages_of g s) owners def forests block
    released_sound = record {
      line = λ x there same.
          let state_is = its_state x there same in
          record {
            mapped = record { state = omega (arith, state_is, few_states given); within = omega (arith, same, now.own.within); owned = ap (owner_of owners) same ∙ now.own.owned };
            used_count = record { some_row = λ used. absurd (not_used given idle (sym state_is ∙ used)); counted = λ used. absurd (not_used given idle (sym state_is ∙ used)) };
            idle_count = λ unused. sym (ap (λ (y : Entry). (map_line y).rows) (released_entry x there same)) ∙ entry_rows (released_line given block) (omega arith);
            rows = λ used. absurd (not_used given idle (sym state_is ∙ used));
            cell = λ used. absurd (not_used given idle (sym state_is ∙ used));
          };
      named = λ owned.
          subst (Contains (mapped_blocks forests.map)) (row_block (released_line given block) (small_block shape block now.own.within))
          (contains_block (leaf_entries forests.map) (row_entry (released_line given block)) now.line);
      composite = unlisted_here shape (pages_of g s) def forests.map block unused (cell_parts def) forests.composite now.unlisted.composite;
      dims = dims_unlisted shape (pages_of g s) def forests.map block unused def.dims forests.dims now.unlisted.dims;
    }

  -- ---- an extent that is no block any more

  pub stands_without : (block : ℕ) → owner_of owners block ≡ Free → IsUnnamed forests.map block → IsUnlisted def forests block → StandsAround g shape s def owners forests block → StandsTable g shape s def owners forests
  stands_without block free unnamed unlisted st = stands_sound block st (record {
    line = λ x there same. absurd (unnamed x there same);
    named = λ owned. let wrong = sym owned ∙ free in absurd cc;
    composite = unlisted_here shape (pages_of g s) def forests.map block unused (cell_parts def) forests.composite unlisted.composite;
    dims = dims_unlisted shape (pages_of g s) def forests.map block unused def.dims forests.dims unlisted.dims;
  })
    where
      unused : Contains (used_blocks forests.map) block → ⊥
      unused used = let named = named_in_state 1 (leaf_entries forests.map) block used in unnamed named.entry named.there named.block_is

module _ {S : Type 0} {g : Ghosts S} (shape : Shape) (s : S) (def : TableDef) (owners : List Kind) (forests : TableForests) (defined : IsTableDef def.number def) where
  pub stands_used : (block : ℕ) (values : List Value) (slots : List (Option Row)) → StandsAround g shape s def owners forests block → IsUsedNow g shape s def owners forests block values slots
      → StandsTable g shape s def owners forests
  stands_used block values slots st now = stands_sound shape s def owners forests block st (used_sound shape s def owners forests block values slots st now)

  stands_released : (given : BlockState) → given ≢ state.Used → (block : ℕ) → StandsAround g shape s def owners forests block → IsReleasedNow shape def given owners forests block → StandsTable g shape s def owners forests
  stands_released given idle block st now = stands_sound shape s def owners forests block st (released_sound shape s def owners forests given idle block st now)

  -- what the block is then
  pub spot_of_used : (block : ℕ) (values : List Value) (slots : List (Option Row)) → StandsAround g shape s def owners forests block → IsUsedNow g shape s def owners forests block values slots
      → spot_in g shape s def owners forests block ≡ UsedBlock slots
  spot_of_used block values slots st now =
      sym (spot_at shape (pages_of g s) def owners forests.map block OtherBlock now.own.within)
      ∙ used_spot shape (pages_of g s) def owners forests.map block OtherBlock (stands_used block values slots st now).map (is_used shape s def owners forests block values slots st now)
      ∙ ap UsedBlock now.rows.slots_are

  pub spot_of_released : (given : BlockState) → given ≢ state.Used → (block : ℕ) → StandsAround g shape s def owners forests block → IsOwnBlock shape owners def block → HasRow (released_line given block) forests.map
      → spot_in g shape s def owners forests block ≡ released_spot given
  spot_of_released given idle block st own line =
      let slots = block_slots shape (pages_of g s) def block in
      sym (spot_at shape (pages_of g s) def owners forests.map block OtherBlock own.within)
      ∙ own_spot shape (pages_of g s) def owners forests.map block OtherBlock own.within own.owned
      ∙ ap (λ n. spot_of_state n slots) (state_of_named (state_number given) (leaf_entries forests.map) block st.map.form.once_each (record {
        entry = row_entry (released_line given block);
        there = line;
        state = eq-eqb (map_line (row_entry (released_line given block))).state (state_number given) (row_state (released_line given block));
        block_is = row_block (released_line given block) (small_block shape block own.within);
      }))
      ∙ no_slots given idle slots

-- other spots as a change has it, and the one as it is
pub spots_beside : {S : Type 0} (g : Ghosts S) {After : Spot → Spot → Type 0} → IsSpotChange After → (shape : Shape) (old new : S) (def : TableDef) (block : ℕ) (spot : Spot) (owners owners_now : List Kind) (forests forests_now : TableForests)
    → block < shape.extents → ((e : ℕ) → e ≢ block → After (spot_in g shape old def owners forests e) (spot_in g shape new def owners_now forests_now e))
    → spot_in g shape new def owners_now forests_now block ≡ spot → AllZip After (slice_set (spots_of g shape old def owners forests) block spot) (spots_of g shape new def owners_now forests_now)
spots_beside {S} g {After} change shape old new def block spot owners owners_now forests forests_now low others here =
    zip_of After (set olds block spot) news (omega (arith, length-set olds block spot, long, length-spots shape (pages_of g new) def owners_now forests_now.map)) each
  where
    olds : List Spot
    olds = spots_of g shape old def owners forests

    news : List Spot
    news = spots_of g shape new def owners_now forests_now

    long : length (spots_of g shape old def owners forests) ≡ shape.extents
    long = length-spots shape (pages_of g old) def owners forests.map

    each : (i : ℕ) (d e : Spot) → i < length (set (spots_of g shape old def owners forests) block spot)
        → After (get_or (set (spots_of g shape old def owners forests) block spot) i d) (get_or (spots_of g shape new def owners_now forests_now) i e)
    each i d e within =
        let inside : i < shape.extents = omega (arith, within, length-set (spots_of g shape old def owners forests) block spot, long) in
        let now : get_or (spots_of g shape new def owners_now forests_now) i e ≡ spot_in g shape new def owners_now forests_now i = spot_at shape (pages_of g new) def owners_now forests_now.map i e inside in
        elim (cases_eq i block) [
          | inl same ↦
              let was : get_or (set (spots_of g shape old def owners forests) block spot) i d ≡ spot =
              ap (λ n. get_or (set (spots_of g shape old def owners forests) block spot) n d) same ∙ get_or-set_same (spots_of g shape old def owners forests) block spot d (omega (arith, low, long)) in
              let is : get_or (spots_of g shape new def owners_now forests_now) i e ≡ spot = now ∙ ap (spot_in g shape new def owners_now forests_now) same ∙ here in
              subst (λ a. After a (get_or (spots_of g shape new def owners_now forests_now) i e)) (sym was) (subst (After spot) (sym is) (change.stays spot))
          | inr other ↦
              let was : get_or (set (spots_of g shape old def owners forests) block spot) i d ≡ spot_in g shape old def owners forests i =
              get_or-set_other (spots_of g shape old def owners forests) block i spot d other ∙ spot_at shape (pages_of g old) def owners forests.map i d inside in
              subst (λ a. After a (get_or (spots_of g shape new def owners_now forests_now) i e)) (sym was) (subst (After (spot_in g shape old def owners forests i)) (sym now) (others i other))
        ]

-- a block is one of the table that it is a block of
block_of : (kind : Kind) (t : ℕ) → table_of_block kind ≡ Some t → kind ≡ Block t
block_of Free t is = absurd (cc)
block_of (Block u) t is = cc
block_of (Index used) t is = absurd (cc)

module _ {S : Type 0} {g : Ghosts S} {After : Spot → Spot → Type 0} (change : IsSpotChange After) (shape : Shape) (before noted : SpaceNotes) (old new : S) (def : TableDef) (block : ℕ) (owners owners_now : List Kind) (forests forests_now : TableForests)
    (defined : IsTableDef def.number def) (changes : ChangesAround g After shape before noted old new def block owners forests owners_now forests_now) where
  -- what changed of the table, once it stands
  pub changes_table : StandsTable g shape new def owners_now forests_now → ChangesTable g shape before noted old new def owners forests owners_now forests_now
  changes_table st = record {
    stands = st;
    others_blocks = λ e t other is. block_of (owner_of owners_now e) t (changes.trees.kept.blocks e ∙ ap table_of_block is);
    no_others_blocks = λ e t other is. block_of (owner_of owners e) t (sym (changes.trees.kept.blocks e) ∙ ap table_of_block is);
    others_pages = changes.trees.kept.others;
    used_pages = changes.trees.kept.used;
    pages = changes.trees.pages;
    grows = changes.grows;
    notes = changes.trees.notes;
  }

  pub turns_used : (values : List Value) (slots : List (Option Row)) → IsUsedNow g shape new def owners_now forests_now block values slots → TurnsSpot g After shape before noted old new def block (UsedBlock slots) owners forests owners_now forests_now
  turns_used values slots now = record {
    changes = changes_table (stands_used shape new def owners_now forests_now defined block values slots changes.stands now);
    records = changes.records;
    spots = spots_beside g change shape old new def block (UsedBlock slots) owners owners_now forests forests_now now.own.within changes.spots
        (spot_of_used shape new def owners_now forests_now defined block values slots changes.stands now);
  }

  pub turns_released : (given : BlockState) → given ≢ state.Used → IsReleasedNow shape def given owners_now forests_now block
      → TurnsSpot g After shape before noted old new def block (released_spot given) owners forests owners_now forests_now
  turns_released given idle now = record {
    changes = changes_table (stands_released shape new def owners_now forests_now defined given idle block changes.stands now);
    records = changes.records;
    spots = spots_beside g change shape old new def block (released_spot given) owners owners_now forests forests_now now.own.within changes.spots
        (spot_of_released shape new def owners_now forests_now defined given idle block changes.stands now.own now.line);
  }
