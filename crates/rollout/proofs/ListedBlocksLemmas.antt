-- What the composite index of a table that stands lists: each Used block once, under the cell of its rows.
use Rattle.std.proofs.Common.{◌≡◌, ◌≢◌, ◌<◌, ◌^◌, ◌∙◌, false, ℕ, zero, suc, List, [], ◌∷◌, get_or, length, map, refl, sym, ap, subst, arith}
use Rattle.std.specs.Prelude.{AllPairs, Contains, IsTrue, None}
use Rattle.std.specs.List.{AllByRecursion, AllZip}
use Rattle.std.proofs.lemmas.List.Elements.{Contains-get_or}
use Rattle.std.proofs.lemmas.Slice.Zip.{AllZip-long}
use Rattle.mdc_words.specs.ByteOrder.{Entry}
use Rattle.mdc_values.specs.declared.value.Value.{Value}
use Rattle.mdc_ast.specs.Database.{fits_all}
use Rattle.mdc_ast.specs.FittingRows.{RowFits}
use Rattle.mdc_ast.specs.TableLimits.{IsTableDef}
use Rattle.mdc_ast.specs.Truth.{value_at}
use Rattle.mdc_ast.specs.declared.definition.ColumnDef.{ColumnDef}
use Rattle.mdc_ast.specs.declared.definition.TableDef.{TableDef}
use Rattle.store_api.specs.declared.pages.Pages.{Ghosts}
use Rattle.store_api.specs.declared.shape.Shape.{Shape}
use Rattle.extent_map.specs.declared.kind.Kind.{Kind}
use Rattle.key_codec.proofs.KeyLemmas.{first_there, type_at_part}
use Rattle.entry_tree.specs.Forest.{leaf_entries}
use Rattle.entry_tree.proofs.LeafFromLemmas.{Fits-entries}
use Rattle.block_map.specs.MapLines.{used_blocks}
use Rattle.block_map.proofs.RisingEntriesLemmas.{rising_differ}
use Rattle.block_index.specs.Cells.{entry_under}
use Rattle.block_index.specs.ListedCells.{AreCellEntries, AreOfTypes, IsCellEntry}
use Rattle.block_index.specs.declared.listed_cells.CellBlock.{CellBlock}
use Rattle.block_index.proofs.CellsLemmas.{key_of_values-row}
use Rattle.table_trees.specs.RowCells.{cell_places, cell_values}
use Rattle.table_trees.specs.TableTrees.{block_entry, cell_parts, rising_parts}
use Rattle.table_trees.proofs.TableTreesLemmas.{AreColumns}
use Rattle.mdc_sound.specs.BlockRules.{AreBlockRowsSound, block_in_entry, entry_of_block}
use Rattle.mdc_sound.specs.StandingTable.{StandsTable, TableForests, pages_of}
use Rattle.mdc_sound.specs.TableRows.{PlacedRow, block_slots, rows_in_block, rows_in_table}
use Rattle.mdc_sound.proofs.BlockRulesLemmas.{each_of, named_owned}
use Rattle.mdc_sound.proofs.DefinitionTreesLemmas.{has_block_indexes}
use Rattle.mdc_sound.proofs.ElementsLemmas.{contains_entry, entry_in, flat_contains, from_map}
use Rattle.mdc_sound.proofs.MappedBlocksLemmas.{few_extents}
use Rattle.mdc_sound.proofs.SlotRowsLemmas.{slot_of_placed, some_row}
use Rattle.mdc_sound.proofs.TableSpotsLemmas.{used_spot}
use Rattle.mdc_sound.specs.Placing.Spot.{OtherBlock}
use Rattle.table_blocks.proofs.BlockEntriesLemmas.{block_in_entry-block_entry}
use Rattle.table_blocks.proofs.ListedCellsLemmas.{listed_in_cell}
use Rattle.table_blocks.proofs.OpeningLemmas.{used_now}
use Rattle.rollout.specs.RolledBlocks.{IsBlockOfCell}

-- what holds of each pair holds of that in a place
pub zip_at : {X Y : Type 0} (R : X → Y → Type 0) (xs : List X) (ys : List Y) (k : ℕ) (d : X) (e : Y) → AllZip R xs ys → k < length xs → R (get_or xs k d) (get_or ys k e)
zip_at R [] ys k d e all low = absurd (omega (arith, low))
zip_at R (x ∷ xs) [] k d e all low = absurd all
zip_at R (x ∷ xs) (y ∷ ys) zero d e all low = all.0
zip_at R (x ∷ xs) (y ∷ ys) (suc k) d e all low = zip_at R xs ys k d e all.1 (omega (arith, low))

-- ---- cells

-- the cell of a row, with its block
abbrev pub cell_of : TableDef → PlacedRow → CellBlock
cell_of def placed = record { cell = record { values = cell_values def placed.row.values }; block = placed.rid.block }

are_of_types : (columns : List ColumnDef) (places : List ℕ) (values : List Value) → AreColumns columns (rising_parts places) → IsTrue (fits_all columns values) → AreOfTypes columns places (map (value_at values) places)
are_of_types columns [] values there fitting = tt
are_of_types columns (place ∷ places) values there fitting =
    let split = first_there columns (record { column = place; descending = false }) (rising_parts places) there in
    (type_at_part columns values place split.0 fitting, are_of_types columns places values split.1 fitting)

module _ {S : Type 0} (g : Ghosts S) (shape : Shape) (s : S) (def : TableDef) (owners : List Kind) (forests : TableForests) (defined : IsTableDef def.number def) (st : StandsTable g shape s def owners forests) where
  -- an entry that was read is that of a row of a Used block
  pub record IsListedRow (entry : Entry) (one : CellBlock) : Type 0 where
    pub placed : PlacedRow
    pub used : Contains (used_blocks forests.map) placed.rid.block
    pub there : Contains (rows_in_block shape (pages_of g s) def placed.rid.block) placed
    pub fits : RowFits def placed.row
    pub small : placed.rid.block < 2 ^ 32
    pub entry_is : entry_of_block def (cell_parts def) placed ≡ entry
    pub one_is : cell_of def placed ≡ one

  listed_row : (entry : Entry) → Contains (map (entry_of_block def (cell_parts def)) (rows_in_table shape (pages_of g s) def forests.map)) entry → (one : CellBlock) × IsListedRow entry one
  listed_row entry is_in =
      let r = from_map (entry_of_block def (cell_parts def)) (rows_in_table shape (pages_of g s) def forests.map) entry is_in in
      let placed : PlacedRow = r.0 in
      let b = flat_contains (rows_in_block shape (pages_of g s) def) (used_blocks forests.map) placed r.1 in
      let same : placed.rid.block ≡ b.0 = (slot_of_placed b.0 0 (block_slots shape (pages_of g s) def b.0) placed b.2).1 in
      let used : Contains (used_blocks forests.map) placed.rid.block = subst (Contains (used_blocks forests.map)) (sym same) b.1 in
      let there : Contains (rows_in_block shape (pages_of g s) def placed.rid.block) placed = subst (λ (n : ℕ). Contains (rows_in_block shape (pages_of g s) def n) placed) (sym same) b.2 in (
        cell_of def placed,
        record {
          placed = placed;
          used = used;
          there = there;
          fits = each_of (λ (p : PlacedRow). RowFits def p.row) (rows_in_block shape (pages_of g s) def placed.rid.block) placed (each_of (AreBlockRowsSound shape (pages_of g s) def) (used_blocks forests.map) placed.rid.block st.rows used).rows there;
          small = omega (arith, (named_owned shape owners def forests.map 1 placed.rid.block st.map used).0, few_extents shape);
          entry_is = r.2;
          one_is = refl;
        },
      )

  -- so the entries list these cells
  record HasCells (entries : List Entry) : Type 0 where
    all : List CellBlock
    are : AreCellEntries def entries all
    each : AllZip IsListedRow entries all

  cells_of : (entries : List Entry) → AllByRecursion (Contains (map (entry_of_block def (cell_parts def)) (rows_in_table shape (pages_of g s) def forests.map))) entries → HasCells entries
  cells_of [] only = record { all = []; are = tt; each = tt }
  cells_of (entry ∷ entries) only =
      let rest = cells_of entries only.1 in
      let mine = listed_row entry only.0 in
      let row = mine.1 in
      let is_entry : IsCellEntry def (entry_of_block def (cell_parts def) row.placed) (cell_of def row.placed) = record {
        entry_is = sym (ap (λ key. entry_under key row.placed.rid.block) (key_of_values-row def.columns (cell_places def) row.placed.row.values));
        typed = are_of_types def.columns (cell_places def) row.placed.row.values (has_block_indexes def.number def defined).composite.key.there row.fits.values;
        small = row.small;
      } in
      record {
        all = mine.0 ∷ rest.all;
        are = (subst (IsCellEntry def entry) row.one_is (subst (λ e. IsCellEntry def e (cell_of def row.placed)) row.entry_is is_entry), rest.are);
        each = (row, rest.each);
      }

  module _ (found : List CellBlock) (listed : (all : List CellBlock) → AreCellEntries def (leaf_entries forests.composite) all → found ≡ all) where
    found_rows : AllZip IsListedRow (leaf_entries forests.composite) found
    found_rows = let all = cells_of (leaf_entries forests.composite) st.indexes.composite.only in subst (AllZip IsListedRow (leaf_entries forests.composite)) (sym (listed all.all all.are)) all.each

    row_of_one : (entry : Entry) (one : CellBlock) → IsListedRow entry one → IsBlockOfCell g shape s def one owners forests
    row_of_one entry one row = subst (λ c. IsBlockOfCell g shape s def c owners forests) row.one_is (record {
      slots = block_slots shape (pages_of g s) def row.placed.rid.block;
      spot = used_spot shape (pages_of g s) def owners forests.map row.placed.rid.block OtherBlock st.map row.used;
      row = row.placed.row;
      there = (slot_of_placed row.placed.rid.block 0 (block_slots shape (pages_of g s) def row.placed.rid.block) row.placed row.there).0;
      cell = refl;
    })

    -- each is a Used block under the cell of its rows
    pub found_block : (k : ℕ) (one : CellBlock) → k < length found → one ≡ get_or found k one → IsBlockOfCell g shape s def one owners forests
    found_block k one low is =
        let entries = leaf_entries forests.composite in
        let row = zip_at IsListedRow entries found k [] one found_rows (omega (arith, low, AllZip-long IsListedRow entries found found_rows)) in
        row_of_one (get_or entries k []) one (subst (IsListedRow (get_or entries k [])) (sym is) row)

    names_block : (entry : Entry) (one : CellBlock) → IsListedRow entry one → block_in_entry def (cell_parts def) entry ≡ one.block
    names_block entry one row =
        ap (block_in_entry def (cell_parts def)) (sym row.entry_is)
        ∙ block_in_entry-block_entry def (cell_parts def) row.placed.row.values row.placed.rid.block (has_block_indexes def.number def defined).composite.key row.fits.values row.small ∙ ap (λ (c : CellBlock). c.block) row.one_is

    -- none stands twice
    pub found_once : AllPairs (λ a b. a.block ≢ b.block) found
    found_once i j d low high same =
        let entries = leaf_entries forests.composite in
        let long = AllZip-long IsListedRow entries found found_rows in
        let first = zip_at IsListedRow entries found i [] d found_rows (omega (arith, low, high, long)) in
        let second = zip_at IsListedRow entries found j [] d found_rows (omega (arith, high, long)) in
        let used : Contains (used_blocks forests.map) (get_or found i d).block = subst (Contains (used_blocks forests.map)) (ap (λ (c : CellBlock). c.block) first.one_is) first.used in
        let now = used_now shape s def owners forests defined st (get_or found i d).block used in
        let e_first = now.1.listed.composite.only (get_or entries i []) (entry_in entries (get_or entries i []) (Contains-get_or entries i [] (omega (arith, low, high, long)))) (names_block (get_or entries i []) (get_or found i d) first) in
        let e_second = now.1.listed.composite.only (get_or entries j []) (entry_in entries (get_or entries j []) (Contains-get_or entries j [] (omega (arith, high, long))))
        (names_block (get_or entries j []) (get_or found j d) second ∙ sym same) in
        rising_differ entries (Fits-entries None None [] forests.composite st.trees.held.1.0.is_tree.fits) i j [] low (omega (arith, high, long)) (e_first ∙ sym e_second)

    -- and each Used block is there
    pub found_all : (block : ℕ) → Contains (used_blocks forests.map) block → (one : CellBlock) × Contains found one × (one.block ≡ block)
    found_all block used =
        let entries = leaf_entries forests.composite in
        let now = used_now shape s def owners forests defined st block used in
        let some = some_row (block_slots shape (pages_of g s) def block) now.1.cell.some in
        let mine = listed_in_cell def forests now.0 some.0.values block (sym (now.1.cell.one_cell some.0 some.1)) now.1.listed in
        let (k, low, at) = contains_entry entries (block_entry def.columns (cell_parts def) some.0.values block) mine.composite.has in
        let long = AllZip-long IsListedRow entries found found_rows in
        let none : CellBlock = cell_of def (record { rid = record { block = 0; slot = 0 }; row = some.0 }) in
        let row = zip_at IsListedRow entries found k (block_entry def.columns (cell_parts def) some.0.values block) none found_rows low in (
          get_or found k none,
          Contains-get_or found k none (omega (arith, low, long)),
          sym (names_block (get_or entries k (block_entry def.columns (cell_parts def) some.0.values block)) (get_or found k none) row)
              ∙ ap (block_in_entry def (cell_parts def)) at
              ∙ block_in_entry-block_entry def (cell_parts def) some.0.values block (has_block_indexes def.number def defined).composite.key (now.1.cell.fit some.0 some.1).values
              (omega (arith, (named_owned shape owners def forests.map 1 block st.map used).0, few_extents shape)),
        )
