-- The blocks that the trees of a table list, their lines and their cells; and the damage that calls which read them may name.
use Rattle.std.proofs.Common.{◌≡◌, ◌<◌, ◌≤◌, ◌^◌, ℕ, suc, IsTrue, List, [], ◌∷◌, false, length, refl, ap, arith, sym, ◌∙◌, subst, inl, inr, Option, Some, None}
use Rattle.std.specs.Prelude.{◌↔◌, AllPairs, Contains, Err, IfErr, Ok, Result}
use Rattle.std.proofs.lemmas.Bool.{eq-eqb}
use Rattle.mdc_ast.specs.declared.definition.TableDef.{TableDef}
use Rattle.mdc_ast.specs.declared.row.Cell.{Cell}
use Rattle.store_api.specs.Causes.{fault_of}
use Rattle.store_api.specs.Extents.{first_page_of}
use Rattle.store_api.specs.Frame.{NoPage}
use Rattle.store_api.specs.RunsOverPages.{RunsOverPages}
use Rattle.store_api.specs.declared.fault.Damage.{Damage}
use Rattle.store_api.specs.declared.fault.StoreFault.{StoreFault}
use Rattle.store_api.specs.declared.pages.Pages.{Ghosts}
use Rattle.store_api.specs.declared.shape.Shape.{Shape}
use Rattle.store_api.proofs.RunsOverPagesLemmas.{runs_wider}
use Rattle.extent_map.specs.declared.kind.Kind.{Kind}
use Rattle.entry_tree.specs.Forest.{Forest, leaf_entries}
use Rattle.entry_tree.specs.HeldTrees.{HoldsTree, IsTreePage}
use Rattle.entry_tree.specs.declared.tree.Tree.{Tree}
use Rattle.block_map.specs.BlockMaps.{AnyMap, BreaksMapTree, FindsBlock}
use Rattle.block_map.specs.MapLines.{MapLine, map_line, map_lines, used_blocks}
use Rattle.block_map.specs.MapRows.{row_entry, state_number}
use Rattle.block_map.specs.declared.row.BlockRow.{BlockRow}
use Rattle.block_map.specs.declared.state.BlockState.TheVariants as state
use Rattle.block_map.proofs.MapLinesLemmas.{contains_cases, in_state_named, row_block, row_state}
use Rattle.block_rows.specs.CountedRows.{HasSeenCounted, counted_rows}
use Rattle.block_rows.specs.HeldRows.{BreaksRows}
use Rattle.block_rows.specs.SeenRows.{AreInCell, HasSeenRows, IsInCell}
use Rattle.block_rows.specs.declared.seen_rows.SeenRows.{SeenRows}
use Rattle.free_space.proofs.FoundRoomLemmas.{used_is_mapped, used_is_used}
use Rattle.free_space.proofs.TableRunsLemmas.{runs_broken}
use Rattle.table_trees.specs.RowCells.{cell_places, cell_values}
use Rattle.table_trees.specs.TableTrees.{map_place}
use Rattle.table_trees.specs.TreesBeside.{HoldsTreeAt, IsTreePageAt}
use Rattle.table_trees.specs.ToldPages.{PageList}
use Rattle.mdc_sound.specs.BlockRules.{IsOfOneCell, IsUsedCountSound}
use Rattle.mdc_sound.specs.StandingTable.{BreaksExpected, NamesTablePart, StandsTable, TableForests, pages_of}
use Rattle.mdc_sound.specs.TableRows.{PlacedRow, rows_in_block}
use Rattle.mdc_sound.proofs.BlockRulesLemmas.{each_of}
use Rattle.mdc_sound.proofs.ElementsLemmas.{contains_entry, each_in, entry_in, from_map, in_map}
use Rattle.mdc_sound.proofs.MappedBlocksLemmas.{entry_rows}
use Rattle.mdc_table.specs.SeenBlocks.{HasSeenBlock, HasSeenCountedBlock, IsListedSo, NamesUnlisted, used_line_of}
use Rattle.mdc_table.specs.TableReading.{HasUsedBlock}
use Rattle.mdc_table.specs.declared.listed.ListedBlock.{ListedBlock}
use Rattle.table_blocks.proofs.SeenSlotsLemmas.{holds_map}
use Rattle.mdc_table.proofs.StandingBlocksLemmas.{breaks_past, breaks_rows_of_used, runs_on_map}

-- what is the same of each two elements is the same of any two
pub same_of_any : {X V : Type 0} (f : X → V) (xs : List X) → AllPairs (λ a b. f a ≡ f b) xs → (a b : X) → Contains xs a → Contains xs b → f a ≡ f b
same_of_any f [] pairs a b at_a at_b = absurd (omega (arith, at_a.1))
same_of_any f (x ∷ xs) pairs a b at_a at_b = elim (contains_cases a x xs at_a) [
  | inl is_a ↦ elim (contains_cases b x xs at_b) [
    | inl is_b ↦ sym (ap f is_a) ∙ ap f is_b
    | inr (k, low, is_b) ↦ sym (ap f is_a) ∙ pairs 0 (suc k) b (omega arith) (omega (arith, low)) ∙ ap f is_b
  ]
  | inr (k, low, is_a) ↦ elim (contains_cases b x xs at_b) [
    | inl is_b ↦ sym (ap f is_a) ∙ sym (pairs 0 (suc k) a (omega arith) (omega (arith, low))) ∙ ap f is_b
    | inr later ↦ same_of_any f xs (λ i j d below within. pairs (suc i) (suc j) d (omega (arith, below)) (omega (arith, within))) a b (k, low, is_a) later
  ]
]

-- ---- lines

-- a line of a Used block names it as one
pub used_of_listed : (map_tree : Forest) (line : MapLine) → line.state ≡ 1 → Contains (map_lines map_tree) line → Contains (used_blocks map_tree) line.block
used_of_listed map_tree line used there =
    let (entry, within, is) = from_map map_line (leaf_entries map_tree) line there in
    in_state_named 1 (leaf_entries map_tree) line.block (record {
      entry = entry;
      there = entry_in (leaf_entries map_tree) entry within;
      state = eq-eqb (map_line entry).state 1 (ap (λ (l : MapLine). l.state) is ∙ used);
      block_is = ap (λ (l : MapLine). l.block) is;
    })

-- the line that was found
line_found : (map_tree : Forest) (block : ℕ) (row : BlockRow) → block < 2 ^ 32 → row.rows < 2 ^ 16 → row.state ≡ state.Used → FindsBlock map_tree block (Some row)
    → Contains (map_lines map_tree) (record { block = block; state = 1; rows = row.rows })
line_found map_tree block row small few used found =
    let low : row.block < 2 ^ 32 = omega (arith, small, found.0) in
    let there : Contains (map_lines map_tree) (map_line (row_entry row)) = in_map map_line (leaf_entries map_tree) (row_entry row) (contains_entry (leaf_entries map_tree) (row_entry row) found.1) in
    subst (λ b. Contains (map_lines map_tree) (record { block = b; state = 1; rows = row.rows })) (row_block row low ∙ found.0)
    (subst (λ s. Contains (map_lines map_tree) (record { block = (map_line (row_entry row)).block; state = s; rows = row.rows })) (row_state row ∙ ap state_number used)
    (subst (λ n. Contains (map_lines map_tree) (record { block = (map_line (row_entry row)).block; state = (map_line (row_entry row)).state; rows = n })) (entry_rows row few) there))

-- the rows of a block of one cell are of the given one, if that is the cell of one of them
in_given_cell : (def : TableDef) (given : Option Cell) (rows : List PlacedRow) → AllPairs (λ a b. cell_values def a.row.values ≡ cell_values def b.row.values) rows
    → ((cell : Cell) → given ≡ Some cell → (placed : PlacedRow) × Contains rows placed × (cell.values ≡ cell_values def placed.row.values)) → AreInCell (cell_places def) given rows
in_given_cell def None rows one its = one
in_given_cell def (Some cell) rows one its =
    let (placed, there, is) = its cell refl in
    each_in (IsInCell (cell_places def) cell) rows (λ other within. is ∙ same_of_any (λ (placed : PlacedRow). cell_values def placed.row.values) rows one placed other there within)

-- What was seen of the rows of a block, where it has as many as its line says.
pub record IsSeenIfListed (shape : Shape) (pages : PageList) (def : TableDef) (listed : ListedBlock) (seen : SeenRows) : Type 0 where
  pub rows : length (rows_in_block shape pages def listed.block) ≡ listed.rows → seen.rows ≡ listed.rows
  pub cell : length (rows_in_block shape pages def listed.block) ≡ listed.rows → IsTrue seen.in_cell ↔ AreInCell (cell_places def) listed.cell (rows_in_block shape pages def listed.block)

module _ (shape : Shape) (pages : PageList) (def : TableDef) (listed : ListedBlock) (seen : SeenRows) where
  -- where all its rows were met
  pub seen_all_rows : HasSeenRows shape pages def listed.block seen.rows → (IsTrue seen.in_cell ↔ AreInCell (cell_places def) listed.cell (rows_in_block shape pages def listed.block))
      → IsSeenIfListed shape pages def listed seen
  seen_all_rows rows cell = record { rows = λ as_many. rows.counted ∙ as_many; cell = λ as_many. cell }

  -- where those that are counted were
  pub seen_counted_rows : HasSeenCounted shape pages def listed.block listed.rows seen.rows
      → (IsTrue seen.in_cell ↔ AreInCell (cell_places def) listed.cell (counted_rows shape pages def listed.block listed.rows))
      → (length (rows_in_block shape pages def listed.block) ≤ listed.rows → counted_rows shape pages def listed.block listed.rows ≡ rows_in_block shape pages def listed.block)
      → IsSeenIfListed shape pages def listed seen
  seen_counted_rows rows cell whole = record {
    rows = λ as_many. rows.counted ∙ ap length (whole (omega (arith, as_many))) ∙ as_many;
    cell = λ as_many. subst (λ all. IsTrue seen.in_cell ↔ AreInCell (cell_places def) listed.cell all) (whole (omega (arith, as_many))) cell;
  }

  -- all was as listed
  pub seen_listed : HasSeenRows shape pages def listed.block seen.rows → (IsTrue seen.in_cell ↔ AreInCell (cell_places def) listed.cell (rows_in_block shape pages def listed.block))
      → seen.rows ≡ listed.rows → IsTrue seen.in_cell → HasSeenBlock shape pages def listed
  seen_listed rows known equal are = record { rows = subst (HasSeenRows shape pages def listed.block) equal rows; cell = known.0 are }

  -- so were the rows that are counted
  pub seen_counted : HasSeenCounted shape pages def listed.block listed.rows seen.rows
      → (IsTrue seen.in_cell ↔ AreInCell (cell_places def) listed.cell (counted_rows shape pages def listed.block listed.rows))
      → seen.rows ≡ listed.rows → IsTrue seen.in_cell → HasSeenCountedBlock shape pages def listed
  seen_counted rows known equal are = record { rows = subst (HasSeenCounted shape pages def listed.block listed.rows) equal rows; cell = known.0 are }

module _ {S : Type 0} {g : Ghosts S} (shape : Shape) (s : S) (def : TableDef) where
  -- so it is in the map of the table
  pub line_of_table : (tree : Tree) (block : ℕ) (row : BlockRow) → tree.root ≡ def.roots.map → tree.width ≡ 7 → block < 2 ^ 32 → row.rows < 2 ^ 16 → row.state ≡ state.Used
      → ((t : Forest) → HoldsTree g s tree t → FindsBlock t block (Some row))
      → (t : Forest) → HoldsTreeAt g s (map_place def) t → Contains (map_lines t) (record { block = block; state = 1; rows = row.rows })
  line_of_table tree block row root width small few used found t held =
      line_found t block row small few used (found t (holds_map s def tree t root width held))

  -- the block map doesn't have it as a Used one
  pub breaks_unmapped : (tree : Tree) (block : ℕ) (found : Option BlockRow) → tree.root ≡ def.roots.map → tree.width ≡ 7 → ((t : Forest) → HoldsTree g s tree t → FindsBlock t block found) → found ≡ None
      → BreaksExpected g shape s def (HasUsedBlock block) (record { page = def.roots.map; rule = 6 })
  breaks_unmapped tree block found root width finds none = record {
    names = NamesTablePart.block_map refl refl;
    broken = λ owners forests st has.
        used_is_mapped shape s def owners forests st block has.used
        (subst (FindsBlock forests.map block) none
        (finds forests.map (holds_map s def tree forests.map root width st.trees.held.0)));
  }

  pub breaks_unused : (tree : Tree) (block : ℕ) (found : Option BlockRow) (row : BlockRow) → tree.root ≡ def.roots.map → tree.width ≡ 7 → ((t : Forest) → HoldsTree g s tree t → FindsBlock t block found) → found ≡ Some row
      → (row.state ≡ state.Used → ⊥) → BreaksExpected g shape s def (HasUsedBlock block) (record { page = def.roots.map; rule = 6 })
  breaks_unused tree block found row root width finds is other = record {
    names = NamesTablePart.block_map refl refl;
    broken = λ owners forests st has.
        other (used_is_used shape s def owners forests st block row has.used
        (subst (FindsBlock forests.map block) is
        (finds forests.map (holds_map s def tree forests.map root width st.trees.held.0))));
  }

  -- ---- blocks that were read

  module _ (listed : ListedBlock) where
    block_there : (owners : List Kind) (forests : TableForests) → IsListedSo g shape s def listed owners forests → HasUsedBlock listed.block owners forests
    block_there owners forests so = record { used = used_of_listed forests.map (used_line_of listed) refl so.line }

    -- a fault of the rows of the block
    pub breaks_rows_of_listed : (damage : Damage) → listed.block < shape.extents → BreaksRows g shape s def listed.block damage → BreaksExpected g shape s def (IsListedSo g shape s def listed) damage
    breaks_rows_of_listed damage low b =
        let breaks = breaks_rows_of_used shape s def listed.block damage low b in
        record { names = breaks.names; broken = λ owners forests st so. breaks.broken owners forests st (block_there owners forests so) }

    -- no extent of this number
    pub breaks_past_listed : shape.extents ≤ listed.block → BreaksExpected g shape s def (IsListedSo g shape s def listed) (record { page = def.roots.map; rule = 6 })
    breaks_past_listed past =
        let breaks = breaks_past shape s def listed.block past in
        record { names = breaks.names; broken = λ owners forests st so. breaks.broken owners forests st (block_there owners forests so) }

    -- it has as many rows as its line says
    pub rows_as_listed : (owners : List Kind) (forests : TableForests) → StandsTable g shape s def owners forests → IsListedSo g shape s def listed owners forests
        → length (rows_in_block shape (pages_of g s) def listed.block) ≡ listed.rows
    rows_as_listed owners forests st so = sym ((each_of (IsUsedCountSound shape (pages_of g s) def) (map_lines forests.map) (used_line_of listed) st.used_counts so.line).counted refl)

    -- no row by its line, or other rows than it says
    breaks_count : (seen : SeenRows) → (IsTrue (g.state s).is_told → IsSeenIfListed shape (pages_of g s) def listed seen) → (seen.rows ≡ listed.rows → 0 < listed.rows → ⊥)
        → BreaksExpected g shape s def (IsListedSo g shape s def listed) (record { page = first_page_of shape.extents shape.extent_pages listed.block; rule = 8 })
    breaks_count seen known other = record {
      names = NamesTablePart.row_count listed.block refl refl;
      broken = λ owners forests st so.
          other ((known st.told).rows (rows_as_listed owners forests st so)) ((each_of (IsUsedCountSound shape (pages_of g s) def) (map_lines forests.map) (used_line_of listed) st.used_counts so.line).some_row refl);
    }

    -- a row of another cell
    breaks_cell : (seen : SeenRows) → (IsTrue (g.state s).is_told → IsSeenIfListed shape (pages_of g s) def listed seen) → seen.in_cell ≡ false
        → BreaksExpected g shape s def (IsListedSo g shape s def listed) (record { page = first_page_of shape.extents shape.extent_pages listed.block; rule = 9 })
    breaks_cell seen known strays = record {
      names = NamesTablePart.row_cell listed.block refl refl;
      broken = λ owners forests st so.
          let one = each_of (IsOfOneCell shape (pages_of g s) def) (used_blocks forests.map) listed.block st.cells (block_there owners forests so).used in
          let all : IsTrue seen.in_cell =
          ((known st.told).cell (rows_as_listed owners forests st so)).1 (in_given_cell def listed.cell (rows_in_block shape (pages_of g s) def listed.block) one so.cell) in
          absurd cc;
    }

-- ---- runs

module _ {S : Type 0} {g : Ghosts S} where
  -- a call on the block map
  pub runs_on_line : {old new : S} {fault : Option StoreFault} (shape : Shape) (def : TableDef) (tree : Tree) (block : ℕ) → tree.root ≡ def.roots.map → tree.width ≡ 7
      → RunsOverPages g NoPage (IsTreePage g old tree) (BreaksMapTree g old tree AnyMap) old new fault
      → RunsOverPages g NoPage (IsTreePageAt g old (map_place def)) (BreaksExpected g shape old def (HasUsedBlock block)) old new fault
  runs_on_line {fault = fault} shape def tree block root width run =
      runs_wider (runs_on_map {fault = fault} shape def tree root width run) (λ p there none. absurd none) (λ p is. is)
      (λ damage b. record { names = b.names; broken = λ owners forests st has. b.broken owners forests st })

  -- a call on the rows of a block
  pub runs_on_listed : {Kind : ℕ → Type 0} {old new : S} {fault : Option StoreFault} (shape : Shape) (def : TableDef) (listed : ListedBlock) → listed.block < shape.extents
      → RunsOverPages g NoPage Kind (BreaksRows g shape old def listed.block) old new fault
      → RunsOverPages g NoPage Kind (BreaksExpected g shape old def (IsListedSo g shape old def listed)) old new fault
  runs_on_listed {old = old} shape def listed low run =
      runs_wider run (λ p there none. absurd none) (λ p is. is) (λ damage b. breaks_rows_of_listed shape old def listed damage low b)

  -- and a look whether what was seen of them is as it is listed
  pub runs_as_listed : {Kind : ℕ → Type 0} {old new : S} (shape : Shape) (def : TableDef) (listed : ListedBlock) (seen : SeenRows) (result : Result (Unit {0}) StoreFault) → listed.block < shape.extents
      → RunsOverPages g NoPage Kind (BreaksRows g shape old def listed.block) old new None → (IsTrue (g.state old).is_told → IsSeenIfListed shape (pages_of g old) def listed seen)
      → IfErr result (NamesUnlisted shape listed seen)
      → RunsOverPages g NoPage Kind (BreaksExpected g shape old def (IsListedSo g shape old def listed)) old new (fault_of result)
  runs_as_listed shape def listed seen (Ok done) low run known names = runs_on_listed {fault = None} shape def listed low run
  runs_as_listed {old = old} shape def listed seen (Err fault) low run known (NamesUnlisted.of_rows other is) =
      runs_broken fault is (runs_on_listed {fault = None} shape def listed low run) (breaks_count shape old def listed seen known other)
  runs_as_listed {old = old} shape def listed seen (Err fault) low run known (NamesUnlisted.of_cell strays is) =
      runs_broken fault is (runs_on_listed {fault = None} shape def listed low run) (breaks_cell shape old def listed seen known strays)
