-- A block that is rolled out: its line is looked up, and it is made Free.
use Rattle.std.proofs.Common.{◌≡◌, ◌≤◌, ◌<◌, ◌∙◌, ◌++◌, ℕ, List, [], ◌∷◌, None, Some, length, set, refl, sym, ap, subst, arith, inl, inr}
use Rattle.std.specs.Prelude.{Contains, IsPermutation, Option, slice_index_or}
use Rattle.std.specs.List.{AllZip}
use Rattle.std.proofs.lemmas.Bool.{cases_lt}
use Rattle.std.proofs.lemmas.List.{nil_from_length}
use Rattle.std.proofs.lemmas.List.Sums.{sum_by-cons}
use Rattle.std.proofs.lemmas.List.Sorted.{IsPermutation-refl, length_permutation}
use Rattle.mdc_ast.specs.TableLimits.{IsTableDef}
use Rattle.mdc_ast.specs.declared.definition.IndexDef.{IndexDef}
use Rattle.mdc_ast.specs.declared.definition.TableDef.{TableDef}
use Rattle.mdc_ast.specs.declared.row.Row.{Row}
use Rattle.store_api.specs.Extents.{first_page_of}
use Rattle.store_api.specs.Frame.{NoPage}
use Rattle.store_api.specs.RunsOverPages.{RunsOverPages}
use Rattle.store_api.specs.declared.fault.Damage.{Damage}
use Rattle.store_api.specs.declared.fault.StoreFault.{StoreFault}
use Rattle.store_api.specs.declared.fault.StoreFault.TheVariants.{Damaged}
use Rattle.store_api.specs.declared.pages.Pages.{Ghosts}
use Rattle.store_api.specs.declared.shape.Shape.{Shape}
use Rattle.store_api.proofs.RunsOverPagesLemmas.{runs_as, runs_damage, runs_wider}
use Rattle.extent_map.specs.declared.kind.Kind.{Kind}
use Rattle.extent_map.specs.declared.space_notes.SpaceNotes.{SpaceNotes}
use Rattle.entry_tree.specs.Forest.{Forest, times}
use Rattle.row_page.specs.RowPage.{count_rows}
use Rattle.block_map.specs.BlockMaps.{HasRow}
use Rattle.block_map.specs.Counting.{used_row}
use Rattle.block_map.specs.declared.state.BlockState.TheVariants as state
use Rattle.block_map.specs.MapLines.{map_lines}
use Rattle.block_index.specs.declared.listed_cells.CellBlock.{CellBlock}
use Rattle.table_trees.specs.RowCells.{cell_values}
use Rattle.table_trees.specs.TableTrees.{map_place}
use Rattle.table_trees.specs.TreesBeside.{HoldsTreeAt, IsTreePageAt}
use Rattle.mdc_sound.specs.BlockRules.{IsSoundIndex, IsUsedCountSound}
use Rattle.mdc_sound.specs.Placing.{Spot, SpotsAfterReturns}
use Rattle.mdc_sound.specs.Placing.Spot.{FreeBlock, OtherBlock, UsedBlock}
use Rattle.mdc_sound.specs.StandingTable.{BreaksExpected, NamesTablePart, StandsTable, TableForests, pages_of, spots_of}
use Rattle.mdc_sound.specs.TableRows.{PlacedRow, block_slots}
use Rattle.mdc_sound.proofs.BlockRulesLemmas.{each_of}
use Rattle.mdc_sound.proofs.SlotRowsLemmas.{length-rows_from_slot}
use Rattle.mdc_sound.proofs.TableSpotsLemmas.{used_of_spot}
use Rattle.table_blocks.specs.BlockSteps.{ExpectsReleasing, TurnsReleased}
use Rattle.table_blocks.proofs.FillBegunLemmas.{row_keys}
use Rattle.table_blocks.proofs.ListedCellsLemmas.{listed_in_cell}
use Rattle.table_blocks.proofs.OpeningLemmas.{used_spot_now}
use Rattle.mdc_table.specs.TableReading.{HasUsedBlock}
use Rattle.row_entries.specs.RowEntries.{IsTreeOrMapPageOfTable}
use Rattle.row_entries.proofs.SoundEntriesLemmas.{sound_same}
use Rattle.rollout.specs.RolledBlocks.{IsBlockOfCell, RollsBlock}
use Rattle.rollout.proofs.LookedTableLemmas.{changes_looked, page_looked, spots_looked, stands_looked}

-- a record index is sound for rows in any order
sound_moved : (def : TableDef) (rows moved : List PlacedRow) (pending : List ℕ) (which : IndexDef) (t : Forest) → IsPermutation rows moved → IsSoundIndex def rows pending which t → IsSoundIndex def moved pending which t
sound_moved def [] moved pending which t perm sound = subst (λ l. IsSoundIndex def l pending which t) (sym (nil_from_length moved (length_permutation [] moved perm))) sound
sound_moved def (first ∷ rows) moved pending which t perm sound =
    sound_same def which (first ∷ rows) moved pending pending (λ block there. there) first first rows t refl (IsPermutation-refl (first ∷ rows)) perm sound

pub sound_all_moved : (def : TableDef) (rows moved : List PlacedRow) (pending : List ℕ) → IsPermutation rows moved → (indexes : List IndexDef) (trees : List Forest) → AllZip (IsSoundIndex def rows pending) indexes trees → AllZip (IsSoundIndex def moved pending) indexes trees
sound_all_moved def rows moved pending perm [] [] all = tt
sound_all_moved def rows moved pending perm [] (t ∷ trees) all = absurd all
sound_all_moved def rows moved pending perm (which ∷ indexes) [] all = absurd all
sound_all_moved def rows moved pending perm (which ∷ indexes) (t ∷ trees) all = (sound_moved def rows moved pending which t perm all.0, sound_all_moved def rows moved pending perm indexes trees all.1)

module _ {S : Type 0} (g : Ghosts S) (shape : Shape) (def : TableDef) (defined : IsTableDef def.number def) where
  -- the line of a Used block counts its rows
  line_counts : (s : S) (owners : List Kind) (forests : TableForests) → StandsTable g shape s def owners forests → (block rows : ℕ) (slots : List (Option Row)) → slots ≡ block_slots shape (pages_of g s) def block
      → Contains (map_lines forests.map) (record { block = block; state = 1; rows = rows }) → rows ≡ count_rows slots
  line_counts s owners forests st block rows slots are there =
      (each_of (IsUsedCountSound shape (pages_of g s) def) (map_lines forests.map) (record { block = block; state = 1; rows = rows }) st.used_counts there).counted refl
      ∙ length-rows_from_slot block 0 (block_slots shape (pages_of g s) def block) ∙ ap count_rows (sym are)

  -- a Used block of a cell is as releasing it expects, where its line is this one
  expects_releasing : (s : S) (owners : List Kind) (forests : TableForests) → StandsTable g shape s def owners forests → (one : CellBlock) (rows : ℕ) (slots : List (Option Row)) (row : Row)
      → slice_index_or (spots_of g shape s def owners forests) one.block OtherBlock ≡ UsedBlock slots → Contains slots (Some row) → one.cell.values ≡ cell_values def row.values → rows ≡ count_rows slots
      → ExpectsReleasing def (used_row one.block rows) one.cell owners forests
  expects_releasing s owners forests st one rows slots row spot there cell counted =
      let now = used_spot_now shape s def owners forests defined st one.block slots spot in
      record {
        line_there = subst (λ n. HasRow (used_row one.block n) forests.map) (sym counted) now.1.line;
        listed = record {
          values = row.values;
          of_cell = record { cell_is = cell; keys = row_keys def row defined (now.1.cell.fit row there) };
          listed = listed_in_cell def forests now.0 row.values one.block (sym (now.1.cell.one_cell row there)) now.1.listed;
        };
      }

  module _ (old looked : S) (told : (g.state looked).is_told ≡ (g.state old).is_told) (work : (g.state looked).work ≡ (g.state old).work) (one : CellBlock) (rows : ℕ)
      (line : (t : Forest) → HoldsTreeAt g old (map_place def) t → Contains (map_lines t) (record { block = one.block; state = 1; rows = rows }))
      (owners : List Kind) (forests : TableForests) (st : StandsTable g shape old def owners forests) (is : IsBlockOfCell g shape old def one owners forests) where
    counted : rows ≡ count_rows is.slots
    counted =
        let used = used_of_spot shape (pages_of g old) def owners forests.map st.map one.block is.slots is.spot in
        line_counts old owners forests st one.block rows is.slots used.1 (line forests.map st.trees.held.0)

    -- the block is as releasing it expects
    pub expects : ExpectsReleasing def (used_row one.block rows) one.cell owners forests
    expects = expects_releasing old owners forests st one rows is.slots is.row is.spot is.there is.cell counted

    -- it is rolled out
    pub rolls_block : {before noted : SpaceNotes} (new : S) → length (g.state looked).work ≤ length (g.state new).work
        → ((owners : List Kind) (forests : TableForests) → StandsTable g shape looked def owners forests → ExpectsReleasing def (used_row one.block rows) one.cell owners forests
        → TurnsReleased g shape before noted looked new def one.block state.Free owners forests)
        → RollsBlock g shape before noted old new def one.block rows owners forests
    rolls_block new longer turns =
        let freed = turns owners forests (stands_looked g shape old looked def told work owners forests st) expects in
        record {
          owners_now = freed.owners_now;
          forests_now = freed.forests_now;
          slots = is.slots;
          was = is.spot;
          counted = counted;
          changes = changes_looked g shape old looked def told work new owners freed.owners_now forests freed.forests_now st longer freed.turns.changes;
          owned = freed.owned;
          pages = freed.pages;
          records = freed.turns.records;
          spots = subst (λ (spots : List Spot). SpotsAfterReturns (set spots one.block FreeBlock) (spots_of g shape new def freed.owners_now freed.forests_now)) (spots_looked g shape old looked def told work owners forests) freed.turns.spots;
        }

-- ---- where a call failed

module _ {S : Type 0} (g : Ghosts S) (shape : Shape) (def : TableDef) (defined : IsTableDef def.number def) (old : S) (one : CellBlock) where
  abbrev Mine : ℕ → Type 0
  Mine = IsTreeOrMapPageOfTable g shape old def

  abbrev Breaks : Damage → Type 0
  Breaks = BreaksExpected g shape old def (IsBlockOfCell g shape old def one)

  map_page_of_table : (p : ℕ) → IsTreePageAt g old (map_place def) p → Mine p
  map_page_of_table p is owners forests st = inl (omega (arith, is forests.map st.trees.held.0, sum_by-cons (times p) forests.map (forests.composite ∷ forests.dims ++ forests.indexes)))

  -- the line was looked for
  pub runs_looked : (looked : S) (fault : Option StoreFault) → RunsOverPages g NoPage (IsTreePageAt g old (map_place def)) (BreaksExpected g shape old def (HasUsedBlock one.block)) old looked fault → RunsOverPages g Mine Mine Breaks old looked fault
  runs_looked looked fault run = runs_wider run (λ p low none. absurd none) map_page_of_table (λ damage is. record {
    names = is.names;
    broken = λ owners forests st block. is.broken owners forests st (record { used = (used_of_spot shape (pages_of g old) def owners forests.map st.map one.block block.slots block.spot).0 });
  })

  -- its line counts no row
  pub runs_empty : (looked : S) (rows : ℕ) → rows ≡ 0 → ((t : Forest) → HoldsTreeAt g old (map_place def) t → Contains (map_lines t) (record { block = one.block; state = 1; rows = rows })) → RunsOverPages g Mine Mine Breaks old looked None
      → (fault : StoreFault) → (one.block < shape.extents → fault ≡ Damaged (record { page = first_page_of shape.extents shape.extent_pages one.block; rule = 8 }))
      → (shape.extents ≤ one.block → fault ≡ Damaged (record { page = def.roots.map; rule = 6 })) → RunsOverPages g Mine Mine Breaks old looked (Some fault)
  runs_empty looked rows none line first fault there not = elim (cases_lt one.block shape.extents) [
    | inl low ↦ subst (λ (f : StoreFault). RunsOverPages g Mine Mine Breaks old looked (Some f)) (sym (there low)) (runs_damage first (record { names = NamesTablePart.row_count one.block refl refl; broken = broken }))
    | inr high ↦ subst (λ (f : StoreFault). RunsOverPages g Mine Mine Breaks old looked (Some f)) (sym (not high)) (runs_damage first (record { names = NamesTablePart.block_map refl refl; broken = broken }))
  ]
    where
      broken : (owners : List Kind) (forests : TableForests) → StandsTable g shape old def owners forests → IsBlockOfCell g shape old def one owners forests → ⊥
      broken owners forests st block =
          let sound = each_of (IsUsedCountSound shape (pages_of g old) def) (map_lines forests.map) (record { block = one.block; state = 1; rows = rows }) st.used_counts (line forests.map st.trees.held.0) in
          omega (arith, sound.some_row refl, none)

  -- the block was to be made Free
  pub runs_freeing : (looked : S) (told : (g.state looked).is_told ≡ (g.state old).is_told) (work : (g.state looked).work ≡ (g.state old).work) (rows : ℕ)
      → ((t : Forest) → HoldsTreeAt g old (map_place def) t → Contains (map_lines t) (record { block = one.block; state = 1; rows = rows })) → RunsOverPages g Mine Mine Breaks old looked None → (new : S) (fault : Option StoreFault)
      → RunsOverPages g (IsTreeOrMapPageOfTable g shape looked def) (IsTreeOrMapPageOfTable g shape looked def) (BreaksExpected g shape looked def (ExpectsReleasing def (used_row one.block rows) one.cell)) looked new fault
      → RunsOverPages g Mine Mine Breaks old new fault
  runs_freeing looked told work rows line first new fault second = runs_as first second (λ p low is. is) (λ p low is. page_looked g shape old looked def told work p is) (λ p is. is) (λ p is. page_looked g shape old looked def told work p is) (λ damage is. record {
    names = is.names;
    broken = λ owners forests st block. is.broken owners forests (stands_looked g shape old looked def told work owners forests st) (expects g shape def defined old looked told work one rows line owners forests st block);
  })
