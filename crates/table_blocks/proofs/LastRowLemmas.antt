-- The last row of a block is taken out, and the block is Free then. The block map was asked for its line first, behind a call that
-- changed nothing.
use Rattle.std.proofs.Common.{◌≡◌, ◌<◌, ◌≤◌, ◌+◌, ◌^◌, ℕ, false, List, [], ◌∷◌, refl, ap, arith, sym, ◌∙◌, subst, length, inl, inr}
use Rattle.std.proofs.lemmas.Bool.Decides.{nat_tests}
use Rattle.std.specs.Prelude.{IfNone, None, Option, slice_set}
use Rattle.mdc_values.specs.declared.rid.Rid.{Rid}
use Rattle.mdc_values.specs.declared.value.Value.{Value}
use Rattle.mdc_ast.specs.declared.definition.TableDef.{TableDef}
use Rattle.mdc_ast.specs.declared.definition.ColumnDef.{ColumnDef}
use Rattle.mdc_ast.specs.declared.row.Cell.{Cell}
use Rattle.mdc_ast.specs.declared.row.Row.{Row}
use Rattle.store_api.specs.Causes.{NoDamage}
use Rattle.store_api.specs.Frame.{NoPage}
use Rattle.store_api.specs.RunsOverPages.{RunsOverPages}
use Rattle.store_api.specs.declared.fault.Damage.{Damage}
use Rattle.store_api.specs.declared.fault.StoreFault.{StoreFault}
use Rattle.store_api.specs.declared.pages.Pages.{Ghosts}
use Rattle.store_api.specs.declared.shape.Shape.{Shape}
use Rattle.store_api.proofs.FrameLemmas.{touches_same}
use Rattle.store_api.proofs.RunsOverPagesLemmas.{runs_none, runs_on, runs_then, runs_wider}
use Rattle.extent_map.specs.declared.kind.Kind.{Kind}
use Rattle.extent_map.specs.declared.space_notes.SpaceNotes.{SpaceNotes}
use Rattle.row_page.specs.RowPage.{count_rows}
use Rattle.mdc_ast.specs.TableLimits.{IsTableDef}
use Rattle.key_codec.proofs.KeyLemmas.{first_there}
use Rattle.entry_tree.specs.Forest.{Forest}
use Rattle.entry_tree.specs.HeldTrees.{HoldsTree, IsTreePage}
use Rattle.entry_tree.specs.declared.tree.Tree.{Tree}
use Rattle.entry_tree.proofs.RemoveLemmas.{held_same as tree_same}
use Rattle.block_map.specs.BlockMaps.{BreaksMapTree, HasRow, IsMapForm}
use Rattle.block_map.specs.Counting.{IfUsed, used_row}
use Rattle.block_map.specs.declared.row.BlockRow.{BlockRow}
use Rattle.block_map.specs.declared.state.BlockState.TheVariants.{Used}
use Rattle.block_map.specs.declared.state.BlockState.TheVariants as state
use Rattle.block_index.specs.Cells.{HaveKeys}
use Rattle.block_rows.specs.HeldRows.{HasReadValues}
use Rattle.block_rows.proofs.HeldRowsLemmas.{rows_stay}
use Rattle.table_trees.specs.RowCells.{cell_places}
use Rattle.table_trees.specs.TableTrees.{rising_parts}
use Rattle.table_trees.proofs.TableTreesLemmas.{AreColumns}
use Rattle.mdc_sound.specs.Placing.{AfterReturns, IsRowAt, Spot}
use Rattle.mdc_sound.specs.Placing.Spot.{OtherBlock}
use Rattle.mdc_sound.specs.StandingTable.{BreaksExpected, HasRowAt, IsBlockOrMapPage, IsPageOfBlock, NamesTablePart, StandsTable, TableForests, spots_of}
use Rattle.mdc_sound.proofs.DefinitionTreesLemmas.{has_block_indexes}
use Rattle.mdc_sound.proofs.StandingTableLemmas.{stands_same}
use Rattle.table_blocks.specs.AroundBlock.{StandsAround}
use Rattle.table_blocks.specs.BlockChanges.{BreaksAround, ChangesAround, IsPlaceAround, TurnsSpot}
use Rattle.table_blocks.specs.BlockNow.{IsKeyedCell, IsListedInEach, IsOwnBlock, IsUsedNow, MapsUsed}
use Rattle.table_blocks.specs.BlockSteps.{EmptiesSlot, ExpectsReleasing, HasFilledSlot, HasThisRow, ReleasesBlock}
use Rattle.table_blocks.proofs.AroundLemmas.{around_then, breaks_of_table, own_still, rows_step, runs_place_then, some_notes}
use Rattle.table_blocks.proofs.BlockPagesLemmas.{place_of_block}
use Rattle.table_blocks.proofs.BlockSpaceLemmas.{line_used}
use Rattle.table_blocks.proofs.ClearedSlotsLemmas.{count_cleared, left_free, row_there}
use Rattle.table_blocks.proofs.ClosingLemmas.{turns_released}
use Rattle.table_blocks.proofs.CountedBlockLemmas.{rows_counted}
use Rattle.table_blocks.proofs.LineStepLemmas.{place_of_map}
use Rattle.table_blocks.proofs.ListedCellsLemmas.{listed_in_cell}
use Rattle.table_blocks.proofs.MapOfTableLemmas.{form_of_table, map_of_table, map_page}
use Rattle.table_blocks.proofs.OpeningLemmas.{around_block, own_of_line, used_spot_now}
use Rattle.table_blocks.proofs.SpotChangesLemmas.{returns_change}

-- ---- the cell of a row that was read

-- which has keys in the dimension columns
keys_read : (columns : List ColumnDef) (places : List ℕ) (row : Row) → AreColumns columns (rising_parts places) → HasReadValues columns row → HaveKeys columns places row.values
keys_read columns [] row are read = tt
keys_read columns (place ∷ places) row are read =
    let split = first_there columns (record { column = place; descending = false }) (rising_parts places) are in
    let within : place < length columns = grind (arith, nat_tests, split.0) in
    (read.each place within, keys_read columns places row split.1 read)

pub cell_keys : (def : TableDef) (row : Row) → IsTableDef def.number def → HasReadValues def.columns row → HaveKeys def.columns (cell_places def) row.values
cell_keys def row defined read = keys_read def.columns (cell_places def) row (has_block_indexes def.number def defined).composite.key.there read

-- ---- the line of its block

-- what the line of a block says, which was looked at behind a call that counted none less of it
pub record SeesLast {S : Type 0} (g : Ghosts S) (shape : Shape) (s looked : S) (def : TableDef) (rid : Rid) (tree : Tree) (line : BlockRow) : Type 0 where
  pub few : line.rows < 2 ^ 16
  pub is : line ≡ used_row rid.block line.rows
  pub there : (owners : List Kind) (forests : TableForests) → StandsTable g shape s def owners forests → HasRow (used_row rid.block line.rows) forests.map
  pub as_was : (g.state looked).work ≡ (g.state s).work
  pub looking : RunsOverPages g NoPage (IsTreePage g s tree) (BreaksExpected g shape s def (HasRowAt g shape s def rid)) s looked None
  pub last : (owners : List Kind) (forests : TableForests) → StandsTable g shape s def owners forests → line.rows ≤ 1

module _ {S : Type 0} {g : Ghosts S} (shape : Shape) (s : S) (def : TableDef) (defined : IsTableDef def.number def) (rid : Rid) (low : rid.block < shape.extents) where
  -- the block of a row that lies there
  row_now : (row : Row) (slots : List (Option Row)) (owners : List Kind) (forests : TableForests) → StandsTable g shape s def owners forests → IsRowAt (spots_of g shape s def owners forests) rid row slots
      → (values : List Value) × IsUsedNow g shape s def owners forests rid.block values slots
  row_now row slots owners forests st lies = used_spot_now shape s def owners forests defined st rid.block slots (lies.block OtherBlock)

  -- ---- the line

  module _ {Any : Damage → Type 0} (tree : Tree) (root : tree.root ≡ def.roots.map) (width : tree.width ≡ 7) (mid : S) (first : RunsOverPages g (IsTreePage g s tree) (IsTreePage g s tree) Any s mid None)
      (same : (g.state mid).work ≡ (g.state s).work) where
    map_then : (owners : List Kind) (forests : TableForests) → StandsTable g shape s def owners forests → HoldsTree g mid tree forests.map
    map_then owners forests st = tree_same first.works.steady.is_told same (map_of_table shape s def defined tree root width owners forests st)

    breaks_line : (damage : Damage) → BreaksMapTree g mid tree (MapsUsed rid.block) damage → BreaksExpected g shape s def (HasRowAt g shape s def rid) damage
    breaks_line damage (inl b) = record {
      names = NamesTablePart.tree b.rule (0, omega arith, sym (b.page ∙ root));
      broken = λ owners forests st has. b.broken forests.map (map_then owners forests st);
    }
    breaks_line damage (inr b) = record {
      names = NamesTablePart.block_map b.rule (b.page ∙ root);
      broken = λ owners forests st has.
          b.broken forests.map (map_then owners forests st) (form_of_table shape s def defined tree root width owners forests st)
          (record { entries = st.map.entries; rows = count_rows has.slots; line = (row_now has.row has.slots owners forests st has.lies).1.line });
    }

    pub runs_looking : {looked : S} {fault : Option StoreFault} → RunsOverPages g NoPage (IsTreePage g mid tree) (BreaksMapTree g mid tree (MapsUsed rid.block)) mid looked fault
        → RunsOverPages g NoPage (IsTreePage g s tree) (BreaksExpected g shape s def (HasRowAt g shape s def rid)) s looked fault
    runs_looking second =
        let told = first.works.steady.is_told in
        let on : RunsOverPages g (IsTreePage g s tree) (IsTreePage g s tree) (BreaksExpected g shape s def (HasRowAt g shape s def rid)) s mid None = runs_on first in
        let still : RunsOverPages g NoPage (IsTreePage g s tree) (BreaksExpected g shape s def (HasRowAt g shape s def rid)) s mid None =
        record { works = on.works; touches = touches_same told same; brings = on.brings; cause = on.cause } in
        runs_then still second (λ p within none. none) (λ p is t held. is t (tree_same told same held)) (λ damage b. breaks_line damage b)

    pub line_of_table : (line : BlockRow) → ((t : Forest) → HoldsTree g mid tree t → HasRow line t) → (owners : List Kind) (forests : TableForests) → StandsTable g shape s def owners forests → HasRow line forests.map
    line_of_table line found owners forests st = found forests.map (map_then owners forests st)

  -- in the words of the table
  pub runs_of_table : (tree : Tree) (root : tree.root ≡ def.roots.map) (width : tree.width ≡ 7) {looked : S} {fault : Option StoreFault}
      → RunsOverPages g NoPage (IsTreePage g s tree) (BreaksExpected g shape s def (HasRowAt g shape s def rid)) s looked fault
      → RunsOverPages g (IsBlockOrMapPage g shape s def rid.block) (IsBlockOrMapPage g shape s def rid.block) (BreaksExpected g shape s def (HasRowAt g shape s def rid)) s looked fault
  runs_of_table tree root width run = runs_wider run (λ p there none. absurd none) (λ p is. map_page shape s def defined tree root width rid.block p is) (λ damage b. b)

  -- where this row is expected there
  pub runs_this_row : (row : Row) {Mine Come : ℕ → Type 0} {new : S} {fault : Option StoreFault} → RunsOverPages g Mine Come (BreaksExpected g shape s def (HasRowAt g shape s def rid)) s new fault
      → RunsOverPages g Mine Come (BreaksExpected g shape s def (HasThisRow g shape s def rid row)) s new fault
  runs_this_row row run =
      runs_wider run (λ p there is. is) (λ p is. is)
      (λ damage b. record { names = b.names; broken = λ owners forests st has. b.broken owners forests st (record { row = row; slots = has.slots; lies = has.lies }) })

  -- the same, where no call came first
  pub run_looking : (tree : Tree) (root : tree.root ≡ def.roots.map) (width : tree.width ≡ 7) {looked : S} {fault : Option StoreFault}
      → RunsOverPages g NoPage (IsTreePage g s tree) (BreaksMapTree g s tree (MapsUsed rid.block)) s looked fault
      → RunsOverPages g (IsBlockOrMapPage g shape s def rid.block) (IsBlockOrMapPage g shape s def rid.block) (BreaksExpected g shape s def (HasRowAt g shape s def rid)) s looked fault
  run_looking tree root width run = runs_of_table tree root width (runs_looking {Any = NoDamage} tree root width s (runs_none) refl run)

  -- ---- the row

  module _ (rows : ℕ) (few : rows < 2 ^ 16) (there : (owners : List Kind) (forests : TableForests) → StandsTable g shape s def owners forests → HasRow (used_row rid.block rows) forests.map) where
    pub opens : (owners : List Kind) (forests : TableForests) → StandsTable g shape s def owners forests → StandsAround g shape s def owners forests rid.block × IsOwnBlock shape owners def rid.block
    opens owners forests st = (around_block shape s def owners forests defined st rid.block, own_of_line shape s def owners forests defined st (used_row rid.block rows) (there owners forests st) low)

    -- its line counts the rows of the block
    pub line_counted : (row : Row) (slots : List (Option Row)) (owners : List Kind) (forests : TableForests) → StandsTable g shape s def owners forests → IsRowAt (spots_of g shape s def owners forests) rid row slots → rows ≡ count_rows slots
    line_counted row slots owners forests st lies = rows_counted shape s def (used_row rid.block rows) defined low few owners forests st (there owners forests st) slots (lies.block OtherBlock)

    pub runs_on_slot : (row : Row) {looked new : S} {fault : Option StoreFault} → (g.state looked).work ≡ (g.state s).work
        → RunsOverPages g (IsBlockOrMapPage g shape s def rid.block) (IsBlockOrMapPage g shape s def rid.block) (BreaksExpected g shape s def (HasRowAt g shape s def rid)) s looked None
        → RunsOverPages g (IsPageOfBlock shape rid.block) (IsPageOfBlock shape rid.block) (BreaksAround g shape looked def rid.block (HasFilledSlot rid.slot g shape looked def rid.block)) looked new fault
        → RunsOverPages g (IsBlockOrMapPage g shape s def rid.block) (IsBlockOrMapPage g shape s def rid.block) (BreaksExpected g shape s def (HasThisRow g shape s def rid row)) s new fault
    runs_on_slot row {looked} as_was first second =
        let told = first.works.steady.is_told in
        runs_then (runs_this_row row first) second (λ p within is. page p is) (λ p is. page p is)
        (λ damage b. record {
          names = b.names;
          broken = λ owners forests st has.
              b.broken owners forests (around_block shape looked def owners forests defined (stands_same shape s looked def owners forests told as_was st) rid.block) (opens owners forests st).1
              (record { slots = has.slots; rows = rows_stay g shape def rid.block told as_was (row_now row has.slots owners forests st has.lies).1.rows; such = (row, has.lies.slot) });
        })
      where
        page : (p : ℕ) → IsPageOfBlock shape rid.block p → IsBlockOrMapPage g shape s def rid.block p
        page p is owners forests st = inr (inl (record { page = is; own = (opens owners forests st).1.owned }))

    module _ {Any : Damage → Type 0} (tree : Tree) (root : tree.root ≡ def.roots.map) (width : tree.width ≡ 7) (row : Row) (looked cleared : S) (first : RunsOverPages g NoPage (IsTreePage g s tree) Any s looked None)
        (as_was : (g.state looked).work ≡ (g.state s).work)
        (second : RunsOverPages g (IsPageOfBlock shape rid.block) (IsPageOfBlock shape rid.block) (BreaksAround g shape looked def rid.block (HasFilledSlot rid.slot g shape looked def rid.block)) looked cleared None)
        (count : length (g.state cleared).work ≡ length (g.state looked).work) where
      pub so_far : {Breaks : Damage → Type 0} → RunsOverPages g (IsPageOfBlock shape rid.block) (IsPlaceAround g shape s def rid.block) Breaks s cleared None
      so_far =
          runs_then (runs_wider (runs_on {Breaks = NoDamage} first) (λ p within none. absurd none) (λ p is. place_of_map tree def root width shape s rid.block p is) (λ damage none. absurd none)) (runs_on {Breaks = NoDamage} second)
          (λ p within is. is) (λ p is owners forests st own. inr (inl is)) (λ damage none. absurd none)

      pub cleared_change : (noted : SpaceNotes) (owners : List Kind) (forests : TableForests) → StandsAround g shape s def owners forests rid.block → IsOwnBlock shape owners def rid.block
          → ChangesAround g AfterReturns shape noted noted s cleared def rid.block owners forests owners forests
      cleared_change noted owners forests st own =
          let run = so_far {Breaks = NoDamage} in
          rows_step returns_change shape noted s cleared def rid.block owners forests st own run.touches run.works.steady.is_told (count ∙ ap length as_was)

      listed : (owners : List Kind) (forests : TableForests) → StandsTable g shape s def owners forests → HasThisRow g shape s def rid row owners forests → IsListedInEach def forests row.values rid.block
      listed owners forests st has =
          let now = row_now row has.slots owners forests st has.lies in
          listed_in_cell def forests now.0 row.values rid.block (sym (now.1.cell.one_cell row (row_there has.slots rid.slot row has.lies.slot))) now.1.listed

      -- its block is released
      module _ (cell : Cell) (is_cell : IsKeyedCell def cell row.values) where
        pub runs_last : (line : BlockRow) → line ≡ used_row rid.block rows → {new : S} {fault : Option StoreFault}
            → RunsOverPages g (IsPlaceAround g shape cleared def line.block) (IsPlaceAround g shape cleared def line.block) (BreaksAround g shape cleared def line.block (ExpectsReleasing def line cell)) cleared new fault
            → RunsOverPages g (IsBlockOrMapPage g shape s def rid.block) (IsBlockOrMapPage g shape s def rid.block) (BreaksExpected g shape s def (HasThisRow g shape s def rid row)) s new fault
        runs_last line is {new} {fault} run =
            let expects = ExpectsReleasing def (used_row rid.block rows) cell in
            let last : RunsOverPages g (IsPlaceAround g shape cleared def rid.block) (IsPlaceAround g shape cleared def rid.block) (BreaksAround g shape cleared def rid.block expects) cleared new fault =
            subst (λ (l : BlockRow). RunsOverPages g (IsPlaceAround g shape cleared def l.block) (IsPlaceAround g shape cleared def l.block) (BreaksAround g shape cleared def l.block (ExpectsReleasing def l cell)) cleared new fault) is run in
            let before = runs_wider (so_far {Breaks = BreaksAround g shape s def rid.block expects}) (λ p within is owners forests st own. inr (inl is)) (λ p is. is) (λ damage b. b) in
            let whole = runs_place_then shape some_notes some_notes s cleared new def rid.block expects expects fault
            (λ owners forests st own. (record { owners_now = owners; forests_now = forests; changes = cleared_change some_notes owners forests st own; expects = λ e. e }, λ p l. l)) before last in
            runs_wider whole (λ p within is. place_of_block shape s def rid.block p opens is) (λ p is. place_of_block shape s def rid.block p opens is)
            (λ damage b. breaks_of_table shape s def rid.block expects (HasThisRow g shape s def rid row) damage b
            (λ owners forests st has.
            let o = opens owners forests st in
            (o.0, o.1, record { line_there = there owners forests st; listed = record { values = row.values; of_cell = is_cell; listed = listed owners forests st has } })))

        pub empties_last : (noted : SpaceNotes) (line : BlockRow) → line ≡ used_row rid.block rows → (now : SpaceNotes) (new : S)
            → ((owners : List Kind) (forests : TableForests) (values : List Value) → StandsAround g shape cleared def owners forests line.block → IsOwnBlock shape owners def line.block → IsKeyedCell def cell values
            → ReleasesBlock g shape noted now cleared new def line.block state.Free values owners forests)
            → (owners : List Kind) (forests : TableForests) → StandsTable g shape s def owners forests → HasThisRow g shape s def rid row owners forests → rows ≤ 1 → EmptiesSlot g shape noted now s new def rid row owners forests
        empties_last noted line is now new releases owners forests st has last =
            let o = opens owners forests st in
            let left = slice_set has.slots rid.slot None in
            let none : count_rows left ≡ 0 = omega (arith, count_cleared has.slots rid.slot row has.lies.slot, line_counted row has.slots owners forests st has.lies, last) in
            let step = cleared_change noted owners forests o.0 o.1 in
            let released : ReleasesBlock g shape noted now cleared new def rid.block state.Free row.values owners forests =
            subst
            (λ (l : BlockRow). (owners : List Kind) (forests : TableForests) (values : List Value) → StandsAround g shape cleared def owners forests l.block → IsOwnBlock shape owners def l.block → IsKeyedCell def cell values
            → ReleasesBlock g shape noted now cleared new def l.block state.Free values owners forests)
            is releases owners forests row.values step.stands o.1 is_cell in
            let whole = around_then returns_change shape noted noted now s cleared new def rid.block owners owners released.owners_now forests forests released.forests_now step released.changes in
            record {
              owners_now = released.owners_now;
              forests_now = released.forests_now;
              slots = has.slots;
              lies = has.lies;
              turns = subst (λ (spot : Spot). TurnsSpot g AfterReturns shape noted now s new def rid.block spot owners forests released.owners_now released.forests_now) (sym (left_free left none))
                  (turns_released returns_change shape noted now s new def rid.block owners released.owners_now forests released.forests_now defined whole state.Free (λ same. absurd cc) (record {
                    own = own_still shape noted now s new def rid.block owners released.owners_now forests released.forests_now whole o.1;
                    line = released.line;
                    unlisted = released.unlisted (listed owners forests st has);
                  }));
            }

  -- it was the last one, since the map counted none less
  pub is_last : (tree : Tree) (root : tree.root ≡ def.roots.map) (width : tree.width ≡ 7) (counted : Option ℕ) → counted ≡ None
      → IfNone counted ((t : Forest) → HoldsTree g s tree t → IsMapForm t → IfUsed rid.block (λ n. n ≤ 1) t) → (rows : ℕ) → rows < 2 ^ 16
      → (owners : List Kind) (forests : TableForests) → StandsTable g shape s def owners forests → HasRow (used_row rid.block rows) forests.map → rows ≤ 1
  is_last tree root width counted is last rows few owners forests st there =
      let said : (t : Forest) → HoldsTree g s tree t → IsMapForm t → IfUsed rid.block (λ n. n ≤ 1) t =
      subst (λ (o : Option ℕ). IfNone o ((t : Forest) → HoldsTree g s tree t → IsMapForm t → IfUsed rid.block (λ n. n ≤ 1) t)) is last in
      said forests.map (map_of_table shape s def defined tree root width owners forests st) (form_of_table shape s def defined tree root width owners forests st) rows few there

  -- it says that one row is there
  pub sees_last : {Any : Damage → Type 0} (tree : Tree) (root : tree.root ≡ def.roots.map) (width : tree.width ≡ 7) (mid : S) (counted : Option ℕ) → counted ≡ None
      → IfNone counted ((t : Forest) → HoldsTree g s tree t → IsMapForm t → IfUsed rid.block (λ n. n ≤ 1) t) → RunsOverPages g (IsTreePage g s tree) (IsTreePage g s tree) Any s mid None
      → (g.state mid).work ≡ (g.state s).work → (looked : S) (line : BlockRow) → line.rows < 2 ^ 16 → ((t : Forest) → HoldsTree g mid tree t → HasRow line t) → line.block ≡ rid.block → line.state ≡ Used
      → (g.state looked).work ≡ (g.state mid).work → RunsOverPages g NoPage (IsTreePage g mid tree) (BreaksMapTree g mid tree (MapsUsed rid.block)) mid looked None → SeesLast g shape s looked def rid tree line
  sees_last tree root width mid counted none fewest first same looked line few found named used still second = record {
    few = few;
    is = is;
    there = there;
    as_was = still ∙ same;
    looking = runs_looking tree root width mid first same second;
    last = λ owners forests st. is_last tree root width counted none fewest line.rows few owners forests st (there owners forests st);
  }
    where
      is : line ≡ used_row rid.block line.rows
      is = line_used line rid.block line.rows named used refl

      there : (owners : List Kind) (forests : TableForests) → StandsTable g shape s def owners forests → HasRow (used_row rid.block line.rows) forests.map
      there owners forests st = subst (λ (l : BlockRow). HasRow l forests.map) is (line_of_table tree root width mid first same line found owners forests st)

  -- so none is left
  pub none_left : (tree : Tree) (looked : S) (line : BlockRow) → SeesLast g shape s looked def rid tree line → (row : Row) (owners : List Kind) (forests : TableForests) → StandsTable g shape s def owners forests → (slots : List (Option Row))
      → IsRowAt (spots_of g shape s def owners forests) rid row slots → count_rows slots ≡ 0 + 1
  none_left tree looked line sees row owners forests st slots lies =
      omega (arith, count_cleared slots rid.slot row lies.slot, line_counted line.rows sees.few sees.there row slots owners forests st lies, sees.last owners forests st)
