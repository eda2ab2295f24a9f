-- A row is taken out of a block of which the block map counted one less, since it keeps others.
use Rattle.std.proofs.Common.{◌≡◌, ◌<◌, ◌+◌, ◌-◌, ◌^◌, ℕ, List, arith, sym, length, subst}
use Rattle.std.specs.Prelude.{IfSome, None, Option, Some, slice_index_or, slice_set}
use Rattle.std.proofs.lemmas.Bool.{ne_eqb}
use Rattle.mdc_values.specs.declared.rid.Rid.{Rid}
use Rattle.mdc_ast.specs.declared.definition.TableDef.{TableDef}
use Rattle.mdc_ast.specs.declared.row.Row.{Row}
use Rattle.store_api.specs.Frame.{Touches}
use Rattle.store_api.specs.RunsOverPages.{RunsOverPages}
use Rattle.store_api.specs.declared.fault.Damage.{Damage}
use Rattle.store_api.specs.declared.fault.StoreFault.{StoreFault}
use Rattle.store_api.specs.declared.pages.Pages.{Ghosts}
use Rattle.store_api.specs.declared.shape.Shape.{Shape}
use Rattle.extent_map.specs.declared.kind.Kind.{Kind}
use Rattle.extent_map.specs.declared.space_notes.SpaceNotes.{SpaceNotes}
use Rattle.row_page.specs.RowPage.{count_rows}
use Rattle.entry_tree.specs.Forest.{Forest}
use Rattle.entry_tree.specs.HeldTrees.{HoldsTree, IsTreePage}
use Rattle.entry_tree.specs.declared.tree.Tree.{Tree}
use Rattle.block_map.specs.BlockMaps.{HasRow, IsMapForm}
use Rattle.block_map.specs.Counting.{used_row}
use Rattle.block_map.specs.MapChanges.{ChangesRowTo}
use Rattle.block_rows.specs.HeldRows.{HoldsRows}
use Rattle.mdc_ast.specs.TableLimits.{IsTableDef}
use Rattle.table_trees.specs.SpaceChanges.{MakesChanges}
use Rattle.mdc_sound.specs.Placing.{AfterReturns, IsRowAt, Spot}
use Rattle.mdc_sound.specs.Placing.Spot.{OtherBlock}
use Rattle.mdc_sound.specs.RunningFull.{left_changes}
use Rattle.mdc_sound.specs.StandingTable.{BreaksExpected, IsBlockOrMapPage, IsPageOfBlock, StandsTable, TableForests, pages_of, spots_of}
use Rattle.table_blocks.specs.BlockChanges.{BreaksAround, TurnsSpot}
use Rattle.table_blocks.specs.BlockSteps.{EmptiesSlot, HasFilledSlot, HasThisRow}
use Rattle.table_blocks.proofs.ClearedSlotsLemmas.{cleared_cell, count_cleared, left_used}
use Rattle.table_blocks.proofs.CountedBlockLemmas.{rows_counted}
use Rattle.table_blocks.proofs.CountedLineLemmas.{rows_between, runs_behind, turns_behind}
use Rattle.table_blocks.proofs.CountedSpaceLemmas.{counted_space}
use Rattle.table_blocks.proofs.MapOfTableLemmas.{map_of_table}
use Rattle.table_blocks.proofs.OpeningLemmas.{used_spot_now}
use Rattle.table_blocks.proofs.SpotChangesLemmas.{returns_change}

module _ {S : Type 0} {g : Ghosts S} {Any : Damage → Type 0} (shape : Shape) (old mid : S) (def : TableDef) (rid : Rid) (defined : IsTableDef def.number def) (low : rid.block < shape.extents) (tree : Tree)
    (root : tree.root ≡ def.roots.map) (width : tree.width ≡ 7) (counted : Option ℕ) (had : ℕ) (is : counted ≡ Some had) (few : had < 2 ^ 16) (some : IfSome counted (λ n. 1 < n))
    (there : IfSome counted (λ n. (t : Forest) → HoldsTree g old tree t → HasRow (used_row rid.block n) t))
    (fewer : IfSome counted (λ n. (t : Forest) → HoldsTree g old tree t → IsMapForm t → ChangesRowTo g mid tree (used_row rid.block n) (used_row rid.block (n - 1)) t))
    (count : length (g.state mid).work ≡ length (g.state old).work) (run : RunsOverPages g (IsTreePage g old tree) (IsTreePage g old tree) Any old mid None) where
  several : 1 < had
  several = subst (λ (o : Option ℕ). IfSome o (λ n. 1 < n)) is some

  row_there : (t : Forest) → HoldsTree g old tree t → HasRow (used_row rid.block had) t
  row_there = subst (λ (o : Option ℕ). IfSome o (λ n. (t : Forest) → HoldsTree g old tree t → HasRow (used_row rid.block n) t)) is there

  row_changes : (t : Forest) → HoldsTree g old tree t → IsMapForm t → ChangesRowTo g mid tree (used_row rid.block had) (used_row rid.block (had - 1)) t
  row_changes = subst (λ (o : Option ℕ). IfSome o (λ n. (t : Forest) → HoldsTree g old tree t → IsMapForm t → ChangesRowTo g mid tree (used_row rid.block n) (used_row rid.block (n - 1)) t)) is fewer

  pub runs_fewer : (row : Row) {fault : Option StoreFault} (new : S)
      → RunsOverPages g (IsPageOfBlock shape rid.block) (IsPageOfBlock shape rid.block) (BreaksAround g shape mid def rid.block (HasFilledSlot rid.slot g shape mid def rid.block)) mid new fault
      → RunsOverPages g (IsBlockOrMapPage g shape old def rid.block) (IsBlockOrMapPage g shape old def rid.block) (BreaksExpected g shape old def (HasThisRow g shape old def rid row)) old new fault
  runs_fewer row new behind =
      runs_behind returns_change shape old mid def (used_row rid.block had) (had - 1) defined low tree root width row_there row_changes count run
      (λ slots. (row : Row) × (slice_index_or slots rid.slot None ≡ Some row)) (HasThisRow g shape old def rid row)
      (λ owners forests st has. record {
        slots = has.slots;
        rows = (used_spot_now shape old def owners forests defined st rid.block has.slots (has.lies.block OtherBlock)).1.rows;
        such = (row, has.lies.slot);
      }) new behind

  -- it counted the rows of the block
  had_counted : (row : Row) (owners : List Kind) (forests : TableForests) → StandsTable g shape old def owners forests → (slots : List (Option Row)) → IsRowAt (spots_of g shape old def owners forests) rid row slots → had ≡ count_rows slots
  had_counted row owners forests st slots lies =
      rows_counted shape old def (used_row rid.block had) defined low few owners forests st (row_there forests.map (map_of_table shape old def defined tree root width owners forests st)) slots (lies.block OtherBlock)

  -- so one less are left
  pub left_counted : (row : Row) (owners : List Kind) (forests : TableForests) → StandsTable g shape old def owners forests → (slots : List (Option Row)) → IsRowAt (spots_of g shape old def owners forests) rid row slots
      → count_rows slots ≡ had - 1 + 1
  left_counted row owners forests st slots lies = omega (arith, had_counted row owners forests st slots lies, several)

  module _ (new : S) (touched : Touches g (IsPageOfBlock shape rid.block) mid new) (told : (g.state new).is_told ≡ (g.state mid).is_told) (same_count : length (g.state new).work ≡ length (g.state mid).work) where
    pub empties_fewer : (noted : SpaceNotes) → ((slots : List (Option Row)) → HoldsRows g shape mid def rid.block slots → HoldsRows g shape new def rid.block (slice_set slots rid.slot None))
        → (row : Row) (owners : List Kind) (forests : TableForests) → StandsTable g shape old def owners forests → HasThisRow g shape old def rid row owners forests → EmptiesSlot g shape noted noted old new def rid row owners forests
    empties_fewer noted clears row owners forests st has =
        let slots = has.slots in
        let now = used_spot_now shape old def owners forests defined st rid.block slots (has.lies.block OtherBlock) in
        let counted = had_counted row owners forests st slots has.lies in
        let held = clears slots (rows_between returns_change shape old mid def (used_row rid.block had) (had - 1) defined low tree root width row_there row_changes count run owners forests st slots now.1.rows) in
        let left = slice_set slots rid.slot None in
        let less = count_cleared slots rid.slot row has.lies.slot in
        let others : 0 < count_rows left = omega (arith, less, counted, several) in
        let turned =
        turns_behind returns_change shape old mid def (used_row rid.block had) (had - 1) defined low tree root width row_there row_changes count run noted new touched told same_count owners forests st now.0 slots left
        now.1 (omega (arith, less, counted)) (cleared_cell def now.0 slots rid.slot others now.1.cell) held in
        record {
          owners_now = owners;
          forests_now = turned.0;
          slots = slots;
          lies = has.lies;
          turns = subst (λ (spot : Spot). TurnsSpot g AfterReturns shape noted noted old new def rid.block spot owners forests owners turned.0) (sym (left_used left others)) turned.1;
        }

    pub fewer_space : (row : Row) (owners : List Kind) (forests : TableForests) → StandsTable g shape old def owners forests → (slots : List (Option Row)) → IsRowAt (spots_of g shape old def owners forests) rid row slots
        → MakesChanges shape (pages_of g old) (left_changes def row rid.block (count_rows slots)) (pages_of g new)
    fewer_space row owners forests st slots lies =
        let now = used_spot_now shape old def owners forests defined st rid.block slots (lies.block OtherBlock) in
        let rows = had_counted row owners forests st slots lies in
        let made =
        counted_space shape old mid def (used_row rid.block had) (had - 1) defined low tree root width row_there row_changes count run new touched told same_count owners forests st now.1.own in
        subst (λ (n : ℕ). MakesChanges shape (pages_of g old) (left_changes def row rid.block n) (pages_of g new)) rows (rw (ne_eqb had 1 (λ one. omega (arith, one, several))) made)
