-- A row written over another of its cell, and the run that does so.
use Rattle.std.proofs.Common.{◌≡◌, ◌<◌, ℕ, List, ap, arith, refl, sym, ◌∙◌, subst, length, set, get_or, ◌⊎◌, inl, inr}
use Rattle.std.specs.Prelude.{Contains, Option, Some, None, cond, is_some, slice_index_or}
use Rattle.std.proofs.lemmas.Bool.{cases_eq}
use Rattle.std.proofs.lemmas.List.{get_or_default, get_or-set_other, get_or-set_same, length-set}
use Rattle.std.proofs.lemmas.List.Sums.{sum_by-set}
use Rattle.mdc_values.specs.declared.rid.Rid.{Rid}
use Rattle.mdc_values.specs.declared.value.Value.{Value}
use Rattle.mdc_ast.specs.declared.definition.TableDef.{TableDef}
use Rattle.mdc_ast.specs.declared.row.Row.{Row}
use Rattle.store_api.specs.RunsOverPages.{RunsOverPages}
use Rattle.store_api.specs.declared.fault.Damage.{Damage}
use Rattle.store_api.specs.declared.fault.StoreFault.{StoreFault}
use Rattle.store_api.specs.declared.pages.Pages.{Ghosts}
use Rattle.store_api.specs.declared.shape.Shape.{Shape}
use Rattle.store_api.proofs.FrameLemmas.{touches_same, touches_then}
use Rattle.store_api.proofs.RunsOverPagesLemmas.{runs_then, runs_wider}
use Rattle.extent_map.specs.declared.kind.Kind.{Kind}
use Rattle.extent_map.specs.declared.space_notes.SpaceNotes.{SpaceNotes}
use Rattle.mdc_ast.specs.TableLimits.{IsTableDef}
use Rattle.row_page.specs.RowPage.{count_rows}
use Rattle.entry_tree.specs.Forest.{Forest}
use Rattle.entry_tree.specs.HeldTrees.{HoldsTree}
use Rattle.entry_tree.specs.declared.tree.Tree.{Tree}
use Rattle.block_map.specs.BlockMaps.{HasRow}
use Rattle.block_map.specs.Counting.{used_row}
use Rattle.block_map.specs.declared.row.BlockRow.{BlockRow}
use Rattle.table_trees.specs.RowCells.{AreOfOneCell}
use Rattle.mdc_ast.specs.FittingRows.{RowFits}
use Rattle.mdc_sound.specs.Placing.{IsRowAt}
use Rattle.mdc_sound.specs.Placing.Spot.{OtherBlock, UsedBlock}
use Rattle.mdc_sound.specs.StandingTable.{BreaksExpected, HasRowAt, IsBlockOrMapPage, IsPageOfBlock, StandsTable, TableForests, spots_of}
use Rattle.mdc_sound.proofs.PlacingLemmas.{filled_below}
use Rattle.mdc_sound.proofs.StandingTableLemmas.{stands_same}
use Rattle.block_rows.specs.HeldRows.{HoldsRows}
use Rattle.block_rows.proofs.HeldRowsLemmas.{rows_stay}
use Rattle.table_blocks.specs.BlockChanges.{BreaksAround, SameSpot, TurnsSpot}
use Rattle.table_blocks.specs.BlockNow.{AreOfCell, IsOwnBlock, IsUsedNow}
use Rattle.table_blocks.specs.BlockSteps.{HasFilledSlot}
use Rattle.table_blocks.proofs.AroundLemmas.{breaks_of_table, rows_step}
use Rattle.table_blocks.proofs.ClosingLemmas.{turns_used}
use Rattle.table_blocks.proofs.MapOfTableLemmas.{map_of_table}
use Rattle.table_blocks.proofs.OpeningLemmas.{around_block, own_of_line, used_spot_now}
use Rattle.table_blocks.proofs.SpotChangesLemmas.{same_change}

-- ---- a slot with a row, written over

-- how many rows are in a slot
abbrev rows_in_slot : Option Row → ℕ
rows_in_slot slot = cond (is_some slot) 1 0

module _ (slots : List (Option Row)) (k : ℕ) (was row : Row) (there : slice_index_or slots k None ≡ Some was) where
  -- it has as many rows
  pub overwritten_count : count_rows (set slots k (Some row)) ≡ count_rows slots
  overwritten_count =
      let same : rows_in_slot (get_or slots k None) ≡ 1 = ap rows_in_slot there in
      omega (arith, sum_by-set rows_in_slot slots k (Some row) None (filled_below slots k was there), same)

  -- the row that was written, and rows that were there
  overwritten_row : (other : Row) → Contains (set slots k (Some row)) (Some other) → (other ≡ row) ⊎ Contains slots (Some other)
  overwritten_row other (i, low, at) = elim (cases_eq i k) [
    | inl same ↦
        let here : get_or (set slots k (Some row)) i (Some other) ≡ Some row =
        ap (λ (n : ℕ). get_or (set slots k (Some row)) n (Some other)) same ∙ get_or-set_same slots k (Some row) (Some other) (filled_below slots k was there) in
        let is : Some other ≡ Some row = sym at ∙ here in inl (cc)
    | inr apart ↦ inr (i, omega (arith, low, length-set slots k (Some row)), sym (get_or-set_other slots k i (Some row) (Some other) apart) ∙ at)
  ]

  pub overwritten_cell : (def : TableDef) (values : List Value) → RowFits def row → AreOfOneCell def was.values row.values → AreOfCell def values slots → AreOfCell def values (set slots k (Some row))
  overwritten_cell def values fits one cell = record {
    some = omega (arith, cell.some, overwritten_count);
    fit = λ other at. elim (overwritten_row other at) [ inl is ↦ subst (RowFits def) (sym is) fits | inr c ↦ cell.fit other c ];
    one_cell = λ other at. elim (overwritten_row other at) [
      | inl is ↦
          let low = filled_below slots k was there in
          let first : AreOfOneCell def was.values values = cell.one_cell was (k, low, get_or_default slots k (Some was) None low ∙ there) in
          subst (λ (r : Row). AreOfOneCell def r.values values) (sym is) (sym one ∙ first)
      | inr c ↦ cell.one_cell other c
    ];
  }

-- ---- the runs

module _ {S : Type 0} {g : Ghosts S} where
  -- a block that has a line in the block map is one of the table
  pub own_found : (shape : Shape) (s : S) (def : TableDef) (rid : Rid) (tree : Tree) → tree.root ≡ def.roots.map → tree.width ≡ 7 → (line : BlockRow) → IsTableDef def.number def → rid.block < shape.extents
      → ((t : Forest) → HoldsTree g s tree t → HasRow line t) → line.block ≡ rid.block → (owners : List Kind) (forests : TableForests) → StandsTable g shape s def owners forests → IsOwnBlock shape owners def rid.block
  own_found shape s def rid tree root width line defined low there same owners forests st =
      let held = map_of_table shape s def defined tree root width owners forests st in
      subst (IsOwnBlock shape owners def) same (own_of_line shape s def owners forests defined st line (there forests.map held) (omega (arith, same, low)))

  -- ---- the call on the block, behind one that left the work as it was

  module _ (shape : Shape) (old mid new : S) (def : TableDef) (rid : Rid) (defined : IsTableDef def.number def) (low : rid.block < shape.extents) (told : (g.state mid).is_told ≡ (g.state old).is_told)
      (same : (g.state mid).work ≡ (g.state old).work) where
    back : (owners : List Kind) (forests : TableForests) → StandsTable g shape mid def owners forests → StandsTable g shape old def owners forests
    back owners forests st = stands_same shape mid old def owners forests (sym told) (sym same) st

    row_breaks : (damage : Damage) → BreaksAround g shape mid def rid.block (HasFilledSlot rid.slot g shape mid def rid.block) damage → BreaksExpected g shape old def (HasRowAt g shape old def rid) damage
    row_breaks damage b =
        let late : BreaksExpected g shape mid def (HasRowAt g shape old def rid) damage =
        breaks_of_table shape mid def rid.block (HasFilledSlot rid.slot g shape mid def rid.block) (HasRowAt g shape old def rid) damage b
        (λ owners forests st expected.
        let now = used_spot_now shape old def owners forests defined (back owners forests st) rid.block expected.slots (expected.lies.block OtherBlock) in (
          around_block shape mid def owners forests defined st rid.block,
          now.1.own,
          record { slots = expected.slots; rows = rows_stay g shape def rid.block told same now.1.rows; such = (expected.row, expected.lies.slot) },
        )) in
        record { names = late.names; broken = λ owners forests st expected. late.broken owners forests (stands_same shape old mid def owners forests told same st) expected }

    page_own : (p : ℕ) → ((owners : List Kind) (forests : TableForests) → StandsTable g shape old def owners forests → IsOwnBlock shape owners def rid.block) → IsPageOfBlock shape rid.block p → IsBlockOrMapPage g shape old def rid.block p
    page_own p own is owners forests st = inr (inl (record { page = is; own = (own owners forests st).owned }))

    pub run_behind : {fault : Option StoreFault} → ((owners : List Kind) (forests : TableForests) → StandsTable g shape old def owners forests → IsOwnBlock shape owners def rid.block)
        → RunsOverPages g (IsBlockOrMapPage g shape old def rid.block) (IsBlockOrMapPage g shape old def rid.block) (BreaksExpected g shape old def (HasRowAt g shape old def rid)) old mid None
        → RunsOverPages g (IsPageOfBlock shape rid.block) (IsPageOfBlock shape rid.block) (BreaksAround g shape mid def rid.block (HasFilledSlot rid.slot g shape mid def rid.block)) mid new fault
        → RunsOverPages g (IsBlockOrMapPage g shape old def rid.block) (IsBlockOrMapPage g shape old def rid.block) (BreaksExpected g shape old def (HasRowAt g shape old def rid)) old new fault
    run_behind own first second = runs_then first second (λ p there is. page_own p own is) (λ p is. page_own p own is) (λ damage b. row_breaks damage b)

    -- what it makes of a table
    pub row_overwritten : {Kinds : ℕ → Type 0} {Breaks : Damage → Type 0} {fault : Option StoreFault} (row : Row) → RunsOverPages g (IsPageOfBlock shape rid.block) Kinds Breaks mid new fault
        → length (g.state new).work ≡ length (g.state mid).work → RowFits def row
        → ((slots : List (Option Row)) → HoldsRows g shape mid def rid.block slots → HoldsRows g shape new def rid.block (set slots rid.slot (Some row)))
        → (noted : SpaceNotes) (owners : List Kind) (forests : TableForests) (was : Row) (slots : List (Option Row)) → StandsTable g shape old def owners forests → IsRowAt (spots_of g shape old def owners forests) rid was slots
        → AreOfOneCell def was.values row.values
        → TurnsSpot g SameSpot shape noted noted old new def rid.block (UsedBlock (set slots rid.slot (Some row))) owners forests owners forests
    row_overwritten row run count fits puts noted owners forests was slots st lies one =
        let found = used_spot_now shape old def owners forests defined st rid.block slots (lies.block OtherBlock) in
        let now = found.1 in
        let after : IsUsedNow g shape new def owners forests rid.block found.0 (set slots rid.slot (Some row)) = record {
          own = now.own;
          line = subst (λ (n : ℕ). HasRow (used_row rid.block n) forests.map) (sym (overwritten_count slots rid.slot was row lies.slot)) now.line;
          rows = puts slots (rows_stay g shape def rid.block told same now.rows);
          cell = overwritten_cell slots rid.slot was row lies.slot def found.0 fits one now.cell;
          listed = now.listed;
        } in
        let changes = rows_step same_change shape noted old new def rid.block owners forests (around_block shape old def owners forests defined st rid.block) now.own
        (touches_then (touches_same told same) run.touches) (run.works.steady.is_told ∙ told) (count ∙ ap length same) in
        turns_used same_change shape noted noted old new def rid.block owners owners forests forests defined changes found.0 (set slots rid.slot (Some row)) after

  -- ---- the call alone, which asks the block map nothing

  pub run_unasked : (shape : Shape) (s new : S) (def : TableDef) (rid : Rid) → IsTableDef def.number def → rid.block < shape.extents → {fault : Option StoreFault}
      → RunsOverPages g (IsPageOfBlock shape rid.block) (IsPageOfBlock shape rid.block) (BreaksAround g shape s def rid.block (HasFilledSlot rid.slot g shape s def rid.block)) s new fault
      → RunsOverPages g (IsPageOfBlock shape rid.block) (IsPageOfBlock shape rid.block) (BreaksExpected g shape s def (HasRowAt g shape s def rid)) s new fault
  run_unasked shape s new def rid defined low run = runs_wider run (λ p there is. is) (λ p is. is) (λ damage b. row_breaks shape s s new def rid defined low refl refl damage b)
