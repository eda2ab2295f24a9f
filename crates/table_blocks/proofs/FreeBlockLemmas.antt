-- A Free block comes into use: its line first, and then its rows and its entries in the block indexes.
use Rattle.std.proofs.Common.{◌≡◌, ◌<◌, ℕ, List, length, refl, ap, sym, ◌∙◌, subst, inl, inr}
use Rattle.std.specs.Prelude.{Contains, Option, Some, None, replicate, slice_set}
use Rattle.mdc_ast.specs.declared.definition.TableDef.{TableDef}
use Rattle.mdc_ast.specs.declared.row.Row.{Row}
use Rattle.store_api.specs.RunsOverPages.{RunsOverPages}
use Rattle.store_api.specs.declared.fault.StoreFault.{StoreFault}
use Rattle.store_api.specs.declared.pages.Pages.{Ghosts}
use Rattle.store_api.specs.declared.shape.Shape.{Shape}
use Rattle.store_api.proofs.RunsOverPagesLemmas.{runs_wider}
use Rattle.extent_map.specs.Damages.{IfFull}
use Rattle.extent_map.specs.Owners.{AreRightNotes}
use Rattle.extent_map.specs.declared.fault.SpaceFault.{SpaceFault}
use Rattle.extent_map.specs.declared.fault.SpaceFault.TheVariants.{Full, Store}
use Rattle.extent_map.specs.declared.kind.Kind.{Kind}
use Rattle.extent_map.specs.declared.space_notes.SpaceNotes.{SpaceNotes}
use Rattle.row_page.specs.RowPage.{count_rows}
use Rattle.entry_tree.specs.Forest.{Forest}
use Rattle.entry_tree.specs.HeldTrees.{HoldsTree, IsTreePage}
use Rattle.entry_tree.specs.declared.tree.Tree.{Tree}
use Rattle.mdc_ast.specs.TableLimits.{IsTableDef}
use Rattle.block_map.specs.BlockMaps.{BreaksMapTree, HasRow, IsMapForm}
use Rattle.block_map.specs.Counting.{used_row}
use Rattle.block_map.specs.MapChanges.{ChangesRowTo}
use Rattle.block_map.specs.MapLines.{free_blocks}
use Rattle.block_map.specs.declared.row.BlockRow.{BlockRow}
use Rattle.mdc_ast.specs.FittingRows.{RowFits}
use Rattle.mdc_sound.specs.Placing.{AfterClaims, block_slot_count}
use Rattle.mdc_sound.specs.StandingTable.{BreaksExpected, IsSpaceOfBlock, MeetsNoFree, StandsTable, TableForests}
use Rattle.mdc_sound.proofs.ChangedRowsLemmas.{some_slots}
use Rattle.table_blocks.specs.AroundBlock.{StandsAround}
use Rattle.table_blocks.specs.BlockChanges.{BreaksAround, IsSpaceAround}
use Rattle.table_blocks.specs.BlockNow.{IsOwnBlock, IsUnlisted, IsUsedNow, free_line}
use Rattle.table_blocks.specs.BlockSteps.{BeginsBlock, FillsBegun, HasFreeBlock, MovesLine, StepsTo}
use Rattle.table_blocks.proofs.BegunSlotsLemmas.{begun_cell, begun_count}
use Rattle.table_blocks.proofs.AroundLemmas.{around_then, breaks_of_table, own_still, runs_around_then, some_notes}
use Rattle.table_blocks.proofs.ClosingLemmas.{turns_used}
use Rattle.table_blocks.proofs.LineStepLemmas.{breaks_replacing, map_around, page_of_map, replaces_line}
use Rattle.table_blocks.proofs.ListedCellsLemmas.{unlisted_still}
use Rattle.table_blocks.proofs.OpeningLemmas.{around_block, free_now, own_of_line}
use Rattle.table_blocks.proofs.SpotChangesLemmas.{claims_change}

-- ---- the line alone

module _ {S : Type 0} {g : Ghosts S} (shape : Shape) (old : S) (def : TableDef) (block : ℕ) (tree : Tree) (root : tree.root ≡ def.roots.map) (width : tree.width ≡ 7) (defined : IsTableDef def.number def) where
  tree_page_around : (p : ℕ) → IsTreePage g old tree p → IsSpaceAround g shape old def block p
  tree_page_around p is owners forests st own = inl (page_of_map tree def root width shape old block p is owners forests st)

  tree_page_of_table : (p : ℕ) → IsTreePage g old tree p → IsSpaceOfBlock g shape old def block p
  tree_page_of_table p is owners forests st = inl (page_of_map tree def root width shape old block p is owners forests (around_block shape old def owners forests defined st block))

  -- what is touched around the block is so of a table that stands
  space_of_block : (p : ℕ) → ((owners : List Kind) (forests : TableForests) → StandsTable g shape old def owners forests → StandsAround g shape old def owners forests block × IsOwnBlock shape owners def block)
      → IsSpaceAround g shape old def block p → IsSpaceOfBlock g shape old def block p
  space_of_block p opens is owners forests st =
      let o = opens owners forests st in
      elim (is owners forests o.0 o.1) [ inl here ↦ inl here | inr rest ↦ elim rest [ inl of_block ↦ inr (inl (record { page = of_block; own = o.1.owned })) | inr other ↦ inr (inr other) ] ]

  -- where the call on the block map ended
  pub line_run : {mid : S} {fault : Option StoreFault} → RunsOverPages g (IsTreePage g old tree) (IsTreePage g old tree) (BreaksMapTree g old tree (HasRow (free_line block))) old mid fault
      → RunsOverPages g (IsSpaceOfBlock g shape old def block) (IsSpaceOfBlock g shape old def block) (BreaksExpected g shape old def (HasFreeBlock block)) old mid fault
  line_run run =
      runs_wider run (λ p there is. tree_page_of_table p is) (λ p is. tree_page_of_table p is)
      (λ damage b. breaks_of_table shape old def block (λ owners forests. HasRow (free_line block) forests.map) (HasFreeBlock block) damage (breaks_replacing tree def root width shape old block (free_line block) damage b)
      (λ owners forests st free. let now = free_now shape old def owners forests defined st block free.free in (around_block shape old def owners forests defined st block, now.own, now.line)))

  -- ---- and what comes then

  module _ (mid : S) (line : BlockRow) (low : block < shape.extents) (is : line ≡ used_row block 1) (there : (t : Forest) → HoldsTree g old tree t → HasRow (free_line block) t)
      (changes : (t : Forest) → HoldsTree g old tree t → IsMapForm t → ChangesRowTo g mid tree (free_line block) line t) (count : length (g.state mid).work ≡ length (g.state old).work)
      (run : RunsOverPages g (IsTreePage g old tree) (IsTreePage g old tree) (BreaksMapTree g old tree (HasRow (free_line block))) old mid None) where
    line_there : (owners : List Kind) (forests : TableForests) → StandsAround g shape old def owners forests block → HasRow (free_line block) forests.map
    line_there owners forests st = let one = map_around tree def root width shape old owners forests block st in there forests.map one.held

    opens : (owners : List Kind) (forests : TableForests) → StandsTable g shape old def owners forests → StandsAround g shape old def owners forests block × IsOwnBlock shape owners def block
    opens owners forests st =
        let around = around_block shape old def owners forests defined st block in
        (around, own_of_line shape old def owners forests defined st (free_line block) (line_there owners forests around) low)

    pub takes_line : (noted : SpaceNotes) (owners : List Kind) (forests : TableForests) → StandsAround g shape old def owners forests block → IsOwnBlock shape owners def block → MovesLine g AfterClaims shape noted noted old mid def block line owners forests
    takes_line noted owners forests st own =
        let one = map_around tree def root width shape old owners forests block st in
        let moved = replaces_line tree def root width claims_change shape noted old mid block (free_line block) line owners forests st own refl (ap (λ (l : BlockRow). l.block) is) (line_there owners forests st)
        (changes forests.map one.held st.map.form) run.touches run.works.steady.is_told count in
        moved.0

    -- what the block is expected to be
    abbrev Expected : List Kind → TableForests → Type 0
    Expected owners forests = HasRow (free_line block) forests.map × IsUnlisted def forests block

    steps : (noted : SpaceNotes) (owners : List Kind) (forests : TableForests) → StandsAround g shape old def owners forests block → IsOwnBlock shape owners def block
        → StepsTo g AfterClaims shape noted noted old mid def block Expected (λ owners forests. IsUnlisted def forests block) owners forests
    steps noted owners forests st own =
        let moves = takes_line noted owners forests st own in
        record { owners_now = moves.owners_now; forests_now = moves.forests_now; changes = moves.changes; expects = λ expected. unlisted_still def forests moves.forests_now block moves.composite moves.dims expected.1 }

    first_run : RunsOverPages g (IsSpaceAround g shape old def block) (IsSpaceAround g shape old def block) (BreaksAround g shape old def block Expected) old mid None
    first_run =
        runs_wider run (λ p there is. tree_page_around p is) (λ p is. tree_page_around p is)
        (λ damage b. let breaks = breaks_replacing tree def root width shape old block (free_line block) damage b in
        record { names = breaks.names; broken = λ owners forests st own expected. breaks.broken owners forests st own expected.0 })

    pub filled_run : (new : S) (fault : Option StoreFault)
        → RunsOverPages g (IsSpaceAround g shape mid def block) (IsSpaceAround g shape mid def block) (BreaksAround g shape mid def block (λ owners forests. IsUnlisted def forests block)) mid new fault
        → RunsOverPages g (IsSpaceOfBlock g shape old def block) (IsSpaceOfBlock g shape old def block) (BreaksExpected g shape old def (HasFreeBlock block)) old new fault
    filled_run new fault second =
        runs_wider (runs_around_then shape some_notes some_notes old mid new def block Expected (λ owners forests. IsUnlisted def forests block) fault (steps some_notes) first_run second)
        (λ p there is. space_of_block p opens is) (λ p is. space_of_block p opens is)
        (λ damage b. breaks_of_table shape old def block Expected (HasFreeBlock block) damage b
        (λ owners forests st free. let now = free_now shape old def owners forests defined st block free.free in (around_block shape old def owners forests defined st block, now.own, (now.line, now.unlisted))))

    pub begins_free : (noted : SpaceNotes) (row : Row) (notes_now : SpaceNotes) (new : S) → RowFits def row
        → ((owners : List Kind) (forests : TableForests) → StandsAround g shape mid def owners forests block → IsOwnBlock shape owners def block → FillsBegun g shape noted notes_now mid new def block row owners forests)
        → (owners : List Kind) (forests : TableForests) → StandsTable g shape old def owners forests → Contains (free_blocks forests.map) block → BeginsBlock g shape noted notes_now old new def block row owners forests
    begins_free noted row notes_now new fits fills owners forests st free =
        let around = around_block shape old def owners forests defined st block in
        let now = free_now shape old def owners forests defined st block free in
        let moves = takes_line noted owners forests around now.own in
        let own_mid = own_still shape noted noted old mid def block owners moves.owners_now forests moves.forests_now moves.changes now.own in
        let fill = fills moves.owners_now moves.forests_now moves.changes.stands own_mid in
        let whole = around_then claims_change shape noted noted notes_now old mid new def block owners moves.owners_now fill.owners_now forests moves.forests_now fill.forests_now moves.changes fill.changes in
        let some = some_slots shape def.number def defined in
        let slots : List (Option Row) = slice_set (replicate (block_slot_count shape def) None) 0 (Some row) in
        let counted : count_rows slots ≡ 1 = begun_count (block_slot_count shape def) row some in
        let used : IsUsedNow g shape new def fill.owners_now fill.forests_now block row.values slots = record {
          own = own_still shape noted notes_now old new def block owners fill.owners_now forests fill.forests_now whole now.own;
          line =
              subst (HasRow (used_row block (count_rows slots))) (sym fill.same_map)
              (subst (λ (l : BlockRow). HasRow l moves.forests_now.map) (is ∙ ap (used_row block) (sym counted)) moves.line_there);
          rows = fill.rows;
          cell = begun_cell def (block_slot_count shape def) row some fits;
          listed = fill.listed (unlisted_still def forests moves.forests_now block moves.composite moves.dims now.unlisted);
        } in
        record {
          owners_now = fill.owners_now;
          forests_now = fill.forests_now;
          turns = turns_used claims_change shape noted notes_now old new def block owners fill.owners_now forests fill.forests_now defined whole row.values slots used;
        }

    pub full_free : (noted : SpaceNotes) (new : S) (fault : SpaceFault)
        → IfFull fault (λ cap. (cap ≡ shape.extents) × ((owners : List Kind) (forests : TableForests) → StandsAround g shape mid def owners forests block → IsOwnBlock shape owners def block → AreRightNotes shape noted owners → MeetsNoFree g shape new))
        → IfFull fault (λ cap. (cap ≡ shape.extents) × ((owners : List Kind) (forests : TableForests) → StandsTable g shape old def owners forests → AreRightNotes shape noted owners → MeetsNoFree g shape new))
    full_free noted new (Full cap) meets = (
      meets.0,
      λ owners forests st right.
          let open_now = opens owners forests st in
          let moves = takes_line noted owners forests open_now.0 open_now.1 in
          meets.1 moves.owners_now moves.forests_now moves.changes.stands (own_still shape noted noted old mid def block owners moves.owners_now forests moves.forests_now moves.changes open_now.1) (moves.changes.trees.notes right),
    )
    full_free noted new (Store fault) meets = tt
