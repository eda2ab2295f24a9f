-- A row more in a Used block: its line counts one more, and the row lies in the lowest slot that was empty.
use Rattle.std.proofs.Common.{◌≡◌, ◌<◌, ◌≤◌, ◌+◌, ◌*◌, ◌^◌, ℕ, zero, suc, List, [], ◌∷◌, length, get_or, set, refl, ap, arith, sym, ◌∙◌, subst, ◌⊎◌, inl, inr}
use Rattle.std.specs.Prelude.{Contains, Option, Some, None, is_some, slice_index_or}
use Rattle.std.proofs.lemmas.List.Sums.{count_by-le-length}
use Rattle.mdc_values.specs.declared.value.Value.{Value}
use Rattle.mdc_ast.specs.declared.definition.TableDef.{TableDef}
use Rattle.mdc_ast.specs.declared.row.Row.{Row}
use Rattle.store_api.specs.Extents.{first_page_of}
use Rattle.store_api.specs.RunsOverPages.{RunsOverPages}
use Rattle.store_api.specs.declared.fault.Damage.{Damage}
use Rattle.store_api.specs.declared.fault.StoreFault.{StoreFault}
use Rattle.store_api.specs.declared.pages.Pages.{Ghosts}
use Rattle.store_api.specs.declared.shape.Shape.{Shape}
use Rattle.store_api.proofs.RunsOverPagesLemmas.{runs_wider}
use Rattle.extent_map.specs.declared.kind.Kind.{Kind}
use Rattle.extent_map.specs.declared.space_notes.SpaceNotes.{SpaceNotes}
use Rattle.row_page.specs.RowPage.{count_rows, slot_count}
use Rattle.entry_tree.specs.Forest.{Forest}
use Rattle.entry_tree.specs.HeldTrees.{HoldsTree, IsTreePage}
use Rattle.entry_tree.specs.declared.tree.Tree.{Tree}
use Rattle.block_map.specs.BlockMaps.{BreaksMapTree, HasRow, IsMapForm}
use Rattle.block_map.specs.Counting.{used_row}
use Rattle.block_map.specs.MapChanges.{ChangesRowTo}
use Rattle.block_map.specs.declared.row.BlockRow.{BlockRow}
use Rattle.block_map.specs.declared.state.BlockState.TheVariants as state
use Rattle.block_map.proofs.MapLinesLemmas.{contains_cases, contains_more}
use Rattle.block_rows.specs.HeldRows.{HoldsRows, PutsFirst}
use Rattle.mdc_ast.specs.TableLimits.{IsTableDef}
use Rattle.table_trees.specs.RowCells.{AreOfOneCell}
use Rattle.mdc_ast.specs.FittingRows.{RowFits}
use Rattle.mdc_sound.specs.Placing.{HasRoomFor, Spot}
use Rattle.mdc_sound.specs.Placing.Spot.{FreeBlock, FreeExtent, IndexExtent, OtherBlock, PendingBlock, UsedBlock}
use Rattle.mdc_sound.specs.StandingTable.{BreaksExpected, BreaksTable, IsBlockOrMapPage, IsPageOfBlock, NamesTablePart, StandsTable, TableForests, pages_of, spots_of}
use Rattle.mdc_sound.proofs.SlotRowsLemmas.{count_slot, empty_slot, few_slots, length-block_slots}
use Rattle.table_blocks.specs.BlockChanges.{BreaksAround}
use Rattle.table_blocks.specs.BlockNow.{AreOfCell}
use Rattle.table_blocks.specs.BlockSteps.{FillsSlot, HasEmptySlot, HasRoomAt, IsBlockOfCell}
use Rattle.table_blocks.proofs.AroundLemmas.{breaks_of_table}
use Rattle.table_blocks.proofs.CountedBlockLemmas.{IsCountedNow, spot_counted, used_counted}
use Rattle.table_blocks.proofs.CountedLineLemmas.{rows_between, runs_behind, turns_behind}
use Rattle.table_blocks.proofs.LineStepLemmas.{breaks_replacing}
use Rattle.table_blocks.proofs.MapOfTableLemmas.{map_of_table, map_page}
use Rattle.table_blocks.proofs.OpeningLemmas.{around_block}
use Rattle.table_blocks.proofs.SpotChangesLemmas.{same_change}

-- ---- slots

-- one row more where a slot was empty
count_filled : (slots : List (Option Row)) (k : ℕ) (row : Row) → k < length slots → get_or slots k None ≡ None → count_rows (set slots k (Some row)) ≡ 1 + count_rows slots
count_filled [] k row within empty = absurd (omega (arith, within))
count_filled (slot ∷ slots) zero row within empty =
    let none : count_rows (slot ∷ slots) ≡ 0 + count_rows slots = ap (λ s. count_rows (s ∷ slots)) empty ∙ count_slot None slots in
    let more : count_rows (Some row ∷ slots) ≡ 1 + count_rows slots = count_slot (Some row) slots in
    omega (arith, none, more)
count_filled (slot ∷ slots) (suc k) row within empty =
    let rest : count_rows (set slots k (Some row)) ≡ 1 + count_rows slots = count_filled slots k row (omega (arith, within)) empty in
    omega (arith, rest, count_slot slot slots, count_slot slot (set slots k (Some row)))

-- a row there is the new one, or was there
row_filled : (slots : List (Option Row)) (k : ℕ) (row other : Row) → Contains (set slots k (Some row)) (Some other) → (row ≡ other) ⊎ Contains slots (Some other)
row_filled [] k row other there = inr there
row_filled (slot ∷ slots) zero row other there = go (contains_cases (Some other) (Some row) slots there)
  where
    go : (Some row ≡ Some other) ⊎ Contains slots (Some other) → (row ≡ other) ⊎ Contains (slot ∷ slots) (Some other)
    go (inl e) = inl (cc)
    go (inr c) = inr (contains_more (Some other) slot slots c)
row_filled (slot ∷ slots) (suc k) row other there = go (contains_cases (Some other) slot (set slots k (Some row)) there) (row_filled slots k row other)
  where
    lift : (row ≡ other) ⊎ Contains slots (Some other) → (row ≡ other) ⊎ Contains (slot ∷ slots) (Some other)
    lift (inl e) = inl e
    lift (inr c) = inr (contains_more (Some other) slot slots c)

    go : (slot ≡ Some other) ⊎ Contains (set slots k (Some row)) (Some other) → (Contains (set slots k (Some row)) (Some other) → (row ≡ other) ⊎ Contains slots (Some other)) → (row ≡ other) ⊎ Contains (slot ∷ slots) (Some other)
    go (inl e) more = inr (0, omega arith, e)
    go (inr c) more = lift (more c)

-- a spot with room is a Used block
pub has_room : (def : TableDef) (row : Row) (spot : Spot) → HasRoomFor def row spot → (slots : List (Option Row)) × (spot ≡ UsedBlock slots) × HasRoomFor def row (UsedBlock slots)
has_room def row (UsedBlock slots) room = (slots, refl, room)
has_room def row FreeExtent room = absurd room
has_room def row IndexExtent room = absurd room
has_room def row OtherBlock room = absurd room
has_room def row FreeBlock room = absurd room
has_room def row PendingBlock room = absurd room

-- the damage of a block whose rows aren't counted
abbrev pub miscount : Shape → ℕ → Damage
miscount shape block = record { page = first_page_of shape.extents shape.extent_pages block; rule = 8 }

-- ---- a row into the slots

module _ {S : Type 0} {g : Ghosts S} (shape : Shape) (s : S) (def : TableDef) (block : ℕ) where
  -- no slot was empty
  pub full_block : (row : Row) (new : S) → ((slots : List (Option Row)) → HoldsRows g shape s def block slots → PutsFirst g shape s new def block row slots None)
      → BreaksAround g shape s def block (HasEmptySlot g shape s def block) (miscount shape block)
  full_block row new puts = record { names = NamesTablePart.row_count block refl refl; broken = λ owners forests st own e. (puts e.slots e.rows).0 e.such }

-- ---- the block

-- what a block is that has a line, and an empty slot
pub record IsRoomOpen {S : Type 0} (g : Ghosts S) (shape : Shape) (s : S) (def : TableDef) (line : BlockRow) (owners : List Kind) (forests : TableForests) : Type 0 where
  pub here : IsCountedNow g shape s def line owners forests
  pub empty : Contains here.slots None

module _ {S : Type 0} {g : Ghosts S} (shape : Shape) (old : S) (def : TableDef) (line : BlockRow) (defined : IsTableDef def.number def) (low : line.block < shape.extents) (few : line.rows < 2 ^ 16) where
  -- a block that has the line, and room
  pub opens : (row : Row) (owners : List Kind) (forests : TableForests) → StandsTable g shape old def owners forests → HasRoomAt g shape old def line row owners forests
      → (o : IsRoomOpen g shape old def line owners forests) × AreOfOneCell def row.values o.here.values
  opens row owners forests st at =
      let r = has_room def row (slice_index_or (spots_of g shape old def owners forests) line.block OtherBlock) at.room in
      let spot = spot_counted shape old def line defined low few owners forests st at.line_there r.0 r.1 in
      let there : Contains spot.0.slots (Some r.2.0.0) = subst (λ (all : List (Option Row)). Contains all (Some r.2.0.0)) spot.1 r.2.0.1 in
      (record { here = spot.0; empty = subst (λ (all : List (Option Row)). Contains all None) spot.1 r.2.1 }, sym r.2.0.2 ∙ spot.0.now.cell.one_cell r.2.0.0 there)

  -- a Used block whose line counts fewer rows than it has slots
  pub opens_counted : line.state ≡ state.Used → line.rows < shape.extent_pages * slot_count def.columns → (owners : List Kind) (forests : TableForests) → StandsTable g shape old def owners forests
      → HasRow line forests.map → IsRoomOpen g shape old def line owners forests
  opens_counted is_used fewer owners forests st there =
      let here = used_counted shape old def line defined low few owners forests st there is_used in
      let many : length here.slots ≡ shape.extent_pages * slot_count def.columns = ap length (sym here.now.rows.slots_are) ∙ length-block_slots shape (pages_of g old) def line.block in
      record { here = here; empty = empty_slot here.slots (omega (arith, here.counted, fewer, many)) }

  -- which has room for a row of the block's cell
  pub room_at : (row : Row) → line.state ≡ state.Used → line.rows < shape.extent_pages * slot_count def.columns → (owners : List Kind) (forests : TableForests) → StandsTable g shape old def owners forests
      → HasRow line forests.map → IsBlockOfCell g shape old def line.block row owners forests → HasRoomAt g shape old def line row owners forests
  room_at row is_used fewer owners forests st there cell =
      let o = opens_counted is_used fewer owners forests st there in
      let spots : UsedBlock o.here.slots ≡ UsedBlock cell.slots = sym (o.here.was OtherBlock) ∙ cell.spot in
      let same : o.here.slots ≡ cell.slots = cc in
      record {
        line_there = there;
        room = subst (HasRoomFor def row) (sym cell.spot) ((cell.other, cell.there, cell.one_cell), subst (λ (all : List (Option Row)). Contains all None) same o.empty);
      }

  -- a line that counts as many rows as it can
  pub overfull : (row : Row) → 65536 ≤ line.rows + 1 → BreaksExpected g shape old def (HasRoomAt g shape old def line row) (miscount shape line.block)
  overfull row most = record {
    names = NamesTablePart.row_count line.block refl refl;
    broken = λ owners forests st at.
        let o = (opens row owners forests st at).0.here in
        omega (arith, most, o.counted, few_slots shape (pages_of g old) def line.block o.slots o.now.rows.slots_are, count_by-le-length is_some o.slots);
  }

  -- ---- the line

  module _ (tree : Tree) (root : tree.root ≡ def.roots.map) (width : tree.width ≡ 7) where
    breaks_line : (row : Row) (damage : Damage) → BreaksMapTree g old tree (HasRow line) damage → BreaksExpected g shape old def (HasRoomAt g shape old def line row) damage
    breaks_line row damage breaks =
        breaks_of_table shape old def line.block (λ owners forests. HasRow line forests.map) (HasRoomAt g shape old def line row) damage (breaks_replacing tree def root width shape old line.block line damage breaks)
        (λ owners forests st at. (around_block shape old def owners forests defined st line.block, (opens row owners forests st at).0.here.now.own, at.line_there))

    -- the line wasn't replaced
    pub runs_line : (row : Row) {fault : Option StoreFault} {mid : S} → RunsOverPages g (IsTreePage g old tree) (IsTreePage g old tree) (BreaksMapTree g old tree (HasRow line)) old mid fault
        → RunsOverPages g (IsBlockOrMapPage g shape old def line.block) (IsBlockOrMapPage g shape old def line.block) (BreaksExpected g shape old def (HasRoomAt g shape old def line row)) old mid fault
    runs_line row run =
        runs_wider run (λ p there is. map_page shape old def defined tree root width line.block p is) (λ p is. map_page shape old def defined tree root width line.block p is) (λ damage b. breaks_line row damage b)

    -- it was
    module _ {Any : Damage → Type 0} (mid : S) (rows : ℕ) (there : (t : Forest) → HoldsTree g old tree t → HasRow line t)
        (changes : (t : Forest) → HoldsTree g old tree t → IsMapForm t → ChangesRowTo g mid tree line (used_row line.block rows) t) (count : length (g.state mid).work ≡ length (g.state old).work)
        (replaced : RunsOverPages g (IsTreePage g old tree) (IsTreePage g old tree) Any old mid None) where
      -- the row was put behind it, or wasn't
      pub runs_rows : (Expected : List Kind → TableForests → Type 0)
          → ((owners : List Kind) (forests : TableForests) → StandsTable g shape old def owners forests → Expected owners forests → IsRoomOpen g shape old def line owners forests) → {fault : Option StoreFault} (new : S)
          → RunsOverPages g (IsPageOfBlock shape line.block) (IsPageOfBlock shape line.block) (BreaksAround g shape mid def line.block (HasEmptySlot g shape mid def line.block)) mid new fault
          → RunsOverPages g (IsBlockOrMapPage g shape old def line.block) (IsBlockOrMapPage g shape old def line.block) (BreaksExpected g shape old def Expected) old new fault
      runs_rows Expected opened new run =
          runs_behind same_change shape old mid def line rows defined low tree root width there changes count replaced (λ slots. Contains slots None) Expected
          (λ owners forests st expected. let o = opened owners forests st expected in record { slots = o.here.slots; rows = o.here.now.rows; such = o.empty }) new run

      -- the same, where the line counts fewer rows than there are slots
      pub runs_counted : line.state ≡ state.Used → line.rows < shape.extent_pages * slot_count def.columns → {fault : Option StoreFault} (new : S)
          → RunsOverPages g (IsPageOfBlock shape line.block) (IsPageOfBlock shape line.block) (BreaksAround g shape mid def line.block (HasEmptySlot g shape mid def line.block)) mid new fault
          → RunsOverPages g (IsBlockOrMapPage g shape old def line.block) (IsBlockOrMapPage g shape old def line.block) (BreaksTable g shape old def) old new fault
      runs_counted is_used fewer new run =
          runs_wider (runs_rows (λ owners forests. HasRow line forests.map) (opens_counted is_used fewer) new run) (λ p within is. is) (λ p is. is)
          (λ damage b. record { names = b.names; broken = λ owners forests st. b.broken owners forests st (there forests.map (map_of_table shape old def defined tree root width owners forests st)) })

      -- the row lies in a slot
      pub fills : (row : Row) (new : S) (slot : ℕ) → rows ≡ line.rows + 1 → RowFits def row
          → RunsOverPages g (IsPageOfBlock shape line.block) (IsPageOfBlock shape line.block) (BreaksAround g shape mid def line.block (HasEmptySlot g shape mid def line.block)) mid new None
          → length (g.state new).work ≡ length (g.state mid).work
          → ((slots : List (Option Row)) → HoldsRows g shape old def line.block slots → HoldsRows g shape mid def line.block slots → PutsFirst g shape mid new def line.block row slots (Some slot))
          → (noted : SpaceNotes) (owners : List Kind) (forests : TableForests) → StandsTable g shape old def owners forests → HasRoomAt g shape old def line row owners forests
          → FillsSlot g shape noted old new def (record { block = line.block; slot = slot }) row owners forests
      fills row new slot more fits run same_count puts noted owners forests st at =
          let opened = opens row owners forests st at in
          let o = opened.0.here in
          let put = puts o.slots o.now.rows (rows_between same_change shape old mid def line rows defined low tree root width there changes count replaced owners forests st o.slots o.now.rows) in
          let slots = set o.slots slot (Some row) in
          let counted : rows ≡ count_rows slots = omega (arith, more, o.counted, count_filled o.slots slot row put.0.within (put.0.is_it None)) in
          let cell = cell_filled o.slots slot o.values fits o.now.cell opened.1 (omega (arith, counted, more)) in
          let turned =
          turns_behind same_change shape old mid def line rows defined low tree root width there changes count replaced noted new run.touches run.works.steady.is_told same_count owners forests st o.values o.slots slots o.now counted cell put.1 in
          record { forests_now = turned.0; slots = o.slots; was = o.was OtherBlock; lowest = put.0; turns = turned.1 }
        where
          cell_filled : (slots : List (Option Row)) (k : ℕ) (values : List Value) → RowFits def row → AreOfCell def values slots → AreOfOneCell def row.values values → 0 < count_rows (set slots k (Some row))
              → AreOfCell def values (set slots k (Some row))
          cell_filled slots k values fits cell one some = record {
            some = some;
            fit = λ other there. elim (row_filled slots k row other there) [ inl same ↦ subst (RowFits def) same fits | inr was ↦ cell.fit other was ];
            one_cell = λ other there. elim (row_filled slots k row other there) [ inl same ↦ subst (λ r. AreOfOneCell def r.values values) same one | inr was ↦ cell.one_cell other was ];
          }
