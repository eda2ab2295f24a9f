-- A rollout from its first call to its last: the cells were read and judged, entries left, and blocks were made Free.
use Rattle.std.proofs.Common.{◌≡◌, ◌∙◌, ℕ, List, Bool, None, length, sym, ap, subst, arith}
use Rattle.std.specs.Prelude.{◌↔◌, Contains, Err, IfOk, Ok, OnOk, Option, Result}
use Rattle.mdc_values.specs.Rising.{IsLower, IsRising}
use Rattle.mdc_words.specs.ByteOrder.{Entry}
use Rattle.mdc_ast.specs.TableLimits.{IsTableDef}
use Rattle.mdc_ast.specs.declared.definition.TableDef.{TableDef}
use Rattle.mdc_ast.specs.declared.predicate.Pred.{Pred}
use Rattle.store_api.specs.Frame.{NoPage}
use Rattle.store_api.specs.RunsOverPages.{RunsOverPages}
use Rattle.store_api.specs.declared.fault.Damage.{Damage}
use Rattle.store_api.specs.declared.fault.StoreFault.{StoreFault}
use Rattle.store_api.specs.declared.pages.Pages.{Ghosts}
use Rattle.store_api.specs.declared.shape.Shape.{Shape}
use Rattle.extent_map.specs.declared.kind.Kind.{Kind}
use Rattle.extent_map.specs.declared.space_notes.SpaceNotes.{SpaceNotes}
use Rattle.block_index.specs.declared.listed_cells.CellBlock.{CellBlock}
use Rattle.free_space.specs.RoomNotes.{no_note}
use Rattle.table_trees.specs.TableTrees.{composite_place}
use Rattle.table_trees.specs.ToldPages.{PageList}
use Rattle.table_trees.specs.TreesBeside.{BreaksTreeAt, IsTreePageAt}
use Rattle.table_trees.proofs.ToldPagesLemmas.{map_of_told}
use Rattle.mdc_sound.specs.StandingTable.{BreaksExpected, RoomNote, StandsTable, TableForests, pages_of}
use Rattle.record_index.specs.SweptLeaf.{TakesNoSpace}
use Rattle.row_entries.specs.RowEntries.{IsTreeOrMapPageOfTable, with_indexes}
use Rattle.cell_change.specs.ExpectedTables.{HasSoundIndexes}
use Rattle.rollout.specs.GoingCells.{JudgesCells, ListsCells, going_numbers}
use Rattle.rollout.specs.LeavingRows.{AreUsedBlocks, ExpectsLeaving, IsLeavingPage, IsPageOfBlocks, LeavesBlocks}
use Rattle.rollout.specs.RolledBlocks.{GivesBackSpace, RollsOutRows}
use Rattle.rollout.specs.RolledPages.{AnyPage, BringsRowsOnce, IsPageWhereListed, IsRolloutPage}
use Rattle.rollout.specs.RolledSome.{RollsSome}
use Rattle.rollout.specs.RolledSpace.{RollsInSpace}
use Rattle.rollout.specs.declared.rolling.RolledOut.{RolledOut}
use Rattle.rollout.proofs.BlockLeavingLemmas.{blocks_looked}
use Rattle.rollout.proofs.LookedTableLemmas.{looked_table, stands_looked}
use Rattle.rollout.proofs.NoSpaceLemmas.{space_given_back, space_itself, space_then}
use Rattle.rollout.proofs.ReadBlocksLemmas.{rising_differ}
use Rattle.rollout.proofs.RolledSpaceLemmas.{rolls_in_space}
use Rattle.rollout.proofs.RolledTableLemmas.{RollsBoth, rolls_both, rolls_nothing, rolls_out}
use Rattle.rollout.proofs.RolloutRunsLemmas.{left_at, listed_page, none_go, once_rolled, runs_freeing, runs_leaving, runs_listed, used_blocks_go}
use Rattle.rollout.proofs.RowsOnceLemmas.{counted_wider, no_row_page, none_counted}

-- what follows of each answer follows of an Ok
pub on_ok_of : {X E R : Type 0} (result : Result X E) (P : X → Type 0) → ((x : X) → P x → R) → IfOk result P → OnOk result R
on_ok_of (Ok x) P then p = then x p
on_ok_of (Err fault) P then p = tt

pub on_ok_both : {X E Q R : Type 0} (result : Result X E) (P : X → Type 0) → ((x : X) → P x → Q → R) → IfOk result P → OnOk result Q → OnOk result R
on_ok_both (Ok x) P then p q = then x p q
on_ok_both (Err fault) P then p q = tt

-- The cells of a table were read and judged, and these are the blocks of those that go.
pub record HasChosen {S : Type 0} (g : Ghosts S) (shape : Shape) (def : TableDef) (pred : Option Pred) (old looked : S) (found : List CellBlock) (going : List Bool) (sorted : List ℕ) : Type 0 where
  pub told : (g.state looked).is_told ≡ (g.state old).is_told
  pub work : (g.state looked).work ≡ (g.state old).work
  pub look : RunsOverPages g NoPage (IsTreePageAt g old (composite_place def)) (BreaksTreeAt g old (composite_place def)) old looked None
  pub listed : (owners : List Kind) (forests : TableForests) → StandsTable g shape old def owners forests → ListsCells def found owners forests
  pub judged : JudgesCells def pred found going
  pub same : (block : ℕ) → Contains sorted block ↔ Contains (going_numbers found going) block
  pub rising : IsRising IsLower sorted

module _ {S : Type 0} (g : Ghosts S) (shape : Shape) (def : TableDef) (defined : IsTableDef def.number def) (pred : Option Pred) (old looked : S) (found : List CellBlock) (going : List Bool) (sorted : List ℕ)
    (h : HasChosen g shape def pred old looked found going sorted) where
  abbrev Mine : ℕ → Type 0
  Mine = IsTreeOrMapPageOfTable g shape old def

  abbrev Comes : ℕ → Type 0
  Comes = IsRolloutPage g shape old def pred

  abbrev Breaks : Damage → Type 0
  Breaks = BreaksExpected g shape old def (HasSoundIndexes g shape old def)

  pub chosen_runs : RunsOverPages g Mine Comes Breaks old looked None
  chosen_runs = runs_listed g shape def defined pred old looked None h.look

  -- ---- where no block goes

  module _ (none : length sorted ≡ 0) where
    pub nothing_rolled : {noted : SpaceNotes} (room_of : Entry → RoomNote) → ((key : Entry) → room_of key ≡ no_note) → (owners : List Kind) (forests : TableForests) → StandsTable g shape old def owners forests
        → RollsOutRows g shape noted noted room_of old looked def pred (record { rows = 0; blocks = 0 }) owners forests
    nothing_rolled {noted} room_of forgotten owners forests st =
        rolls_out g shape def defined pred old owners forests st found (h.listed owners forests st) going h.judged looked (record { rows = 0; blocks = 0 })
        (subst (λ (blocks : List ℕ). RollsBoth g shape noted noted old looked def blocks (record { rows = 0; blocks = 0 }) owners forests) (sym (none_go sorted (going_numbers found going) h.same none))
        (rolls_nothing g shape def defined old looked h.told h.work owners forests st)) room_of forgotten

  pub looked_space : (owners : List Kind) (forests : TableForests) → StandsTable g shape old def owners forests → RollsInSpace shape def (pages_of g old) (pages_of g looked)
  looked_space owners forests st =
      let notes : SpaceNotes = record { free_from = 0; unused_from = 0 } in
      rolls_in_space g shape old looked def owners forests st {before = notes} {noted = notes} owners forests (looked_table g shape old looked def h.told h.work owners forests st) (λ p is. is) chosen_runs.touches h.told (ap length h.work)
      (subst (TakesNoSpace shape (pages_of g old)) (sym h.work) (space_itself shape (pages_of g old) owners (map_of_told g old st.told shape owners st.trees.map)))

  pub looked_once : (owners : List Kind) (forests : TableForests) → StandsTable g shape old def owners forests → BringsRowsOnce g shape old looked def owners AnyPage
  looked_once owners forests st = none_counted h.look.brings (λ p counts is. no_row_page shape old def owners forests st p counts (listed_page g shape def defined pred old p is owners forests st))

  -- ---- entries that left

  module _ (mid : S) where
    pub left_runs : (fault : Option StoreFault)
        → RunsOverPages g (IsTreeOrMapPageOfTable g shape looked def) (IsLeavingPage g shape looked def sorted) (BreaksExpected g shape looked def (ExpectsLeaving g shape looked def sorted)) looked mid fault
        → RunsOverPages g Mine Comes Breaks old mid fault
    left_runs fault run = runs_leaving g shape def defined pred old looked h.told h.work found h.listed chosen_runs going h.judged sorted h.same mid fault run

    module _ {before between : SpaceNotes}
        (leaves : (owners : List Kind) (forests : TableForests) → StandsTable g shape looked def owners forests → AreUsedBlocks sorted owners forests → LeavesBlocks g shape before between looked mid def sorted owners forests)
        (count : length (g.state mid).work ≡ length (g.state looked).work)
        (run : RunsOverPages g (IsTreeOrMapPageOfTable g shape looked def) (IsLeavingPage g shape looked def sorted) (BreaksExpected g shape looked def (ExpectsLeaving g shape looked def sorted)) looked mid None)
        (now : S) (cells : List CellBlock) (goes : List Bool) (cells_are : cells ≡ found) (goes_are : goes ≡ going) (count_now : length (g.state now).work ≡ length (g.state mid).work) (fault : Option StoreFault)
        (frees : RunsOverPages g (IsPageWhereListed g shape mid def cells) (IsPageWhereListed g shape mid def cells) (BreaksExpected g shape mid def (ListsCells def cells)) mid now fault) where
      third : RunsOverPages g (IsPageWhereListed g shape mid def found) (IsPageWhereListed g shape mid def found) (BreaksExpected g shape mid def (ListsCells def found)) mid now fault
      third = subst (λ (list : List CellBlock). RunsOverPages g (IsPageWhereListed g shape mid def list) (IsPageWhereListed g shape mid def list) (BreaksExpected g shape mid def (ListsCells def list)) mid now fault) cells_are frees

      pub rolled_runs : RunsOverPages g Mine Comes Breaks old now fault
      rolled_runs = runs_freeing g shape def defined pred old looked h.told h.work found h.listed chosen_runs going h.judged sorted h.same mid leaves (left_runs None run) now fault third

      -- the table as the entries left it
      left : (owners : List Kind) (forests : TableForests) → StandsTable g shape old def owners forests → LeavesBlocks g shape before between old mid def sorted owners forests
      left owners forests st =
          blocks_looked g shape def defined old looked h.told h.work sorted mid owners forests st (omega (arith, count))
          (left_at g shape def defined pred old looked h.told h.work found h.listed chosen_runs going h.judged sorted h.same mid leaves (left_runs None run) owners forests st)

      pub rolled_both : {noted : SpaceNotes} (rolled : RolledOut)
          → ((owners : List Kind) (forests : TableForests) → StandsTable g shape mid def owners forests → ListsCells def cells owners forests → RollsSome g shape between noted mid now def (going_numbers cells goes) rolled owners forests)
          → (owners : List Kind) (forests : TableForests) → StandsTable g shape old def owners forests → RollsBoth g shape before noted old now def (going_numbers found going) rolled owners forests
      rolled_both {noted} rolled rolls owners forests st =
          let l = left owners forests st in
          rolls_both g shape def old mid now sorted (going_numbers found going) (rising_differ sorted h.rising) h.same rolled owners forests st
          (used_blocks_go g shape def defined pred old looked h.told h.work found h.listed chosen_runs going h.judged sorted h.same owners forests st) l
          (subst (λ (list : List Bool). RollsSome g shape between noted mid now def (going_numbers found list) rolled l.owners_now (with_indexes forests l.indexes_now)) goes_are
          (subst (λ (list : List CellBlock). RollsSome g shape between noted mid now def (going_numbers list goes) rolled l.owners_now (with_indexes forests l.indexes_now)) cells_are
          (rolls l.owners_now (with_indexes forests l.indexes_now) l.table.changes.stands (λ all are. cells_are ∙ h.listed owners forests st all are))))
          (omega (arith, count, ap length h.work)) (omega (arith, count_now))

      pub rolled_rows : {noted : SpaceNotes} (rolled : RolledOut)
          → ((owners : List Kind) (forests : TableForests) → StandsTable g shape mid def owners forests → ListsCells def cells owners forests → RollsSome g shape between noted mid now def (going_numbers cells goes) rolled owners forests)
          → (room_of : Entry → RoomNote) → ((key : Entry) → room_of key ≡ no_note) → (owners : List Kind) (forests : TableForests) → StandsTable g shape old def owners forests
          → RollsOutRows g shape before noted room_of old now def pred rolled owners forests
      rolled_rows rolled rolls room_of forgotten owners forests st =
          rolls_out g shape def defined pred old owners forests st found (h.listed owners forests st) going h.judged now rolled (rolled_both rolled rolls owners forests st) room_of forgotten

      pub rolled_space : {noted : SpaceNotes} (rolled : RolledOut)
          → ((owners : List Kind) (forests : TableForests) → StandsTable g shape mid def owners forests → ListsCells def cells owners forests → RollsSome g shape between noted mid now def (going_numbers cells goes) rolled owners forests)
          → ((owners : List Kind) (forests : TableForests) → StandsTable g shape looked def owners forests → TakesNoSpace shape (pages_of g looked) (pages_of g mid))
          → ((owners : List Kind) (forests : TableForests) → StandsTable g shape mid def owners forests → ListsCells def cells owners forests → GivesBackSpace shape (pages_of g mid) (pages_of g now))
          → (owners : List Kind) (forests : TableForests) → StandsTable g shape old def owners forests → RollsInSpace shape def (pages_of g old) (pages_of g now)
      rolled_space rolled rolls takes gives owners forests st =
          let both = rolled_both rolled rolls owners forests st in
          let l = left owners forests st in
          let early = subst (λ (pages : PageList). TakesNoSpace shape pages (pages_of g mid)) h.work (takes owners forests (stands_looked g shape old looked def h.told h.work owners forests st)) in
          let late = space_given_back shape (pages_of g mid) (pages_of g now) (gives l.owners_now (with_indexes forests l.indexes_now) l.table.changes.stands (λ all are. cells_are ∙ h.listed owners forests st all are)) in
          rolls_in_space g shape old now def owners forests st both.owners_now both.forests_now both.changes both.pages rolled_runs.touches rolled_runs.works.steady.is_told (count_now ∙ (count ∙ ap length h.work))
          (space_then shape (pages_of g old) (pages_of g mid) (pages_of g now) early late)

      pub rolled_once : ((owners : List Kind) (forests : TableForests) → StandsTable g shape looked def owners forests → BringsRowsOnce g shape looked mid def owners (IsPageOfBlocks shape sorted))
          → (owners : List Kind) (forests : TableForests) → StandsTable g shape old def owners forests → BringsRowsOnce g shape old now def owners AnyPage
      rolled_once once owners forests st =
          counted_wider (once_rolled g shape def defined pred old looked h.told h.work found h.listed chosen_runs going h.judged sorted h.same mid leaves (left_runs None run) now fault h.look once third owners forests st) (λ p is. tt)
