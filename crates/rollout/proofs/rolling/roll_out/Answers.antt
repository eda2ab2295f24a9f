use Rattle.std.proofs.Common.{◌∙◌, None, Some, Bool, ap, length, subst, sym}
use Rattle.std.specs.Prelude.{◌↔◌, All, Contains, List}
use Rattle.mdc_values.specs.Rising.{IsLower, IsRising}
use Rattle.std.proofs.lemmas.Result.{IfOk-weaker}
use Rattle.store_api.specs.Causes.{fault_of}
use Rattle.store_api.specs.RunsOverPages.{RunsOverPages}
use Rattle.store_api.proofs.RunsOverPagesLemmas.{runs_exit, runs_memory}
use Rattle.extent_map.specs.declared.kind.Kind.{Kind}
use Rattle.block_index.specs.Cells.{FitsCell}
use Rattle.block_index.specs.declared.listed_cells.CellBlock.{CellBlock}
use Rattle.block_index.proofs.ReadingRunsLemmas.{on_ok_anyway}
use Rattle.free_space.specs.RoomNotes.{room_of}
use Rattle.mdc_sound.specs.StandingTable.{BreaksExpected, StandsTable, TableForests}
use Rattle.mdc_sound.proofs.DefinitionTreesLemmas.{has_block_indexes}
use Rattle.row_entries.specs.RowEntries.{IsTreeOrMapPageOfTable}
use Rattle.cell_change.specs.ExpectedTables.{HasSoundIndexes}
use Rattle.cell_change.proofs.DeletingRowsLemmas.{blocks_left}
use Rattle.rollout.specs.GoingCells.{FailsJudging, HasNoCell, JudgesCells, ListsCells, going_numbers}
use Rattle.rollout.specs.RolledPages.{IsRolloutPage}
use Rattle.rollout.proofs.RolledOutLemmas.{HasChosen, chosen_runs, left_runs, looked_once, looked_space, nothing_rolled, on_ok_both, on_ok_of, rolled_once, rolled_rows, rolled_runs, rolled_space}
use Rattle.rollout.proofs.RolloutRunsLemmas.{judged_fit, judged_long, runs_judged, runs_listed, some_go}
use Rattle.rollout.proofs.SoundRolledLemmas.{sound_rolled}
use Rattle.rollout.proofs.StandsForRolledLemmas.{database_rolled}
use Rattle.rollout.proofs.rolling.roll_out.Given.{Over}
use Rattle.rollout.proofs.rolling.roll_out.Goals as goal
use Rattle.rollout.proofs.rolling.roll_out.Goals.{After-as_slice-4, After-roll_cells, In_ok-found, In_ok-going}

-- ---- what was read

pub cells-requires-clause-parts : goal.cells-requires-clause-parts
cells-requires-clause-parts g c = (has_block_indexes c.args.def.now.number c.args.def.now c.requires.defined).composite

pub returns-in_err-found-clause-runs : goal.returns-in_err-found-clause-runs
returns-in_err-found-clause-runs g c =
    runs_exit c.from_residual.result c.from_residual.ensures.1
    (runs_listed g.P.Pages c.args.shape c.args.def.now c.requires.defined c.args.pred.now c.args.pages.now c.cells.new.pages (Some c.in_err-found.field-0.0) c.in_err-found.ensures.runs)

-- the cells are those that the composite index lists
listed : (g : Over) (c : In_ok-found g) (owners : List Kind) (forests : TableForests) → StandsTable g.P.Pages c.args.shape c.args.pages.now c.args.def.now owners forests → ListsCells c.args.def.now c.in_ok-found.found owners forests
listed g c owners forests st all are = c.in_ok-found.ensures.listed forests.composite st.trees.held.1.0 all are

-- the run so far
first : (g : Over) (c : In_ok-found g)
    → RunsOverPages g.P.Pages (IsTreeOrMapPageOfTable g.P.Pages c.args.shape c.args.pages.now c.args.def.now) (IsRolloutPage g.P.Pages c.args.shape c.args.pages.now c.args.def.now c.args.pred.now)
    (BreaksExpected g.P.Pages c.args.shape c.args.pages.now c.args.def.now (HasSoundIndexes g.P.Pages c.args.shape c.args.pages.now c.args.def.now)) c.args.pages.now c.cells.new.pages None
first g c = runs_listed g.P.Pages c.args.shape c.args.def.now c.requires.defined c.args.pred.now c.args.pages.now c.cells.new.pages None c.in_ok-found.ensures.runs

pub returns-in_err-going-clause-runs : goal.returns-in_err-going-clause-runs
returns-in_err-going-clause-runs g c =
    let reads = (goal.at.returns-in_err-going-clause-runs g c).In_ok-found in
    let said = c.in_ok-found.ensures in
    runs_exit c.from_residual-in_err-going.result c.from_residual-in_err-going.ensures.1
    (runs_judged g.P.Pages c.args.shape c.args.def.now c.requires.defined c.args.pred.now c.args.pages.now c.cells.new.pages said.runs.works.steady.is_told said.same c.in_ok-found.found (listed g reads) (first g reads) c.in_err-going.field-0.0
    (subst (λ (cells : List CellBlock). FailsJudging c.args.def.now c.in_err-going.field-0.0 (HasNoCell c.args.def.now cells)) c.as_slice.ensures c.in_err-going.ensures.fails))

judged : (g : Over) (c : In_ok-going g) → JudgesCells c.args.def.now c.args.pred.now c.in_ok-found.found c.in_ok-going.going.items
judged g c = subst (λ (cells : List CellBlock). JudgesCells c.args.def.now c.args.pred.now cells c.in_ok-going.going.items) c.as_slice.ensures c.in_ok-going.ensures.judges

pub going_blocks-requires : goal.going_blocks-requires
going_blocks-requires g c =
    let long = judged_long c.args.def.now c.args.pred.now c.in_ok-found.found c.in_ok-going.going.items (judged g (goal.at.going_blocks-requires g c).In_ok-going) in
    record { one_each = ap length c.as_slice-3.ensures.value ∙ long ∙ sym (ap length c.as_slice-2.ensures) }

pub returns-in_err-blocks-clause-runs : goal.returns-in_err-blocks-clause-runs
returns-in_err-blocks-clause-runs g c =
    runs_exit c.from_residual-in_err-blocks.result c.from_residual-in_err-blocks.ensures.1 (runs_memory (first g (goal.at.returns-in_err-blocks-clause-runs g c).In_ok-found))

-- and the blocks of those that go were listed
chosen : (g : Over) (c : After-as_slice-4 g) → HasChosen g.P.Pages c.args.shape c.args.def.now c.args.pred.now c.args.pages.now c.cells.new.pages c.in_ok-found.found c.in_ok-going.going.items c.in_ok-blocks.blocks
chosen g c = record {
  told = c.in_ok-found.ensures.runs.works.steady.is_told;
  work = c.in_ok-found.ensures.same;
  look = c.in_ok-found.ensures.runs;
  listed = λ owners forests st all are. c.in_ok-found.ensures.listed forests.composite st.trees.held.1.0 all are;
  judged = subst (λ (cells : List CellBlock). JudgesCells c.args.def.now c.args.pred.now cells c.in_ok-going.going.items) c.as_slice.ensures c.in_ok-going.ensures.judges;
  same = λ block.
      subst (λ (going : List Bool). Contains c.in_ok-blocks.blocks block ↔ Contains (going_numbers c.in_ok-found.found going) block) c.as_slice-3.ensures.value
      (subst (λ (cells : List CellBlock). Contains c.in_ok-blocks.blocks block ↔ Contains (going_numbers cells c.as_slice-3.result.now) block) c.as_slice-2.ensures (c.in_ok-blocks.ensures.same block));
  rising = subst (IsRising IsLower) c.as_slice-4.ensures.value c.as_slice-4.ensures.rising;
}

-- ---- where no block goes

pub returns-then-as_slice-eq0-clause-rolls : goal.returns-then-as_slice-eq0-clause-rolls
returns-then-as_slice-eq0-clause-rolls g c owners forests st =
    nothing_rolled g.P.Pages c.args.shape c.args.def.now c.requires.defined c.args.pred.now c.args.pages.now c.cells.new.pages c.in_ok-found.found c.in_ok-going.going.items c.in_ok-blocks.blocks
    (chosen g (goal.at.returns-then-as_slice-eq0-clause-rolls g c).After-as_slice-4) (sym (ap length c.as_slice-4.ensures.value) ∙ c.if-as_slice-eq0.true) (room_of c.forget.new.self) c.forget.ensures owners forests st

pub returns-then-as_slice-eq0-clause-space : goal.returns-then-as_slice-eq0-clause-space
returns-then-as_slice-eq0-clause-space g c owners forests st =
    looked_space g.P.Pages c.args.shape c.args.def.now c.requires.defined c.args.pred.now c.args.pages.now c.cells.new.pages c.in_ok-found.found c.in_ok-going.going.items c.in_ok-blocks.blocks
    (chosen g (goal.at.returns-then-as_slice-eq0-clause-space g c).After-as_slice-4) owners forests st

pub returns-then-as_slice-eq0-clause-stands_for : goal.returns-then-as_slice-eq0-clause-stands_for
returns-then-as_slice-eq0-clause-stands_for g c owners forests st between db stands =
    let h = chosen g (goal.at.returns-then-as_slice-eq0-clause-stands_for g c).After-as_slice-4 in
    let run = chosen_runs g.P.Pages c.args.shape c.args.def.now c.requires.defined c.args.pred.now c.args.pages.now c.cells.new.pages c.in_ok-found.found c.in_ok-going.going.items c.in_ok-blocks.blocks h in
    database_rolled g.P.Pages c.args.shape c.args.pages.now c.cells.new.pages c.args.def.now c.args.pred.now (record { rows = 0; blocks = 0 }) owners forests st
    (returns-then-as_slice-eq0-clause-rolls g c owners forests st) run.touches run.works.no_shorter between db stands

pub returns-then-as_slice-eq0-clause-once : goal.returns-then-as_slice-eq0-clause-once
returns-then-as_slice-eq0-clause-once g c owners forests st =
    looked_once g.P.Pages c.args.shape c.args.def.now c.requires.defined c.args.pred.now c.args.pages.now c.cells.new.pages c.in_ok-found.found c.in_ok-going.going.items c.in_ok-blocks.blocks
    (chosen g (goal.at.returns-then-as_slice-eq0-clause-once g c).After-as_slice-4) owners forests st

pub returns-then-as_slice-eq0-clause-runs : goal.returns-then-as_slice-eq0-clause-runs
returns-then-as_slice-eq0-clause-runs g c = first g (goal.at.returns-then-as_slice-eq0-clause-runs g c).In_ok-found

-- ---- where some do

pub returns-in_err-leave_entries-clause-stay : goal.returns-in_err-leave_entries-clause-stay
returns-in_err-leave_entries-clause-stay g c owners forests st =
    let run = left_runs g.P.Pages c.args.shape c.args.def.now c.requires.defined c.args.pred.now c.args.pages.now c.cells.new.pages c.in_ok-found.found c.in_ok-going.going.items c.in_ok-blocks.blocks
    (chosen g (goal.at.returns-in_err-leave_entries-clause-stay g c).After-as_slice-4) c.leave_entries.new.pages (Some c.in_err-leave_entries.field-0.0) c.in_err-leave_entries.ensures.runs in
    blocks_left g.P.Pages c.args.shape c.args.pages.now c.args.def.now owners forests st run.touches

pub returns-in_err-leave_entries-clause-runs : goal.returns-in_err-leave_entries-clause-runs
returns-in_err-leave_entries-clause-runs g c =
    runs_exit c.from_residual-in_err-leave_entries.result c.from_residual-in_err-leave_entries.ensures.1
    (left_runs g.P.Pages c.args.shape c.args.def.now c.requires.defined c.args.pred.now c.args.pages.now c.cells.new.pages c.in_ok-found.found c.in_ok-going.going.items c.in_ok-blocks.blocks
    (chosen g (goal.at.returns-in_err-leave_entries-clause-runs g c).After-as_slice-4) c.leave_entries.new.pages (Some c.in_err-leave_entries.field-0.0) c.in_err-leave_entries.ensures.runs)

pub roll_cells-requires-clause-one_each : goal.roll_cells-requires-clause-one_each
roll_cells-requires-clause-one_each g c =
    let long = judged_long c.args.def.now c.args.pred.now c.in_ok-found.found c.in_ok-going.going.items (judged g (goal.at.roll_cells-requires-clause-one_each g c).In_ok-going) in
    ap length c.as_slice-6.ensures.value ∙ long ∙ sym (ap length c.as_slice-5.ensures)

pub roll_cells-requires-clause-fit : goal.roll_cells-requires-clause-fit
roll_cells-requires-clause-fit g c =
    subst (λ (cells : List CellBlock). All (λ one. FitsCell c.args.def.now one.cell.values) cells) (sym c.as_slice-5.ensures)
    (judged_fit c.args.def.now c.args.pred.now c.in_ok-found.found c.in_ok-going.going.items (judged g (goal.at.roll_cells-requires-clause-fit g c).In_ok-going))

-- the whole run
ran : (g : Over) (c : After-roll_cells g)
    → HasChosen g.P.Pages c.args.shape c.args.def.now c.args.pred.now c.args.pages.now c.cells.new.pages c.in_ok-found.found c.in_ok-going.going.items c.in_ok-blocks.blocks
    → RunsOverPages g.P.Pages (IsTreeOrMapPageOfTable g.P.Pages c.args.shape c.args.pages.now c.args.def.now) (IsRolloutPage g.P.Pages c.args.shape c.args.pages.now c.args.def.now c.args.pred.now)
    (BreaksExpected g.P.Pages c.args.shape c.args.pages.now c.args.def.now (HasSoundIndexes g.P.Pages c.args.shape c.args.pages.now c.args.def.now)) c.args.pages.now c.roll_cells.new.pages (fault_of c.roll_cells.result)
ran g c h =
    let said = c.in_ok-leave_entries.ensures in
    rolled_runs g.P.Pages c.args.shape c.args.def.now c.requires.defined c.args.pred.now c.args.pages.now c.cells.new.pages c.in_ok-found.found c.in_ok-going.going.items c.in_ok-blocks.blocks h c.leave_entries.new.pages said.leaves said.count
    said.runs c.roll_cells.new.pages c.as_slice-5.result.now c.as_slice-6.result.now c.as_slice-5.ensures c.as_slice-6.ensures.value c.roll_cells.ensures.count (fault_of c.roll_cells.result) c.roll_cells.ensures.runs

pub returns-clause-rolls : goal.returns-clause-rolls
returns-clause-rolls g c =
    let h = chosen g (goal.at.returns-clause-rolls g c).After-as_slice-4 in
    let said = c.in_ok-leave_entries.ensures in
    IfOk-weaker c.roll_cells.result _ _
    (λ rolled rolls owners forests st.
    rolled_rows g.P.Pages c.args.shape c.args.def.now c.requires.defined c.args.pred.now c.args.pages.now c.cells.new.pages c.in_ok-found.found c.in_ok-going.going.items c.in_ok-blocks.blocks h c.leave_entries.new.pages said.leaves
    said.count said.runs c.roll_cells.new.pages c.as_slice-5.result.now c.as_slice-6.result.now c.as_slice-5.ensures c.as_slice-6.ensures.value c.roll_cells.ensures.count (fault_of c.roll_cells.result) c.roll_cells.ensures.runs rolled rolls
    (room_of c.forget.new.self) c.forget.ensures owners forests st) c.roll_cells.ensures.rolls

pub returns-clause-space : goal.returns-clause-space
returns-clause-space g c =
    let h = chosen g (goal.at.returns-clause-space g c).After-as_slice-4 in
    let said = c.in_ok-leave_entries.ensures in
    on_ok_both c.roll_cells.result _
    (λ rolled rolls gives owners forests st.
    rolled_space g.P.Pages c.args.shape c.args.def.now c.requires.defined c.args.pred.now c.args.pages.now c.cells.new.pages c.in_ok-found.found c.in_ok-going.going.items c.in_ok-blocks.blocks h c.leave_entries.new.pages said.leaves
    said.count said.runs c.roll_cells.new.pages c.as_slice-5.result.now c.as_slice-6.result.now c.as_slice-5.ensures c.as_slice-6.ensures.value c.roll_cells.ensures.count (fault_of c.roll_cells.result) c.roll_cells.ensures.runs rolled rolls
    said.space gives owners forests st) c.roll_cells.ensures.rolls c.roll_cells.ensures.space

pub returns-clause-idle : goal.returns-clause-idle
returns-clause-idle g c =
    let h = chosen g (goal.at.returns-clause-idle g c).After-as_slice-4 in
    IfOk-weaker c.roll_cells.result _ _
    (λ rolled some none.
    absurd (some_go c.in_ok-blocks.blocks (going_numbers c.in_ok-found.found c.in_ok-going.going.items) h.same (λ empty. c.if-as_slice-eq0.false (ap length c.as_slice-4.ensures.value ∙ empty))
    (sym (ap (λ (cells : List CellBlock). going_numbers cells c.in_ok-going.going.items) c.as_slice-5.ensures) ∙ (sym (ap (going_numbers c.as_slice-5.result.now) c.as_slice-6.ensures.value) ∙ some none)))) c.roll_cells.ensures.some

pub returns-clause-sound : goal.returns-clause-sound
returns-clause-sound g c =
    let exit = goal.at.returns-clause-sound g c in
    let run = ran g exit.After-roll_cells (chosen g exit.After-as_slice-4) in
    on_ok_of c.roll_cells.result _
    (λ rolled rolls owners forests st between.
    sound_rolled g.P.Pages c.args.shape c.args.pages.now c.roll_cells.new.pages c.args.def.now c.args.pred.now rolled owners forests st (rolls owners forests st) run.touches run.works.no_shorter between) (returns-clause-rolls g c)

pub returns-clause-stands_for : goal.returns-clause-stands_for
returns-clause-stands_for g c =
    let exit = goal.at.returns-clause-stands_for g c in
    let run = ran g exit.After-roll_cells (chosen g exit.After-as_slice-4) in
    on_ok_of c.roll_cells.result _
    (λ rolled rolls owners forests st between db stands.
    database_rolled g.P.Pages c.args.shape c.args.pages.now c.roll_cells.new.pages c.args.def.now c.args.pred.now rolled owners forests st (rolls owners forests st) run.touches run.works.no_shorter between db stands)
    (returns-clause-rolls g c)

pub returns-clause-stay : goal.returns-clause-stay
returns-clause-stay g c owners forests st =
    let exit = goal.at.returns-clause-stay g c in
    blocks_left g.P.Pages c.args.shape c.args.pages.now c.args.def.now owners forests st (ran g exit.After-roll_cells (chosen g exit.After-as_slice-4)).touches

pub returns-clause-once : goal.returns-clause-once
returns-clause-once g c =
    let h = chosen g (goal.at.returns-clause-once g c).After-as_slice-4 in
    let said = c.in_ok-leave_entries.ensures in
    on_ok_anyway c.roll_cells.result
    (rolled_once g.P.Pages c.args.shape c.args.def.now c.requires.defined c.args.pred.now c.args.pages.now c.cells.new.pages c.in_ok-found.found c.in_ok-going.going.items c.in_ok-blocks.blocks h c.leave_entries.new.pages said.leaves
    said.count said.runs c.roll_cells.new.pages c.as_slice-5.result.now c.as_slice-6.result.now c.as_slice-5.ensures c.as_slice-6.ensures.value c.roll_cells.ensures.count (fault_of c.roll_cells.result) c.roll_cells.ensures.runs said.once)

pub returns-clause-runs : goal.returns-clause-runs
returns-clause-runs g c = let exit = goal.at.returns-clause-runs g c in ran g exit.After-roll_cells (chosen g exit.After-as_slice-4)
