use Rattle.std.proofs.Common.{◌∙◌, inl, inr, subst}
use Rattle.std.proofs.lemmas.Result.{on_ok_weaker}
use Rattle.store_api.proofs.FrameLemmas.{touches_wider}
use Rattle.store_api.proofs.RunsOverPagesLemmas.{runs_exit}
use Rattle.row_entries.specs.RowEntries.{with_indexes}
use Rattle.block_rows.specs.SeenRows.{SeesSomeRow}
use Rattle.table_blocks.specs.SeenSlots.{IsMapApart, SeesUsedSlot}
use Rattle.cell_change.proofs.ChangeRunsLemmas.{in_space}
use Rattle.cell_change.proofs.DeletingRowsLemmas.{blocks_left, deletes, left_stays, runs_leaving, runs_left, this_left}
use Rattle.cell_change.proofs.SeenRowsLemmas.{apart_beside, apart_left, row_seen, seen_beside}
use Rattle.cell_change.proofs.StandsForRowLemmas.{database_deleted}
use Rattle.cell_change.proofs.deleting.delete_row.Goals as goal

pub returns-in_err-leave_entries-clause-stay : goal.returns-in_err-leave_entries-clause-stay
returns-in_err-leave_entries-clause-stay g c owners forests st =
    blocks_left g.P.Pages c.args.shape c.args.pages.now c.args.def.now owners forests st c.in_err-leave_entries.ensures.runs.touches

pub returns-in_err-leave_entries-clause-runs : goal.returns-in_err-leave_entries-clause-runs
returns-in_err-leave_entries-clause-runs g c =
    runs_exit c.from_residual.result c.from_residual.ensures.1 (runs_leaving g.P.Pages c.args.shape c.args.pages.now c.args.def.now c.args.row.now c.args.rid c.in_err-leave_entries.ensures.runs)

pub returns-clause-stay : goal.returns-clause-stay
returns-clause-stay g c owners forests st =
    let leaves = c.in_ok-leave_entries.ensures.leaves owners forests st in
    left_stays g.P.Pages c.args.shape c.args.pages.now c.leave_entries.new.pages c.args.def.now c.args.row.now c.args.rid owners forests leaves
    (c.take_row.ensures.stay leaves.owners_now (with_indexes forests leaves.indexes_now) leaves.table.changes.stands)

pub returns-clause-runs : goal.returns-clause-runs
returns-clause-runs g c =
    runs_left g.P.Pages c.args.shape c.args.pages.now c.args.def.now c.args.row.now c.args.rid c.leave_entries.new.pages c.in_ok-leave_entries.ensures.leaves c.in_ok-leave_entries.ensures.runs c.take_row.ensures.runs

pub returns-clause-deletes : goal.returns-clause-deletes
returns-clause-deletes g c =
    on_ok_weaker c.take_row.result (λ takes owners forests st has.
    let shape = c.args.shape in
    let old = c.args.pages.now in
    let new = c.take_row.new.pages in
    let def = c.args.def.now in
    let row = c.args.row.now in
    let left = c.in_ok-leave_entries.ensures in
    let leaves = left.leaves owners forests st in
    let taken = takes leaves.owners_now (with_indexes forests leaves.indexes_now) leaves.table.changes.stands (this_left g.P.Pages shape old c.leave_entries.new.pages def row c.args.rid owners forests leaves has) in
    let runs = returns-clause-runs g c in
    let table = deletes g.P.Pages shape old c.leave_entries.new.pages def row c.args.rid owners forests leaves new taken (left.makes owners forests st) left.runs.works.no_shorter c.take_row.ensures.runs.works.no_shorter in
    record {
      table = table;
      database = database_deleted g.P.Pages shape old new def owners forests st (touches_wider runs.touches (in_space g.P.Pages shape old def)) runs.works.no_shorter row c.args.rid table;
    })
    c.take_row.ensures.takes

pub returns-clause-seen_standing : goal.returns-clause-seen_standing
returns-clause-seen_standing g c =
    on_ok_weaker c.take_row.result (λ seen apart owners forests st.
    let shape = c.args.shape in
    let old = c.args.pages.now in
    let middle = c.leave_entries.new.pages in
    let def = c.args.def.now in
    let row = c.args.row.now in
    let leaves = c.in_ok-leave_entries.ensures.leaves owners forests st in
    row_seen g.P.Pages shape old middle def row c.args.rid owners forests st leaves c.in_ok-leave_entries.ensures.count
    (seen leaves.table.changes.stands.told (apart_left g.P.Pages shape old middle def row c.args.rid owners forests st leaves apart)))
    c.take_row.ensures.seen

pub returns-clause-seen : goal.returns-clause-seen
returns-clause-seen g c =
    on_ok_weaker c.take_row.result (λ seen told apart indexes.
    let shape = c.args.shape in
    let old = c.args.pages.now in
    let middle = c.leave_entries.new.pages in
    let def = c.args.def.now in
    let rid = c.args.rid in
    let runs = c.in_ok-leave_entries.ensures.runs in
    let still = runs.works.steady.is_told in
    elim indexes [
      | inl none ↦ subst (λ s. IsMapApart g.P.Pages shape s def rid.block → SeesSomeRow (SeesUsedSlot g.P.Pages shape s def rid)) (c.leave_entries.ensures.none none) (seen (still ∙ told)) apart
      | inr beside ↦
          let touched = c.leave_entries.ensures.touches in
          seen_beside g.P.Pages shape old middle def rid told still touched beside c.in_ok-leave_entries.ensures.count
          (seen (still ∙ told) (apart_beside g.P.Pages shape old middle def rid told still touched beside apart))
    ])
    c.take_row.ensures.seen
