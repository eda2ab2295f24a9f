use Rattle.std.proofs.Common.{◌≡◌, ◌∙◌, ap, false, length, map, refl, rules, subst, sym}
use Rattle.mdc_ast.specs.declared.bound.Bound.TheVariants as bound
use Rattle.store_api.proofs.RunsOverPagesLemmas.{runs_exit, runs_wider}
use Rattle.block_rows.specs.HeldRows.{HaveReadValues, placed_row}
use Rattle.row_checks.specs.Served.{MayJudge}
use Rattle.script_engine.proofs.DoneRowsLemmas.{delete_does, runs_change}
use Rattle.script_engine.proofs.FetchesForStatementLemmas.{fetches_by_rows}
use Rattle.script_engine.proofs.NotedRoomsLemmas.{room_left, room_lent, rooms_beside, table_below}
use Rattle.script_engine.proofs.ReadRowsLemmas.{may_judge_read}
use Rattle.script_engine.proofs.ReadyTablesLemmas.{served_def}
use Rattle.script_engine.proofs.ScannedTablesLemmas.{is_defined, runs_by_plan}
use Rattle.script_engine.proofs.TouchesForStatementLemmas.{touches_deleted, touches_rows, touches_still}
use Rattle.script_engine.proofs.deleting.delete_found.Goals as goal

pub find_by_plan-requires-clause-defined : goal.find_by_plan-requires-clause-defined
find_by_plan-requires-clause-defined g c = (served_def c.args.tables.now.catalog c.args.table c.in-Some.def.now c.requires.served c.in-Some.ensures).limits

pub find_by_plan-requires-clause-judged : goal.find_by_plan-requires-clause-judged
find_by_plan-requires-clause-judged g c row read =
    may_judge_read c.args.pred.now c.in-Some.def.now (is_defined _ c.in-Some.def.now (MayJudge c.args.pred.now) c.in-Some.ensures c.requires.there) row read

pub returns-in_err-found-clause-runs : goal.returns-in_err-found-clause-runs
returns-in_err-found-clause-runs g c =
    runs_exit c.from_residual.result c.from_residual.ensures.1
    (runs_wider (runs_by_plan g.P.Pages c.args.pages.now c.find_by_plan.new.pages c.args.tables.now c.args.table c.in-Some.def.now c.requires.served c.in-Some.ensures c.in_err-found.ensures.runs)
    (λ p there none. absurd none) (λ p any. any) (λ damage breaks. breaks))

pub delete_rows-requires-clause-defined : goal.delete_rows-requires-clause-defined
delete_rows-requires-clause-defined g c = (served_def c.args.tables.now.catalog c.args.table c.in-Some.def.now c.requires.served c.in-Some.ensures).limits

pub delete_rows-requires-clause-read : goal.delete_rows-requires-clause-read
delete_rows-requires-clause-read g c = subst (HaveReadValues c.in-Some.def.now.columns) (sym c.as_slice.ensures.value) c.in_ok-found.ensures.keyed

pub returns-in_err-delete_rows-clause-runs : goal.returns-in_err-delete_rows-clause-runs
returns-in_err-delete_rows-clause-runs g c =
    let long : length c.args.tables.now.rooms.by_table ≡ 16 = search rules in
    let low = table_below c.args.tables.now.catalog c.args.tables.now.rooms.by_table c.args.table c.in-Some.def.now c.requires.served c.in-Some.ensures long in
    let lent = room_lent c.args.tables.now.rooms.by_table c.args.table c.index-tables-table.result low in
    runs_exit c.from_residual-in_err-delete_rows.result c.from_residual-in_err-delete_rows.ensures.1
    (runs_change g.P.Pages c.args.pages.now c.find_by_plan.new.pages c.delete_rows.new.pages c.args.tables.now c.args.tables.now c.args.table c.in-Some.def.now c.requires.served c.in-Some.ensures lent
    c.in_ok-found.ensures.runs.works.steady.is_told c.find_by_plan.ensures.same c.args.pred.now c.in_ok-found.found.hits.items (map placed_row c.as_slice.result.now)
    (ap (map placed_row) c.as_slice.ensures.value) c.in_ok-found.ensures.finds c.in_ok-found.ensures.runs c.in_err-delete_rows.ensures.runs)

pub returns-clause-does : goal.returns-clause-does
returns-clause-does g c ready =
    let long : length c.args.tables.now.rooms.by_table ≡ 16 = search rules in
    let low = table_below c.args.tables.now.catalog c.args.tables.now.rooms.by_table c.args.table c.in-Some.def.now c.requires.served c.in-Some.ensures long in
    let lent = room_lent c.args.tables.now.rooms.by_table c.args.table c.index-tables-table.result low in
    let left = room_left c.args.tables.now.rooms.by_table c.args.table c.delete_rows.new.rooms low in
    delete_does g.P.Pages c.args.pages.now c.find_by_plan.new.pages c.delete_rows.new.pages c.args.tables.now _ c.args.table c.in-Some.def.now c.args.pred.now c.in_ok-found.found.hits.items c.as_slice.result.now
    c.len.result c.requires.served c.in-Some.ensures lent left c.in_ok-found.ensures.runs.works.steady.is_told c.find_by_plan.ensures.same c.in_ok-found.ensures.finds c.as_slice.ensures.value
    (c.len.ensures ∙ sym c.as_slice.ensures.len ∙ ap length c.as_slice.ensures.value) (c.requires.rows c.in-Some.def.now c.in-Some.ensures) c.in_ok-delete_rows.ensures.deletes refl refl (rooms_beside c.args.tables.now.rooms.by_table c.args.table c.delete_rows.new.rooms) ready

pub returns-clause-runs : goal.returns-clause-runs
returns-clause-runs g c =
    let long : length c.args.tables.now.rooms.by_table ≡ 16 = search rules in
    let low = table_below c.args.tables.now.catalog c.args.tables.now.rooms.by_table c.args.table c.in-Some.def.now c.requires.served c.in-Some.ensures long in
    let lent = room_lent c.args.tables.now.rooms.by_table c.args.table c.index-tables-table.result low in
    runs_change g.P.Pages c.args.pages.now c.find_by_plan.new.pages c.delete_rows.new.pages c.args.tables.now c.args.tables.now c.args.table c.in-Some.def.now c.requires.served c.in-Some.ensures lent
    c.in_ok-found.ensures.runs.works.steady.is_told c.find_by_plan.ensures.same c.args.pred.now c.in_ok-found.found.hits.items (map placed_row c.as_slice.result.now)
    (ap (map placed_row) c.as_slice.ensures.value) c.in_ok-found.ensures.finds c.in_ok-found.ensures.runs c.in_ok-delete_rows.ensures.runs

pub returns-in_err-found-clause-fetches : goal.returns-in_err-found-clause-fetches
returns-in_err-found-clause-fetches g c =
    fetches_by_rows g.P.Pages c.args.tables.now.shape c.args.tables.now.catalog c.args.tables.now.settings c.args.pages.now c.find_by_plan.new.pages c.args.table c.args.pred.now c.requires.rows

pub returns-in_err-delete_rows-clause-fetches : goal.returns-in_err-delete_rows-clause-fetches
returns-in_err-delete_rows-clause-fetches g c =
    fetches_by_rows g.P.Pages c.args.tables.now.shape c.args.tables.now.catalog c.args.tables.now.settings c.args.pages.now c.delete_rows.new.pages c.args.table c.args.pred.now c.requires.rows

pub returns-clause-fetches : goal.returns-clause-fetches
returns-clause-fetches g c =
    fetches_by_rows g.P.Pages c.args.tables.now.shape c.args.tables.now.catalog c.args.tables.now.settings c.args.pages.now c.delete_rows.new.pages c.args.table c.args.pred.now c.requires.rows

pub returns-in_err-found-clause-touches : goal.returns-in_err-found-clause-touches
returns-in_err-found-clause-touches g c =
    touches_still g.P.Pages c.args.tables.now.shape c.args.tables.now.catalog c.args.tables.now.settings c.args.pages.now c.find_by_plan.new.pages c.in_err-found.ensures.runs.works.steady.is_told c.find_by_plan.ensures.same
    (bound.Delete c.args.table c.args.pred.now)

pub returns-in_err-delete_rows-clause-touches : goal.returns-in_err-delete_rows-clause-touches
returns-in_err-delete_rows-clause-touches g c =
    touches_deleted g.P.Pages c.args.tables.now.shape c.args.tables.now.catalog c.args.tables.now.settings c.args.pages.now c.delete_rows.new.pages c.args.table c.in-Some.def.now c.in-Some.ensures c.args.pred.now false
    (c.requires.rows c.in-Some.def.now c.in-Some.ensures)
    (touches_rows g.P.Pages c.args.tables.now.shape c.args.pages.now c.find_by_plan.new.pages c.delete_rows.new.pages c.in-Some.def.now c.args.pred.now c.in_ok-found.found.hits.items c.as_slice.result.now
    c.in_ok-found.ensures.runs.works.steady.is_told c.find_by_plan.ensures.same c.as_slice.ensures.value c.in_ok-found.ensures.lie c.delete_rows.ensures.touches)

pub returns-clause-touches : goal.returns-clause-touches
returns-clause-touches g c =
    touches_deleted g.P.Pages c.args.tables.now.shape c.args.tables.now.catalog c.args.tables.now.settings c.args.pages.now c.delete_rows.new.pages c.args.table c.in-Some.def.now c.in-Some.ensures c.args.pred.now false
    (c.requires.rows c.in-Some.def.now c.in-Some.ensures)
    (touches_rows g.P.Pages c.args.tables.now.shape c.args.pages.now c.find_by_plan.new.pages c.delete_rows.new.pages c.in-Some.def.now c.args.pred.now c.in_ok-found.found.hits.items c.as_slice.result.now
    c.in_ok-found.ensures.runs.works.steady.is_told c.find_by_plan.ensures.same c.as_slice.ensures.value c.in_ok-found.ensures.lie c.delete_rows.ensures.touches)

pub returns-clause-idle : goal.returns-clause-idle
returns-clause-idle g c none =
    c.delete_rows.ensures.idle (ap length c.as_slice.ensures.value ∙ sym (c.len.ensures ∙ sym c.as_slice.ensures.len ∙ ap length c.as_slice.ensures.value) ∙ none) ∙ c.find_by_plan.ensures.same
