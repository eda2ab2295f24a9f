use Rattle.std.proofs.Common.{◌≡◌, length, refl, rules, true}
use Rattle.store_api.proofs.RunsOverPagesLemmas.{runs_exit}
use Rattle.row_checks.specs.Served.{MayJudge}
use Rattle.script_engine.proofs.FetchesForStatementLemmas.{fetches_rolled}
use Rattle.script_engine.proofs.FetchesOnceLemmas.{once_rolled}
use Rattle.script_engine.proofs.NotedRoomsLemmas.{room_left, room_lent, rooms_beside, table_below}
use Rattle.script_engine.proofs.ReadRowsLemmas.{may_judge_read}
use Rattle.script_engine.proofs.ReadyTablesLemmas.{served_def}
use Rattle.script_engine.proofs.RolledRowsLemmas.{applies_by, rolled_does, runs_rolled}
use Rattle.script_engine.proofs.ScannedTablesLemmas.{is_defined}
use Rattle.script_engine.proofs.TouchesForStatementLemmas.{touches_deleted}
use Rattle.script_engine.proofs.deleting.delete_blocks.Goals as goal

pub roll_out-requires-clause-defined : goal.roll_out-requires-clause-defined
roll_out-requires-clause-defined g c = (served_def c.args.tables.now.catalog c.args.table c.in-Some.def.now c.requires.served c.in-Some.ensures).limits

pub roll_out-requires-clause-judged : goal.roll_out-requires-clause-judged
roll_out-requires-clause-judged g c row read =
    may_judge_read c.args.pred.now c.in-Some.def.now (is_defined _ c.in-Some.def.now (MayJudge c.args.pred.now) c.in-Some.ensures c.requires.there) row read

pub roll_out-requires-clause-applies : goal.roll_out-requires-clause-applies
roll_out-requires-clause-applies g c = applies_by c.args.tables.now.settings.rollout c.args.pred.now c.in-Some.def.now (c.requires.blocks c.in-Some.def.now c.in-Some.ensures)

pub returns-in_err-rolled-clause-runs : goal.returns-in_err-rolled-clause-runs
returns-in_err-rolled-clause-runs g c =
    let long : length c.args.tables.now.rooms.by_table ≡ 16 = search rules in
    let low = table_below c.args.tables.now.catalog c.args.tables.now.rooms.by_table c.args.table c.in-Some.def.now c.requires.served c.in-Some.ensures long in
    let lent = room_lent c.args.tables.now.rooms.by_table c.args.table c.index-tables-table.result low in
    runs_exit c.from_residual.result c.from_residual.ensures.1
    (runs_rolled g.P.Pages c.args.pages.now c.roll_out.new.pages c.args.tables.now c.args.table c.in-Some.def.now c.requires.served c.in-Some.ensures lent c.in_err-rolled.ensures.runs)

pub returns-clause-does : goal.returns-clause-does
returns-clause-does g c ready =
    let long : length c.args.tables.now.rooms.by_table ≡ 16 = search rules in
    let low = table_below c.args.tables.now.catalog c.args.tables.now.rooms.by_table c.args.table c.in-Some.def.now c.requires.served c.in-Some.ensures long in
    let lent = room_lent c.args.tables.now.rooms.by_table c.args.table c.index-tables-table.result low in
    let left = room_left c.args.tables.now.rooms.by_table c.args.table c.roll_out.new.rooms low in
    rolled_does g.P.Pages c.args.pages.now c.roll_out.new.pages c.args.tables.now _ c.args.table c.in-Some.def.now c.args.pred.now c.in_ok-rolled.rolled c.requires.served c.in-Some.ensures lent left
    (c.requires.blocks c.in-Some.def.now c.in-Some.ensures) c.in_ok-rolled.ensures.rolls c.in_ok-rolled.ensures.space c.in_ok-rolled.ensures.sound c.in_ok-rolled.ensures.stands_for
    c.in_ok-rolled.ensures.runs.works c.in_ok-rolled.ensures.runs.touches c.roll_out.ensures.count refl refl (rooms_beside c.args.tables.now.rooms.by_table c.args.table c.roll_out.new.rooms) ready

pub returns-clause-runs : goal.returns-clause-runs
returns-clause-runs g c =
    let long : length c.args.tables.now.rooms.by_table ≡ 16 = search rules in
    let low = table_below c.args.tables.now.catalog c.args.tables.now.rooms.by_table c.args.table c.in-Some.def.now c.requires.served c.in-Some.ensures long in
    let lent = room_lent c.args.tables.now.rooms.by_table c.args.table c.index-tables-table.result low in
    runs_rolled g.P.Pages c.args.pages.now c.roll_out.new.pages c.args.tables.now c.args.table c.in-Some.def.now c.requires.served c.in-Some.ensures lent c.in_ok-rolled.ensures.runs

pub returns-in_err-rolled-clause-fetches : goal.returns-in_err-rolled-clause-fetches
returns-in_err-rolled-clause-fetches g c =
    fetches_rolled g.P.Pages c.args.tables.now.shape c.args.tables.now.catalog c.args.tables.now.settings c.args.pages.now c.roll_out.new.pages c.args.table c.args.pred.now c.in-Some.def.now c.in-Some.ensures
    c.in_err-rolled.ensures.runs.brings

pub returns-clause-fetches : goal.returns-clause-fetches
returns-clause-fetches g c =
    fetches_rolled g.P.Pages c.args.tables.now.shape c.args.tables.now.catalog c.args.tables.now.settings c.args.pages.now c.roll_out.new.pages c.args.table c.args.pred.now c.in-Some.def.now c.in-Some.ensures
    c.in_ok-rolled.ensures.runs.brings

pub returns-in_err-rolled-clause-touches : goal.returns-in_err-rolled-clause-touches
returns-in_err-rolled-clause-touches g c =
    touches_deleted g.P.Pages c.args.tables.now.shape c.args.tables.now.catalog c.args.tables.now.settings c.args.pages.now c.roll_out.new.pages c.args.table c.in-Some.def.now c.in-Some.ensures c.args.pred.now true
    (c.requires.blocks c.in-Some.def.now c.in-Some.ensures) c.in_err-rolled.ensures.runs.touches

pub returns-clause-touches : goal.returns-clause-touches
returns-clause-touches g c =
    touches_deleted g.P.Pages c.args.tables.now.shape c.args.tables.now.catalog c.args.tables.now.settings c.args.pages.now c.roll_out.new.pages c.args.table c.in-Some.def.now c.in-Some.ensures c.args.pred.now true
    (c.requires.blocks c.in-Some.def.now c.in-Some.ensures) c.in_ok-rolled.ensures.runs.touches

pub returns-clause-idle : goal.returns-clause-idle
returns-clause-idle g c none = c.in_ok-rolled.ensures.idle none

pub returns-clause-once : goal.returns-clause-once
returns-clause-once g c ok =
    once_rolled g.P.Pages c.args.tables.now.shape c.args.tables.now.catalog c.args.tables.now.settings c.args.pages.now c.roll_out.new.pages c.args.table c.args.pred.now c.in-Some.def.now c.in-Some.ensures c.in_ok-rolled.ensures.once
