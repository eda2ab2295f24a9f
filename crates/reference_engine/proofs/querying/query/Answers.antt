use Rattle.std.proofs.Common.{◌≡◌, subst, sym}
use Rattle.std.specs.Prelude.{filter}
use Rattle.mdc_ast.specs.declared.bound.Bound.TheVariants as bound
use Rattle.mdc_ast.specs.Database.{Database, PlainTable}
use Rattle.mdc_ast.specs.Truth.{qualifies}
use Rattle.row_groups.specs.Shape.{shape_of}
use Rattle.statement_meaning.specs.Step.{Answer, Refused}
use Rattle.answer_text.specs.Answering.{IsFirstOverflow}
use Rattle.row_checks.specs.Executing.{done}
use Rattle.statement_meaning.proofs.BuiltLemmas.{values_fit}
use Rattle.statement_meaning.proofs.DatabaseLemmas.{is_valid_at}
use Rattle.row_checks.proofs.Changeable.{rows_are_wide}
use Rattle.row_checks.proofs.QueryLemmas.{query_refused, query_replies, valid_rise}
use Rattle.reference_engine.proofs.querying.query.Goals as goal

pub lines_found-requires-clause-wide : goal.lines_found-requires-clause-wide
lines_found-requires-clause-wide c =
    let table : PlainTable = record { def = c.table-table.result.def.now; rows = c.table-table.result.rows.now } in
    rows_are_wide table.def.columns table.rows (values_fit table.def table.rows (is_valid_at c.args.tables.now c.args.select.now.table table c.requires.valid c.table-table.ensures).rows.fitting)

pub returns-in-Ok : goal.returns-in-Ok
returns-in-Ok c =
    let table : PlainTable = record { def = c.table-table.result.def.now; rows = c.table-table.result.rows.now } in
    let valid = (is_valid_at c.args.tables.now c.args.select.now.table table c.requires.valid c.table-table.ensures).rows in
    query_replies c.args.tables.now c.args.select.now table c.table-table.ensures c.in-Ok.lines
    (c.in-Ok.ensures (valid_rise c.args.select.now 0 table.rows table.def.next valid.rising))

pub returns-in-Err-Overflow : goal.returns-in-Err-Overflow
returns-in-Err-Overflow c =
    let table : PlainTable = record { def = c.table-table.result.def.now; rows = c.table-table.result.rows.now } in
    let valid = (is_valid_at c.args.tables.now c.args.select.now.table table c.requires.valid c.table-table.ensures).rows in
    let rise = valid_rise c.args.select.now 0 table.rows table.def.next valid.rising in
    let column = c.in-Err-Overflow.column in
    let said = subst (IsFirstOverflow table.def.columns (shape_of c.args.select.now) (filter (λ row. qualifies c.args.select.now.pred row.values) table.rows)) c.in-Err-Overflow.field-0-is (c.in-Err-Overflow.ensures rise) in
    subst (λ refusal. ◌≡◌ {A = Database × Answer} (done c.args.tables.now (bound.Query c.args.select.now)) (c.args.tables.now, Refused refusal)) (sym c.overflow.ensures)
    (query_refused c.args.tables.now c.args.select.now table c.table-table.ensures column said.0 said.1)
