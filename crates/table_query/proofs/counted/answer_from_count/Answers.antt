use Rattle.std.proofs.Common.{◌≡◌, ◌∙◌, List, [], length, subst, sym}
use Rattle.mdc_ast.specs.declared.row.Row.{Row}
use Rattle.store_api.specs.declared.fault.StoreFault.TheVariants as store
use Rattle.row_groups.specs.Lines.{made_lines}
use Rattle.row_groups.specs.Numbers.{values_of}
use Rattle.row_groups.specs.Shape.{shape_of}
use Rattle.answer_text.specs.Answering.{AreLinesOf}
use Rattle.answer_text.specs.declared.query_lines.QueryLines.TheVariants.{Grouped}
use Rattle.table_query.specs.Counted.{rows_counted}
use Rattle.table_query.proofs.AnswersLemmas.{fails, stops}
use Rattle.table_query.proofs.CountedLemmas.{counted_lines, counted_rise, length-counted}
use Rattle.table_query.proofs.GatheredLemmas.{gives_as, plain_apart}
use Rattle.table_query.proofs.counted.answer_from_count.Goals as goal
use Rattle.table_query.proofs.counted.answer_from_count.Goals.{In_ok-add_rows}

-- the rows that are counted make the lines of any rows of this number
same : (c : In_ok-add_rows) (rows : List Row) → length rows ≡ c.args.count → made_lines (shape_of c.args.select.now) (values_of (rows_counted c.args.count)) ≡ made_lines (shape_of c.args.select.now) (values_of rows)
same c rows long = counted_lines (shape_of c.args.select.now) (rows_counted c.args.count) rows c.requires.counts c.requires.shares (length-counted c.args.count ∙ sym long)

-- their lines were made
are : (c : In_ok-add_rows) → AreLinesOf c.args.def.now.columns c.args.select.now (rows_counted c.args.count) (Grouped c.in-Grouped.columns c.in-Grouped.names c.add_rows.new.groups)
are c =
    let none = subst (AreLinesOf c.args.def.now.columns c.args.select.now []) c.in-Grouped.is c.in_ok-lines.ensures in
    (none.0, none.1, c.in_ok-add_rows.ensures (shape_of c.args.select.now) none.2)

pub returns-in_err-lines-clause-answers : goal.returns-in_err-lines-clause-answers
returns-in_err-lines-clause-answers c = λ rows long. stops c.args.def.now.columns c.args.select.now rows c.from_residual.result store.Memory c.from_residual.ensures.1

pub unreachable-requires : goal.unreachable-requires
unreachable-requires c = plain_apart c.args.select.now c.requires.shares (subst (AreLinesOf c.args.def.now.columns c.args.select.now []) c.in_default.is c.in_ok-lines.ensures).0

pub returns-in_err-add_rows-clause-answers : goal.returns-in_err-add_rows-clause-answers
returns-in_err-add_rows-clause-answers c = λ rows long.
    stops c.args.def.now.columns c.args.select.now rows c.from_residual-in_err-add_rows.result store.Memory c.from_residual-in_err-add_rows.ensures.1

pub returns-in_err-close-clause-answers : goal.returns-in_err-close-clause-answers
returns-in_err-close-clause-answers c = λ rows long.
    let so = (goal.at.returns-in_err-close-clause-answers c).In_ok-add_rows in
    fails c.args.def.now.columns c.args.select.now rows c.from_residual-in_err-close.result (rows_counted c.args.count) c.in_err-close.field-0.0 c.from_residual-in_err-close.ensures.1 (same so rows long)
    (c.in_err-close.ensures c.args.def.now.columns c.args.select.now (rows_counted c.args.count) (are so) (counted_rise c.args.count))

pub returns-clause-answers : goal.returns-clause-answers
returns-clause-answers c = λ rows long.
    let so = (goal.at.returns-clause-answers c).In_ok-add_rows in
    gives_as c.args.def.now.columns (shape_of c.args.select.now) rows (rows_counted c.args.count) (same so rows long) c.in_ok-close.field-0
    (c.in_ok-close.ensures c.args.def.now.columns c.args.select.now (rows_counted c.args.count) (are so) (counted_rise c.args.count))
