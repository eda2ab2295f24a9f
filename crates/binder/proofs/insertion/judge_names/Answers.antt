use Rattle.std.proofs.Common.{sym, ◌∙◌}
use Rattle.mdc_ast.specs.Definitions.{column_names}
use Rattle.binder.proofs.ColumnLemmas.{is_among-column_names, listed_names-next, listed_names-no_column, listed_names-twice}
use Rattle.binder.proofs.insertion.judge_names.Goals as goal

pub returns-then-not-has_column : goal.returns-then-not-has_column
returns-then-not-has_column c =
    c.loop-place.invariant
    ∙ listed_names-no_column (column_names c.args.columns.now) c.args.names.now c.loop-place.place c.index-names-place.result c.loop-place-test.true c.index-names-place.is
    (is_among-column_names c.args.columns.now c.index-names-place.result ∙ sym c.has_column.ensures ∙ c.if-not-has_column.true)

pub returns-then-is_among : goal.returns-then-is_among
returns-then-is_among c =
    c.loop-place.invariant
    ∙ listed_names-twice (column_names c.args.columns.now) c.args.names.now c.loop-place.place c.index-names-place.result c.loop-place-test.true c.index-names-place.is
    (is_among-column_names c.args.columns.now c.index-names-place.result ∙ sym c.has_column.ensures ∙ c.if-not-has_column.false) (sym c.is_among.ensures ∙ c.if-is_among.true)

pub loop-place-preserved : goal.loop-place-preserved
loop-place-preserved c =
    c.loop-place.invariant
    ∙ listed_names-next (column_names c.args.columns.now) c.args.names.now c.loop-place.place c.index-names-place.result c.loop-place-test.true c.index-names-place.is
    (is_among-column_names c.args.columns.now c.index-names-place.result ∙ sym c.has_column.ensures ∙ c.if-not-has_column.false) (sym c.is_among.ensures ∙ c.if-is_among.false)
