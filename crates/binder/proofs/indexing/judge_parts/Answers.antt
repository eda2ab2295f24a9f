use Rattle.std.proofs.Common.{◌<◌, arith, length, sym, ap, take, ◌∙◌}
use Rattle.std.specs.List.{take-map}
use Rattle.std.proofs.lemmas.List.{length-map}
use Rattle.mdc_ast.specs.Definitions.{column_names, is_among}
use Rattle.mdc_ast.specs.declared.statement.KeyText.{KeyText}
use Rattle.statement_meaning.specs.Judged.{part_names}
use Rattle.binder.proofs.ColumnLemmas.{is_among-column_names, listed_names-next, listed_names-no_column, listed_names-twice}
use Rattle.binder.proofs.CreateLemmas.{lent-at}
use Rattle.binder.proofs.indexing.judge_parts.Goals as goal

pub returns-then-not-has_column : goal.returns-then-not-has_column
returns-then-not-has_column c =
    let names = part_names c.args.parts.now in
    let there : c.loop-place.place < length names = omega (arith, c.loop-place-test.true, length-map c.args.parts.now (λ part. part.column)) in
    let at = lent-at (λ (part : KeyText). part.column) c.args.parts.now c.loop-place.place c.index-parts-place.result c.index-parts-place.is in
    c.loop-place.invariant
    ∙ listed_names-no_column (column_names c.args.columns.now) names c.loop-place.place c.index-parts-place.result.column there at
    (is_among-column_names c.args.columns.now c.index-parts-place.result.column ∙ sym c.has_column.ensures ∙ c.if-not-has_column.true)

pub returns-then-is_among : goal.returns-then-is_among
returns-then-is_among c =
    let names = part_names c.args.parts.now in
    let there : c.loop-place.place < length names = omega (arith, c.loop-place-test.true, length-map c.args.parts.now (λ part. part.column)) in
    let at = lent-at (λ (part : KeyText). part.column) c.args.parts.now c.loop-place.place c.index-parts-place.result c.index-parts-place.is in
    let before = ap (is_among c.index-parts-place.result.column) (take-map (λ (part : KeyText). part.column) c.loop-place.place c.args.parts.now) in
    c.loop-place.invariant
    ∙ listed_names-twice (column_names c.args.columns.now) names c.loop-place.place c.index-parts-place.result.column there at
    (is_among-column_names c.args.columns.now c.index-parts-place.result.column ∙ sym c.has_column.ensures ∙ c.if-not-has_column.false) (before ∙ sym c.is_among.ensures ∙ c.if-is_among.true)

pub loop-place-preserved : goal.loop-place-preserved
loop-place-preserved c =
    let names = part_names c.args.parts.now in
    let there : c.loop-place.place < length names = omega (arith, c.loop-place-test.true, length-map c.args.parts.now (λ part. part.column)) in
    let at = lent-at (λ (part : KeyText). part.column) c.args.parts.now c.loop-place.place c.index-parts-place.result c.index-parts-place.is in
    let before = ap (is_among c.index-parts-place.result.column) (take-map (λ (part : KeyText). part.column) c.loop-place.place c.args.parts.now) in
    c.loop-place.invariant
    ∙ listed_names-next (column_names c.args.columns.now) names c.loop-place.place c.index-parts-place.result.column there at
    (is_among-column_names c.args.columns.now c.index-parts-place.result.column ∙ sym c.has_column.ensures ∙ c.if-not-has_column.false) (before ∙ sym c.is_among.ensures ∙ c.if-is_among.false)
