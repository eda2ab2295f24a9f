use Rattle.std.proofs.Common.{◌≡◌, ◌-◌, ◌∙◌, IsTrue, ap, arith, drop, subst, sym, take}
use Rattle.std.specs.Prelude.{◌↔◌}
use Rattle.std.proofs.lemmas.List.{length-drop, length-take}
use Rattle.mdc_ast.specs.Definitions.{width}
use Rattle.row_page.specs.Row.{column_value}
use Rattle.block_rows.proofs.CellColumnsLemmas.{column_end, column_within, null_in_column, read_in_column}
use Rattle.block_rows.proofs.cell_columns.has_value.Goals as goal

pub returns-then-nulls-column-eq1 : goal.returns-then-nulls-column-eq1
returns-then-nulls-column-eq1 c =
    subst (λ v. IsTrue c.is_null.result ↔ (c.args.value.now ≡ v))
    (sym (null_in_column c.args.shape.now.columns.now c.args.column.now c.requires.column c.args.row.now c.args.nulls c.requires.nulls c.if-nulls-column-eq1.true)) c.is_null.ensures

pub slice_bounds-is_value-count : goal.slice_bounds-is_value-count
slice_bounds-is_value-count c =
    omega (arith, column_end c.args.shape.now.columns.now c.args.column.now c.requires.column, column_within c.args.shape.now.columns.now c.args.column.now c.requires.column, c.requires.row)

pub slice_bounds-is_value-start : goal.slice_bounds-is_value-start
slice_bounds-is_value-start c =
    omega (arith, column_end c.args.shape.now.columns.now c.args.column.now c.requires.column, column_within c.args.shape.now.columns.now c.args.column.now c.requires.column, c.requires.row)

pub slice_bounds-is_value-end : goal.slice_bounds-is_value-end
slice_bounds-is_value-end c =
    omega (arith, column_end c.args.shape.now.columns.now c.args.column.now c.requires.column, column_within c.args.shape.now.columns.now c.args.column.now c.requires.column, c.requires.row)

pub is_value-requires : goal.is_value-requires
is_value-requires c =
    let s = c.args.column.now.start in
    let e = c.args.column.now.end in
    omega (
      arith,
      column_end c.args.shape.now.columns.now c.args.column.now c.requires.column,
      column_within c.args.shape.now.columns.now c.args.column.now c.requires.column,
      c.requires.row,
      length-take (e - s) (drop s c.args.row.now),
      length-drop s c.args.row.now,
    )

pub returns : goal.returns
returns c =
    let s = c.args.column.now.start in
    let wide : c.args.column.now.end - s ≡ width c.args.column.now.ty = omega (arith, column_end c.args.shape.now.columns.now c.args.column.now c.requires.column) in
    subst (λ v. IsTrue c.is_value.result ↔ (c.args.value.now ≡ v))
    (ap (λ k. column_value c.args.column.now.ty (take k (drop s c.args.row.now))) wide
    ∙ sym (read_in_column c.args.shape.now.columns.now c.args.column.now c.requires.column c.args.row.now c.args.nulls c.requires.nulls c.if-nulls-column-eq1.false)) c.is_value.ensures
