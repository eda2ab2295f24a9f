-- The values so far and those behind them are the row's.
use Rattle.std.proofs.Common.{◌≡◌, ◌∙◌, ◌++◌, ◌%◌, ℕ, List, ap, arith, drop, length}
use Rattle.std.specs.Prelude.{◌==◌}
use Rattle.mdc_values.specs.declared.value.Value.{Value}
use Rattle.mdc_ast.specs.declared.row.Row.{Row}
use Rattle.row_page.specs.Row.{row_in, columns_values, value_or_null}
use Rattle.row_page.proofs.RowLemmas.{row_width_of-step, columns_values-push, columns_values-all}
use Rattle.row_page.proofs.row_view.RowView.to_row.Goals as goal

pub loop-column-init : goal.loop-column-init
loop-column-init c = record {
  values = ap (λ vs. vs ++ columns_values c.args.self.now.columns.now c.nulls-nulls.result (drop 10 c.args.self.now.bytes.now)) c.in_ok-values.ensures.items
      ∙ ap (λ n. columns_values c.args.self.now.columns.now n (drop 10 c.args.self.now.bytes.now)) c.nulls-nulls.ensures;
  room = omega (arith, c.args.self.now.wide);
}

pub part-stored-requires : goal.part-stored-requires
part-stored-requires c =
    (row_width_of-step c.args.self.now.columns.now c.loop-column.column-index c.loop-column.at c.column_width-size.result (length c.args.self.now.bytes.now) c.column-item.result
    c.loop-column-test.true c.column-item.is c.column_width-size.ensures.value c.loop-column.invariant.room).0

pub read_or_null-requires : goal.read_or_null-requires
read_or_null-requires c = c.part-stored.ensures.long ∙ c.column_width-size.ensures.value

pub loop-column-preserved : goal.loop-column-preserved
loop-column-preserved c = record {
  values = columns_values-push c.args.self.now.columns.now c.loop-column.column-index c.loop-column.at c.column_width-size.result c.loop-column.nulls c.args.self.now.bytes.now c.column-item.result
      c.loop-column.values.items c.push.new.self.items _ c.in_ok-value.value c.loop-column-test.true c.column-item.is c.column_width-size.ensures.value
      (c.in_ok-value.ensures.ok ∙ ap (value_or_null (c.loop-column.nulls % 2 == 1) c.column-item.result.ty) c.part-stored.ensures.bytes) c.in_ok-push.ensures.items c.loop-column.invariant.values;
  room = (row_width_of-step c.args.self.now.columns.now c.loop-column.column-index c.loop-column.at c.column_width-size.result (length c.args.self.now.bytes.now) c.column-item.result
      c.loop-column-test.true c.column-item.is c.column_width-size.ensures.value c.loop-column.invariant.room).1;
}

same_row : (n m : ℕ) (vs ws : List Value) → n ≡ m → vs ≡ ws → ◌≡◌ {A = Row} (record { number = n; values = vs }) (record { number = m; values = ws })
same_row n m vs ws e f = cc

pub returns : goal.returns
unfolding row_in
returns c =
    same_row c.number.result _ c.from_vec.result _ c.number.ensures
    (c.from_vec.ensures ∙ columns_values-all c.args.self.now.columns.now c.loop-column.column-index c.loop-column.nulls (drop c.loop-column.at c.args.self.now.bytes.now) c.loop-column.values.items _ c.loop-column-test.false c.loop-column.invariant.values)
