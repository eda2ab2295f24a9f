-- A column that has no room left.
use Rattle.std.proofs.Common.{◌<◌, arith}
use Rattle.std.proofs.lemmas.Bool.Decides.{nat_tests}
use Rattle.mdc_ast.specs.Definitions.{column_types, row_width}
use Rattle.table_page.proofs.WidthLemmas.{row_over}
use Rattle.table_page.proofs.key_limits.is_narrow.Goals as goal

pub returns-in-None : goal.returns-in-None
returns-in-None c =
    let none = c.in-None.ensures in
    let over : 1000 < row_width (column_types c.args.columns.now) =
    row_over c.args.columns.now c.loop-column.column-index c.column-item.result c.loop-column.room c.loop-column-test.true c.column-item.is c.loop-column.invariant (omega (arith, none, c.width.ensures.value)) in
    grind (arith, nat_tests, over)
