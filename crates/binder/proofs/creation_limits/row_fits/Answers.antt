use Rattle.std.proofs.Common.{◌<◌, arith}
use Rattle.std.proofs.lemmas.Bool.Decides.{nat_tests}
use Rattle.mdc_ast.specs.Definitions.{row_width}
use Rattle.statement_meaning.specs.Judged.{text_types}
use Rattle.binder.proofs.WidthLemmas.{row_over}
use Rattle.binder.proofs.creation_limits.row_fits.Goals as goal

pub returns-in-None : goal.returns-in-None
returns-in-None c =
    let none = c.in-None.ensures in
    let over : 1000 < row_width (text_types c.args.columns.now) =
    row_over c.args.columns.now c.loop-column.column-index c.column-item.result c.loop-column.room c.loop-column-test.true c.column-item.is c.loop-column.invariant (omega (arith, none, c.width.ensures)) in
    grind (arith, nat_tests, over)
