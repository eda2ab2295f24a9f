-- A row is no shorter than its head.
use Rattle.std.proofs.Common.{arith}
use Rattle.row_page.proofs.RowLemmas.{row_width_of-ge}
use Rattle.row_page.proofs.row_view.RowView.of.Goals as goal

pub invariant_of-result-clause-long : goal.invariant_of-result-clause-long
invariant_of-result-clause-long c = omega (arith, row_width_of-ge c.args.columns.now)
