use Rattle.cell_change_tests.proofs.FittingLemmas.{row_fits}
use Rattle.cell_change_tests.proofs.fitting.does_fit.Goals as goal

pub returns-then-has_no_generated : goal.returns-then-has_no_generated
returns-then-has_no_generated c = row_fits c.args.def.now c.args.row.now c.as_slice-columns.ensures c.as_slice.ensures c.has_no_generated.ensures c.if-has_no_generated.true c.do_fit.ensures
