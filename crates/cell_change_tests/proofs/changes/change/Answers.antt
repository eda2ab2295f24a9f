use Rattle.mdc_table.proofs.ReadValuesLemmas.{read_of_fitting}
use Rattle.cell_change_tests.proofs.changes.change.Goals as goal

pub change_row-requires-clause-was : goal.change_row-requires-clause-was
change_row-requires-clause-was g c = read_of_fitting c.args.table.now.def.columns c.in_ok-was.was' c.in_ok-was.ensures.fits.values
