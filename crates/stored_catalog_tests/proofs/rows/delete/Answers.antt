use Rattle.mdc_table.proofs.ReadValuesLemmas.{read_of_fitting}
use Rattle.stored_catalog_tests.proofs.rows.delete.Goals as goal

pub delete_row-requires-clause-row : goal.delete_row-requires-clause-row
delete_row-requires-clause-row g c = read_of_fitting c.args.def.now.columns c.in_ok-row.row c.in_ok-row.ensures.fits.values
