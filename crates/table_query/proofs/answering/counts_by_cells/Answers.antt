use Rattle.std.proofs.Common.{◌∙◌, sym}
use Rattle.table_query.proofs.QueryPagesLemmas.{needs_uncounted}
use Rattle.table_query.proofs.answering.counts_by_cells.Goals as goal

pub returns-then-not-counts_rows_alone-clause-rows : goal.returns-then-not-counts_rows_alone-clause-rows
returns-then-not-counts_rows_alone-clause-rows c falsity = needs_uncounted c.args.def.now c.args.select.now (sym c.counts_rows_alone.ensures ∙ c.if-not-counts_rows_alone.true)
