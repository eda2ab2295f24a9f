-- The head of a row page states how many rows it has.
use Rattle.std.proofs.Common.{◌∙◌}
use Rattle.row_page.proofs.RowPageLemmas.{stated_rows-IsRowPage}
use Rattle.row_page.proofs.page_view.RowPageView.rows.Goals as goal

pub returns-clause-counted : goal.returns-clause-counted
returns-clause-counted c = λ slots is. c.rows_stated.ensures ∙ stated_rows-IsRowPage c.args.self.now.columns.now c.args.self.now.page.now slots is
