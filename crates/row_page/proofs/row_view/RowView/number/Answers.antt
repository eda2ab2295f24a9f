-- The number stands first in a row.
use Rattle.row_page.specs.Row.{row_in}
use Rattle.row_page.proofs.row_view.RowView.number.Goals as goal

pub returns : goal.returns
unfolding row_in
returns c = c.read_u64.ensures
