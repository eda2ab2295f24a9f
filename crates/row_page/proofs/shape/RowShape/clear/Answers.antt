-- One slot has no row.
use Rattle.row_page.proofs.ChangingLemmas.{IsRowPage-without}
use Rattle.row_page.proofs.shape.RowShape.clear.Goals as goal

pub returns : goal.returns
returns c = λ slots is. IsRowPage-without c.args.self.now.columns.now c.args.page.now c.empty.new.page slots c.args.slot c.requires.slot c.empty.ensures is
