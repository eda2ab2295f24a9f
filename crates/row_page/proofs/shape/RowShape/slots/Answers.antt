-- There are at most as many slots as in the narrowest rows.
use Rattle.std.proofs.Common.{arith}
use Rattle.row_page.proofs.RowPageLemmas.{slot_count-le}
use Rattle.row_page.proofs.shape.RowShape.slots.Goals as goal

pub returns-clause-few : goal.returns-clause-few
returns-clause-few c = omega (arith, c.args.self.now.laid_out.slots, slot_count-le c.args.self.now.columns.now)
