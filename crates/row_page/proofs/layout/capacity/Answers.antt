-- There are at most as many slots as in the narrowest rows.
use Rattle.std.proofs.Common.{arith}
use Rattle.row_page.proofs.RowPageLemmas.{slot_count-le}
use Rattle.row_page.proofs.layout.capacity.Goals as goal

pub returns-clause-few : goal.returns-clause-few
returns-clause-few c = omega (arith, c.of.ensures.slots, slot_count-le c.as_slice.result.now)
