use Rattle.row_entries.proofs.StandingRowsLemmas.{lie_apart, pending_by_spot}
use Rattle.row_entries.proofs.laws.standing_rows_lie_apart.Goals as goal

pub returns-clause-rows : goal.returns-clause-rows
returns-clause-rows g c = λ shape def owners forests defined st. lie_apart g.P.Pages shape c.args.pages.now def owners forests st

pub returns-clause-pending : goal.returns-clause-pending
returns-clause-pending g c = λ shape def owners forests st block. pending_by_spot g.P.Pages shape c.args.pages.now def owners forests st block
