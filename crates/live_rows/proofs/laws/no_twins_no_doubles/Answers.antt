use Rattle.live_rows.proofs.DoublesLemmas.{no_doubles}
use Rattle.live_rows.proofs.laws.no_twins_no_doubles.Goals as goal

pub returns : goal.returns
returns c = no_doubles
