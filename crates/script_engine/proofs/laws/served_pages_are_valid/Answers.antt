use Rattle.script_engine.proofs.ValidPagesLemmas.{valid_pages}
use Rattle.script_engine.proofs.laws.served_pages_are_valid.Goals as goal

pub returns : goal.returns
returns c = valid_pages
