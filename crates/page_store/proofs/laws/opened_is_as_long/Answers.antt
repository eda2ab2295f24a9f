-- What is put goes within the file.
use Rattle.page_store.proofs.BroughtLemmas.{opened_length}
use Rattle.page_store.proofs.laws.opened_is_as_long.Goals as goal

pub returns : goal.returns
returns c = opened_length
