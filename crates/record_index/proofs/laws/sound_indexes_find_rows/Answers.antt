use Rattle.record_index.proofs.SoundRowsLemmas.{finds_under, finds_within}
use Rattle.record_index.proofs.laws.sound_indexes_find_rows.Goals as goal

pub returns-clause-under : goal.returns-clause-under
returns-clause-under c def rows pending which t values rids sound are enter keys found = finds_under def rows pending which t sound are enter values rids keys found

pub returns-clause-within : goal.returns-clause-within
returns-clause-within c def rows pending which t span rids old new sound are enter wide found = finds_within def rows pending which t sound are.key enter span rids old new are.some wide found
