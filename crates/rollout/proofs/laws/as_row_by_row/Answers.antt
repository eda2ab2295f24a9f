use Rattle.rollout.proofs.LostEntriesLemmas.{same_entries}
use Rattle.rollout.proofs.RowByRowLemmas.{same_chosen, same_rows, same_spots}
use Rattle.rollout.proofs.laws.as_row_by_row.Goals as goal

pub returns-clause-spots : goal.returns-clause-spots
returns-clause-spots c def chosen old by_row new rows whole are takes rolls = same_spots chosen old by_row rows whole are takes def new rolls

pub returns-clause-rows : goal.returns-clause-rows
returns-clause-rows c def chosen old by_row new rows whole are takes rolls = same_rows chosen old by_row rows whole are takes def new rolls

pub returns-clause-entries : goal.returns-clause-entries
returns-clause-entries c def chosen old trees by_row new rows others are too first second = same_entries def trees by_row new rows others (same_chosen are too) first second
