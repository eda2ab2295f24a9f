use Rattle.record_index.proofs.SoundRowsLemmas.{has_row, lacks_row}
use Rattle.record_index.proofs.laws.sound_indexes_have_rows.Goals as goal

pub returns-clause-has : goal.returns-clause-has
returns-clause-has c = has_row

pub returns-clause-lacks : goal.returns-clause-lacks
returns-clause-lacks c = lacks_row
