use Rattle.row_entries.proofs.SoundEntriesLemmas.{sound_coming, sound_giving_way, sound_going}
use Rattle.row_entries.proofs.laws.moved_rows_keep_indexes_sound.Goals as goal

pub returns-clause-comes : goal.returns-clause-comes
returns-clause-comes c = sound_coming

pub returns-clause-goes : goal.returns-clause-goes
returns-clause-goes c = sound_going

pub returns-clause-gives_way : goal.returns-clause-gives_way
returns-clause-gives_way c = sound_giving_way
