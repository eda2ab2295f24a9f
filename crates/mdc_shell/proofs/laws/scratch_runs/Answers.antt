use Rattle.mdc_shell.proofs.MadeFileLemmas.{MadeLaws, made_file-runs}
use Rattle.mdc_shell.proofs.laws.scratch_runs.Goals as goal

pub returns : goal.returns
returns c =
    let made = c.made_database_is_sound.ensures in
    let laws : MadeLaws = record { sound = made.sound; stands = made.stands; stored = made.stored; valid = made.valid; extents = made.extents } in
    made_file-runs laws c.goes_on_lists.ensures
