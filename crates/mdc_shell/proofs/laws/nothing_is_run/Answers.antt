use Rattle.mdc_shell.proofs.MadeFileLemmas.{MadeLaws, nothing_run-scratch}
use Rattle.mdc_shell.proofs.NothingRunLemmas.{nothing_run}
use Rattle.mdc_shell.proofs.laws.nothing_is_run.Goals as goal

pub returns-clause-well : goal.returns-clause-well
returns-clause-well c = λ file said script stop before well.
    let found = c.sound_pages_stand.ensures well.shape _ well.served.sound in
    let run = nothing_run well.shape _ found.0 said script stop before well.served found.1 in
    (run.0, run.2)

pub returns-clause-scratch : goal.returns-clause-scratch
returns-clause-scratch c = λ said script stop before log.
    let made = c.made_database_is_sound.ensures in
    let laws : MadeLaws = record { sound = made.sound; stands = made.stands; stored = made.stored; valid = made.valid; extents = made.extents } in
    nothing_run-scratch laws said script stop before log
