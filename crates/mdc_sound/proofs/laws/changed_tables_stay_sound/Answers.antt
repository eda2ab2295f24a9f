use Rattle.mdc_sound.proofs.ChangedTablesLemmas.{between_with_next, sound_of_changed_table, sound_with_next}
use Rattle.mdc_sound.proofs.laws.changed_tables_stay_sound.Goals as goal

pub returns-clause-same_definition : goal.returns-clause-same_definition
returns-clause-same_definition g c = λ shape before noted def owners owners_now forests forests_now sound st changes touched longer.
    sound_of_changed_table g.P.Pages shape c.args.old.now c.args.new.now def owners owners_now forests forests_now sound st changes touched longer

pub returns-clause-next_number : goal.returns-clause-next_number
returns-clause-next_number g c = λ shape before noted def owners owners_now forests forests_now next sound st changes touched longer small.
    sound_with_next g.P.Pages shape c.args.old.now c.args.new.now def owners owners_now forests forests_now sound st changes touched longer next small

pub returns-clause-between_changes : goal.returns-clause-between_changes
returns-clause-between_changes g c = λ shape before noted def owners owners_now forests forests_now next between st changes touched longer indexes small numbers.
    between_with_next g.P.Pages shape c.args.old.now c.args.new.now def owners owners_now forests forests_now between.sound st changes touched longer
    between.rule11 between.numbers between.other_keys indexes next small numbers
