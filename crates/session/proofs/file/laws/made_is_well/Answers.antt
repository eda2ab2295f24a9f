-- A file that was just made is well, and stands for no table.
use Rattle.mdc_ast.specs.Definitions.{no_tables}
use Rattle.session.proofs.MadeFilesLemmas.{made_images, made_stands, made_well}
use Rattle.session.proofs.file.laws.made_is_well.Goals as goal

pub returns-clause-well : goal.returns-clause-well
returns-clause-well c = λ extents extent_pages file fits is.
    let laws = c.made_database_is_sound.ensures in
    let found = laws.extents extents extent_pages fits in
    made_well extents extent_pages file found.0 fits is found.1 found.2
    (record { sound = laws.sound found.0; defs = no_tables; stored = laws.stored found.0; valid = laws.valid })

pub returns-clause-each : goal.returns-clause-each
returns-clause-each c = λ extents extent_pages file shape holds. made_images extents extent_pages file (returns-clause-well c extents extent_pages) shape holds

pub returns-clause-stands : goal.returns-clause-stands
returns-clause-stands c = λ extents extent_pages file fits is shape states. made_stands extents extent_pages file shape fits is states (c.made_database_is_sound.ensures.stands shape)
