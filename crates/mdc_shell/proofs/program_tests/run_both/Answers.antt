use Rattle.mdc_shell.proofs.program_tests.run_both.Goals as goal

pub returns-clause-well : goal.returns-clause-well
returns-clause-well g c = λ path other first second before said is told well.
    let run = c.run-between.ensures in
    let file = run.stays_well path first before said is told well in
    let tape = run.told.1 said told in
    c.run.ensures.stays_well other second file.0 tape.0 file.1 tape.1 file.2
