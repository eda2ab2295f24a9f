use Rattle.std.proofs.Common.{◌∙◌, sym, ap}
use Rattle.mdc_shell.proofs.GrowingLemmas.{grew_as}
use Rattle.mdc_shell.specs.Status.{status_of_created}
use Rattle.mdc_shell.proofs.program.create_file.Goals as goal

pub returns-clause-makes_well : goal.returns-clause-makes_well
returns-clause-makes_well g c = λ done file is.
    let made = (c.create-created.ensures.creates.made (sym c.of_created.ensures ∙ done)).0 in
    let holds = made.1 file is in
    c.made_files_are_well.ensures c.args.shape.extents c.args.shape.extent_pages file c.args.shape.within holds.0

pub returns-clause-grew : goal.returns-clause-grew
returns-clause-grew g c = λ before after is now. grew_as before after.bytes (λ failed. c.of_created.ensures ∙ ap status_of_created failed) (c.create-created.ensures.grew before after is now)
