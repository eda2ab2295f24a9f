use Rattle.std.proofs.Common.{ap}
use Rattle.std.specs.Result.{is_ok}
use Rattle.store_api.proofs.RunsOverPagesLemmas.{runs_edit}
use Rattle.stored_catalog.proofs.NumberingLemmas.{edited_number}
use Rattle.stored_catalog.proofs.numbering.edit_next.Goals as goal

pub returns-clause-numbers : goal.returns-clause-numbers
returns-clause-numbers g c =
    let edits = (c.edit.follows.holds c.set_next.new.page (ap is_ok c.in_ok-edit.was)).ok in
    edited_number c.args.page c.args.next c.in_ok-edit.field-0.now c.set_next.new.page (g.P.Pages.state c.args.pages.now) (g.P.Pages.state (c.edit.follows.lender c.set_next.new.page)) edits
    c.requires.within c.in_ok-edit.ensures.page c.set_next.ensures

pub returns-clause-runs : goal.returns-clause-runs
returns-clause-runs g c = runs_edit c.args.page _ (c.edit.follows.holds c.set_next.new.page (ap is_ok c.in_ok-edit.was))
