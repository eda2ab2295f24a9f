use Rattle.std.proofs.Common.{◌+◌, ap}
use Rattle.std.specs.Prelude.{IsTrue}
use Rattle.stored_catalog.proofs.NumberingLemmas.{numbered_there}
use Rattle.stored_catalog.proofs.numbering.write_next.Goals as goal

pub returns-clause-numbers : goal.returns-clause-numbers
returns-clause-numbers g c =
    let old = g.P.Pages.state c.args.pages.now in
    numbered_there c.edit_next.result (IsTrue old.is_told) old.work (g.P.Pages.state c.edit_next.new.pages).work (1 + c.from-page.result) c.args.table c.args.next (ap (λ n. 1 + n) c.from-page.ensures)
    c.edit_next.ensures.numbers
