use Rattle.std.proofs.Common.{None, Some}
use Rattle.std.specs.Prelude.{IsTrue}
use Rattle.mdc_ast.specs.Definitions.{def_at}
use Rattle.stored_catalog.proofs.SavingLemmas.{saved_stored}
use Rattle.stored_catalog.proofs.saving.save_table.Goals as goal

pub returns-in-Some-clause-stored : goal.returns-in-Some-clause-stored
returns-in-Some-clause-stored g c =
    let old = g.P.Pages.state c.args.pages.now in
    saved_stored c.write_def.result (IsTrue old.is_told) old.work (g.P.Pages.state c.write_def.new.pages).work c.args.table (def_at c.args.catalog.now c.args.table) (Some c.in-Some.def.now)
    c.in-Some.ensures c.requires.limits c.write_def.ensures.there c.write_def.ensures.saves

pub returns-in-None-clause-stored : goal.returns-in-None-clause-stored
returns-in-None-clause-stored g c =
    let old = g.P.Pages.state c.args.pages.now in
    saved_stored c.clear_def.result (IsTrue old.is_told) old.work (g.P.Pages.state c.clear_def.new.pages).work c.args.table (def_at c.args.catalog.now c.args.table) None
    c.in-None.ensures c.requires.limits c.clear_def.ensures.there c.clear_def.ensures.saves
