use Rattle.std.proofs.Common.{None, subst, sym}
use Rattle.stored_catalog.specs.StoredDefinitions.{AreStored, AreWithinLimits}
use Rattle.stored_catalog.proofs.AroundTableLemmas.{stored_but}
use Rattle.stored_catalog.proofs.DroppingLemmas.{others_untouched}
use Rattle.stored_catalog.proofs.LeftDefinitionsLemmas.{limits_at, limits_left, stored_at}
use Rattle.stored_catalog.proofs.dropping.drop_table.Goals as goal

pub unmake_table-requires-clause-defined : goal.unmake_table-requires-clause-defined
unmake_table-requires-clause-defined g c = limits_at c.args.catalog.now c.args.table c.in-Some.def.now c.requires.catalog c.in-Some.ensures

pub returns-clause-limits : goal.returns-clause-limits
returns-clause-limits g c = subst AreWithinLimits (sym c.leave.ensures) (limits_left c.args.catalog.now c.args.table c.requires.place c.requires.catalog)

pub returns-clause-stored : goal.returns-clause-stored
returns-clause-stored g c told stored =
    subst (AreStored (g.P.Pages.state c.unmake_table.new.pages).work) (sym c.leave.ensures)
    (stored_but (g.P.Pages.state c.args.pages.now).work (g.P.Pages.state c.unmake_table.new.pages).work c.args.catalog.now c.args.table None stored
    (λ u few apart. others_untouched g.P.Pages c.args.shape c.args.pages.now c.unmake_table.new.pages c.args.table u told c.in_ok-unmake_table.ensures.runs.touches c.unmake_table.ensures.count few apart)
    (c.in_ok-unmake_table.ensures.clears told (stored_at (g.P.Pages.state c.args.pages.now).work c.args.catalog.now c.args.table c.in-Some.def.now stored c.in-Some.ensures)))

pub returns-clause-drops : goal.returns-clause-drops
returns-clause-drops g c told stored =
    c.in_ok-unmake_table.ensures.drops told (stored_at (g.P.Pages.state c.args.pages.now).work c.args.catalog.now c.args.table c.in-Some.def.now stored c.in-Some.ensures)

pub returns-clause-stands_for : goal.returns-clause-stands_for
returns-clause-stands_for g c told stored =
    c.in_ok-unmake_table.ensures.stands_for told (stored_at (g.P.Pages.state c.args.pages.now).work c.args.catalog.now c.args.table c.in-Some.def.now stored c.in-Some.ensures)
