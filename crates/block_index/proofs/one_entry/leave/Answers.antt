use Rattle.std.proofs.Common.{inr, refl, subst, sym}
use Rattle.std.specs.Prelude.{Some}
use Rattle.store_api.specs.RunsOverPages.{RunsOverPages}
use Rattle.store_api.proofs.RunsOverPagesLemmas.{runs_damage, runs_on}
use Rattle.entry_tree.specs.Pruning.{IsTreeOrMapPage}
use Rattle.block_index.specs.IndexDamage.{BreaksLeaving}
use Rattle.block_index.proofs.ListingLemmas.{if_false}
use Rattle.block_index.proofs.one_entry.leave.Goals as goal

pub returns-then-not-was_there-clause-runs : goal.returns-then-not-was_there-clause-runs
returns-then-not-was_there-clause-runs g c =
    subst (λ fault. RunsOverPages g.P.Pages (IsTreeOrMapPage g.P.Pages c.args.shape c.args.pages.now c.args.tree.now) (IsTreeOrMapPage g.P.Pages c.args.shape c.args.pages.now c.args.tree.now)
    (BreaksLeaving g.P.Pages c.args.rule c.args.shape c.args.pages.now c.args.tree.now c.args.entry.now) c.args.pages.now c.remove.new.pages (Some fault)) (sym c.misplaced.ensures)
    (runs_damage (runs_on c.in_ok-was_there.ensures.runs) (inr (record { page = refl; rule = refl; wrong = λ owners t st. if_false _ c.in_ok-was_there.was_there c.if-not-was_there.true (c.in_ok-was_there.ensures.removes owners t st) })))
