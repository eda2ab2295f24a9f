use Rattle.std.proofs.Common.{inr, refl, subst, sym}
use Rattle.std.specs.Prelude.{Some}
use Rattle.store_api.specs.RunsOverPages.{RunsOverPages}
use Rattle.store_api.proofs.RunsOverPagesLemmas.{runs_damage, runs_on}
use Rattle.entry_tree.specs.Standing.{IsTreeSpace}
use Rattle.block_index.specs.IndexDamage.{BreaksEntering}
use Rattle.block_index.proofs.ListingLemmas.{if_false}
use Rattle.block_index.proofs.one_entry.enter.Goals as goal

pub returns-then-not-added-clause-runs : goal.returns-then-not-added-clause-runs
returns-then-not-added-clause-runs g c =
    subst (λ fault. RunsOverPages g.P.Pages (IsTreeSpace g.P.Pages c.args.shape c.args.pages.now c.args.tree.now) (IsTreeSpace g.P.Pages c.args.shape c.args.pages.now c.args.tree.now)
    (BreaksEntering g.P.Pages c.args.rule c.args.shape c.args.pages.now c.args.tree.now c.args.entry.now) c.args.pages.now c.add.new.pages (Some fault)) (sym c.misplaced.ensures)
    (runs_damage (runs_on c.in_ok-added.ensures.runs) (inr (record { page = refl; rule = refl; wrong = λ owners t st. if_false _ c.in_ok-added.added c.if-not-added.true (c.in_ok-added.ensures.adds owners t st) })))
