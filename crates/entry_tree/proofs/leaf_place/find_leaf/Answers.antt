use Rattle.std.proofs.Common.{arith, subst, ◌∙◌}
use Rattle.store_api.proofs.RunsOverPagesLemmas.{runs_more, runs_exit}
use Rattle.entry_tree.specs.declared.sight.Sight.{Sight}
use Rattle.entry_tree.specs.declared.sight.Sight.TheVariants.{Nothing, AtInner, AtLeaf}
use Rattle.entry_tree.specs.HeldTrees.{nodes_in}
use Rattle.entry_tree.specs.Sight.{Sees}
use Rattle.entry_tree.proofs.FindingLemmas.{leaf_seen}
use Rattle.entry_tree.proofs.HeldTreesLemmas.{nodes_same}
use Rattle.entry_tree.proofs.ShownLemmas.{goes_on_some, sees_leaf, sight_same}
use Rattle.entry_tree.proofs.WayLemmas.{only_way, on_way_below, on_way_short, sees_on_way, runs_broken}
use Rattle.entry_tree.proofs.leaf_place.find_leaf.Goals as goal

pub returns-then-page-count-clause-runs : goal.returns-then-page-count-clause-runs
returns-then-page-count-clause-runs g c =
    runs_broken _ _ c.damaged.ensures c.loop-step.invariant.runs (λ t h. omega (arith, on_way_below h (c.loop-step.invariant.way t h), c.if-page-count.true, c.count-count.ensures))

pub returns-in_err-see-clause-runs : goal.returns-in_err-see-clause-runs
returns-in_err-see-clause-runs g c =
    runs_exit c.from_residual.result c.from_residual.ensures.1
    (runs_more c.loop-step.invariant.runs c.in_err-see.ensures.runs (λ p there none. absurd none) (λ p is. only_way c.loop-step.invariant.way is))

pub returns-in-Nothing-clause-runs : goal.returns-in-Nothing-clause-runs
returns-in-Nothing-clause-runs g c =
    runs_broken _ _ c.damaged-in-Nothing.ensures (runs_more c.loop-step.invariant.runs c.in_ok-see.ensures.runs (λ p there none. absurd none) (λ p is. only_way c.loop-step.invariant.way is))
    (λ t h. sees_on_way h (c.loop-step.invariant.way t h) c.loop-step.invariant.runs.works.steady c.loop-step.invariant.same Nothing
    (subst (λ (s : Sight). Sees c.args.tree.now.width (nodes_in c.args.tree.now.width (g.P.Pages.state c.loop-step.pages) c.loop-step.page) c.args.entry.now s) c.in-Nothing.is c.in_ok-see.ensures.sees))

pub returns-in-AtLeaf-clause-found : goal.returns-in-AtLeaf-clause-found
returns-in-AtLeaf-clause-found g c t h =
    leaf_seen h (c.loop-step.invariant.way t h) c.loop-step.invariant.runs.works.steady c.loop-step.invariant.same c.in-AtLeaf.at c.in-AtLeaf.there c.in-AtLeaf.field-2
    (subst (λ (s : Sight). Sees c.args.tree.now.width (nodes_in c.args.tree.now.width (g.P.Pages.state c.loop-step.pages) c.loop-step.page) c.args.entry.now s) c.in-AtLeaf.is c.in_ok-see.ensures.sees)

pub returns-in-AtLeaf-clause-lent : goal.returns-in-AtLeaf-clause-lent
returns-in-AtLeaf-clause-lent g c items e =
    c.in_ok-see.ensures.lent items
    (nodes_same c.args.tree.now.width (g.P.Pages.state c.args.pages.now) (g.P.Pages.state c.loop-step.pages) c.loop-step.page c.loop-step.invariant.runs.works.steady.is_told c.loop-step.invariant.same ∙ e)

pub returns-in-AtLeaf-clause-runs : goal.returns-in-AtLeaf-clause-runs
returns-in-AtLeaf-clause-runs g c =
    runs_more c.loop-step.invariant.runs c.in_ok-see.ensures.runs (λ p there none. absurd none) (λ p is. only_way c.loop-step.invariant.way is)

pub returns-in-AtLeaf-clause-seen : goal.returns-in-AtLeaf-clause-seen
returns-in-AtLeaf-clause-seen g c told =
    let way = c.loop-step.invariant.shown told in (
      way.0,
      sees_leaf (omega (arith, c.if-page-count.false, c.count-count.ensures)) way.1
          (sight_same c.args.tree.now.width c.loop-step.page c.args.entry.now c.loop-step.invariant.runs.works.steady c.loop-step.invariant.same (AtLeaf c.in-AtLeaf.at c.in-AtLeaf.there c.in-AtLeaf.field-2) c.in-AtLeaf.is c.in_ok-see.ensures.shown told).0,
    )

pub loop-step-preserved : goal.loop-step-preserved
loop-step-preserved g c = record {
  way = λ t h. sees_on_way h (c.loop-step.invariant.way t h) c.loop-step.invariant.runs.works.steady c.loop-step.invariant.same (AtInner c.in-AtInner.field-0 c.in-AtInner.child c.in-AtInner.field-2)
      (subst (λ (s : Sight). Sees c.args.tree.now.width (nodes_in c.args.tree.now.width (g.P.Pages.state c.loop-step.pages) c.loop-step.page) c.args.entry.now s) c.in-AtInner.is c.in_ok-see.ensures.sees);
  shown = λ told.
      goes_on_some (omega (arith, c.if-page-count.false, c.count-count.ensures)) (c.loop-step.invariant.shown told)
      (sight_same c.args.tree.now.width c.loop-step.page c.args.entry.now c.loop-step.invariant.runs.works.steady c.loop-step.invariant.same (AtInner c.in-AtInner.field-0 c.in-AtInner.child c.in-AtInner.field-2) c.in-AtInner.is c.in_ok-see.ensures.shown told).0;
  same = c.see.ensures.same ∙ c.loop-step.invariant.same;
  runs = runs_more c.loop-step.invariant.runs c.in_ok-see.ensures.runs (λ p there none. absurd none) (λ p is. only_way c.loop-step.invariant.way is);
}

pub returns-clause-runs : goal.returns-clause-runs
returns-clause-runs g c =
    runs_broken _ _ c.damaged-2.ensures c.loop-step.invariant.runs (λ t h. omega (arith, on_way_short h (c.loop-step.invariant.way t h), c.loop-step-test.false, c.count-count.ensures))
