use Rattle.std.proofs.Common.{arith, refl, subst, ◌∙◌}
use Rattle.store_api.proofs.RunsOverPagesLemmas.{runs_more, runs_exit, runs_none}
use Rattle.entry_tree.specs.HeldTrees.{nodes_in}
use Rattle.entry_tree.specs.Spots.{MeetsOnWay, PassedFits}
use Rattle.entry_tree.specs.declared.spot.Passed.{Passed}
use Rattle.entry_tree.specs.declared.spot.Passed.TheVariants.{NoNodeThere, LeafThere, ChildThere}
use Rattle.entry_tree.proofs.HeldTreesLemmas.{nodes_same}
use Rattle.entry_tree.proofs.ShownLemmas.{goes_on, sees_leaf, shown_same}
use Rattle.entry_tree.proofs.SpotLemmas.{fits_nearer, passed_as, passed_begins, passes_on}
use Rattle.entry_tree.proofs.WayLemmas.{only_way, on_way_below, on_way_short, runs_broken}
use Rattle.entry_tree.proofs.spot.find_spot.Goals as goal

pub loop-step-init : goal.loop-step-init
loop-step-init g c = record {
  way = λ t h. passed_begins _ c.args.tree.now.root t c.args.entry.now h.is_tree;
  shown = λ told leaf items next way. way;
  low = tt;
  high = tt;
  parent = tt;
  same = refl;
  runs = runs_none;
}

pub returns-then-page-count-clause-runs : goal.returns-then-page-count-clause-runs
returns-then-page-count-clause-runs g c =
    runs_broken _ _ c.damaged.ensures c.loop-step.invariant.runs (λ t h. omega (arith, on_way_below h (c.loop-step.invariant.way t h).way, c.if-page-count.true, c.count-count.ensures))

pub returns-in_err-pass-clause-runs : goal.returns-in_err-pass-clause-runs
returns-in_err-pass-clause-runs g c =
    runs_exit c.from_residual.result c.from_residual.ensures.1
    (runs_more c.loop-step.invariant.runs c.in_err-pass.ensures.runs (λ p there none. absurd none) (λ p is. only_way (λ t h. (c.loop-step.invariant.way t h).way) is))

pub returns-in-NoNodeThere-clause-runs : goal.returns-in-NoNodeThere-clause-runs
returns-in-NoNodeThere-clause-runs g c =
    runs_broken _ _ c.damaged-in-NoNodeThere.ensures
    (runs_more c.loop-step.invariant.runs c.in_ok-pass.ensures.runs (λ p there none. absurd none) (λ p is. only_way (λ t h. (c.loop-step.invariant.way t h).way) is))
    (λ t h. passes_on h (c.loop-step.invariant.way t h) c.loop-step.invariant.runs.works.steady c.loop-step.invariant.same NoNodeThere
    (subst (λ (s : Passed). MeetsOnWay (nodes_in c.args.tree.now.width (g.P.Pages.state c.loop-step.pages) c.loop-step.page) c.loop-step.page c.args.entry.now s) c.in-NoNodeThere.is c.in_ok-pass.ensures.passes))

pub returns-in-LeafThere-clause-found : goal.returns-in-LeafThere-clause-found
returns-in-LeafThere-clause-found g c t h =
    passes_on h (c.loop-step.invariant.way t h) c.loop-step.invariant.runs.works.steady c.loop-step.invariant.same (LeafThere c.in-LeafThere.at c.in-LeafThere.there)
    (subst (λ (s : Passed). MeetsOnWay (nodes_in c.args.tree.now.width (g.P.Pages.state c.loop-step.pages) c.loop-step.page) c.loop-step.page c.args.entry.now s) c.in-LeafThere.is c.in_ok-pass.ensures.passes)

pub returns-in-LeafThere-clause-seen : goal.returns-in-LeafThere-clause-seen
returns-in-LeafThere-clause-seen g c told =
    sees_leaf (omega (arith, c.if-page-count.false, c.count-count.ensures)) (c.loop-step.invariant.shown told)
    (shown_same c.args.tree.now.width c.loop-step.page c.args.entry.now c.loop-step.invariant.runs.works.steady c.loop-step.invariant.same (LeafThere c.in-LeafThere.at c.in-LeafThere.there) c.in-LeafThere.is c.in_ok-pass.ensures.shown told)

pub returns-in-LeafThere-clause-lent : goal.returns-in-LeafThere-clause-lent
returns-in-LeafThere-clause-lent g c items e =
    c.in_ok-pass.ensures.lent items
    (nodes_same c.args.tree.now.width (g.P.Pages.state c.args.pages.now) (g.P.Pages.state c.loop-step.pages) c.loop-step.page c.loop-step.invariant.runs.works.steady.is_told c.loop-step.invariant.same ∙ e)

pub returns-in-LeafThere-clause-runs : goal.returns-in-LeafThere-clause-runs
returns-in-LeafThere-clause-runs g c =
    runs_more c.loop-step.invariant.runs c.in_ok-pass.ensures.runs (λ p there none. absurd none) (λ p is. only_way (λ t h. (c.loop-step.invariant.way t h).way) is)

pub loop-step-preserved : goal.loop-step-preserved
loop-step-preserved g c =
    let fits : PassedFits c.args.tree.now.width (ChildThere c.in-ChildThere.at c.in-ChildThere.child c.in-ChildThere.before c.in-ChildThere.behind) =
    subst (PassedFits c.args.tree.now.width) c.in-ChildThere.is c.in_ok-pass.ensures.fits in
    record {
      way = λ t h. passed_as c.nearer-low.ensures c.nearer-high.ensures
          (passes_on h (c.loop-step.invariant.way t h) c.loop-step.invariant.runs.works.steady c.loop-step.invariant.same (ChildThere c.in-ChildThere.at c.in-ChildThere.child c.in-ChildThere.before c.in-ChildThere.behind)
          (subst (λ (s : Passed). MeetsOnWay (nodes_in c.args.tree.now.width (g.P.Pages.state c.loop-step.pages) c.loop-step.page) c.loop-step.page c.args.entry.now s) c.in-ChildThere.is c.in_ok-pass.ensures.passes));
      shown = λ told.
          goes_on c.in-ChildThere.before c.in-ChildThere.behind c.loop-step.high c.nearer-high.result (omega (arith, c.if-page-count.false, c.count-count.ensures)) (c.loop-step.invariant.shown told)
          (shown_same c.args.tree.now.width c.loop-step.page c.args.entry.now c.loop-step.invariant.runs.works.steady c.loop-step.invariant.same (ChildThere c.in-ChildThere.at c.in-ChildThere.child c.in-ChildThere.before c.in-ChildThere.behind) c.in-ChildThere.is c.in_ok-pass.ensures.shown told)
          c.nearer-high.ensures;
      low = rw c.nearer-low.ensures (fits_nearer c.args.tree.now.width c.in-ChildThere.before c.loop-step.low fits.0 c.loop-step.invariant.low);
      high = rw c.nearer-high.ensures (fits_nearer c.args.tree.now.width c.in-ChildThere.behind c.loop-step.high fits.1 c.loop-step.invariant.high);
      parent = omega (arith, c.if-page-count.false, c.count-count.ensures);
      same = c.pass.ensures.same ∙ c.loop-step.invariant.same;
      runs = runs_more c.loop-step.invariant.runs c.in_ok-pass.ensures.runs (λ p there none. absurd none) (λ p is. only_way (λ t h. (c.loop-step.invariant.way t h).way) is);
    }

pub returns-clause-runs : goal.returns-clause-runs
returns-clause-runs g c =
    runs_broken _ _ c.damaged-2.ensures c.loop-step.invariant.runs (λ t h. omega (arith, on_way_short h (c.loop-step.invariant.way t h).way, c.loop-step-test.false, c.count-count.ensures))
