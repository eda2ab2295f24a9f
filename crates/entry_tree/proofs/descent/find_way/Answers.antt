use Rattle.std.proofs.Common.{◌≡◌, arith, refl, subst, ◌∙◌, rules, length, inl, inr, ◌<◌}
use Rattle.std.proofs.lemmas.Bool.{cases_lt}
use Rattle.std.proofs.lemmas.List.Elements.{All-push}
use Rattle.store_api.proofs.RunsOverPagesLemmas.{runs_more, runs_exit, runs_memory, runs_none}
use Rattle.node_page.specs.Node.{Node}
use Rattle.entry_tree.specs.declared.sight.Sight.{Sight}
use Rattle.entry_tree.specs.declared.sight.Sight.TheVariants.{Nothing, AtLeaf, AtInner}
use Rattle.entry_tree.specs.HeldTrees.{nodes_in}
use Rattle.entry_tree.specs.Sight.{Sees}
use Rattle.entry_tree.proofs.HeldTreesLemmas.{nodes_same}
use Rattle.entry_tree.proofs.GoingDownLemmas.{finds, place_begins, run_ends, goes_down, run_goes_down}
use Rattle.entry_tree.proofs.ShownLemmas.{asks_first, asks_on, sees_asked, sight_same}
use Rattle.entry_tree.proofs.WayLemmas.{only_place, on_way_below, on_way_first, on_way_short, sees_on_way, runs_broken}
use Rattle.entry_tree.proofs.descent.find_way.Goals as goal

pub returns-then-page-count-clause-runs : goal.returns-then-page-count-clause-runs
returns-then-page-count-clause-runs g c =
    runs_broken _ _ c.damaged.ensures c.loop-step.invariant.runs (λ t h. omega (arith, on_way_below h (c.loop-step.invariant.deep t h), c.if-page-count.true, c.count-count.ensures))

pub returns-in_err-see-clause-runs : goal.returns-in_err-see-clause-runs
returns-in_err-see-clause-runs g c =
    runs_exit c.from_residual.result c.from_residual.ensures.1
    (runs_more c.loop-step.invariant.runs c.in_err-see.ensures.runs (λ p there none. absurd none) (λ p is. only_place (λ t h. (c.loop-step.invariant.way t h).0) is))

pub returns-in-Nothing-clause-runs : goal.returns-in-Nothing-clause-runs
returns-in-Nothing-clause-runs g c =
    runs_broken _ _ c.damaged-in-Nothing.ensures (runs_more c.loop-step.invariant.runs c.in_ok-see.ensures.runs (λ p there none. absurd none) (λ p is. only_place (λ t h. (c.loop-step.invariant.way t h).0) is))
    (λ t h. sees_on_way h (c.loop-step.invariant.deep t h) c.loop-step.invariant.runs.works.steady c.loop-step.invariant.same Nothing
    (subst (λ (s : Sight). Sees c.args.tree.now.width (nodes_in c.args.tree.now.width (g.P.Pages.state c.loop-step.pages) c.loop-step.page) c.args.entry.now s) c.in-Nothing.is c.in_ok-see.ensures.sees))

pub returns-in-AtLeaf-clause-found : goal.returns-in-AtLeaf-clause-found
returns-in-AtLeaf-clause-found g c t h =
    let way = c.loop-step.invariant.way t h in
    let same = nodes_same c.args.tree.now.width (g.P.Pages.state c.args.pages.now) (g.P.Pages.state c.loop-step.pages) c.loop-step.page c.loop-step.invariant.runs.works.steady.is_told c.loop-step.invariant.same in
    let sees = subst (λ (n : Node). Sees c.args.tree.now.width n c.args.entry.now (AtLeaf c.in-AtLeaf.at c.in-AtLeaf.there c.in-AtLeaf.full)) same
    (subst (λ (s : Sight). Sees c.args.tree.now.width (nodes_in c.args.tree.now.width (g.P.Pages.state c.loop-step.pages) c.loop-step.page) c.args.entry.now s) c.in-AtLeaf.is c.in_ok-see.ensures.sees) in (
      finds _ c.args.tree.now.width c.args.tree.now.root _ _ _ t c.args.entry.now _ _ h.is_tree way.0 sees,
      c.more_asked.ensures ∙ run_ends _ c.args.tree.now.width c.args.tree.now.root _ _ _ _ _ t c.args.entry.now c.loop-step.path.items h.is_tree way.0 sees way.1,
    )

pub returns-in-AtLeaf-clause-root : goal.returns-in-AtLeaf-clause-root
returns-in-AtLeaf-clause-root g c = elim (cases_lt 0 c.loop-step.step) [
  | inl later ↦ c.loop-step.invariant.root_there later
  | inr first ↦ omega (arith, c.loop-step.invariant.root (omega arith), c.if-page-count.false, c.count-count.ensures)
]

pub returns-in-AtLeaf-clause-runs : goal.returns-in-AtLeaf-clause-runs
returns-in-AtLeaf-clause-runs g c =
    runs_more c.loop-step.invariant.runs c.in_ok-see.ensures.runs (λ p there none. absurd none) (λ p is. only_place (λ t h. (c.loop-step.invariant.way t h).0) is)

pub returns-in_err-push-in-AtInner-clause-runs : goal.returns-in_err-push-in-AtInner-clause-runs
returns-in_err-push-in-AtInner-clause-runs g c =
    runs_exit c.from_residual-in_err-push-in-AtInner.result c.from_residual-in_err-push-in-AtInner.ensures.1
    (runs_memory (runs_more c.loop-step.invariant.runs c.in_ok-see.ensures.runs (λ p there none. absurd none) (λ p is. only_place (λ t h. (c.loop-step.invariant.way t h).0) is)))

pub returns-in-AtLeaf-clause-seen : goal.returns-in-AtLeaf-clause-seen
returns-in-AtLeaf-clause-seen g c told =
    sees_asked c.loop-step.run c.more_asked.result (omega (arith, c.if-page-count.false, c.count-count.ensures)) (c.loop-step.invariant.shown told)
    (sight_same c.args.tree.now.width c.loop-step.page c.args.entry.now c.loop-step.invariant.runs.works.steady c.loop-step.invariant.same (AtLeaf c.in-AtLeaf.at c.in-AtLeaf.there c.in-AtLeaf.full) c.in-AtLeaf.is c.in_ok-see.ensures.shown told)
    c.more_asked.ensures

pub loop-step-init : goal.loop-step-init
loop-step-init g c = record {
  way = λ t h. rw c.new-path.ensures.items (place_begins _ c.args.tree.now.root t c.args.entry.now h.is_tree, refl);
  deep = λ t h. on_way_first c.args.entry.now h;
  shown = λ told. asks_first c.args.tree.now.root 1 refl;
  path_there = rw c.new-path.ensures.items (λ k d l. absurd (omega (arith, l)));
  root = λ start. refl;
  root_there = λ later. absurd (omega (arith, later));
  few = omega arith;
  same = refl;
  runs = runs_none;
}

pub loop-step-preserved : goal.loop-step-preserved
loop-step-preserved g c =
    let same : (p : _) → nodes_in c.args.tree.now.width (g.P.Pages.state c.loop-step.pages) p ≡ nodes_in c.args.tree.now.width (g.P.Pages.state c.args.pages.now) p =
    λ p. nodes_same c.args.tree.now.width (g.P.Pages.state c.args.pages.now) (g.P.Pages.state c.loop-step.pages) p c.loop-step.invariant.runs.works.steady.is_told c.loop-step.invariant.same in
    let seen = subst (λ (s : Sight). Sees c.args.tree.now.width (nodes_in c.args.tree.now.width (g.P.Pages.state c.loop-step.pages) c.loop-step.page) c.args.entry.now s) c.in-AtInner.is c.in_ok-see.ensures.sees in
    let sees = subst (λ (n : Node). Sees c.args.tree.now.width n c.args.entry.now (AtInner c.in-AtInner.at c.in-AtInner.child c.in-AtInner.full)) (same c.loop-step.page) seen in
    record {
      way = λ t h.
          let way = c.loop-step.invariant.way t h in
          rw c.in_ok-push-in-AtInner.ensures.ok (
            goes_down _ c.args.tree.now.width c.args.tree.now.root _ _ _ _ t c.args.entry.now c.loop-step.path.items h.is_tree way.0 sees,
            c.more_asked-run.ensures ∙ run_goes_down _ c.args.tree.now.width c.args.tree.now.root _ _ _ _ _ t c.args.entry.now c.loop-step.path.items h.is_tree way.0 sees way.1,
          );
      deep = λ t h. sees_on_way h (c.loop-step.invariant.deep t h) c.loop-step.invariant.runs.works.steady c.loop-step.invariant.same (AtInner c.in-AtInner.at c.in-AtInner.child c.in-AtInner.full) seen;
      shown = λ told.
          asks_on c.loop-step.run c.more_asked-run.result (omega (arith, c.if-page-count.false, c.count-count.ensures)) (c.loop-step.invariant.shown told)
          (sight_same c.args.tree.now.width c.loop-step.page c.args.entry.now c.loop-step.invariant.runs.works.steady c.loop-step.invariant.same (AtInner c.in-AtInner.at c.in-AtInner.child c.in-AtInner.full) c.in-AtInner.is c.in_ok-see.ensures.shown told)
          c.more_asked-run.ensures;
      path_there = rw c.in_ok-push-in-AtInner.ensures.ok
          (All-push (λ place. place.0 < length (g.P.Pages.state c.args.pages.now).work) c.loop-step.path.items (c.loop-step.page, c.in-AtInner.at) c.loop-step.invariant.path_there
          (omega (arith, c.if-page-count.false, c.count-count.ensures)));
      root = λ none. absurd (omega (arith, none));
      root_there = λ l. elim (cases_lt 0 c.loop-step.step) [
        | inl later ↦ c.loop-step.invariant.root_there later
        | inr first ↦ omega (arith, c.loop-step.invariant.root (omega arith), c.if-page-count.false, c.count-count.ensures)
      ];
      few = search rules;
      same = c.see.ensures.same ∙ c.loop-step.invariant.same;
      runs = runs_more c.loop-step.invariant.runs c.in_ok-see.ensures.runs (λ p there none. absurd none) (λ p is. only_place (λ t h. (c.loop-step.invariant.way t h).0) is);
    }

pub returns-clause-runs : goal.returns-clause-runs
returns-clause-runs g c =
    runs_broken _ _ c.damaged-2.ensures c.loop-step.invariant.runs (λ t h. omega (arith, on_way_short h (c.loop-step.invariant.deep t h), c.loop-step-test.false, c.count-count.ensures))
