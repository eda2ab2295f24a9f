use Rattle.std.proofs.Common.{◌≡◌, ◌++◌, ◌∷◌, [], sym, ◌∙◌, ap, arith, subst, refl, None, List, ℕ, inr, length}
use Rattle.store_api.specs.RunsOverPages.{RunsOverPages}
use Rattle.store_api.proofs.RunsOverPagesLemmas.{runs_exit, runs_none, runs_then}
use Rattle.extent_map.specs.Map.{IsMapPage}
use Rattle.entry_tree.specs.Freeing.{BreaksFreeing, IsFreeingPage}
use Rattle.entry_tree.proofs.FreedLemmas.{freeing_breaks_map, freeing_breaks_node, freeing_extent, freeing_kind, freeing_map_page, none_left, not_so, popped, runs_freeing, runs_outside}
use Rattle.entry_tree.proofs.FreeingLemmas.{IsFreeing, freeing_begins, freeing_ends, freeing_few, freeing_goes_on}
use Rattle.entry_tree.proofs.tree.Tree.free_all.Goals as goal

pub loop-step-init : goal.loop-step-init
loop-step-init g c =
    let items : c.push.new.self.items ≡ c.args.self.now.root ∷ [] = c.in_ok-push.ensures.items ∙ ap (λ (l : List ℕ). l ++ c.args.self.now.root ∷ []) c.new-todo.ensures.items in
    record {
      freeing = λ owners t h. subst (λ (l : List ℕ). IsFreeing g.P.Pages c.args.shape c.args.notes.now c.args.notes.now c.args.pages.now c.args.self.now owners t l 0) (sym items) (freeing_begins owners t h);
      count = refl;
      runs = runs_none;
    }

pub returns-in_default-clause-freed : goal.returns-in_default-clause-freed
returns-in_default-clause-freed g c owners t h =
    let none : c.loop-step.todo.items ≡ [] = none_left c.loop-step.todo.items c.pop.result _ _ _ c.pop.ensures.cases c.in_default.is (omega (arith, c.loop-step.todo.ok.0)) in
    freeing_ends owners t c.loop-step.step (subst (λ (l : List ℕ). IsFreeing g.P.Pages c.args.shape c.args.notes.now c.loop-step.notes c.loop-step.pages c.args.self.now owners t l c.loop-step.step) none (c.loop-step.invariant.freeing owners t h))

pub returns-then-not-has_page-clause-runs : goal.returns-then-not-has_page-clause-runs
returns-then-not-has_page-clause-runs g c =
    let items = popped c.loop-step.todo.items c.pop.new.self.items c.pop.result c.in-Some.page c.pop.ensures.items c.in-Some.is in
    runs_outside c.unused_page.result c.unused_page.ensures.1 c.loop-step.invariant.runs
    (λ owners t h. not_so c.has_page.result c.if-not-has_page.true (c.has_page.ensures.1
    (freeing_extent c.loop-step.todo.items c.pop.new.self.items c.in-Some.page c.loop-step.step c.loop-step.invariant.freeing items owners t h)))

pub returns-in_err-push_children-clause-runs : goal.returns-in_err-push_children-clause-runs
returns-in_err-push_children-clause-runs g c =
    let items = popped c.loop-step.todo.items c.pop.new.self.items c.pop.result c.in-Some.page c.pop.ensures.items c.in-Some.is in
    runs_exit c.from_residual-in_err-push_children.result c.from_residual-in_err-push_children.ensures.1
    (runs_then c.loop-step.invariant.runs c.in_err-push_children.ensures.runs (λ p there none. absurd none)
    (λ p is. freeing_kind c.loop-step.todo.items c.pop.new.self.items c.in-Some.page c.loop-step.step p c.loop-step.invariant.freeing items is)
    (λ d b. freeing_breaks_node c.loop-step.todo.items c.pop.new.self.items c.in-Some.page c.loop-step.step d c.loop-step.invariant.freeing items b))

pub returns-in_err-give_index_page-clause-runs : goal.returns-in_err-give_index_page-clause-runs
returns-in_err-give_index_page-clause-runs g c =
    let items = popped c.loop-step.todo.items c.pop.new.self.items c.pop.result c.in-Some.page c.pop.ensures.items c.in-Some.is in
    let x = c.has_page.ensures.0 c.if-not-has_page.false in
    let read : RunsOverPages g.P.Pages (IsMapPage c.args.shape) (IsFreeingPage g.P.Pages c.args.shape c.args.pages.now c.args.self.now) (BreaksFreeing g.P.Pages c.args.shape c.args.pages.now c.args.self.now) c.args.pages.now c.push_children.new.pages None =
    runs_then c.loop-step.invariant.runs c.in_ok-push_children.ensures.runs (λ p there none. absurd none)
    (λ p is. freeing_kind c.loop-step.todo.items c.pop.new.self.items c.in-Some.page c.loop-step.step p c.loop-step.invariant.freeing items is)
    (λ d b. freeing_breaks_node c.loop-step.todo.items c.pop.new.self.items c.in-Some.page c.loop-step.step d c.loop-step.invariant.freeing items b) in
    runs_exit c.from_residual-in_err-give_index_page.result c.from_residual-in_err-give_index_page.ensures.1
    (runs_then read c.in_err-give_index_page.ensures.runs (λ p there is. freeing_map_page c.in-Some.page p x is)
    (λ p is owners t h. inr (freeing_map_page c.in-Some.page p x is))
    (λ d b. freeing_breaks_map c.loop-step.todo.items c.pop.new.self.items c.in-Some.page c.loop-step.step d c.loop-step.invariant.freeing items
    c.in_ok-push_children.ensures.runs.works.steady c.push_children.ensures.same c.loop-step.invariant.count b))

pub loop-step-preserved : goal.loop-step-preserved
loop-step-preserved g c =
    let items = popped c.loop-step.todo.items c.pop.new.self.items c.pop.result c.in-Some.page c.pop.ensures.items c.in-Some.is in
    let x = c.has_page.ensures.0 c.if-not-has_page.false in
    let read : RunsOverPages g.P.Pages (IsMapPage c.args.shape) (IsFreeingPage g.P.Pages c.args.shape c.args.pages.now c.args.self.now) (BreaksFreeing g.P.Pages c.args.shape c.args.pages.now c.args.self.now) c.args.pages.now c.push_children.new.pages None =
    runs_then c.loop-step.invariant.runs c.in_ok-push_children.ensures.runs (λ p there none. absurd none)
    (λ p is. freeing_kind c.loop-step.todo.items c.pop.new.self.items c.in-Some.page c.loop-step.step p c.loop-step.invariant.freeing items is)
    (λ d b. freeing_breaks_node c.loop-step.todo.items c.pop.new.self.items c.in-Some.page c.loop-step.step d c.loop-step.invariant.freeing items b) in
    record {
      freeing = λ owners t h.
          freeing_goes_on owners t c.pop.new.self.items c.in-Some.page c.loop-step.step c.push_children.new.todo.items h
          (subst (λ (l : List ℕ). IsFreeing g.P.Pages c.args.shape c.args.notes.now c.loop-step.notes c.loop-step.pages c.args.self.now owners t l c.loop-step.step) items (c.loop-step.invariant.freeing owners t h))
          c.in_ok-push_children.ensures.runs.works.steady c.push_children.ensures.same c.in_ok-push_children.ensures.notes
          c.in_ok-give_index_page.ensures.gives c.in_ok-give_index_page.ensures.notes c.in_ok-give_index_page.ensures.runs;
      count = c.give_index_page.ensures.count ∙ ap length c.push_children.ensures.same ∙ c.loop-step.invariant.count;
      runs = runs_then read c.in_ok-give_index_page.ensures.runs (λ p there is. freeing_map_page c.in-Some.page p x is)
          (λ p is owners t h. inr (freeing_map_page c.in-Some.page p x is))
          (λ d b. freeing_breaks_map c.loop-step.todo.items c.pop.new.self.items c.in-Some.page c.loop-step.step d c.loop-step.invariant.freeing items
          c.in_ok-push_children.ensures.runs.works.steady c.push_children.ensures.same c.loop-step.invariant.count b);
    }

pub returns-in_default-pop-clause-freed : goal.returns-in_default-pop-clause-freed
returns-in_default-pop-clause-freed g c owners t h =
    let none : c.loop-step.todo.items ≡ [] = none_left c.loop-step.todo.items c.pop-2.result _ _ _ c.pop-2.ensures.cases c.in_default-pop.is (omega (arith, c.loop-step.todo.ok.0)) in
    freeing_ends owners t c.loop-step.step (subst (λ (l : List ℕ). IsFreeing g.P.Pages c.args.shape c.args.notes.now c.loop-step.notes c.loop-step.pages c.args.self.now owners t l c.loop-step.step) none (c.loop-step.invariant.freeing owners t h))

pub returns-clause-runs : goal.returns-clause-runs
returns-clause-runs g c =
    let items = popped c.loop-step.todo.items c.pop-2.new.self.items c.pop-2.result c.in-Some-pop.field-0 c.pop-2.ensures.items c.in-Some-pop.is in
    runs_freeing c.damaged.result c.damaged.ensures c.loop-step.invariant.runs
    (λ owners t h.
    let few = freeing_few owners t c.pop-2.new.self.items c.in-Some-pop.field-0 c.loop-step.step h
    (subst (λ (l : List ℕ). IsFreeing g.P.Pages c.args.shape c.args.notes.now c.loop-step.notes c.loop-step.pages c.args.self.now owners t l c.loop-step.step) items (c.loop-step.invariant.freeing owners t h)) in
    omega (arith, few, c.loop-step-test.false, c.count-count.ensures))
