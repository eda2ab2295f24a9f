use Rattle.std.proofs.Common.{◌∷◌, [], ◌++◌, None, ◌≡◌, ℕ, List, length, refl, sym, ◌∙◌, subst, arith}
use Rattle.std.specs.Prelude.{IsTrue}
use Rattle.store_api.specs.StoreState.{page_at}
use Rattle.store_api.proofs.RunsOverPagesLemmas.{runs_exit, runs_memory, runs_more, runs_none}
use Rattle.node_page.specs.Node.{node_of}
use Rattle.table_trees.specs.TableTrees.{place_of_tree}
use Rattle.file_check.specs.declared.branches.Branch.{Branch}
use Rattle.file_check.specs.Branches.{GoesOnBehind, IsFitNode}
use Rattle.file_check.proofs.TreeMarksLemmas.{are_marks-begun, are_marks-more, counted-begun, counted-more, earlier-begun, next-begun, unmet-falls}
use Rattle.file_check.proofs.TreeWalksLemmas.{is_held, is_lent, nothing_left, walk_begins, walk_ends, walk_goes_on, walk_refused, walk_unfit}
use Rattle.file_check.proofs.tree_walk.judge_tree.Goals as goal

pub returns-in_err-push-clause-runs : goal.returns-in_err-push-clause-runs
returns-in_err-push-clause-runs g c = runs_exit c.from_residual.result c.from_residual.ensures.1 (runs_memory runs_none)

pub loop-branch-init : goal.loop-branch-init
loop-branch-init g c = record {
  marks = are_marks-begun (length (g.P.Pages.state c.args.pages.now).work) c.args.marks.now c.begin.new.self c.begin.ensures c.requires.marks;
  next = next-begun (length (g.P.Pages.state c.args.pages.now).work) c.args.marks.now c.begin.new.self c.begin.ensures c.requires.marks;
  counted = counted-begun (length (g.P.Pages.state c.args.pages.now).work) c.args.marks.now c.begin.new.self c.begin.ensures c.requires.marks;
  walks = λ told. walk_begins (g.P.Pages.state c.args.pages.now).work (place_of_tree c.args.tree.now) c.begin.new.self c.push.new.self.items
      (earlier-begun (length (g.P.Pages.state c.args.pages.now).work) c.args.marks.now c.begin.new.self c.begin.ensures c.requires.marks)
      (subst (λ (bs : List Branch). c.push.new.self.items ≡ bs ++ record { page = c.args.tree.now.root; high = None } ∷ []) c.new-left.ensures.items c.in_ok-push.ensures.items);
  same = refl;
  going = c.requires.going;
  runs = runs_none;
}

pub returns-then-not-meet-clause-lacks : goal.returns-then-not-meet-clause-lacks
returns-then-not-meet-clause-lacks g c lacks told =
    walk_refused (g.P.Pages.state c.args.pages.now).work (place_of_tree c.args.tree.now) c.loop-branch.marks c.loop-branch.low c.loop-branch.left.items c.pop.new.self.items c.in-Some.branch
    (c.loop-branch.invariant.walks told) c.in-Some.ensures.items c.loop-branch.invariant.marks (c.meet.ensures.refused (cc))

pub returns-in_err-bring-clause-runs : goal.returns-in_err-bring-clause-runs
returns-in_err-bring-clause-runs g c =
    runs_exit c.from_residual-in_err-bring.result c.from_residual-in_err-bring.ensures.1 (runs_more c.loop-branch.invariant.runs c.in_err-bring.ensures.runs (λ p there is. is) (λ p is. tt))

pub returns-in_err-judge_node-clause-runs : goal.returns-in_err-judge_node-clause-runs
returns-in_err-judge_node-clause-runs g c =
    runs_exit c.from_residual-in_err-judge_node.result c.from_residual-in_err-judge_node.ensures.1
    (runs_memory (runs_more c.loop-branch.invariant.runs c.in_ok-bring.ensures.runs (λ p there is. is) (λ p is. tt)))

pub returns-then-not-branch-clause-lacks : goal.returns-then-not-branch-clause-lacks
returns-then-not-branch-clause-lacks g c lacks told =
    let inv = c.loop-branch.invariant in
    let meets = c.meet.ensures.meets (cc) in
    let lent : c.page.result.now ≡ page_at (g.P.Pages.state c.args.pages.now).work c.in-Some.branch.page =
    is_lent (g.P.Pages.state c.bring.new.pages).hand
    (c.in_ok-bring.ensures.hand (page_at (g.P.Pages.state c.args.pages.now).work c.in-Some.branch.page)
    (is_held g.P.Pages c.args.pages.now c.loop-branch.pages c.in-Some.branch.page told inv.runs.works.steady.is_told inv.same (omega (arith, meets.within, inv.marks.last))))
    c.page.ensures in
    walk_unfit (g.P.Pages.state c.args.pages.now).work (place_of_tree c.args.tree.now) c.loop-branch.marks c.loop-branch.low c.loop-branch.left.items c.pop.new.self.items c.in-Some.branch
    (c.loop-branch.invariant.walks told) c.in-Some.ensures.items
    (λ fit. c.in_ok-judge_node.ensures.unfit (cc) (subst (λ (bytes : List ℕ). IsFitNode c.args.tree.now.root c.loop-branch.low c.in-Some.branch (node_of c.args.tree.now.width bytes)) (sym lent) fit))

pub returns-then-not-branch-clause-runs : goal.returns-then-not-branch-clause-runs
returns-then-not-branch-clause-runs g c = runs_more c.loop-branch.invariant.runs c.in_ok-bring.ensures.runs (λ p there is. is) (λ p is. tt)

pub loop-branch-preserved : goal.loop-branch-preserved
loop-branch-preserved g c =
    let inv = c.loop-branch.invariant in
    let meets = c.meet.ensures.meets (cc) in
    let lent : IsTrue (g.P.Pages.state c.args.pages.now).is_told → c.page.result.now ≡ page_at (g.P.Pages.state c.args.pages.now).work c.in-Some.branch.page =
    λ told. is_lent (g.P.Pages.state c.bring.new.pages).hand
    (c.in_ok-bring.ensures.hand (page_at (g.P.Pages.state c.args.pages.now).work c.in-Some.branch.page)
    (is_held g.P.Pages c.args.pages.now c.loop-branch.pages c.in-Some.branch.page told inv.runs.works.steady.is_told inv.same (omega (arith, meets.within, inv.marks.last))))
    c.page.ensures in
    record {
      marks = are_marks-more c.in-Some.branch.page c.loop-branch.marks c.meet.new.self meets (length (g.P.Pages.state c.args.pages.now).work) inv.marks;
      next = meets.tree ∙ inv.next;
      counted = counted-more c.in-Some.branch.page c.loop-branch.marks c.meet.new.self meets (length (g.P.Pages.state c.args.pages.now).work) c.args.marks.now inv.marks inv.counted;
      walks = λ told.
          walk_goes_on (g.P.Pages.state c.args.pages.now).work (place_of_tree c.args.tree.now) c.loop-branch.marks c.meet.new.self c.loop-branch.low c.judge_node.new.low c.loop-branch.left.items c.pop.new.self.items
          c.judge_node.new.left.items c.in-Some.branch (inv.walks told) c.in-Some.ensures.items meets
          (subst (λ (bytes : List ℕ). IsFitNode c.args.tree.now.root c.loop-branch.low c.in-Some.branch (node_of c.args.tree.now.width bytes)) (lent told) (c.in_ok-judge_node.ensures.fit (cc)))
          (subst (λ (bytes : List ℕ). GoesOnBehind c.in-Some.branch (node_of c.args.tree.now.width bytes) c.loop-branch.low c.pop.new.self.items c.judge_node.new.low c.judge_node.new.left.items) (lent told) (c.in_ok-judge_node.ensures.behind (cc)));
      same = c.bring.ensures.same ∙ inv.same;
      going = c.in_ok-bring.ensures.runs.works.steady.ended ∙ inv.going;
      runs = runs_more {fault = None} inv.runs c.in_ok-bring.ensures.runs (λ p there is. is) (λ p is. tt);
    }

pub loop-branch-smaller : goal.loop-branch-smaller
loop-branch-smaller g c = let h = c.meet.ensures.meets (cc) in unmet-falls c.in-Some.branch.page c.loop-branch.marks c.meet.new.self h

pub returns-clause-stands : goal.returns-clause-stands
returns-clause-stands g c stands told =
    walk_ends (g.P.Pages.state c.args.pages.now).work (place_of_tree c.args.tree.now) c.args.marks.now c.loop-branch.marks c.loop-branch.low c.loop-branch.left.items (c.loop-branch.invariant.walks told)
    (nothing_left c.loop-branch.left.items (λ some. c.in_default.ensures.variant.1 (omega (arith, some, c.loop-branch.left.ok.0)))) c.loop-branch.invariant.counted
