use Rattle.std.proofs.Common.{None, arith, get_or, refl, subst, ◌∙◌}
use Rattle.std.specs.Prelude.{MatchBool}
use Rattle.std.specs.List.{All}
use Rattle.std.proofs.lemmas.Bool.{MatchBool-at_false, MatchBool-at_true}
use Rattle.std.proofs.lemmas.List.{take_all}
use Rattle.std.proofs.lemmas.List.Elements.{All-more, Contains-get_or, recursion_from_All}
use Rattle.store_api.proofs.RunsOverPagesLemmas.{runs_exit, runs_none}
use Rattle.file_check.specs.TablePagesJudged.{HasOwners, IsNoRootPage, IsRootPage}
use Rattle.file_check.proofs.RootPagesLemmas.{said_before}
use Rattle.file_check.proofs.UnlessLemmas.{runs_unless}
use Rattle.file_check.proofs.roots.are_root_pages.Goals as goal

pub loop-root-init : goal.loop-root-init
loop-root-init g c = record {
  judged = λ told owners map k d low. absurd (omega (arith, low));
  same = refl;
  going = c.requires.going;
  runs = runs_none;
}

pub returns-in_err-is_root_page-clause-runs : goal.returns-in_err-is_root_page-clause-runs
returns-in_err-is_root_page-clause-runs g c =
    runs_exit c.from_residual.result c.from_residual.ensures.1 (runs_unless (HasOwners c.args.shape) c.loop-root.invariant.same c.loop-root.invariant.runs c.in_err-is_root_page.ensures.runs)

pub returns-then-not-branch-clause-judged : goal.returns-then-not-branch-clause-judged
returns-then-not-branch-clause-judged g c told owners map =
    let p = get_or c.args.roots.now c.loop-root.root-index 0 in
    let shape = c.args.shape in
    let pages = (g.P.Pages.state c.args.pages.now).work in
    let judged = said_before g.P.Pages shape (λ pages owners. MatchBool c.in_ok-is_root_page.field-0 (IsRootPage shape pages owners p) (IsNoRootPage shape pages p)) c.args.pages.now c.loop-root.pages
    c.loop-root.invariant.runs.works.steady.is_told c.loop-root.invariant.same c.in_ok-is_root_page.ensures.judged told owners map in
    (p, Contains-get_or c.args.roots.now c.loop-root.root-index 0 c.loop-root-test.true, MatchBool-at_false (IsRootPage shape pages owners p) (IsNoRootPage shape pages p) c.if-not-branch.true judged)

pub returns-then-not-branch-clause-runs : goal.returns-then-not-branch-clause-runs
returns-then-not-branch-clause-runs g c = runs_unless (HasOwners c.args.shape) c.loop-root.invariant.same c.loop-root.invariant.runs c.in_ok-is_root_page.ensures.runs

pub loop-root-preserved : goal.loop-root-preserved
loop-root-preserved g c =
    let inv = c.loop-root.invariant in
    let found = c.in_ok-is_root_page.ensures in
    let roots = c.args.roots.now in
    let i = c.loop-root.root-index in
    let shape = c.args.shape in
    let pages = (g.P.Pages.state c.args.pages.now).work in
    record {
      judged = λ told owners map.
          let judged = said_before g.P.Pages shape (λ pages owners. MatchBool c.in_ok-is_root_page.field-0 (IsRootPage shape pages owners (get_or roots i 0)) (IsNoRootPage shape pages (get_or roots i 0))) c.args.pages.now c.loop-root.pages
          inv.runs.works.steady.is_told inv.same found.judged told owners map in
          All-more (IsRootPage shape pages owners) roots i 0 c.loop-root-test.true (inv.judged told owners map)
          (MatchBool-at_true (IsRootPage shape pages owners (get_or roots i 0)) (IsNoRootPage shape pages (get_or roots i 0)) c.if-not-branch.false judged);
      same = found.same ∙ inv.same;
      going = found.runs.works.steady.ended ∙ inv.going;
      runs = runs_unless (HasOwners shape) {fault = None} inv.same inv.runs found.runs;
    }

pub returns-clause-judged : goal.returns-clause-judged
returns-clause-judged g c told owners map =
    let P = IsRootPage c.args.shape (g.P.Pages.state c.args.pages.now).work owners in
    recursion_from_All P c.args.roots.now (subst (All P) (take_all c.loop-root.root-index c.args.roots.now c.loop-root-test.false) (c.loop-root.invariant.judged told owners map))
