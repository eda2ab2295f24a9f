use Rattle.std.proofs.Common.{sym, subst}
use Rattle.store_api.proofs.RunsOverPagesLemmas.{runs_exit}
use Rattle.file_check.specs.Kept.{KeepsTables, KeepsTrees}
use Rattle.file_check.specs.Verdicts.{IsVerdictOf}
use Rattle.file_check.proofs.VerdictsLemmas.{Learns, learns_next, learns_nothing, runs_judge, runs_next, says_next, verdict_behind}
use Rattle.file_check.proofs.KeptRulesLemmas.{KeepsCounted, SaysTreePages, SaysTrees, SomeTrees, tree_pages_broken, tree_pages_kept, trees_broken, trees_kept}
use Rattle.file_check.proofs.checking.judge_tables.Given.{Over}
use Rattle.file_check.proofs.checking.judge_tables.Goals.{After-deref, In_default-2}
use Rattle.file_check.proofs.checking.judge_tables.Goals as goal

-- the trees stand, and are counted
trees : (g : Over) (c : After-deref g)
    → Learns g.P.Pages (KeepsTables c.args.shape c.args.defs.now) (KeepsCounted c.args.shape c.args.defs.now c.deref.result.now) c.args.pages.now c.judge_trees.new.pages
trees g c =
    let shape = c.args.shape in
    let defs = c.args.defs.now in
    let work = (g.P.Pages.state c.args.pages.now).work in
    let found = c.in_ok-trees.trees.broken in
    let times = c.in_ok-trees.trees.times.items in
    learns_next learns_nothing (SaysTrees defs times found) (KeepsCounted shape defs c.deref.result.now) c.in_ok-trees.ensures.runs c.judge_trees.ensures.same c.in_ok-trees.ensures.judged
    (λ kept says. subst (λ counted. KeepsCounted shape defs counted work) (sym c.deref.ensures.value) (trees_kept shape work found c.in_default.not-Some defs times kept says))

-- and their pages are their own
tree_pages : (g : Over) (c : In_default-2 g)
    → Learns g.P.Pages (KeepsTables c.args.shape c.args.defs.now) (KeepsCounted c.args.shape c.args.defs.now c.deref.result.now) c.args.pages.now c.judge_trees.new.pages
    → Learns g.P.Pages (KeepsTables c.args.shape c.args.defs.now) (KeepsTrees c.args.shape c.args.defs.now) c.args.pages.now c.judge_tree_pages.new.pages
tree_pages g c known =
    let shape = c.args.shape in
    let defs = c.args.defs.now in
    let found = c.in_ok-page.field-0 in
    let times = c.deref.result.now in
    learns_next known (SaysTreePages shape times found) (KeepsTrees shape defs) c.in_ok-page.ensures.runs c.judge_tree_pages.ensures.same c.in_ok-page.ensures.judged
    (tree_pages_kept shape (g.P.Pages.state c.args.pages.now).work found c.in_default-2.not-Some defs times)

pub returns-in-Some-clause-verdict : goal.returns-in-Some-clause-verdict
returns-in-Some-clause-verdict g c told kept =
    let shape = c.args.shape in
    let pages = (g.P.Pages.state c.args.pages.now).work in
    subst (IsVerdictOf shape pages) (sym c.broken.ensures)
    (trees_broken shape pages c.in_ok-trees.trees.broken c.in-Some.page c.in-Some.is c.args.defs.now c.in_ok-trees.trees.times.items kept (c.in_ok-trees.ensures.judged told))

pub returns-in_err-page-clause-runs : goal.returns-in_err-page-clause-runs
returns-in_err-page-clause-runs g c =
    let at = goal.at.returns-in_err-page-clause-runs g c in
    runs_exit c.from_residual-in_err-page.result c.from_residual-in_err-page.ensures.1
    (runs_next (trees g at.After-deref) (SomeTrees c.args.shape) (λ kept. (c.args.defs.now, kept.view, kept.known)) c.in_err-page.ensures.runs)

pub returns-in-Some-2-clause-verdict : goal.returns-in-Some-2-clause-verdict
returns-in-Some-2-clause-verdict g c told kept =
    let at = goal.at.returns-in-Some-2-clause-verdict g c in
    let shape = c.args.shape in
    let pages = (g.P.Pages.state c.args.pages.now).work in
    let found = c.in_ok-page.field-0 in
    let times = c.deref.result.now in
    let says = says_next (trees g at.After-deref) (SaysTreePages shape times found) c.in_ok-page.ensures.judged told kept in
    subst (IsVerdictOf shape pages) (sym c.broken-in-Some-2.ensures) (tree_pages_broken shape pages found c.in-Some-2.page c.in-Some-2.is c.args.defs.now times says.0 says.1)

pub returns-in-Some-2-clause-runs : goal.returns-in-Some-2-clause-runs
returns-in-Some-2-clause-runs g c = runs_judge c.in_ok-trees.ensures.runs c.in_ok-page.ensures.runs

pub returns-clause-verdict : goal.returns-clause-verdict
returns-clause-verdict g c =
    let at = goal.at.returns-clause-verdict g c in
    verdict_behind (tree_pages g at.In_default-2 (trees g at.After-deref)) c.args.shape c.judge_blocks.result c.judge_blocks.ensures.verdict

pub returns-clause-runs : goal.returns-clause-runs
returns-clause-runs g c =
    let at = goal.at.returns-clause-runs g c in
    runs_next (tree_pages g at.In_default-2 (trees g at.After-deref)) (KeepsTrees c.args.shape c.args.defs.now) (λ kept. kept) c.judge_blocks.ensures.runs
