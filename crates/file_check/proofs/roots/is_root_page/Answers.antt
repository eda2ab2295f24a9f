use Rattle.store_api.proofs.RunsOverPagesLemmas.{runs_exit, runs_none, runs_wider}
use Rattle.file_check.proofs.RootPagesLemmas.{root_page_judged, space_unbroken}
use Rattle.file_check.proofs.roots.is_root_page.Goals as goal

pub returns-then-not-has_page-clause-runs : goal.returns-then-not-has_page-clause-runs
returns-then-not-has_page-clause-runs g c = runs_none

pub returns-in_err-kind-clause-runs : goal.returns-in_err-kind-clause-runs
returns-in_err-kind-clause-runs g c =
    runs_exit c.from_residual.result c.from_residual.ensures.1
    (runs_wider c.in_err-kind.ensures.runs (λ p there mine. mine) (λ p kind. tt) (space_unbroken g.P.Pages c.args.shape c.args.pages.now))

pub returns-clause-judged : goal.returns-clause-judged
returns-clause-judged g c told owners map =
    root_page_judged g.P.Pages c.args.shape c.args.pages.now owners c.args.p c.extent_of.result c.in_ok-kind.kind c.is_index_kind.result told map (c.has_page.ensures.0 c.if-not-has_page.false) c.extent_of.ensures.value c.extent_of.ensures.below
    c.in_ok-kind.ensures.shown c.is_index_kind.ensures

pub returns-clause-runs : goal.returns-clause-runs
returns-clause-runs g c = runs_wider c.in_ok-kind.ensures.runs (λ p there mine. mine) (λ p kind. tt) (space_unbroken g.P.Pages c.args.shape c.args.pages.now)
