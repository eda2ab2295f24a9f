use Rattle.std.proofs.Common.{◌≡◌, sym, ◌∙◌, refl, arith}
use Rattle.std.proofs.lemmas.Option.{same_Some}
use Rattle.store_api.specs.StoreState.{page_at}
use Rattle.store_api.proofs.RunsOverPagesLemmas.{runs_exit, runs_more, runs_none}
use Rattle.file_check.proofs.RootPageLemmas.{none_breaks}
use Rattle.file_check.proofs.root.judge_root.Goals as goal

pub returns-then-count-eq0-clause-judged : goal.returns-then-count-eq0-clause-judged
returns-then-count-eq0-clause-judged g c = λ told.
    none_breaks c.args.shape (g.P.Pages.state c.args.pages.now).work (omega (arith, c.if-count-eq0.true, c.count-count.ensures))

pub returns-then-count-eq0-clause-runs : goal.returns-then-count-eq0-clause-runs
returns-then-count-eq0-clause-runs g c = runs_none

pub returns-in_err-bring-clause-runs : goal.returns-in_err-bring-clause-runs
returns-in_err-bring-clause-runs g c = runs_exit c.from_residual.result c.from_residual.ensures.1 (runs_more runs_none c.in_err-bring.ensures.runs (λ p there mine. mine) (λ p is. tt))

pub returns-clause-judged : goal.returns-clause-judged
returns-clause-judged g c = λ told.
    let pages = (g.P.Pages.state c.args.pages.now).work in
    let page : page_at pages 0 ≡ c.page.result.now =
    same_Some (page_at pages 0) c.page.result.now
    (sym (c.in_ok-bring.ensures.hand (page_at pages 0) (record { is_told = told; within = omega (arith, c.if-count-eq0.false, c.count-count.ensures); bytes_are = refl })) ∙ c.page.ensures) in
    c.judge_root_page.ensures pages (sym c.count-count.ensures) page

pub returns-clause-runs : goal.returns-clause-runs
returns-clause-runs g c = runs_more runs_none c.in_ok-bring.ensures.runs (λ p there mine. mine) (λ p is. tt)
