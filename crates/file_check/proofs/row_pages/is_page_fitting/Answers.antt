use Rattle.std.proofs.Common.{◌≡◌, ℕ, List, inl, refl, subst, sym, ◌∙◌, arith}
use Rattle.store_api.specs.StoreState.{page_at}
use Rattle.store_api.proofs.RunsOverPagesLemmas.{runs_exit, runs_memory, runs_none, runs_wider}
use Rattle.file_check.specs.BlocksJudged.{HasRowForm, JudgesRows}
use Rattle.file_check.proofs.BlockHitsLemmas.{row_page_there}
use Rattle.file_check.proofs.FittingRowsLemmas.{judges_page, one_at_hand}
use Rattle.file_check.proofs.row_pages.is_page_fitting.Goals as goal

pub returns-then-p-count-clause-judged : goal.returns-then-p-count-clause-judged
returns-then-p-count-clause-judged g c told =
    inl (λ form.
    let there = row_page_there (g.P.Pages.state c.args.pages.now).work c.args.def.now.columns c.args.p form in
    omega (arith, there, c.if-p-count.true, c.count.ensures))

pub returns-then-p-count-clause-runs : goal.returns-then-p-count-clause-runs
returns-then-p-count-clause-runs g c = runs_none

pub returns-in_err-bring-clause-runs : goal.returns-in_err-bring-clause-runs
returns-in_err-bring-clause-runs g c =
    runs_exit c.from_residual.result c.from_residual.ensures.1 (runs_wider c.in_err-bring.ensures.runs (λ p there mine. mine) (λ p is. tt) (λ damage none. none))

pub returns-in_default-clause-judged : goal.returns-in_default-clause-judged
returns-in_default-clause-judged g c told =
    let work = (g.P.Pages.state c.args.pages.now).work in
    let bytes : List ℕ = page_at work c.args.p in
    let at : c.page.result.now ≡ bytes =
    one_at_hand (g.P.Pages.state c.bring.new.pages).hand c.page.result.now bytes c.page.ensures
    (c.in_ok-bring.ensures.hand bytes (record { is_told = told; within = omega (arith, c.if-p-count.false, c.count.ensures); bytes_are = refl })) in
    inl (λ form.
    let no = c.in_default.ensures.judged.1 (subst (HasRowForm c.args.def.now) (sym at) form) in
    cc)

pub returns-in-Ok-clause-judged : goal.returns-in-Ok-clause-judged
returns-in-Ok-clause-judged g c told =
    let work = (g.P.Pages.state c.args.pages.now).work in
    let bytes : List ℕ = page_at work c.args.p in
    let at : c.page.result.now ≡ bytes =
    one_at_hand (g.P.Pages.state c.bring.new.pages).hand c.page.result.now bytes c.page.ensures
    (c.in_ok-bring.ensures.hand bytes (record { is_told = told; within = omega (arith, c.if-p-count.false, c.count.ensures); bytes_are = refl })) in
    let form : HasRowForm c.args.def.now bytes = subst (HasRowForm c.args.def.now) at (c.in-Some.ensures.judged.0 refl) in
    let rows : JudgesRows c.args.def.now bytes c.in-Ok.fit =
    subst (λ (page : List ℕ). JudgesRows c.args.def.now page c.in-Ok.fit) (c.in-Some.ensures.seen.0 ∙ at) c.in-Ok.ensures in
    judges_page c.args.def.now bytes c.in-Ok.fit form rows

pub returns-in-Err-clause-runs : goal.returns-in-Err-clause-runs
returns-in-Err-clause-runs g c = runs_memory (runs_wider c.in_ok-bring.ensures.runs (λ p there mine. mine) (λ p is. tt) (λ damage none. none))
