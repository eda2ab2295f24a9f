use Rattle.std.proofs.Common.{◌≡◌, ◌+◌, ℕ, List, refl, ap, subst, ◌∙◌, arith, below_more}
use Rattle.store_api.specs.StoreState.{page_at}
use Rattle.store_api.proofs.RunsOverPagesLemmas.{runs_exit, runs_none, runs_then}
use Rattle.mdc_sound.specs.TableRows.{block_page}
use Rattle.file_check.specs.BlocksJudged.{IsFittingPage, JudgesPage}
use Rattle.file_check.proofs.BlockSlotsLemmas.{block_breaks, block_fits}
use Rattle.file_check.proofs.row_pages.judge_rows_of_block.Goals as goal

pub loop-place-init : goal.loop-place-init
loop-place-init g c = record { judged = λ told j low. absurd (omega (arith, low)); same = refl; going = c.requires.going; runs = runs_none }

pub returns-in_err-is_page_fitting-clause-runs : goal.returns-in_err-is_page_fitting-clause-runs
returns-in_err-is_page_fitting-clause-runs g c =
    runs_exit c.from_residual.result c.from_residual.ensures.1
    (runs_then c.loop-place.invariant.runs c.in_err-is_page_fitting.ensures.runs (λ p there mine. mine) (λ p is. tt) (λ damage none. none))

pub returns-then-not-branch-clause-judged : goal.returns-then-not-branch-clause-judged
returns-then-not-branch-clause-judged g c told =
    let inv = c.loop-place.invariant in
    let shape = c.args.shape in
    let work = (g.P.Pages.state c.args.pages.now).work in
    let at : page_at (g.P.Pages.state c.loop-place.pages).work (c.first_page-first.result + c.loop-place.place) ≡ block_page shape work c.args.block c.loop-place.place =
    ap (λ pages. page_at pages (c.first_page-first.result + c.loop-place.place)) inv.same ∙ ap (λ n. page_at work (n + c.loop-place.place)) c.first_page-first.ensures in
    let judged = subst (λ (bytes : List ℕ). JudgesPage c.args.def.now bytes c.in_ok-is_page_fitting.field-0) at (c.in_ok-is_page_fitting.ensures.judged (inv.runs.works.steady.is_told ∙ told)) in
    block_breaks shape work c.args.def.now c.args.block c.loop-place.place (c.first_page-first.result + c.loop-place.place) c.loop-place-test.true
    (ap (λ n. n + c.loop-place.place) c.first_page-first.ensures) (inv.judged told)
    (subst (JudgesPage c.args.def.now (block_page shape work c.args.block c.loop-place.place)) c.if-not-branch.true judged)

pub returns-then-not-branch-clause-runs : goal.returns-then-not-branch-clause-runs
returns-then-not-branch-clause-runs g c =
    runs_then c.loop-place.invariant.runs c.in_ok-is_page_fitting.ensures.runs (λ p there mine. mine) (λ p is. tt) (λ damage none. none)

pub loop-place-preserved : goal.loop-place-preserved
loop-place-preserved g c =
    let inv = c.loop-place.invariant in
    let shape = c.args.shape in
    let work = (g.P.Pages.state c.args.pages.now).work in
    let at : page_at (g.P.Pages.state c.loop-place.pages).work (c.first_page-first.result + c.loop-place.place) ≡ block_page shape work c.args.block c.loop-place.place =
    ap (λ pages. page_at pages (c.first_page-first.result + c.loop-place.place)) inv.same ∙ ap (λ n. page_at work (n + c.loop-place.place)) c.first_page-first.ensures in
    record {
      judged = λ told.
          let judged = subst (λ (bytes : List ℕ). JudgesPage c.args.def.now bytes c.in_ok-is_page_fitting.field-0) at (c.in_ok-is_page_fitting.ensures.judged (inv.runs.works.steady.is_told ∙ told)) in
          below_more (λ j. IsFittingPage c.args.def.now (block_page shape work c.args.block j)) c.loop-place.place (inv.judged told)
          (subst (JudgesPage c.args.def.now (block_page shape work c.args.block c.loop-place.place)) c.if-not-branch.false judged);
      same = c.is_page_fitting.ensures.same ∙ inv.same;
      going = c.in_ok-is_page_fitting.ensures.runs.works.steady.ended ∙ inv.going;
      runs = runs_then inv.runs c.in_ok-is_page_fitting.ensures.runs (λ p there mine. mine) (λ p is. tt) (λ damage none. none);
    }

pub returns-clause-judged : goal.returns-clause-judged
returns-clause-judged g c told =
    block_fits c.args.shape (g.P.Pages.state c.args.pages.now).work c.args.def.now c.args.block c.loop-place.place c.loop-place-test.false (c.loop-place.invariant.judged told)
