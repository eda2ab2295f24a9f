use Rattle.std.proofs.Common.{sym, subst}
use Rattle.std.proofs.lemmas.Result.{IfOk-weaker}
use Rattle.store_api.proofs.RunsOverPagesLemmas.{runs_exit}
use Rattle.mdc_sound.specs.SpaceRules.{IsRootSound}
use Rattle.file_check.specs.Kept.{KeepsTables}
use Rattle.file_check.specs.Verdicts.{IsVerdictOf}
use Rattle.file_check.proofs.VerdictsLemmas.{AnyPages, Learns, learns_next, learns_nothing, runs_judge, runs_next, runs_untold, says_next, verdict_behind}
use Rattle.file_check.proofs.KeptRulesLemmas.{KeepsExtents, KeepsRoot, SaysExtents, SaysRoot, SaysTables, SomeOwners, extents_broken, extents_kept, root_kept, tables_broken, tables_kept}
use Rattle.file_check.proofs.checking.judge_rules.Given.{Over}
use Rattle.file_check.proofs.checking.judge_rules.Goals.{After-deref, In_default, In_default-2}
use Rattle.file_check.proofs.checking.judge_rules.Goals as goal

-- the root page is sound
root : (g : Over) (c : In_default g) → Learns g.P.Pages AnyPages (KeepsRoot c.args.shape) c.args.pages.now c.judge_root.new.pages
root g c =
    let shape = c.args.shape in
    let found = c.in_ok-page.field-0 in
    learns_next learns_nothing (SaysRoot shape found) (KeepsRoot shape) c.in_ok-page.ensures.runs c.judge_root.ensures.same c.in_ok-page.ensures.judged
    (λ any. root_kept shape (g.P.Pages.state c.args.pages.now).work found c.in_default.not-Some)

-- so is the extent map
extents : (g : Over) (c : In_default-2 g) → Learns g.P.Pages AnyPages (KeepsRoot c.args.shape) c.args.pages.now c.judge_root.new.pages
    → Learns g.P.Pages AnyPages (KeepsExtents c.args.shape) c.args.pages.now c.judge_extents.new.pages
extents g c known =
    let shape = c.args.shape in
    let found = c.in_ok-page-2.field-0 in
    learns_next known (SaysExtents shape found) (KeepsExtents shape) c.in_ok-page-2.ensures.runs c.judge_extents.ensures.same c.in_ok-page-2.ensures.judged
    (extents_kept shape (g.P.Pages.state c.args.pages.now).work found c.in_default-2.not-Some)

-- so are the table pages
tables : (g : Over) (c : After-deref g) → Learns g.P.Pages AnyPages (KeepsExtents c.args.shape) c.args.pages.now c.judge_extents.new.pages
    → Learns g.P.Pages AnyPages (KeepsTables c.args.shape c.deref.result.now) c.args.pages.now c.judge_table_pages.new.pages
tables g c known =
    let shape = c.args.shape in
    let work = (g.P.Pages.state c.args.pages.now).work in
    let answer = c.in_ok-page-3.field-0 in
    learns_next known (SaysTables shape answer) (KeepsTables shape c.deref.result.now) c.in_ok-page-3.ensures.runs c.judge_table_pages.ensures.same c.in_ok-page-3.ensures.judged
    (λ kept says. subst (λ defs. KeepsTables shape defs work) (sym c.deref.ensures.value) (tables_kept shape work answer c.in-Sound.defs c.in-Sound.is kept says))

pub returns-in_err-page-2-clause-runs : goal.returns-in_err-page-2-clause-runs
returns-in_err-page-2-clause-runs g c =
    let at = goal.at.returns-in_err-page-2-clause-runs g c in
    runs_exit c.from_residual-in_err-page-2.result c.from_residual-in_err-page-2.ensures.1
    (runs_untold (runs_next (root g at.In_default) (IsRootSound c.args.shape) (λ kept. kept.root) c.in_err-page-2.ensures.runs))

pub returns-in-Some-2-clause-verdict : goal.returns-in-Some-2-clause-verdict
returns-in-Some-2-clause-verdict g c told =
    let at = goal.at.returns-in-Some-2-clause-verdict g c in
    let shape = c.args.shape in
    let pages = (g.P.Pages.state c.args.pages.now).work in
    let found = c.in_ok-page-2.field-0 in
    let says = says_next (root g at.In_default) (SaysExtents shape found) c.in_ok-page-2.ensures.judged told tt in
    subst (IsVerdictOf shape pages) (sym c.broken-in-Some-2.ensures) (extents_broken shape pages found c.in-Some-2.page c.in-Some-2.is says.0 says.1)

pub returns-in-Some-2-clause-runs : goal.returns-in-Some-2-clause-runs
returns-in-Some-2-clause-runs g c = runs_judge c.in_ok-page.ensures.runs c.in_ok-page-2.ensures.runs

pub returns-in_err-page-3-clause-runs : goal.returns-in_err-page-3-clause-runs
returns-in_err-page-3-clause-runs g c =
    let at = goal.at.returns-in_err-page-3-clause-runs g c in
    runs_exit c.from_residual-in_err-page-3.result c.from_residual-in_err-page-3.ensures.1
    (runs_untold (runs_next (extents g at.In_default-2 (root g at.In_default)) (SomeOwners c.args.shape) (λ kept. (kept.root, kept.owners, kept.map)) c.in_err-page-3.ensures.runs))

pub returns-in-Broken-clause-verdict : goal.returns-in-Broken-clause-verdict
returns-in-Broken-clause-verdict g c told =
    let at = goal.at.returns-in-Broken-clause-verdict g c in
    let shape = c.args.shape in
    let pages = (g.P.Pages.state c.args.pages.now).work in
    let answer = c.in_ok-page-3.field-0 in
    let says = says_next (extents g at.In_default-2 (root g at.In_default)) (SaysTables shape answer) c.in_ok-page-3.ensures.judged told tt in
    subst (IsVerdictOf shape pages) (sym c.broken-in-Broken.ensures) (tables_broken shape pages answer c.in-Broken.page c.in-Broken.is says.0 says.1)

pub returns-in-Broken-clause-runs : goal.returns-in-Broken-clause-runs
returns-in-Broken-clause-runs g c =
    let at = goal.at.returns-in-Broken-clause-runs g c in
    runs_judge (extents g at.In_default-2 (root g at.In_default)).runs c.in_ok-page-3.ensures.runs

pub returns-in-Sound-clause-verdict : goal.returns-in-Sound-clause-verdict
returns-in-Sound-clause-verdict g c =
    let at = goal.at.returns-in-Sound-clause-verdict g c in
    IfOk-weaker c.judge_tables.result _ _ (λ verdict is told. is told tt)
    (verdict_behind (tables g at.After-deref (extents g at.In_default-2 (root g at.In_default))) c.args.shape c.judge_tables.result c.judge_tables.ensures.verdict)

pub returns-in-Sound-clause-runs : goal.returns-in-Sound-clause-runs
returns-in-Sound-clause-runs g c =
    let at = goal.at.returns-in-Sound-clause-runs g c in
    runs_untold (runs_next (tables g at.After-deref (extents g at.In_default-2 (root g at.In_default))) (KeepsTables c.args.shape c.deref.result.now) (λ kept. kept) c.judge_tables.ensures.runs)
