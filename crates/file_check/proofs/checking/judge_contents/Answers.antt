use Rattle.std.proofs.Common.{Option, ℕ, subst, sym}
use Rattle.std.specs.Prelude.{IsTrue}
use Rattle.store_api.proofs.RunsOverPagesLemmas.{runs_exit}
use Rattle.mdc_sound.specs.SpaceRules.{DatabaseView}
use Rattle.file_check.specs.Kept.{KeepsBlockMaps}
use Rattle.file_check.specs.Known.{ViewHasBlocks}
use Rattle.file_check.specs.Verdicts.{IsVerdictOf}
use Rattle.file_check.specs.declared.verdict.Verdict.TheVariants.{Broken}
use Rattle.file_check.proofs.RulesInOrderLemmas.{SaysNext, keeps_all, keeps_next, keeps_none_yet, next_broken, rule_at}
use Rattle.file_check.proofs.UnlessLemmas.{runs_undamaged}
use Rattle.file_check.proofs.VerdictsLemmas.{Learns, learns_nothing, learns_on, runs_next}
use Rattle.file_check.proofs.checking.judge_contents.Given.{Over}
use Rattle.file_check.proofs.checking.judge_contents.Goals.{In_ok-found, After-page}
use Rattle.file_check.proofs.checking.judge_contents.Goals as goal

-- the tables are judged
judged : (g : Over) (c : In_ok-found g) → Learns g.P.Pages (KeepsBlockMaps c.args.shape c.args.defs.now) (KeepsBlockMaps c.args.shape c.args.defs.now) c.args.pages.now c.judge_all_tables.new.pages
judged g c = learns_on learns_nothing c.in_ok-found.ensures.runs c.in_ok-found.ensures.same

-- and so is the next rule
says : (g : Over) (c : After-page g) → IsTrue (g.P.Pages.state c.args.pages.now).is_told → SaysNext c.args.shape c.args.defs.now c.loop-rule.rule-index c.page.result (g.P.Pages.state c.args.pages.now).work
says g c told =
    let i = c.loop-rule.rule-index in
    subst (λ (found : Option ℕ). SaysNext c.args.shape c.args.defs.now i found (g.P.Pages.state c.args.pages.now).work) (sym c.page.ensures) (c.in_ok-found.ensures.judged told (rule_at i))

pub returns-in_err-found-clause-runs : goal.returns-in_err-found-clause-runs
returns-in_err-found-clause-runs g c =
    runs_exit c.from_residual.result c.from_residual.ensures.1
    (runs_next {Known = KeepsBlockMaps c.args.shape c.args.defs.now} learns_nothing (λ told. (view : DatabaseView) × ViewHasBlocks c.args.shape told c.args.defs.now view) (λ kept. (kept.view, kept.known)) c.in_err-found.ensures.runs)

pub loop-rule-init : goal.loop-rule-init
loop-rule-init g c told kept = keeps_none_yet c.args.shape (g.P.Pages.state c.args.pages.now).work c.args.defs.now kept

pub returns-in-Some-clause-verdict : goal.returns-in-Some-clause-verdict
returns-in-Some-clause-verdict g c told kept =
    let at = goal.at.returns-in-Some-clause-verdict g c in
    let shape = c.args.shape in
    let defs = c.args.defs.now in
    let work = (g.P.Pages.state c.args.pages.now).work in
    let i = c.loop-rule.rule-index in
    subst (IsVerdictOf shape work) (sym c.broken.ensures)
    (subst (λ number. IsVerdictOf shape work (Broken (record { page = c.in-Some.page; rule = number }))) (sym c.number.ensures)
    (next_broken shape work defs i c.loop-rule-test.true (c.loop-rule.invariant told kept) c.page.result c.in-Some.page c.in-Some.is (says g at.After-page told)))

pub returns-in-Some-clause-runs : goal.returns-in-Some-clause-runs
returns-in-Some-clause-runs g c =
    let at = goal.at.returns-in-Some-clause-runs g c in
    runs_undamaged (KeepsBlockMaps c.args.shape c.args.defs.now) (judged g at.In_ok-found).runs

pub loop-rule-preserved : goal.loop-rule-preserved
loop-rule-preserved g c told kept =
    let at = goal.at.loop-rule-preserved g c in
    keeps_next c.args.shape (g.P.Pages.state c.args.pages.now).work c.args.defs.now c.loop-rule.rule-index c.loop-rule-test.true (c.loop-rule.invariant told kept) c.page.result c.in_default.not-Some
    (says g at.After-page told)

pub returns-clause-verdict : goal.returns-clause-verdict
returns-clause-verdict g c told kept =
    keeps_all c.args.shape (g.P.Pages.state c.args.pages.now).work c.args.defs.now c.loop-rule.rule-index c.loop-rule-test.false c.loop-rule.auto.rule-index-end (c.loop-rule.invariant told kept)

pub returns-clause-runs : goal.returns-clause-runs
returns-clause-runs g c =
    let at = goal.at.returns-clause-runs g c in
    runs_undamaged (KeepsBlockMaps c.args.shape c.args.defs.now) (judged g at.In_ok-found).runs
