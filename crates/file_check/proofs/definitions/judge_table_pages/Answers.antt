use Rattle.std.proofs.Common.{◌≡◌, ◌+◌, ◌∙◌, [], ◌∷◌, ◌++◌, None, Option, ℕ, Some, ap, arith, length, length-append, refl, subst, sym}
use Rattle.store_api.proofs.RunsOverPagesLemmas.{runs_exit, runs_memory, runs_none}
use Rattle.stored_catalog.specs.StoredDefinitions.{IsWithinLimits}
use Rattle.mdc_ast.specs.Definitions.{Definitions}
use Rattle.file_check.specs.TablePagesJudged.{HasOwners, JudgesTablePage}
use Rattle.file_check.proofs.JudgedDefinitionsLemmas.{EachPlace, JudgedSoFar, each_place_more, limits_of_all, no_place, none_judged, one_more_judged, table_pages_judged}
use Rattle.file_check.proofs.RootPagesLemmas.{said_before}
use Rattle.file_check.proofs.UnlessLemmas.{runs_unless}
use Rattle.file_check.proofs.definitions.judge_table_pages.Goals as goal

pub loop-t-init : goal.loop-t-init
loop-t-init g c = record {
  count = ap length c.new-defs.ensures.items;
  limits = subst (EachPlace IsWithinLimits) (sym c.new-defs.ensures.items) (no_place IsWithinLimits);
  judged = λ told owners sound.
      let shape = c.args.shape in
      let pages = (g.P.Pages.state c.args.pages.now).work in
      subst (λ (defs : Definitions). JudgedSoFar shape pages owners 0 defs None) (sym c.new-defs.ensures.items) (none_judged shape pages owners);
  same = refl;
  going = c.requires.going;
  runs = runs_none;
}

pub returns-in_err-page-clause-runs : goal.returns-in_err-page-clause-runs
returns-in_err-page-clause-runs g c =
    runs_exit c.from_residual.result c.from_residual.ensures.1 (runs_unless (HasOwners c.args.shape) c.loop-t.invariant.same c.loop-t.invariant.runs c.in_err-page.ensures.runs)

pub returns-in_err-push-clause-runs : goal.returns-in_err-push-clause-runs
returns-in_err-push-clause-runs g c =
    runs_exit c.from_residual-in_err-push.result c.from_residual-in_err-push.ensures.1 (runs_memory (runs_unless (HasOwners c.args.shape) {fault = None} c.loop-t.invariant.same c.loop-t.invariant.runs c.in_ok-page.ensures.runs))

pub loop-t-preserved : goal.loop-t-preserved
loop-t-preserved g c =
    let inv = c.loop-t.invariant in
    let found = c.in_ok-page.ensures in
    let shape = c.args.shape in
    let old = g.P.Pages.state c.args.pages.now in
    let t = c.loop-t.t in
    let page = c.in_ok-page.page in
    let defs = c.loop-t.defs.items in
    let more : c.push.new.self.items ≡ defs ++ page.def ∷ [] = c.in_ok-push.ensures.items in
    record {
      count = ap length more ∙ omega (arith, inv.count, length-append defs (page.def ∷ []));
      limits = subst (EachPlace IsWithinLimits) (sym more) (each_place_more IsWithinLimits defs t page.def inv.count inv.limits found.limits);
      judged = λ told owners sound.
          let here = said_before g.P.Pages shape (λ pages owners. JudgesTablePage shape pages owners t page) c.args.pages.now c.loop-t.pages inv.runs.works.steady.is_told inv.same found.judged told owners sound in
          subst (λ (all : Definitions). JudgedSoFar shape old.work owners (t + 1) all c.lower-lowest.result) (sym more)
          (subst (λ (page_found : Option ℕ). JudgedSoFar shape old.work owners (t + 1) (defs ++ page.def ∷ []) page_found) (sym c.lower-lowest.ensures)
          (one_more_judged shape old.work owners t defs c.loop-t.lowest page inv.count (inv.judged told owners sound) here));
      same = found.same ∙ inv.same;
      going = found.runs.works.steady.ended ∙ inv.going;
      runs = runs_unless (HasOwners shape) {fault = None} inv.same inv.runs found.runs;
    }

pub returns-in-Some-clause-judged : goal.returns-in-Some-clause-judged
returns-in-Some-clause-judged g c told owners root sound =
    let all : c.loop-t.t ≡ 16 = omega (arith, c.loop-t-test.false, c.loop-t.auto.t-end) in
    table_pages_judged c.args.shape (g.P.Pages.state c.args.pages.now).work owners c.loop-t.t c.loop-t.defs.items c.deref.result.now c.loop-t.lowest c.lowest_shared.result c.lower.result (Some c.in-Some.page) all
    c.loop-t.invariant.count (c.loop-t.invariant.judged told owners sound) c.deref.ensures.value c.lowest_shared.ensures c.lower.ensures c.in-Some.is

pub returns-in-None-clause-judged : goal.returns-in-None-clause-judged
returns-in-None-clause-judged g c told owners root sound =
    let all : c.loop-t.t ≡ 16 = omega (arith, c.loop-t-test.false, c.loop-t.auto.t-end) in
    table_pages_judged c.args.shape (g.P.Pages.state c.args.pages.now).work owners c.loop-t.t c.loop-t.defs.items c.deref.result.now c.loop-t.lowest c.lowest_shared.result c.lower.result None all
    c.loop-t.invariant.count (c.loop-t.invariant.judged told owners sound) c.deref.ensures.value c.lowest_shared.ensures c.lower.ensures c.in-None.is

pub returns-in-None-clause-limits : goal.returns-in-None-clause-limits
returns-in-None-clause-limits g c =
    let all : c.loop-t.t ≡ 16 = omega (arith, c.loop-t-test.false, c.loop-t.auto.t-end) in
    limits_of_all c.loop-t.t c.loop-t.defs.items all c.loop-t.invariant.count c.loop-t.invariant.limits
