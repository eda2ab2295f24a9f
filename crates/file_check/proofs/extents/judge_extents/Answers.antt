use Rattle.std.proofs.Common.{◌≡◌, ◌+◌, ◌-◌, ◌<◌, sym, ap, subst, ◌∙◌, arith, inl, inr, length}
use Rattle.std.proofs.lemmas.Bool.{cases_lt}
use Rattle.store_api.specs.Extents.{map_pages}
use Rattle.store_api.specs.StoreState.{page_at}
use Rattle.store_api.proofs.RunsOverPagesLemmas.{runs_damage, runs_exit, runs_more, runs_none}
use Rattle.mdc_sound.specs.Breaks.{BreaksRule}
use Rattle.mdc_sound.specs.SpaceRules.{IsMapPageSound}
use Rattle.file_check.specs.Judging.{IsLowestBreak}
use Rattle.file_check.specs.MapPagesJudged.{owners_on}
use Rattle.file_check.proofs.BroughtPagesLemmas.{brought_page}
use Rattle.file_check.proofs.MapPagesLemmas.{map_broken, map_holds}
use Rattle.file_check.proofs.extents.judge_extents.Goals as goal

pub returns-then-count-end-clause-runs : goal.returns-then-count-end-clause-runs
returns-then-count-end-clause-runs g c = runs_damage runs_none (λ told root. omega (arith, c.if-count-end.true, c.count-count.ensures, c.first_page-end.ensures, root.count.count))

pub returns-in_err-bring-clause-runs : goal.returns-in_err-bring-clause-runs
returns-in_err-bring-clause-runs g c =
    runs_exit c.from_residual-in_err-bring.result c.from_residual-in_err-bring.ensures.1 (runs_more c.loop-p.invariant.runs c.in_err-bring.ensures.runs (λ p there mine. mine) (λ p is. tt))

pub returns-then-not-is_map_page_sound-clause-judged : goal.returns-then-not-is_map_page_sound-clause-judged
returns-then-not-is_map_page_sound-clause-judged g c = λ told root.
    let inv = c.loop-p.invariant in
    let shape = c.args.shape in
    let pages = (g.P.Pages.state c.args.pages.now).work in
    let p = c.loop-p.p in
    let behind : 17 + (p - 17) ≡ p = omega (arith, c.loop-p.auto.p) in
    let low : p - 17 < map_pages shape.extents = omega (arith, c.loop-p-test.true, c.first_page-end.ensures) in
    let at : page_at pages p ≡ c.page.result.now =
    ap (λ now. page_at now p) (sym inv.same)
    ∙ brought_page g.P.Pages c.loop-p.pages p _ c.page.result.now (inv.runs.works.steady.is_told ∙ told) (omega (arith, c.loop-p-test.true, c.if-count-end.false, c.count-count.ensures, ap length inv.same)) c.in_ok-bring.ensures.hand c.page.ensures in
    subst (IsLowestBreak (BreaksRule shape pages 2)) behind
    (map_broken shape pages (p - 17) low
    (c.is_map_page_sound.ensures.broken c.if-not-is_map_page_sound.true pages root (sym c.count-count.ensures) (c.in_ok-tables.ensures.told told) (ap (page_at pages) behind ∙ at))
    (λ j less. inv.sound told root j (omega (arith, less))))

pub returns-then-not-is_map_page_sound-clause-runs : goal.returns-then-not-is_map_page_sound-clause-runs
returns-then-not-is_map_page_sound-clause-runs g c = runs_more c.loop-p.invariant.runs c.in_ok-bring.ensures.runs (λ p there mine. mine) (λ p is. tt)

pub loop-p-preserved : goal.loop-p-preserved
loop-p-preserved g c =
    let inv = c.loop-p.invariant in
    let shape = c.args.shape in
    let pages = (g.P.Pages.state c.args.pages.now).work in
    let p = c.loop-p.p in
    record {
      sound = λ told root j less. elim (cases_lt (17 + j) p) [
        | inl before ↦ inv.sound told root j before
        | inr late ↦
            let here : p - 17 ≡ j = omega (arith, less, late) in
            let behind : 17 + (p - 17) ≡ p = omega (arith, c.loop-p.auto.p) in
            let at : page_at pages p ≡ c.page.result.now =
            ap (λ now. page_at now p) (sym inv.same)
            ∙ brought_page g.P.Pages c.loop-p.pages p _ c.page.result.now (inv.runs.works.steady.is_told ∙ told) (omega (arith, c.loop-p-test.true, c.if-count-end.false, c.count-count.ensures, ap length inv.same)) c.in_ok-bring.ensures.hand c.page.ensures in
            subst (IsMapPageSound shape pages (owners_on shape pages)) here
            (c.is_map_page_sound.ensures.sound c.if-not-is_map_page_sound.false pages root (sym c.count-count.ensures) (c.in_ok-tables.ensures.told told) (ap (page_at pages) behind ∙ at))
      ];
      same = c.bring.ensures.same ∙ inv.same;
      runs = runs_more inv.runs c.in_ok-bring.ensures.runs (λ p there mine. mine) (λ p is. tt);
    }

pub returns-clause-judged : goal.returns-clause-judged
returns-clause-judged g c = λ told root.
    map_holds c.args.shape (g.P.Pages.state c.args.pages.now).work
    (λ j less. c.loop-p.invariant.sound told root j (omega (arith, less, c.loop-p-test.false, c.first_page-end.ensures)))
