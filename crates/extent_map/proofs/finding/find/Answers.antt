use Rattle.std.proofs.Common.{◌<◌, ◌∙◌, sym, arith}
use Rattle.store_api.proofs.RunsOverPagesLemmas.{runs_then, runs_exit}
use Rattle.extent_map.proofs.DamagesLemmas.{breaks_space_same}
use Rattle.extent_map.proofs.HoldsMapLemmas.{is_map_page, map_page_at, map_page_same}
use Rattle.extent_map.proofs.SearchesLemmas.{finds_behind, none_found, shown_same}
use Rattle.extent_map.proofs.finding.find.Goals as goal

pub returns-in_err-found-clause-runs : goal.returns-in_err-found-clause-runs
returns-in_err-found-clause-runs g c =
    let so = c.loop-next.invariant in
    let below : c.loop-next.next < c.args.shape.extents = omega arith in
    runs_exit c.from_residual.result c.from_residual.ensures.1
    (runs_then so.runs c.in_err-found.ensures.runs (λ p there none. absurd none) (λ p is. is_map_page c.args.shape c.loop-next.next p below is)
    (λ damage breaks. breaks_space_same damage so.runs.works.steady.is_told so.same breaks))

pub returns-then-is_some-clause-found : goal.returns-then-is_some-clause-found
returns-then-is_some-clause-found g c = λ owners told.
    let so = c.loop-next.invariant in
    let below : c.loop-next.next < c.args.shape.extents = omega arith in
    finds_behind c.args.wanted c.args.shape.extent_pages owners c.args.from c.loop-next.next c.min-end.result c.args.to c.in_ok-found.found
    (sym c.is_some.ensures ∙ c.if-is_some.true) (so.none owners told)
    (c.in_ok-found.ensures.found owners (map_page_same so.runs.works.steady.is_told so.same (map_page_at c.loop-next.next below told)))

pub returns-then-is_some-clause-runs : goal.returns-then-is_some-clause-runs
returns-then-is_some-clause-runs g c =
    let so = c.loop-next.invariant in
    let below : c.loop-next.next < c.args.shape.extents = omega arith in
    runs_then so.runs c.in_ok-found.ensures.runs (λ p there none. absurd none) (λ p is. is_map_page c.args.shape c.loop-next.next p below is)
    (λ damage breaks. breaks_space_same damage so.runs.works.steady.is_told so.same breaks)

pub loop-next-preserved : goal.loop-next-preserved
loop-next-preserved g c =
    let so = c.loop-next.invariant in
    let below : c.loop-next.next < c.args.shape.extents = omega arith in
    record {
      behind = omega arith;
      same = c.find_on_page.ensures.same ∙ so.same;
      none = λ owners told. none_found c.args.wanted c.args.shape.extent_pages owners c.args.from c.loop-next.next c.min-end.result c.in_ok-found.found
          (sym c.is_some.ensures ∙ c.if-is_some.false) (so.none owners told)
          (c.in_ok-found.ensures.found owners (map_page_same so.runs.works.steady.is_told so.same (map_page_at c.loop-next.next below told)));
      runs = runs_then so.runs c.in_ok-found.ensures.runs (λ p there none. absurd none) (λ p is. is_map_page c.args.shape c.loop-next.next p below is)
          (λ damage breaks. breaks_space_same damage so.runs.works.steady.is_told so.same breaks);
    }

pub returns-then-is_some-clause-shown : goal.returns-then-is_some-clause-shown
returns-then-is_some-clause-shown g c =
    let so = c.loop-next.invariant in
    shown_same g.P.Pages c.args.shape c.args.pages.now c.loop-next.pages c.in_ok-found.found so.runs.works.steady.is_told so.same c.in_ok-found.ensures.shown
