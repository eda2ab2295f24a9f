use Rattle.std.proofs.Common.{◌+◌, Some, ap, arith, length, subst, sym, take, ◌∙◌}
use Rattle.std.specs.Prelude.{option_map, slice_get}
use Rattle.store_api.proofs.RunsOverPagesLemmas.{runs_exit, runs_then, runs_wider}
use Rattle.mdc_sound.specs.SpaceRules.{tables_there}
use Rattle.table_trees.specs.TableTrees.{map_place}
use Rattle.std.proofs.lemmas.List.{length-map, take_all}
use Rattle.mdc_sound.specs.TableViews.{TableView}
use Rattle.file_check.specs.Judging.{JudgesEach}
use Rattle.file_check.proofs.JudgedMapsLemmas.{MapBreaks, MapSound, def_there, held_still, map_judged, map_unless, maps_judged}
use Rattle.file_check.proofs.JudgingLemmas.{no_table_next, table_next}
use Rattle.file_check.proofs.OwnersShownLemmas.{known_map, space_unless}
use Rattle.file_check.proofs.block_maps.judge_block_maps.Goals as goal

pub returns-in_err-kinds-clause-runs : goal.returns-in_err-kinds-clause-runs
returns-in_err-kinds-clause-runs g c =
    runs_exit c.from_residual.result c.from_residual.ensures.1
    (runs_wider c.in_err-kinds.ensures.runs (λ p there none. none) (λ p is. tt) (space_unless g.P.Pages c.args.pages.now c.args.shape c.args.defs.now))

pub loop-def-preserved-in_default : goal.loop-def-preserved-in_default
loop-def-preserved-in_default g c =
    let inv = c.loop-def.invariant in
    let at = def_there c.args.defs.now c.loop-def.def-index c.def-item.result c.loop-def-test.true c.def-item.is ∙ ap Some c.in_default.is in
    record {
      same = inv.same;
      going = inv.going;
      runs = inv.runs;
      judged = λ told view has. no_table_next (MapSound c.args.shape view) (MapBreaks view) view.places c.loop-def.def-index c.loop-def.lowest (ap (λ ds. slice_get ds c.loop-def.def-index) has.defined ∙ at) (inv.judged told view has);
    }

pub returns-in_err-here-clause-runs : goal.returns-in_err-here-clause-runs
returns-in_err-here-clause-runs g c =
    let inv = c.loop-def.invariant in
    let at = def_there c.args.defs.now c.loop-def.def-index c.def-item.result c.loop-def-test.true c.def-item.is ∙ ap Some c.in-Some.is in
    runs_exit c.from_residual-in_err-here.result c.from_residual-in_err-here.ensures.1
    (runs_then inv.runs c.in_err-here.ensures.runs (λ p there none. none) (λ p is. tt)
    (λ damage breaks. map_unless g.P.Pages c.args.pages.now c.loop-def.pages inv.runs.works.steady.is_told inv.same c.args.shape c.args.defs.now c.loop-def.def-index c.in-Some.def damage at breaks))

pub loop-def-preserved : goal.loop-def-preserved
loop-def-preserved g c =
    let inv = c.loop-def.invariant in
    let i = c.loop-def.def-index in
    let shape = c.args.shape in
    let pages = (g.P.Pages.state c.args.pages.now).work in
    let at = def_there c.args.defs.now i c.def-item.result c.loop-def-test.true c.def-item.is ∙ ap Some c.in-Some.is in
    record {
      same = c.in_ok-here.ensures.same ∙ inv.same;
      going = c.in_ok-here.ensures.runs.works.steady.ended ∙ inv.going;
      runs = runs_then inv.runs c.in_ok-here.ensures.runs (λ p there none. none) (λ p is. tt)
          (λ damage breaks. map_unless g.P.Pages c.args.pages.now c.loop-def.pages inv.runs.works.steady.is_told inv.same shape c.args.defs.now i c.in-Some.def damage at breaks);
      judged = λ told view has.
          subst (JudgesEach (MapSound shape view) (MapBreaks view) (tables_there (take (i + 1) view.places))) (sym c.lower-lowest.ensures)
          (table_next (MapSound shape view) (MapBreaks view) view.places i c.in-Some.def c.loop-def.lowest c.in_ok-here.here (ap (λ ds. slice_get ds i) has.defined ∙ at)
          (λ table stands same.
          map_judged shape pages c.args.defs.now view has i c.deref.result.now c.in-Some.def c.in_ok-here.here table
          (c.deref.ensures.value ∙ c.in_ok-kinds.ensures.kinds view.owners (known_map g.P.Pages c.args.pages.now shape c.args.defs.now view told has))
          (λ t tree. c.in_ok-here.ensures.judged t (held_still g.P.Pages c.args.pages.now c.loop-def.pages inv.runs.works.steady.is_told inv.same (map_place c.in-Some.def) t told tree)) stands same)
          (inv.judged told view has));
    }

pub returns-clause-judged : goal.returns-clause-judged
returns-clause-judged g c told view has =
    let inv = c.loop-def.invariant in
    let many = ap length has.defined in
    maps_judged c.args.shape (g.P.Pages.state c.args.pages.now).work c.args.defs.now view has c.loop-def.lowest
    (subst (λ places. JudgesEach (MapSound c.args.shape view) (MapBreaks view) (tables_there places) c.loop-def.lowest) (take_all c.loop-def.def-index view.places (omega (arith, c.loop-def-test.false, many, length-map view.places (option_map (λ (table : TableView). table.def)))))
    (inv.judged told view has))
