use Rattle.std.proofs.Common.{None, ◌<◌, ◌+◌, length, take, refl, ap, sym, subst, ◌∙◌, arith, Some}
use Rattle.std.proofs.lemmas.List.{take_all}
use Rattle.std.proofs.lemmas.Option.{slice_get-get_or}
use Rattle.mdc_ast.specs.Definitions.{Definitions}
use Rattle.store_api.proofs.RunsOverPagesLemmas.{runs_exit, runs_memory, runs_more, runs_none, runs_on}
use Rattle.file_check.specs.TreeMarks.{AreMarks}
use Rattle.file_check.specs.TreesJudged.{JudgesPlaces, all_places, places_of_def}
use Rattle.file_check.proofs.JudgedPlacesLemmas.{judges_next_table, judges_no_place}
use Rattle.file_check.proofs.ViewedTreesLemmas.{limits_at, limits_count, trees_judged}
use Rattle.file_check.proofs.trees.judge_trees.Goals as goal

pub returns-in_err-marks-clause-runs : goal.returns-in_err-marks-clause-runs
returns-in_err-marks-clause-runs g c = runs_exit c.from_residual.result c.from_residual.ensures.1 (runs_memory runs_none)

pub loop-def-init : goal.loop-def-init
loop-def-init g c = record {
  marks = subst (λ n. AreMarks n c.in_ok-marks.marks) c.count.ensures c.in_ok-marks.ensures.marks;
  few = omega (arith, c.in_ok-marks.ensures.first);
  none = c.in_ok-marks.ensures.none;
  judged = λ told. judges_no_place (g.P.Pages.state c.args.pages.now).work c.in_ok-marks.marks;
  same = refl;
  going = c.requires.going;
  runs = runs_none;
}

pub judge_trees_of-requires-clause-defined : goal.judge_trees_of-requires-clause-defined
judge_trees_of-requires-clause-defined g c =
    limits_at c.args.defs.now c.loop-def.def-index c.def-item.result c.requires.limits
    (slice_get-get_or c.args.defs.now c.loop-def.def-index c.def-item.result c.loop-def-test.true ∙ ap Some (sym c.def-item.is))

pub judge_trees_of-requires-clause-few : goal.judge_trees_of-requires-clause-few
judge_trees_of-requires-clause-few g c =
    let few : c.loop-def.marks.tree + 14 < 65536 = omega (arith, c.loop-def.invariant.few, c.loop-def-test.true, limits_count c.args.defs.now c.requires.limits) in
    few

pub returns-in_err-here-clause-runs : goal.returns-in_err-here-clause-runs
returns-in_err-here-clause-runs g c =
    runs_exit c.from_residual-in_err-here.result c.from_residual-in_err-here.ensures.1 (runs_more (runs_on c.loop-def.invariant.runs) c.in_err-here.ensures.runs (λ p there is. is) (λ p is. tt))

pub loop-def-preserved : goal.loop-def-preserved
loop-def-preserved g c =
    let inv = c.loop-def.invariant in record {
      marks = subst (λ n. AreMarks n c.judge_trees_of.new.marks) (ap length inv.same) c.judge_trees_of.ensures.marks;
      few = omega (arith, inv.few, c.judge_trees_of.ensures.few);
      none = inv.none;
      judged = λ told.
          subst (λ found. JudgesPlaces (g.P.Pages.state c.args.pages.now).work (all_places (take (c.loop-def.def-index + 1) c.args.defs.now)) c.in_ok-marks.marks c.judge_trees_of.new.marks found) (sym c.lower-broken.ensures)
          (judges_next_table (g.P.Pages.state c.args.pages.now).work c.args.defs.now c.loop-def.def-index c.def-item.result c.in_ok-marks.marks c.loop-def.marks c.judge_trees_of.new.marks c.loop-def.broken c.in_ok-here.here
          (slice_get-get_or c.args.defs.now c.loop-def.def-index c.def-item.result c.loop-def-test.true ∙ ap Some (sym c.def-item.is)) (inv.judged told)
          (subst (λ pages. JudgesPlaces pages (places_of_def c.def-item.result) c.loop-def.marks c.judge_trees_of.new.marks c.in_ok-here.here) inv.same
          (c.in_ok-here.ensures.judged (inv.runs.works.steady.is_told ∙ told))));
      same = c.judge_trees_of.ensures.same ∙ inv.same;
      going = c.in_ok-here.ensures.runs.works.steady.ended ∙ inv.going;
      runs = runs_more {fault = None} inv.runs c.in_ok-here.ensures.runs (λ p there is. is) (λ p is. tt);
    }

pub returns-clause-judged : goal.returns-clause-judged
returns-clause-judged g c told shape owners known =
    let inv = c.loop-def.invariant in
    let judged = subst (λ (defs : Definitions). JudgesPlaces (g.P.Pages.state c.args.pages.now).work (all_places defs) c.in_ok-marks.marks c.loop-def.marks c.loop-def.broken)
    (take_all c.loop-def.def-index c.args.defs.now c.loop-def-test.false) (inv.judged told) in
    trees_judged shape (g.P.Pages.state c.args.pages.now).work owners c.args.defs.now known c.in_ok-marks.marks c.loop-def.marks c.loop-def.broken c.requires.limits inv.marks inv.none judged

pub returns-clause-runs : goal.returns-clause-runs
returns-clause-runs g c = runs_on c.loop-def.invariant.runs
