use Rattle.std.proofs.Common.{None, ◌≤◌, ◌+◌, List, length, take, refl, ap, sym, subst, ◌∙◌, arith, ◌∷◌, []}
use Rattle.std.proofs.lemmas.List.{take_all}
use Rattle.store_api.proofs.RunsOverPagesLemmas.{runs_exit, runs_more, runs_none}
use Rattle.table_trees.specs.TableTrees.{TreePlace, place_of_tree, tree_places}
use Rattle.file_check.specs.TreeMarks.{AreMarks}
use Rattle.file_check.specs.TreesJudged.{JudgesPlaces}
use Rattle.file_check.proofs.JudgedPlacesLemmas.{judges_next_place, judges_no_place}
use Rattle.file_check.proofs.trees.judge_table.Goals as goal

pub loop-i-init : goal.loop-i-init
loop-i-init g c = record {
  ends = c.tree_count-i-end.ensures.count;
  at_most = c.tree_count-i-end.ensures.few;
  marks = c.requires.marks;
  few = omega arith;
  judged = λ told. judges_no_place (g.P.Pages.state c.args.pages.now).work c.args.marks.now;
  same = refl;
  going = c.requires.going;
  runs = runs_none;
}

pub returns-in_err-here-clause-runs : goal.returns-in_err-here-clause-runs
returns-in_err-here-clause-runs g c =
    runs_exit c.from_residual.result c.from_residual.ensures.1 (runs_more c.loop-i.invariant.runs c.in_err-here.ensures.runs (λ p there is. is) (λ p is. tt))

pub loop-i-preserved : goal.loop-i-preserved
loop-i-preserved g c =
    let inv = c.loop-i.invariant in record {
      ends = inv.ends;
      at_most = inv.at_most;
      marks = subst (λ n. AreMarks n c.judge_place.new.marks) (ap length inv.same) c.judge_place.ensures.marks;
      few = omega (arith, inv.few, c.judge_place.ensures.next);
      judged = λ told.
          subst (λ found. JudgesPlaces (g.P.Pages.state c.args.pages.now).work (take (c.loop-i.i + 1) (tree_places c.args.def.now)) c.args.marks.now c.judge_place.new.marks found) (sym c.lower-lowest.ensures)
          (judges_next_place (g.P.Pages.state c.args.pages.now).work (tree_places c.args.def.now) c.loop-i.i (place_of_tree c.tree_of-tree.result) c.args.marks.now c.loop-i.marks c.judge_place.new.marks c.loop-i.lowest c.in_ok-here.here
          c.tree_of-tree.ensures (inv.judged told)
          (subst (λ pages. JudgesPlaces pages (place_of_tree c.tree_of-tree.result ∷ []) c.loop-i.marks c.judge_place.new.marks c.in_ok-here.here) inv.same
          (c.in_ok-here.ensures.judged (inv.runs.works.steady.is_told ∙ told))));
      same = c.judge_place.ensures.same ∙ inv.same;
      going = c.in_ok-here.ensures.runs.works.steady.ended ∙ inv.going;
      runs = runs_more {fault = None} inv.runs c.in_ok-here.ensures.runs (λ p there is. is) (λ p is. tt);
    }

pub returns-clause-judged : goal.returns-clause-judged
returns-clause-judged g c told =
    let inv = c.loop-i.invariant in
    let all : length (tree_places c.args.def.now) ≤ c.loop-i.i = omega (arith, c.loop-i-test.false, inv.ends) in
    subst (λ (places : List TreePlace). JudgesPlaces (g.P.Pages.state c.args.pages.now).work places c.args.marks.now c.loop-i.marks c.loop-i.lowest) (take_all c.loop-i.i (tree_places c.args.def.now) all) (inv.judged told)
