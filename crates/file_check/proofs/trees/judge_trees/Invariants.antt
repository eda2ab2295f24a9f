use Rattle.std.proofs.Common.{◌≡◌, ◌≤◌, ◌*◌, ℕ, length, take, false, None}
use Rattle.std.specs.Prelude.{IsTrue}
use Rattle.store_api.specs.Causes.{NoDamage}
use Rattle.store_api.specs.Frame.{NoPage}
use Rattle.store_api.specs.RunsOverPages.{RunsOverPages}
use Rattle.file_check.specs.Looking.{AnyPage}
use Rattle.file_check.specs.TreeMarks.{AreMarks, times_met}
use Rattle.file_check.specs.TreesJudged.{JudgesPlaces, all_places, most_trees}
use Rattle.file_check.proofs.trees.judge_trees.Given as goal

-- the trees of the tables so far were judged
abbrev pub invariant-loop-def : goal.invariant-loop-def
invariant-loop-def g l = record {
  marks : AreMarks (length (g.P.Pages.state l.fn.pages).work) l.marks;
  few : l.marks.tree ≤ most_trees * l.def-index;
  none : (p : ℕ) → times_met l.initial.marks p ≡ 0;
  judged : IsTrue (g.P.Pages.state l.fn.pages).is_told → JudgesPlaces (g.P.Pages.state l.fn.pages).work (all_places (take l.def-index l.defs)) l.initial.marks l.marks l.broken;
  same : (g.P.Pages.state l.pages).work ≡ (g.P.Pages.state l.fn.pages).work;
  going : (g.P.Pages.state l.pages).ended ≡ false;
  runs : RunsOverPages g.P.Pages NoPage AnyPage NoDamage l.fn.pages l.pages None;
}
