use Rattle.std.proofs.Common.{◌≡◌, ◌≤◌, ◌+◌, length, take, false, None}
use Rattle.std.specs.Prelude.{IsTrue}
use Rattle.store_api.specs.Causes.{NoDamage}
use Rattle.store_api.specs.Frame.{NoPage}
use Rattle.store_api.specs.RunsOverPages.{RunsOverPages}
use Rattle.table_trees.specs.TableTrees.{tree_places}
use Rattle.file_check.specs.Looking.{AnyPage}
use Rattle.file_check.specs.TreeMarks.{AreMarks}
use Rattle.file_check.specs.TreesJudged.{JudgesPlaces, most_trees}
use Rattle.file_check.proofs.trees.judge_table.Given as goal

-- the trees so far were judged
abbrev pub invariant-loop-i : goal.invariant-loop-i
invariant-loop-i g l = record {
  ends : l.i-end ≡ length (tree_places l.def);
  at_most : l.i-end ≤ most_trees;
  marks : AreMarks (length (g.P.Pages.state l.fn.pages).work) l.marks;
  few : l.marks.tree ≡ l.fn.marks.tree + l.i;
  judged : IsTrue (g.P.Pages.state l.fn.pages).is_told → JudgesPlaces (g.P.Pages.state l.fn.pages).work (take l.i (tree_places l.def)) l.fn.marks l.marks l.lowest;
  same : (g.P.Pages.state l.pages).work ≡ (g.P.Pages.state l.fn.pages).work;
  going : (g.P.Pages.state l.pages).ended ≡ false;
  runs : RunsOverPages g.P.Pages NoPage AnyPage NoDamage l.fn.pages l.pages None;
}
