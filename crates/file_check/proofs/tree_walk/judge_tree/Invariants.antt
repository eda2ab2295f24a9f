use Rattle.std.proofs.Common.{◌≡◌, ◌+◌, ℕ, length, false, None}
use Rattle.std.specs.Prelude.{IsTrue}
use Rattle.store_api.specs.Causes.{NoDamage}
use Rattle.store_api.specs.Frame.{NoPage}
use Rattle.store_api.specs.RunsOverPages.{RunsOverPages}
use Rattle.table_trees.specs.TableTrees.{place_of_tree}
use Rattle.file_check.specs.Looking.{AnyPage}
use Rattle.file_check.specs.TreeMarks.{AreMarks, met_here, times_met}
use Rattle.file_check.proofs.TreeMarksLemmas.{unmet}
use Rattle.file_check.proofs.TreeWalksLemmas.{Walks}
use Rattle.file_check.proofs.tree_walk.judge_tree.Given as goal

-- the pages of the tree are those that were met and those of the branches that are left
abbrev pub invariant-loop-branch : goal.invariant-loop-branch
invariant-loop-branch g l = record {
  marks : AreMarks (length (g.P.Pages.state l.fn.pages).work) l.marks;
  next : l.marks.tree ≡ l.fn.marks.tree + 1;
  counted : (p : ℕ) → times_met l.marks p ≡ times_met l.fn.marks p + met_here l.marks p;
  walks : IsTrue (g.P.Pages.state l.fn.pages).is_told → Walks (g.P.Pages.state l.fn.pages).work (place_of_tree l.tree) l.marks l.low l.left.items;
  same : (g.P.Pages.state l.pages).work ≡ (g.P.Pages.state l.fn.pages).work;
  going : (g.P.Pages.state l.pages).ended ≡ false;
  runs : RunsOverPages g.P.Pages NoPage AnyPage NoDamage l.fn.pages l.pages None;
}

abbrev pub decreases-loop-branch : goal.decreases-loop-branch
decreases-loop-branch g l = unmet l.marks
