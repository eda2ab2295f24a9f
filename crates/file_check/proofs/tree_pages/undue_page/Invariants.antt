use Rattle.file_check.specs.TreesJudged.{AreTimesDue}
use Rattle.file_check.proofs.tree_pages.undue_page.Given as goal

abbrev pub invariant-loop-place : goal.invariant-loop-place
invariant-loop-place l = AreTimesDue l.kind l.times l.first l.place
