use Rattle.table_trees.specs.TableTrees.{place_of_tree}
use Rattle.file_check.proofs.JudgedPlacesLemmas.{judges_lacking, judges_standing}
use Rattle.file_check.proofs.trees.judge_place.Goals as goal

pub returns-then-branch-clause-judged : goal.returns-then-branch-clause-judged
returns-then-branch-clause-judged g c told =
    judges_standing (g.P.Pages.state c.args.pages.now).work (place_of_tree c.args.tree.now) c.args.marks.now c.judge_tree.new.marks (c.in_ok-judge_tree.ensures.stands c.if-branch.true told)

pub returns-clause-judged : goal.returns-clause-judged
returns-clause-judged g c told =
    judges_lacking (g.P.Pages.state c.args.pages.now).work (place_of_tree c.args.tree.now) c.args.marks.now c.judge_tree.new.marks (c.in_ok-judge_tree.ensures.lacks c.if-branch.false told)
