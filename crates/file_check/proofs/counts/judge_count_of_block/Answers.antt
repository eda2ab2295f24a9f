use Rattle.file_check.proofs.CountsLemmas.{judges_count}
use Rattle.file_check.proofs.counts.judge_count_of_block.Goals as goal

pub returns-then-branch-clause-judged : goal.returns-then-branch-clause-judged
returns-then-branch-clause-judged g c told map_tree has named counts =
    judges_count c.args.shape (g.P.Pages.state c.args.pages.now).work c.args.def.now map_tree c.args.block c.in_ok-is_counted.field-0 c.if-branch.true
    (c.in_ok-is_counted.ensures.judged told map_tree has named counts)
