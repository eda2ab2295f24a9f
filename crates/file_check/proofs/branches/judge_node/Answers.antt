use Rattle.std.proofs.Common.{refl}
use Rattle.node_page.specs.Node.{node_of}
use Rattle.file_check.proofs.PushedBranchesLemmas.{fit-is_node}
use Rattle.file_check.proofs.branches.judge_node.Goals as goal

pub returns-in_default-clause-unfit : goal.returns-in_default-clause-unfit
returns-in_default-clause-unfit c unfit fit =
    let e = c.in_default.ensures.all (node_of c.args.tree.now.width c.args.page.now) (fit-is_node c.args.tree.now.width c.args.tree.now.root c.args.low.now c.args.branch c.args.page.now (node_of c.args.tree.now.width c.args.page.now) refl fit) in
    cc
