use Rattle.std.proofs.Common.{◌/◌, length}
use Rattle.std.proofs.lemmas.Result.{IfOk-weaker}
use Rattle.block_lists.proofs.ManyLemmas.{both_halves}
use Rattle.block_lists.proofs.many.+and_all.Goals as goal

pub returns : goal.returns
returns t c =
    IfOk-weaker c.and_lists.result _ _
    (λ all. both_halves (length c.args.members.now / 2) c.args.members.now c.split_at.result.0.now c.split_at.result.1.now c.in_ok-front.front c.in_ok-back.back all
    c.split_at.ensures.front c.split_at.ensures.back c.in_ok-front.ensures c.in_ok-back.ensures)
    c.and_lists.ensures
