use Rattle.std.proofs.Common.{◌/◌, length}
use Rattle.std.proofs.lemmas.Result.{IfOk-weaker}
use Rattle.block_lists.proofs.ManyLemmas.{either_half}
use Rattle.block_lists.proofs.many.+or_all.Goals as goal

pub returns-in_ok-back-in_default : goal.returns-in_ok-back-in_default
returns-in_ok-back-in_default t c =
    IfOk-weaker c.or_lists-in_default.result _ _
    (λ any. either_half (length c.args.members.now / 2) c.args.members.now c.split_at.result.0.now c.split_at.result.1.now c.in_ok-front-in_default.front c.in_ok-back-in_default.back any
    c.split_at.ensures.front c.split_at.ensures.back c.in_ok-front-in_default.ensures c.in_ok-back-in_default.ensures)
    c.or_lists-in_default.ensures
