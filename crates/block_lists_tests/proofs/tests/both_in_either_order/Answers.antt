use Rattle.std.proofs.Common.{◌∙◌, sym}
use Rattle.std.proofs.Math.Bool.{and_comm}
use Rattle.block_lists.specs.Lists.{holds}
use Rattle.block_lists_tests.proofs.tests.both_in_either_order.Goals as goal

pub returns : goal.returns
returns c =
    c.same_rows_same_lists.ensures (λ rid. c.in_ok-both.ensures.rows rid ∙ and_comm (holds c.args.a.now rid) (holds c.args.b.now rid) ∙ sym (c.in_ok-turned.ensures.rows rid))
