use Rattle.std.proofs.Common.{rules}
use Rattle.std.proofs.lemmas.Fn.{always_returns_same}
use Rattle.row_groups.specs.Ordering.{is_before}
use Rattle.row_groups.proofs.OrderLemmas.{before_ranks}
use Rattle.row_groups.proofs.ordering.sort_lines.Goals as goal

pub returns : goal.returns
returns c = record {
  same = c.sort_by.ensures.permutation;
  rising = c.in_ok-sort_by.ensures.sorted (is_before c.args.parts.now) (before_ranks c.args.parts.now) (always_returns_same _ _ _ (λ a r g h. (search rules, search rules)));
  stable = c.sort_by.ensures.stable (is_before c.args.parts.now) (before_ranks c.args.parts.now) (always_returns_same _ _ _ (λ a r g h. (search rules, search rules)));
}
