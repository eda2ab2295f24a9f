use Rattle.std.proofs.Common.{rules}
use Rattle.std.proofs.lemmas.Fn.{always_returns_same}
use Rattle.row_groups.specs.Adding.{is_numbered_lower}
use Rattle.row_groups.proofs.LineLemmas.{numbers_rank}
use Rattle.row_groups.proofs.OneOrderLemmas.{sorted_as}
use Rattle.row_groups.proofs.ordering.sort_by_number.Goals as goal

pub returns : goal.returns
returns c =
    sorted_as is_numbered_lower numbers_rank c.args.lines.now.items c.sort_by.new.self.items
    (c.in_ok-sort_by.ensures.sorted is_numbered_lower numbers_rank (always_returns_same _ _ _ (λ a r g h. (search rules, search rules))))
    (c.sort_by.ensures.stable is_numbered_lower numbers_rank (always_returns_same _ _ _ (λ a r g h. (search rules, search rules))))
