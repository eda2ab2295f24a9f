use Rattle.std.proofs.Common.{ap, ◌∙◌}
use Rattle.row_groups.specs.Adding.{is_numbered_lower}
use Rattle.row_groups.specs.Ordering.{ordered}
use Rattle.row_groups.proofs.joining.all_lines.Goals as goal

pub returns : goal.returns
returns c = record {
  others = c.into_lines-others.result.items;
  permuted = c.into_lines-others.ensures.permuted;
  differ = c.into_lines-others.ensures.differ;
  same = c.in_ok-sort_by_number.ensures ∙ ap (ordered is_numbered_lower) c.in_ok-append.ensures.items;
}
