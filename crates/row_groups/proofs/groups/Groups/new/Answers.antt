use Rattle.std.proofs.Common.{sym, ◌∙◌}
use Rattle.row_groups.specs.Shape.{shape_of}
use Rattle.row_groups.proofs.LineLemmas.{groups_of_none, whole_is_there}
use Rattle.row_groups.proofs.groups.Groups.new.Goals as goal

pub invariant_of-result : goal.invariant_of-result
invariant_of-result c = record {
  same = c.grouping_of.ensures;
  whole = λ is. whole_is_there (shape_of c.args.select.now) c.in_ok-lines.lines.items c.in_ok-lines.ensures (sym c.grouping_of.ensures ∙ is);
}

pub returns-clause-groups : goal.returns-clause-groups
returns-clause-groups c = groups_of_none (shape_of c.args.select.now) c.new.result c.in_ok-lines.lines.items c.new.ensures c.in_ok-lines.ensures
