use Rattle.std.proofs.Common.{List, ap, ◌∙◌}
use Rattle.mdc_ast.specs.declared.bound.BoundOut.{BoundOut}
use Rattle.row_groups.specs.Adding.{Numbered, with_rows}
use Rattle.row_groups.proofs.line_so_far.LineSoFar.of_rows.Goals as goal

pub returns : goal.returns
returns c =
    c.in_ok-add_values.ensures ∙ ap (λ (outs : List BoundOut). record { number = c.in_ok-line.line.number; line = with_rows c.args.count outs c.in_ok-line.line.line c.args.values.now }) c.as_slice.ensures
    ∙ ap (λ (one : Numbered). record { number = one.number; line = with_rows c.args.count c.args.select.now.outs one.line c.args.values.now }) c.in_ok-line.ensures
