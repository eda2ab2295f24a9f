use Rattle.std.proofs.Common.{List, ap, ◌∙◌}
use Rattle.std.proofs.lemmas.Result.{on_ok_weaker}
use Rattle.mdc_ast.specs.declared.bound.BoundOut.{BoundOut}
use Rattle.row_groups.specs.Adding.{Numbered, with_rows}
use Rattle.row_groups.proofs.LineLemmas.{one_changed}
use Rattle.row_groups.proofs.joining.add_to_whole.Goals as goal

pub returns-clause-added : goal.returns-clause-added
returns-clause-added c = λ line one.
    on_ok_weaker c.add_values.result
    (λ made. one_changed (with_rows c.args.count c.args.select.now.outs) line c.args.values.now c.args.lines.now.items c.index_mut.result.now c.add_values.new.self one c.index_mut.ensures.value
    (ap (λ (o : Numbered). o.line) made ∙ ap (λ (outs : List BoundOut). with_rows c.args.count outs c.index_mut.result.now.line c.args.values.now) c.as_slice.ensures))
    c.add_values.ensures
