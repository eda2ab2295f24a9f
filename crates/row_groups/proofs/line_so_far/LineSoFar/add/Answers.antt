use Rattle.std.proofs.Common.{List, ap, ◌∙◌}
use Rattle.std.proofs.lemmas.Result.{on_ok_weaker}
use Rattle.mdc_ast.specs.declared.bound.BoundOut.{BoundOut}
use Rattle.row_groups.specs.Adding.{Numbered, with_rows}
use Rattle.row_groups.specs.Shape.{shape_of}
use Rattle.row_groups.proofs.ShownLemmas.{joined_before, joined_behind}
use Rattle.row_groups.proofs.line_so_far.LineSoFar.add.Goals as goal

pub returns-then-number-self : goal.returns-then-number-self
returns-then-number-self c =
    on_ok_weaker c.begin_with.result
    (joined_before (shape_of c.args.select.now) c.args.count c.args.self.now c.add_values.new.self c.begin_with.new.self (record { number = c.args.number; values = c.args.values.now }) c.self.inside.number
    (c.in_ok-add_values.ensures ∙ ap (λ (outs : List BoundOut). record { number = c.args.self.now.number; line = with_rows c.args.count outs c.args.self.now.line c.args.values.now }) c.as_slice.ensures)
    (ap (λ (one : Numbered). one.number) c.self.view_is) c.if-number-self.true)
    c.begin_with.ensures

pub returns : goal.returns
returns c =
    joined_behind (shape_of c.args.select.now) c.args.count c.args.self.now c.add_values.new.self (record { number = c.args.number; values = c.args.values.now }) c.self.inside.number
    (c.in_ok-add_values.ensures ∙ ap (λ (outs : List BoundOut). record { number = c.args.self.now.number; line = with_rows c.args.count outs c.args.self.now.line c.args.values.now }) c.as_slice.ensures)
    (ap (λ (one : Numbered). one.number) c.self.view_is) c.if-number-self.false
