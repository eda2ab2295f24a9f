use Rattle.std.proofs.Common.{◌≡◌, ◌∙◌, List, [], subst}
use Rattle.mdc_ast.specs.declared.bound.BoundOut.{BoundOut}
use Rattle.mdc_ast.specs.declared.definition.KeyPart.{KeyPart}
use Rattle.row_groups.specs.declared.fault.GroupFault.TheVariants.{Memory}
use Rattle.row_groups.specs.Adding.{lines_in}
use Rattle.row_groups.specs.Answers.{AreWide, IsOutgrown, outgrown_sums}
use Rattle.row_groups.specs.Ordering.{IsOrdered}
use Rattle.row_groups.specs.Shape.{shape_of}
use Rattle.row_groups.proofs.LineLemmas.{answered}
use Rattle.row_groups.proofs.SumLemmas.{match_err_as}
use Rattle.row_groups.proofs.closing.answer_of.Goals as goal

pub returns-in_err-closed : goal.returns-in_err-closed
returns-in_err-closed c = λ wide.
    match_err_as c.from_residual.result c.in_err-closed.field-0.0 _ _ c.from_residual.ensures.1
    (subst (λ (outs : List BoundOut). AreWide outs (lines_in c.args.lines.items) → IsOutgrown (outgrown_sums outs (lines_in c.args.lines.items)) c.in_err-closed.field-0.0) c.as_slice.ensures c.in_err-closed.ensures wide)

pub returns-in_err-sort_lines : goal.returns-in_err-sort_lines
returns-in_err-sort_lines c = λ wide. match_err_as c.from_residual-in_err-sort_lines.result Memory _ _ c.from_residual-in_err-sort_lines.ensures.1 tt

pub returns : goal.returns
returns c = λ wide.
    answered (shape_of c.args.select.now) (lines_in c.args.lines.items) c.in_ok-closed.closed.items c.sort_lines.new.lines.items c.from_vec.result
    (subst (λ (outs : List BoundOut). AreWide outs (lines_in c.args.lines.items) → (c.in_ok-closed.closed.items ≡ (lines_in c.args.lines.items)) × (outgrown_sums outs (lines_in c.args.lines.items) ≡ [])) c.as_slice.ensures c.in_ok-closed.ensures wide)
    (subst (λ (parts : List KeyPart). IsOrdered parts c.in_ok-closed.closed.items c.sort_lines.new.lines.items) c.as_slice-2.ensures c.in_ok-sort_lines.ensures)
    (c.from_vec.ensures ∙ c.cut_lines.ensures)
