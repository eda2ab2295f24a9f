use Rattle.std.proofs.Common.{List, [], ◌++◌, ◌∷◌, ap, sym, ◌∙◌}
use Rattle.mdc_values.specs.declared.value.Value.{Value}
use Rattle.row_groups.specs.Adding.{Numbered, lines_in}
use Rattle.row_groups.specs.Lines.{line_of}
use Rattle.row_groups.specs.Shape.{shape_of}
use Rattle.row_groups.proofs.LineLemmas.{whole_of_none}
use Rattle.row_groups.proofs.joining.lines_of_none.Goals as goal

pub returns : goal.returns
returns c =
    ap lines_in (c.in_ok-push.ensures.items ∙ ap (λ (lines : List Numbered). lines ++ c.in_ok-begin.field-0 ∷ []) c.new-lines.ensures.items)
    ∙ ap (λ (one : Numbered). one.line ∷ []) c.in_ok-begin.ensures ∙ ap (λ (first : List Value). line_of (shape_of c.args.select.now) first [] ∷ []) (c.as_slice.ensures.value ∙ c.new-none.ensures.items)
    ∙ whole_of_none (shape_of c.args.select.now) (sym c.in-AllRows.ensures)
