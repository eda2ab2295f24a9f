use Rattle.std.proofs.Common.{◌∙◌, ◌∷◌, ◌++◌, [], List, ap, subst, sym, take}
use Rattle.std.proofs.lemmas.List.{take_more}
use Rattle.mdc_ast.specs.declared.row.Row.{Row}
use Rattle.answer_text.specs.Answering.{AreLinesOf}
use Rattle.answer_text.proofs.select.select_lines.Goals as goal

pub loop-row-preserved : goal.loop-row-preserved
loop-row-preserved c =
    let items = c.as_slice-row-items.result.now in
    subst (λ (rows : List Row). AreLinesOf c.args.def.now.columns c.args.query.now rows c.add.new.self)
    (ap (λ (row : Row). take c.loop-row.row-index items ++ row ∷ []) c.row-item.is ∙ sym (take_more items c.loop-row.row-index c.row-item.result c.loop-row-test.true))
    (c.in_ok-add.ensures c.args.def.now.columns c.args.query.now (take c.loop-row.row-index items) c.loop-row.invariant)
