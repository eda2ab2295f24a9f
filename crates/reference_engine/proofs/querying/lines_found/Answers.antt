use Rattle.std.proofs.Common.{◌∙◌, List, subst, sym, take}
use Rattle.std.specs.Prelude.{filter}
use Rattle.mdc_ast.specs.Truth.{qualifies}
use Rattle.mdc_ast.specs.declared.row.Row.{Row}
use Rattle.answer_text.specs.Answering.{AreLinesOf}
use Rattle.reference_engine.proofs.FoundRows.{filter_take-more, filter_take-same}
use Rattle.reference_engine.proofs.querying.lines_found.Goals as goal
use Rattle.reference_engine.proofs.querying.lines_found.Goals.{then-qualifies+in_ok-add, else-qualifies}

pub loop-row-preserved : goal.loop-row-preserved
loop-row-preserved c =
    let test = λ (row : Row). qualifies c.args.select.now.pred row.values in
    let so_far = filter test (take c.loop-row.row-index c.args.rows.now) in
    elim c.if-qualifies.branch [
      | then-qualifies+in_ok-add w ↦
          subst (AreLinesOf c.args.columns.now c.args.select.now _) (sym w.lines-is)
          (subst (λ (rows : List Row). AreLinesOf c.args.columns.now c.args.select.now rows w.add.new.self)
          (sym (filter_take-more test c.args.rows.now c.loop-row.row-index c.row-item.result c.loop-row-test.true c.row-item.is (sym c.qualifies.ensures ∙ w.if-qualifies.true)))
          (w.in_ok-add.ensures c.args.columns.now c.args.select.now so_far c.loop-row.invariant))
      | else-qualifies w ↦
          subst (AreLinesOf c.args.columns.now c.args.select.now _) (sym w.lines-is)
          (subst (λ (rows : List Row). AreLinesOf c.args.columns.now c.args.select.now rows c.loop-row.lines)
          (sym (filter_take-same test c.args.rows.now c.loop-row.row-index c.row-item.result c.loop-row-test.true c.row-item.is (sym c.qualifies.ensures ∙ w.if-qualifies.false)))
          c.loop-row.invariant)
    ]
