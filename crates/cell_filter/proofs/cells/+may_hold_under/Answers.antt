-- What is known of the parts is known of the whole.
use Rattle.std.proofs.Common.{◌∙◌, Bool, ap, map, not, sym}
use Rattle.std.specs.Prelude.{flat_map}
use Rattle.mdc_ast.specs.declared.predicate.Pred.{Pred}
use Rattle.cell_filter.specs.Cells.{joined_by, may_hold_under}
use Rattle.cell_filter.proofs.CellsLemmas.{beq-other, beq-same, joined_by-end, joined_by-here, may_hold_under-All, may_hold_under-Any}
use Rattle.predicate.proofs.OppositeLemmas.{not-not}
use Rattle.cell_filter.proofs.cells.+may_hold_under.Goals as goal

pub returns-then-may_hold_under-negated : goal.returns-then-may_hold_under-negated
returns-then-may_hold_under-negated t c =
    let places = flat_map (λ dim. dim) c.args.def.now.dims in
    let may : Pred → Bool = λ part. may_hold_under places c.args.cell.now.values part c.args.negated in
    let settles = ap may (sym c.pred-item.is) ∙ sym c.may_hold_under.ensures ∙ beq-same _ _ c.if-may_hold_under-negated.true ∙ not-not c.args.negated in
    sym (ap may c.in-All.is ∙ may_hold_under-All places c.args.cell.now.values c.in-All.preds c.args.negated
    ∙ ap (λ preds. joined_by (not c.args.negated) (map may preds)) (sym c.as_slice-pred-items.ensures) ∙ c.loop-pred.invariant
    ∙ joined_by-here (not c.args.negated) may c.as_slice-pred-items.result.now c.loop-pred.pred-index c.pred-item.result c.loop-pred-test.true settles ∙ sym (not-not c.args.negated))

pub returns-then-may_hold_under-negated-2 : goal.returns-then-may_hold_under-negated-2
returns-then-may_hold_under-negated-2 t c =
    let places = flat_map (λ dim. dim) c.args.def.now.dims in
    let may : Pred → Bool = λ part. may_hold_under places c.args.cell.now.values part c.args.negated in
    let settles = ap may (sym c.pred-item-in-loop-pred-2.is) ∙ sym c.may_hold_under-in-loop-pred-2.ensures ∙ beq-other _ _ c.if-may_hold_under-negated-2.true in
    sym (ap may c.in-Any.is ∙ may_hold_under-Any places c.args.cell.now.values c.in-Any.preds c.args.negated
    ∙ ap (λ preds. joined_by c.args.negated (map may preds)) (sym c.as_slice-pred-items-in-Any.ensures) ∙ c.loop-pred-2.invariant
    ∙ joined_by-here c.args.negated may c.as_slice-pred-items-in-Any.result.now c.loop-pred-2.pred-index c.pred-item-in-loop-pred-2.result c.loop-pred-2-test.true settles)

pub returns-after-loop-pred : goal.returns-after-loop-pred
returns-after-loop-pred t c =
    let places = flat_map (λ dim. dim) c.args.def.now.dims in
    let may : Pred → Bool = λ part. may_hold_under places c.args.cell.now.values part c.args.negated in
    sym (ap may c.in-All.is ∙ may_hold_under-All places c.args.cell.now.values c.in-All.preds c.args.negated
    ∙ ap (λ preds. joined_by (not c.args.negated) (map may preds)) (sym c.as_slice-pred-items.ensures) ∙ c.loop-pred.invariant
    ∙ joined_by-end (not c.args.negated) may c.as_slice-pred-items.result.now c.loop-pred.pred-index c.loop-pred-test.false)

pub returns-after-loop-pred-2 : goal.returns-after-loop-pred-2
returns-after-loop-pred-2 t c =
    let places = flat_map (λ dim. dim) c.args.def.now.dims in
    let may : Pred → Bool = λ part. may_hold_under places c.args.cell.now.values part c.args.negated in
    sym (ap may c.in-Any.is ∙ may_hold_under-Any places c.args.cell.now.values c.in-Any.preds c.args.negated
    ∙ ap (λ preds. joined_by c.args.negated (map may preds)) (sym c.as_slice-pred-items-in-Any.ensures) ∙ c.loop-pred-2.invariant
    ∙ joined_by-end c.args.negated may c.as_slice-pred-items-in-Any.result.now c.loop-pred-2.pred-index c.loop-pred-2-test.false)
