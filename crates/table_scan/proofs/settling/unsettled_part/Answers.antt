use Rattle.std.proofs.Common.{Some, subst, sym}
use Rattle.mdc_ast.specs.declared.predicate.Pred.TheVariants.{All}
use Rattle.table_scan.specs.Settled.{AreLeftOf, IsLeftOf}
use Rattle.table_scan.proofs.SettledLemmas.{IsLeftOf-All, IsLeftOf-none}
use Rattle.table_scan.proofs.settling.unsettled_part.Goals as goal

pub returns-then-is_settled : goal.returns-then-is_settled
returns-then-is_settled c = IsLeftOf-none c.args.def.now c.args.pred.now (c.is_settled.ensures.settled c.if-is_settled.true)

pub returns-in_ok-unsettled_parts-in-All : goal.returns-in_ok-unsettled_parts-in-All
returns-in_ok-unsettled_parts-in-All c =
    let left = c.in_ok-unsettled_parts-in-All.field-0 in
    subst (λ whole. IsLeftOf c.args.def.now (Some whole) (Some (All left))) (sym c.in-All.is)
    (IsLeftOf-All c.args.def.now c.in-All.parts left (subst (λ parts. AreLeftOf c.args.def.now parts left) c.as_slice.ensures c.in_ok-unsettled_parts-in-All.ensures))
