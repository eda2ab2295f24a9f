-- What is settled of the parts is settled of the whole, and a test that is open in a part is open in the whole.
use Rattle.std.proofs.Common.{◌∙◌, List, inl, inr, subst, sym}
use Rattle.std.specs.List.{All}
use Rattle.std.specs.Prelude.{Contains}
use Rattle.std.proofs.lemmas.Bool.{false≢true}
use Rattle.std.proofs.lemmas.List.{take_all}
use Rattle.std.proofs.lemmas.List.Elements.{All-more, Contains-get_or}
use Rattle.mdc_ast.specs.declared.predicate.Pred.{Pred}
use Rattle.table_scan.specs.Settled.{HasOpenTest, IsSettled}
use Rattle.table_scan.specs.Settled.HasOpenTest.{in_atom, in_not}
use Rattle.table_scan.proofs.SettledLemmas.{HasOpenTest-joined, IsSettled-Atom, IsSettled-Not, IsSettled-joined}
use Rattle.table_scan.proofs.settling.+is_settled.Goals as goal

pub loop-pred-preserved : goal.loop-pred-preserved
loop-pred-preserved t c =
    let settled = IsSettled c.args.def.now in
    All-more settled c.as_slice-pred-items.result.now c.loop-pred.pred-index c.pred-item.result c.loop-pred-test.true c.loop-pred.invariant
    (subst settled c.pred-item.is (c.is_settled-in-loop-pred.ensures.settled c.if-not-is_settled.false))

pub returns-then-is_against_literals-clause-settled : goal.returns-then-is_against_literals-clause-settled
returns-then-is_against_literals-clause-settled t c there =
    subst (IsSettled c.args.def.now) (sym c.in-Atom.is)
    (IsSettled-Atom c.args.def.now c.in-Atom.atom (sym c.is_against_literals.ensures ∙ c.if-is_against_literals.true) (c.is_of_cells.ensures.0 there))

pub returns-then-is_against_literals-clause-open : goal.returns-then-is_against_literals-clause-open
returns-then-is_against_literals-clause-open t c out =
    subst (HasOpenTest c.args.def.now) (sym c.in-Atom.is) (in_atom c.in-Atom.atom (inr (λ there. absurd (false≢true (sym out ∙ c.is_of_cells.ensures.1 there)))))

pub returns-else-is_against_literals-clause-open : goal.returns-else-is_against_literals-clause-open
returns-else-is_against_literals-clause-open t c out =
    subst (HasOpenTest c.args.def.now) (sym c.in-Atom.is) (in_atom c.in-Atom.atom (inl (sym c.is_against_literals.ensures ∙ c.if-is_against_literals.false)))

pub returns-then-not-is_settled-clause-open : goal.returns-then-not-is_settled-clause-open
returns-then-not-is_settled-clause-open t c out =
    let parts : List Pred = c.as_slice-pred-items.result.now in
    let part : Pred = c.pred-item.result in
    let there : Contains parts part = subst (Contains parts) (sym c.pred-item.is) (Contains-get_or parts c.loop-pred.pred-index part c.loop-pred-test.true) in
    HasOpenTest-joined c.args.def.now c.args.pred.now c.in-All.preds part c.in-All.is (subst (λ parts. Contains parts part) c.as_slice-pred-items.ensures there)
    (c.is_settled-in-loop-pred.ensures.open c.if-not-is_settled.true)

pub returns-after-loop-pred-clause-settled : goal.returns-after-loop-pred-clause-settled
returns-after-loop-pred-clause-settled t c truth =
    let settled = IsSettled c.args.def.now in
    let parts : List Pred = c.as_slice-pred-items.result.now in
    IsSettled-joined c.args.def.now c.args.pred.now c.in-All.preds c.in-All.is
    (subst (All settled) (take_all c.loop-pred.pred-index parts c.loop-pred-test.false ∙ c.as_slice-pred-items.ensures) c.loop-pred.invariant)

pub returns-in-Not-clause-settled : goal.returns-in-Not-clause-settled
returns-in-Not-clause-settled t c truth =
    let settled = IsSettled c.args.def.now in
    subst settled (sym c.in-Not.is) (IsSettled-Not c.args.def.now c.in-Not.pred (subst settled c.get.ensures (c.is_settled.ensures.settled truth)))

pub returns-in-Not-clause-open : goal.returns-in-Not-clause-open
returns-in-Not-clause-open t c out =
    let open_in = HasOpenTest c.args.def.now in
    subst open_in (sym c.in-Not.is) (in_not c.in-Not.pred (subst open_in c.get.ensures (c.is_settled.ensures.open out)))
