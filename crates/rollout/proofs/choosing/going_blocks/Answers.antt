use Rattle.std.proofs.Common.{◌≡◌, ◌∙◌, ◌++◌, [], ◌∷◌, ap, arith, subst, sym, take}
use Rattle.std.specs.Prelude.{◌↔◌, Contains, List}
use Rattle.std.proofs.lemmas.List.{take_all}
use Rattle.std.proofs.lemmas.Result.{IfOk-weaker}
use Rattle.block_index.specs.declared.listed_cells.CellBlock.{CellBlock}
use Rattle.rollout.specs.GoingCells.{going_numbers}
use Rattle.rollout.proofs.ChosenBlocksLemmas.{going_next, going_past}
use Rattle.rollout.proofs.choosing.going_blocks.Goals as goal

pub loop-at-preserved-then-not-going-at : goal.loop-at-preserved-then-not-going-at
loop-at-preserved-then-not-going-at c =
    c.loop-at.invariant ∙ sym (going_past c.args.found.now c.args.going.now c.loop-at.at c.loop-at-test.true (omega (arith, c.loop-at-test.true, c.requires.one_each)) c.if-not-going-at.true)

pub loop-at-preserved : goal.loop-at-preserved
loop-at-preserved c =
    c.in_ok-push.ensures.items ∙ (ap (λ (one : CellBlock). c.loop-at.numbers.items ++ one.block ∷ []) (sym c.index-found-at.is) ∙ ap (λ front. front ++ c.index-found-at.result.block ∷ []) c.loop-at.invariant
    ∙ sym (going_next c.args.found.now c.args.going.now c.loop-at.at c.index-found-at.result c.loop-at-test.true (omega (arith, c.loop-at-test.true, c.requires.one_each)) c.index-found-at.is c.if-not-going-at.false))

pub returns : goal.returns
returns c =
    let all : going_numbers (take c.loop-at.at c.args.found.now) (take c.loop-at.at c.args.going.now) ≡ going_numbers c.args.found.now c.args.going.now =
    ap (λ (cells : List CellBlock). going_numbers cells (take c.loop-at.at c.args.going.now)) (take_all c.loop-at.at c.args.found.now (omega (arith, c.loop-at-test.false, c.loop-at.auto.at-end)))
    ∙ ap (going_numbers c.args.found.now) (take_all c.loop-at.at c.args.going.now (omega (arith, c.loop-at-test.false, c.loop-at.auto.at-end, c.requires.one_each))) in
    record { same = IfOk-weaker c.rising.result _ _ (λ blocks same block. subst (λ numbers. Contains blocks block ↔ Contains numbers block) (c.loop-at.invariant ∙ all) (same block)) c.rising.ensures.same }
