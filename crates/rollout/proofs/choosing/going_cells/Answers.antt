use Rattle.std.proofs.Common.{◌≡◌, ◌∙◌, ◌+◌, ◌++◌, [], ◌∷◌, List, ap, subst, sym, take}
use Rattle.std.proofs.lemmas.List.{take_more}
use Rattle.entry_tree.proofs.ClaimsLemmas.{if_err_by}
use Rattle.block_index.specs.declared.listed_cells.CellBlock.{CellBlock}
use Rattle.table_trees.proofs.TreeListsLemmas.{AllZip-both}
use Rattle.rollout.specs.GoingCells.{FailsJudging, HasNoCell, JudgesCell, JudgesCells}
use Rattle.rollout.proofs.RollingCellLemmas.{fails_among}
use Rattle.rollout.proofs.choosing.going_cells.Goals as goal

pub returns-in_err-goes-clause-fails : goal.returns-in_err-goes-clause-fails
returns-in_err-goes-clause-fails c =
    if_err_by c.from_residual-in_err-goes.result c.in_err-goes.field-0.0 (λ fault. FailsJudging c.args.def.now fault (HasNoCell c.args.def.now c.args.found.now)) c.from_residual-in_err-goes.ensures.1
    (fails_among c.args.def.now c.args.found.now c.loop-one.one-index c.one-item.result c.loop-one-test.true c.one-item.is c.in_err-goes.field-0.0 c.in_err-goes.ensures.fails)

pub loop-one-preserved : goal.loop-one-preserved
loop-one-preserved c =
    let front : take (c.loop-one.one-index + 1) c.args.found.now ≡ take c.loop-one.one-index c.args.found.now ++ c.one-item.result ∷ [] =
    take_more c.args.found.now c.loop-one.one-index c.one-item.result c.loop-one-test.true ∙ ap (λ (one : CellBlock). take c.loop-one.one-index c.args.found.now ++ one ∷ []) (sym c.one-item.is) in
    subst (λ (cells : List CellBlock). JudgesCells c.args.def.now c.args.pred.now cells c.push.new.self.items) (sym front)
    (subst (JudgesCells c.args.def.now c.args.pred.now (take c.loop-one.one-index c.args.found.now ++ c.one-item.result ∷ [])) (sym c.in_ok-push.ensures.items)
    (AllZip-both (JudgesCell c.args.def.now c.args.pred.now) (take c.loop-one.one-index c.args.found.now) (c.one-item.result ∷ []) c.loop-one.going.items (c.in_ok-goes.goes ∷ []) c.loop-one.invariant (c.in_ok-goes.ensures.judges, tt)))
