-- One index more is good.
use Rattle.std.proofs.Common.{subst, refl}
use Rattle.std.specs.List.{All}
use Rattle.std.proofs.lemmas.List.{take_all}
use Rattle.std.proofs.lemmas.List.Elements.{All-more, recursion_from_All}
use Rattle.mdc_ast.specs.TableLimits.{IsGoodIndex}
use Rattle.table_page.proofs.definition_limits.are_good_indexes.Goals as goal

pub loop-index-preserved : goal.loop-index-preserved
loop-index-preserved c =
    All-more (IsGoodIndex c.args.columns.now) c.args.indexes.now c.loop-index.index-index c.index-item.result c.loop-index-test.true c.loop-index.invariant
    (subst (IsGoodIndex c.args.columns.now) c.index-item.is (c.in_ok-is_good_index.ensures.0 c.if-not-branch.false))

pub returns : goal.returns
returns c = (
  (λ _. recursion_from_All (IsGoodIndex c.args.columns.now) c.args.indexes.now
      (subst (All (IsGoodIndex c.args.columns.now)) (take_all c.loop-index.index-index c.args.indexes.now c.loop-index-test.false) c.loop-index.invariant)),
  (λ _. refl),
)
