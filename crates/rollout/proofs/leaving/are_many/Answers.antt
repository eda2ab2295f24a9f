use Rattle.std.proofs.Common.{◌*◌, ◌∙◌, ap, arith, map, refl}
use Rattle.std.specs.Prelude.{List, nat_le}
use Rattle.std.proofs.lemmas.List.{take_all}
use Rattle.block_map.specs.MapRows.{line_of}
use Rattle.block_map.specs.declared.row.BlockRow.{BlockRow}
use Rattle.rollout.specs.SweptPart.{all_rows}
use Rattle.rollout.proofs.SweptPartLemmas.{line_counted}
use Rattle.rollout.proofs.leaving.are_many.Goals as goal

pub loop-line-init : goal.loop-line-init
loop-line-init c = record { value = refl; few = omega arith }

pub loop-line-preserved : goal.loop-line-preserved
loop-line-preserved c = record {
  value = line_counted _ (λ line. line.rows) c.args.lines.now c.loop-line.line-index c.loop-line.all c.stated-all.result c.loop-line-test.true c.loop-line.invariant.value c.stated-all.ensures.value;
  few = omega (arith, c.loop-line.invariant.few, c.stated-all.ensures.few);
}

pub returns : goal.returns
returns c =
    ap (λ n. nat_le n (c.args.going * 12)) (c.loop-line.invariant.value ∙ ap (λ (l : List BlockRow). all_rows (map line_of l)) (take_all c.loop-line.line-index c.args.lines.now c.loop-line-test.false))
