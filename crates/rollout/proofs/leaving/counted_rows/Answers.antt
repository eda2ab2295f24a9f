use Rattle.std.proofs.Common.{◌∙◌, ap, arith, map, refl}
use Rattle.std.specs.Prelude.{List}
use Rattle.std.proofs.lemmas.List.{take_all}
use Rattle.block_map.specs.MapRows.{line_of}
use Rattle.block_map.specs.declared.row.BlockRow.{BlockRow}
use Rattle.rollout.specs.SweptPart.{rows_among, rows_if_among}
use Rattle.rollout.proofs.SweptPartLemmas.{line_counted}
use Rattle.rollout.proofs.leaving.counted_rows.Goals as goal

pub loop-line-init : goal.loop-line-init
loop-line-init c = record { value = refl; few = omega arith }

pub loop-line-preserved : goal.loop-line-preserved
loop-line-preserved c = record {
  value = line_counted _ (rows_if_among c.args.blocks.now) c.args.lines.now c.loop-line.line-index c.loop-line.rows c.counted_in-rows.result c.loop-line-test.true c.loop-line.invariant.value c.counted_in-rows.ensures.value;
  few = omega (arith, c.loop-line.invariant.few, c.counted_in-rows.ensures.few);
}

pub returns : goal.returns
returns c = record {
  value = c.loop-line.invariant.value ∙ ap (λ (l : List BlockRow). rows_among (map line_of l) c.args.blocks.now) (take_all c.loop-line.line-index c.args.lines.now c.loop-line-test.false);
  few = omega (arith, c.loop-line.invariant.few, c.loop-line.auto.line-index-end);
}
