use Rattle.std.proofs.Common.{subst, sym}
use Rattle.mdc_values.specs.Rising.{IsLower, LastIsBefore}
use Rattle.block_map.specs.declared.row.BlockRow.{BlockRow}
use Rattle.block_map.proofs.WalkingLemmas.{last_of_front}
use Rattle.block_map.proofs.by_state.blocks_of.Goals as goal

pub push-requires : goal.push-requires
push-requires c =
    subst (LastIsBefore IsLower _) (sym c.loop-row.invariant.so_far) (last_of_front (λ (row : BlockRow). row.block) c.args.rows.now c.loop-row.row-index _ c.loop-row-test.true c.requires)
