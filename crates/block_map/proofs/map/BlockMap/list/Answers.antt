use Rattle.std.proofs.Common.{◌∙◌, ap}
use Rattle.block_map.specs.MapRows.{state_number}
use Rattle.block_map.proofs.WalkingLemmas.{blocks_are, blocks_of_rows}
use Rattle.block_map.proofs.map.BlockMap.list.Goals as goal

pub returns-clause-listed : goal.returns-clause-listed
returns-clause-listed g c t h =
    c.in_ok-blocks_of.ensures ∙ ap blocks_of_rows c.as_slice.ensures.value ∙ blocks_are (state_number c.args.state) t c.in_ok-rows.rows.items (c.in_ok-rows.ensures.rows t h)
