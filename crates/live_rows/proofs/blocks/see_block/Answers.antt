use Rattle.std.proofs.Common.{◌<◌, ◌^◌, ◌∙◌, arith, subst, sym}
use Rattle.block_map.specs.BlockMaps.{FindsBlock}
use Rattle.block_map.specs.declared.state.BlockState.TheVariants.{Used}
use Rattle.block_map.proofs.WalkingLemmas.{same_states}
use Rattle.live_rows.proofs.LiveRidsLemmas.{row_says, unnamed_unused}
use Rattle.live_rows.proofs.blocks.see_block.Goals as goal

pub returns-in-Some-clause-used : goal.returns-in-Some-clause-used
returns-in-Some-clause-used g c t held form =
    let small : c.args.block < 2 ^ 32 = omega arith in
    c.eq-is_used.ensures ∙ sym (same_states c.in-Some.row.state Used)
    ∙ row_says t c.args.block c.in-Some.row small (subst (FindsBlock t c.args.block) c.in-Some.is (c.in_ok-row.ensures.found t held)) form

pub returns-in-None-clause-used : goal.returns-in-None-clause-used
returns-in-None-clause-used g c t held form = sym (unnamed_unused t c.args.block form (subst (FindsBlock t c.args.block) c.in-None.is (c.in_ok-row.ensures.found t held)))
