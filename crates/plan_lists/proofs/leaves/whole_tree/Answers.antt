use Rattle.std.proofs.Common.{◌≡◌, subst, sym, true}
use Rattle.std.specs.Prelude.{Contains}
use Rattle.block_lists.specs.Places.{has_number}
use Rattle.plan_lists.proofs.ListedLemmas.{number_in}
use Rattle.plan_lists.proofs.LeafLemmas.{all_used, blocks_stand}
use Rattle.plan_lists.proofs.leaves.whole_tree.Goals as goal

pub returns-clause-stands : goal.returns-clause-stands
returns-clause-stands g c =
    let shape = c.args.shape in
    let s = c.args.pages.now in
    let def = c.args.def.now in
    let leaf = c.leaf.ensures in
    blocks_stand shape s def (λ values. true) c.from_blocks.result c.leaf.result leaf.members leaf.rows leaf.blocks c.in_ok-blocks.blocks c.from_blocks.ensures.blocks c.from_blocks.ensures.rids
    (λ owners forests st placed there. subst (λ b. has_number b placed.rid.block ≡ true) (sym (c.in_ok-blocks.ensures.listed owners forests st)) (all_used shape s def owners forests st placed there))
    (λ owners forests st block h. subst (λ b. Contains b block) (c.in_ok-blocks.ensures.listed owners forests st) (number_in c.in_ok-blocks.blocks block h))
