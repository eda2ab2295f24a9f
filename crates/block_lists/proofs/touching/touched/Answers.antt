use Rattle.std.proofs.Common.{◌⊎◌, inl, inr, get_or, refl, subst}
use Rattle.std.proofs.lemmas.Bool.{false≢true}
use Rattle.std.proofs.lemmas.List.{drop_all}
use Rattle.block_lists.specs.Walks.{BeginsInBlock, BeginsWith}
use Rattle.block_lists.proofs.WalkLemmas.{first_left, keeps_end, keeps_last}
use Rattle.block_lists.proofs.PlaceLemmas.{TouchedGoes, touched_moved, touched_past, touched_taken}
use Rattle.block_lists.proofs.touching.touched.Goals as goal
use Rattle.block_lists.proofs.touching.touched.Goals.{then-begins_with+in_ok-push, then-begins_with-via-then-begins_with, then-begins_with-via-else-begins_with+then-begins_in_block, else-begins_with+else-begins_in_block}

pub push-requires : goal.push-requires
push-requires c =
    let here = subst (TouchedGoes c.args.blocks.now c.args.rids.now c.args.of.now c.loop-block.blocks.now c.loop-block.rids.now c.loop-block.touched) (first_left c.args.of.now c.loop-block.block-index 0 c.loop-block-test.true) c.loop-block.invariant in
    keeps_last here.keeps

pub loop-block-preserved : goal.loop-block-preserved
loop-block-preserved c =
    let here = subst (TouchedGoes c.args.blocks.now c.args.rids.now c.args.of.now c.loop-block.blocks.now c.loop-block.rids.now c.loop-block.touched) (first_left c.args.of.now c.loop-block.block-index 0 c.loop-block-test.true) c.loop-block.invariant in
    let moved = touched_moved c.from_number-blocks.result.now c.from_block-rids.result.now here c.from_number-blocks.ensures.rises c.from_block-rids.ensures.rises c.from_number-blocks.ensures.same c.from_block-rids.ensures.same in
    elim c.if-begins_with.branch [
      | then-begins_with+in_ok-push w ↦
          let which : BeginsWith (get_or c.args.of.now c.loop-block.block-index 0) c.from_number-blocks.result.now ⊎ BeginsInBlock (get_or c.args.of.now c.loop-block.block-index 0) c.from_block-rids.result.now = elim w.then-begins_with.branch [
            | then-begins_with-via-then-begins_with v ↦ inl (v.if-begins_with.ensures.0 refl)
            | then-begins_with-via-else-begins_with+then-begins_in_block v ↦ inr (v.if-begins_in_block.ensures.0 refl)
          ] in
          rw (w.touched-is, w.in_ok-push.ensures.ok) (touched_taken moved which)
      | else-begins_with+else-begins_in_block w ↦
          rw w.touched-is (touched_past moved c.from_number-blocks.ensures.begins (λ e. false≢true (w.if-begins_with.ensures.1 e)) c.from_block-rids.ensures.begins (λ e. false≢true (w.if-begins_in_block.ensures.1 e)))
    ]

pub returns : goal.returns
returns c = keeps_end c.loop-block.invariant.keeps (drop_all c.loop-block.block-index c.args.of.now c.loop-block-test.false)
