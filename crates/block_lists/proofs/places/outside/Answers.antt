use Rattle.std.proofs.Common.{refl, subst}
use Rattle.std.proofs.lemmas.Bool.{false≢true}
use Rattle.std.proofs.lemmas.List.{drop_all}
use Rattle.mdc_values.specs.declared.rid.Rid.{Rid}
use Rattle.block_lists.proofs.WalkLemmas.{first_left, keeps_last, keeps_members}
use Rattle.block_lists.proofs.PlaceLemmas.{OutsideGoes, outside_moved, outside_past, outside_taken, rids_order}
use Rattle.block_lists.proofs.places.outside.Goals as goal
use Rattle.block_lists.proofs.places.outside.Goals.{then-not-begins_with+in_ok-push, else-not-begins_with}

none : Rid
none = record { block = 0; slot = 0 }

pub push-requires : goal.push-requires
unfolding none
push-requires c =
    let here = subst (OutsideGoes c.args.blocks.now c.args.rids.now c.loop-rid.blocks.now c.loop-rid.held) (first_left c.args.rids.now c.loop-rid.rid-index none c.loop-rid-test.true) c.loop-rid.invariant in
    keeps_last here.keeps

pub loop-rid-preserved : goal.loop-rid-preserved
unfolding none
loop-rid-preserved c =
    let here = subst (OutsideGoes c.args.blocks.now c.args.rids.now c.loop-rid.blocks.now c.loop-rid.held) (first_left c.args.rids.now c.loop-rid.rid-index none c.loop-rid-test.true) c.loop-rid.invariant in
    let moved = outside_moved c.from_number-blocks.result.now here c.from_number-blocks.ensures.rises c.from_number-blocks.ensures.same in
    elim c.if-not-begins_with.branch [
      | then-not-begins_with+in_ok-push w ↦ rw (w.held-is, w.in_ok-push.ensures.ok) (outside_taken moved c.from_number-blocks.ensures.begins (λ e. false≢true (w.if-not-begins_with.ensures.1 e)))
      | else-not-begins_with w ↦ rw w.held-is (outside_past moved (w.if-not-begins_with.ensures.0 refl))
    ]

pub returns : goal.returns
returns c = keeps_members rids_order c.loop-rid.invariant.keeps (drop_all c.loop-rid.rid-index c.args.rids.now c.loop-rid-test.false)
