use Rattle.std.proofs.Common.{◌⊎◌, inl, inr, get_or, refl, subst}
use Rattle.std.proofs.lemmas.Bool.{false≢true}
use Rattle.std.proofs.lemmas.List.{drop_all}
use Rattle.mdc_values.specs.declared.rid.Rid.{Rid}
use Rattle.block_lists.specs.Walks.{BeginsWith}
use Rattle.block_lists.proofs.WalkLemmas.{first_left, keeps_last, keeps_members}
use Rattle.block_lists.proofs.PlaceLemmas.{HeldGoes, held_moved, held_past, held_taken, rids_order}
use Rattle.block_lists.proofs.places.held_rids.Goals as goal
use Rattle.block_lists.proofs.places.held_rids.Goals.{then-begins_with+in_ok-push, then-begins_with-via-then-begins_with, then-begins_with-via-else-begins_with+then-begins_with_rid, else-begins_with+else-begins_with_rid}

none : Rid
none = record { block = 0; slot = 0 }

pub push-requires : goal.push-requires
unfolding none
push-requires c =
    let here = subst (HeldGoes c.args.blocks.now c.args.others.now c.args.rids.now c.loop-rid.blocks.now c.loop-rid.others.now c.loop-rid.held) (first_left c.args.rids.now c.loop-rid.rid-index none c.loop-rid-test.true) c.loop-rid.invariant in
    keeps_last here.keeps

pub loop-rid-preserved : goal.loop-rid-preserved
unfolding none
loop-rid-preserved c =
    let here = subst (HeldGoes c.args.blocks.now c.args.others.now c.args.rids.now c.loop-rid.blocks.now c.loop-rid.others.now c.loop-rid.held) (first_left c.args.rids.now c.loop-rid.rid-index none c.loop-rid-test.true) c.loop-rid.invariant in
    let moved = held_moved c.from_number-blocks.result.now c.from_rid-others.result.now here c.from_number-blocks.ensures.rises c.from_rid-others.ensures.rises c.from_number-blocks.ensures.same c.from_rid-others.ensures.same in
    elim c.if-begins_with.branch [
      | then-begins_with+in_ok-push w ↦
          let which : BeginsWith (get_or c.args.rids.now c.loop-rid.rid-index none).block c.from_number-blocks.result.now ⊎ BeginsWith (get_or c.args.rids.now c.loop-rid.rid-index none) c.from_rid-others.result.now = elim w.then-begins_with.branch [
            | then-begins_with-via-then-begins_with v ↦ inl (v.if-begins_with.ensures.0 refl)
            | then-begins_with-via-else-begins_with+then-begins_with_rid v ↦ inr (v.if-begins_with_rid.ensures.0 refl)
          ] in
          rw (w.held-is, w.in_ok-push.ensures.ok) (held_taken moved which)
      | else-begins_with+else-begins_with_rid w ↦
          rw w.held-is (held_past moved c.from_number-blocks.ensures.begins (λ e. false≢true (w.if-begins_with.ensures.1 e)) c.from_rid-others.ensures.begins (λ e. false≢true (w.if-begins_with_rid.ensures.1 e)))
    ]

pub returns : goal.returns
returns c = keeps_members rids_order c.loop-rid.invariant.keeps (drop_all c.loop-rid.rid-index c.args.rids.now c.loop-rid-test.false)
