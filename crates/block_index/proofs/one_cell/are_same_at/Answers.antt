use Rattle.std.proofs.Common.{◌∙◌, refl, subst, sym}
use Rattle.block_index.proofs.SameValuesLemmas.{AreSameBut, other_here, same_all, same_next, same_none, value_found}
use Rattle.block_index.proofs.one_cell.are_same_at.Goals as goal

pub loop-place-init : goal.loop-place-init
loop-place-init c = subst (AreSameBut c.args.a.now c.args.b.now c.args.places.now) (sym c.as_slice-place-items.ensures) (same_none c.args.a.now c.args.b.now c.args.places.now)

pub returns-then-not-is_same : goal.returns-then-not-is_same
returns-then-not-is_same c =
    let a = c.args.a.now in
    let b = c.args.b.now in
    let n = c.from-place.result in (
      λ no. absurd cc,
      λ all.
          absurd (other_here a b c.args.places.now c.as_slice-place-items.result.now c.loop-place.place-index n c.loop-place-test.true c.from-place.ensures c.loop-place.invariant
          (λ same.
          let yes = c.is_same.ensures.1 (sym (value_found a n c.at.result.now c.at.ensures) ∙ (same ∙ value_found b n c.at-in-loop-place.result.now c.at-in-loop-place.ensures)) in
          let no = c.if-not-is_same.true in
          cc) all),
    )

pub loop-place-preserved : goal.loop-place-preserved
loop-place-preserved c =
    let a = c.args.a.now in
    let b = c.args.b.now in
    let n = c.from-place.result in
    same_next a b c.args.places.now c.as_slice-place-items.result.now c.loop-place.place-index n c.loop-place-test.true c.from-place.ensures c.loop-place.invariant
    (value_found a n c.at.result.now c.at.ensures ∙ (c.is_same.ensures.0 c.if-not-is_same.false ∙ sym (value_found b n c.at-in-loop-place.result.now c.at-in-loop-place.ensures)))

pub returns : goal.returns
returns c =
    let same = same_all c.args.a.now c.args.b.now c.args.places.now c.as_slice-place-items.result.now c.loop-place.place-index c.loop-place-test.false c.loop-place.invariant in
    (λ yes. same, λ all. refl)
