use Rattle.std.proofs.Common.{arith, rules, subst, sym}
use Rattle.std.specs.List.Sorted.{IsPermutation}
use Rattle.std.proofs.lemmas.Fn.{always_returns_same}
use Rattle.mdc_values.specs.declared.rid.Rid.{Rid}
use Rattle.unique_keys.proofs.RisingPlacesLemmas.{AreSortedPlaces, all_places, behind_places, one_more, sorted_places}
use Rattle.unique_keys.proofs.places.rising_places.Goals as goal

abbrev none : Rid
none = record { block = 0; slot = 0 }

pub put_last-requires : goal.put_last-requires
put_last-requires c =
    let sorted : AreSortedPlaces c.sort_by_key.new.self.items = sorted_places c.sort_by_key.new.self.items (c.in_ok-sort_by_key.ensures.sorted (λ rid. (rid.block, rid.slot)) (always_returns_same _ _ _ (λ a r g h. search rules))) in
    record {
      behind = λ place there. behind_places c.as_slice-rid-items.result.now c.loop-rid.rid-index none (subst AreSortedPlaces (sym c.as_slice-rid-items.ensures.value) sorted) c.loop-rid-test.true place ((c.loop-rid.invariant place).0 there);
    }

pub loop-rid-preserved : goal.loop-rid-preserved
loop-rid-preserved c = one_more c.as_slice-rid-items.result.now c.loop-rid.rid-index none c.loop-rid.places c.put_last.new.places c.loop-rid-test.true c.loop-rid.invariant c.in_ok-put_last.ensures.members

pub returns : goal.returns
returns c = record {
  members = all_places c.args.rids.items c.as_slice-rid-items.result.now c.loop-rid.rid-index c.loop-rid.places (subst (IsPermutation c.args.rids.items) (sym c.as_slice-rid-items.ensures.value) c.sort_by_key.ensures.permutation)
      (omega (arith, c.loop-rid-test.false, c.loop-rid.auto.rid-index-end)) c.loop-rid.invariant;
}
