use Rattle.std.proofs.Common.{AllPairs, IfOk, arith, ap, rules, subst, sym, ◌∙◌, ◌≤◌}
use Rattle.std.proofs.lemmas.List.{map-append}
use Rattle.std.proofs.lemmas.List.Sorted.{IsNonDecreasingBy-from_sort, IsPermutation-map, answers_always}
use Rattle.table_scan.specs.Choices.{HaveSameMembers, IsChoiceOf, blocks_chosen}
use Rattle.table_scan.specs.declared.choosing.ChosenEntry.{ChosenEntry}
use Rattle.table_scan.proofs.BlocksThatMayLemmas.{choice_more, chooses, kept_in_order, may_more, may_past}
use Rattle.table_scan.proofs.choosing.chosen_entries.Goals as goal

pub loop-at-preserved-then-not-may_hold : goal.loop-at-preserved-then-not-may_hold
loop-at-preserved-then-not-may_hold c = record {
  so_far = may_past c.args.def.now c.args.pred.now c.args.entries.now c.loop-at.at c.index-entries-at.result c.loop-at-test.true c.index-entries-at.is _ c.loop-at.invariant.so_far
      (sym c.may_hold.ensures ∙ c.if-not-may_hold.true);
  each = c.loop-at.invariant.each;
}

pub loop-at-preserved : goal.loop-at-preserved
loop-at-preserved c =
    let holds = sym c.may_hold.ensures ∙ c.if-not-may_hold.false in
    record {
      so_far = ap blocks_chosen c.in_ok-push.ensures.items ∙ (map-append (λ (one : ChosenEntry). one.block) c.loop-at.chosen.items _
          ∙ may_more c.args.def.now c.args.pred.now c.args.entries.now c.loop-at.at c.index-entries-at.result c.loop-at-test.true c.index-entries-at.is _ c.loop-at.invariant.so_far holds);
      each = choice_more c.args.def.now c.args.pred.now c.args.entries.now c.loop-at.at c.index-entries-at.result c.loop-at.chosen.items c.push.new.self.items c.loop-at-test.true c.index-entries-at.is
          c.in_ok-push.ensures.items holds c.loop-at.invariant.each;
    }

pub each_once-requires : goal.each_once-requires
each_once-requires c =
    let sorted = IsNonDecreasingBy-from_sort (λ (one : ChosenEntry). one.block) c.sort_unstable_by_key.new.self.items (c.sort_unstable_by_key.ensures.sorted (λ (one : ChosenEntry). one.block) (answers_always _ _ _ (λ f a r h k. search rules))) in
    record { sorted = subst (λ entries. AllPairs (λ a b. a.block ≤ b.block) entries) (sym c.as_slice.ensures.value) (λ i j d below within. sorted i j d (omega (arith, below)) within) }

pub returns : goal.returns
returns c =
    let once = c.each_once.ensures in
    let same = subst (λ entries. IfOk c.each_once.result (λ once. HaveSameMembers (blocks_chosen entries) (blocks_chosen once.items))) c.as_slice.ensures.value once.same in
    record {
      chosen = chooses c.args.def.now c.args.pred.now c.args.entries.now c.loop-at.at (blocks_chosen c.loop-at.chosen.items) (blocks_chosen c.sort_unstable_by_key.new.self.items) c.each_once.result
          c.loop-at-test.false c.loop-at.invariant.so_far (IsPermutation-map (λ (one : ChosenEntry). one.block) _ _ c.sort_unstable_by_key.ensures.permutation) same once.rising;
      entries = kept_in_order (IsChoiceOf c.args.def.now c.args.pred.now c.args.entries.now) c.loop-at.chosen.items c.sort_unstable_by_key.new.self.items c.as_slice.result.now c.each_once.result
          c.loop-at.invariant.each c.sort_unstable_by_key.ensures.permutation c.as_slice.ensures.value once.some;
    }
