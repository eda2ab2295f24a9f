use Rattle.std.proofs.Common.{◌≡◌, ◌+◌, ◌∷◌, [], ◌++◌, ap, arith, get_or, length, subst, sym, take, ◌∙◌}
use Rattle.std.proofs.lemmas.List.{get_or_default, length-map, map-append}
use Rattle.table_scan.specs.Choices.{blocks_chosen}
use Rattle.table_scan.specs.declared.choosing.ChosenEntry.{ChosenEntry}
use Rattle.table_scan.proofs.BlocksThatMayLemmas.{element_at, mapped_in_order, pushed_there}
use Rattle.table_scan.proofs.RisingNumbersLemmas.{GoesTo, goes_again, goes_all, goes_more, goes_none}
use Rattle.table_scan.proofs.choosing.each_once.Goals as goal

pub loop-one-init : goal.loop-one-init
loop-one-init c = record {
  goes = subst (λ items. GoesTo [] (blocks_chosen items) 0) (sym c.new-once.ensures.items) goes_none;
  some = λ entry there. absurd (omega (arith, there.1, ap length c.new-once.ensures.items));
}

pub loop-one-preserved-then-from-next : goal.loop-one-preserved-then-from-next
loop-one-preserved-then-from-next c =
    let entries = c.args.entries.now in
    let numbers = blocks_chosen entries in
    let i = c.loop-one.one-index in
    let low = c.loop-one-test.true in
    let one : ChosenEntry = get_or entries i (record { block = 0; at = 0 }) in
    let is : one ≡ get_or entries i one = get_or_default entries i (record { block = 0; at = 0 }) one low in
    let at : get_or numbers i 0 ≡ one.block = element_at (λ (one : ChosenEntry). one.block) entries i one 0 low is in
    record {
      goes = goes_again numbers (blocks_chosen c.loop-one.once.items) i c.loop-one.next (mapped_in_order entries c.requires.sorted) (omega (arith, low, length-map entries (λ (one : ChosenEntry). one.block)))
          (omega (arith, at, c.from.ensures, c.if-from-next.true)) c.loop-one.invariant.goes;
      some = c.loop-one.invariant.some;
    }

pub loop-one-preserved : goal.loop-one-preserved
loop-one-preserved c =
    let entries = c.args.entries.now in
    let numbers = blocks_chosen entries in
    let i = c.loop-one.one-index in
    let low = c.loop-one-test.true in
    let one : ChosenEntry = get_or entries i (record { block = 0; at = 0 }) in
    let is : one ≡ get_or entries i one = get_or_default entries i (record { block = 0; at = 0 }) one low in
    let at : get_or numbers i 0 ≡ one.block = element_at (λ (one : ChosenEntry). one.block) entries i one 0 low is in
    let pushed : blocks_chosen c.loop-one.once.items ++ get_or numbers i 0 ∷ [] ≡ blocks_chosen c.push.new.self.items =
    ap (λ n. blocks_chosen c.loop-one.once.items ++ n ∷ []) at
    ∙ sym (ap blocks_chosen c.in_ok-push.ensures.items ∙ map-append (λ (one : ChosenEntry). one.block) c.loop-one.once.items (one ∷ [])) in
    record {
      goes = subst (λ next. GoesTo (take (i + 1) numbers) (blocks_chosen c.push.new.self.items) next) (ap (λ n. n + 1) (at ∙ sym c.from-next.ensures))
          (subst (λ blocks. GoesTo (take (i + 1) numbers) blocks (get_or numbers i 0 + 1)) pushed
          (goes_more numbers (blocks_chosen c.loop-one.once.items) i c.loop-one.next (omega (arith, low, length-map entries (λ (one : ChosenEntry). one.block)))
          (omega (arith, at, c.from.ensures, c.if-from-next.false)) c.loop-one.invariant.goes));
      some = pushed_there entries c.loop-one.once.items c.push.new.self.items i one low is c.in_ok-push.ensures.items c.loop-one.invariant.some;
    }

pub returns-clause-same : goal.returns-clause-same
returns-clause-same c =
    goes_all (blocks_chosen c.args.entries.now) (blocks_chosen c.loop-one.once.items) c.loop-one.one-index c.loop-one.next
    (omega (arith, c.loop-one-test.false, length-map c.args.entries.now (λ (one : ChosenEntry). one.block))) c.loop-one.invariant.goes
