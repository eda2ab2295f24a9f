use Rattle.std.proofs.Common.{◌<◌, length, rules, subst}
use Rattle.std.specs.List.{AllAdjacentBelow}
use Rattle.std.proofs.lemmas.List.Sorted.{IsNonDecreasingBy-from_sort_by_key}
use Rattle.reference_reader.specs.ReadTables.{IsFall}
use Rattle.reference_reader.proofs.RowNumbersLemmas.{all_rise, number_twice}
use Rattle.reference_reader.proofs.order.sort_rows.Goals as goal

pub returns-clause-rising : goal.returns-clause-rising
returns-clause-rising c rise =
    all_rise c.sort_by_key.new.self.items
    (subst (λ rows. AllAdjacentBelow (λ a b. a.number < b.number) rows (length rows)) c.deref.ensures.value (c.do_numbers_rise.ensures.rise rise))

pub returns-clause-twice : goal.returns-clause-twice
returns-clause-twice c fall =
    let at = c.do_numbers_rise.ensures.fall fall in
    number_twice c.sort_by_key.new.self.items
    (IsNonDecreasingBy-from_sort_by_key (λ row. row.number) c.sort_by_key.new.self.items c.in_ok-sort_by_key.ensures.sorted (λ a r q k. search rules))
    at.0 (subst (λ rows. IsFall rows at.0) c.deref.ensures.value at.1)
