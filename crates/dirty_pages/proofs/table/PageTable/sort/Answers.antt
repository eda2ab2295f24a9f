-- A sort moves the pages, and their numbers, of which none comes twice, then rise.
use Rattle.std.proofs.Common.{◌<◌, nat_eq, length, arith, ap, sym, subst, ◌∙◌, rules}
use Rattle.std.specs.List.{All, IsDistinct}
use Rattle.std.specs.Vec.{vec_len}
use Rattle.std.specs.Map.{keys_of, lookup}
use Rattle.std.proofs.lemmas.List.Sorted.{IsNonDecreasingBy-from_sort_by_key}
use Rattle.dirty_pages.specs.Table.{unboxed}
use Rattle.store_api.proofs.BoxesLemmas.{Boxed}
use Rattle.dirty_pages.proofs.Order.{rising_sorted, distinct_permuted, within_permuted, lookup-permuted}
use Rattle.dirty_pages.proofs.table.PageTable.sort.Goals as goal

pub index-requires-clause-distinct : goal.index-requires-clause-distinct
index-requires-clause-distinct c =
    subst (λ entries. IsDistinct nat_eq (keys_of (unboxed entries))) (sym c.deref.ensures.value) (distinct_permuted c.self.inside.pages.items c.sort_by_key.new.self.items c.in_ok-sort_by_key.ensures.permutation c.self.invariant.distinct)

pub index-requires-clause-within : goal.index-requires-clause-within
index-requires-clause-within c =
    let all : All (λ (e : Boxed). e.0 < length c.self.inside.places.items) c.sort_by_key.new.self.items = within_permuted c.self.inside.places.items c.self.inside.pages.items c.sort_by_key.new.self.items c.self.invariant c.in_ok-sort_by_key.ensures.permutation in
    subst (λ entries. All (λ (e : Boxed). e.0 < vec_len c.self.inside.places) entries) (sym c.deref.ensures.value) (λ k d lt. let less = all k d lt in omega (arith, less, c.self.inside.places.ok.0))

pub returns-clause-rising : goal.returns-clause-rising
returns-clause-rising c =
    rising_sorted c.sort_by_key.new.self.items (IsNonDecreasingBy-from_sort_by_key (λ (e : Boxed). e.0) c.sort_by_key.new.self.items c.in_ok-sort_by_key.ensures.sorted (λ a r q k. search rules))
    (distinct_permuted c.self.inside.pages.items c.sort_by_key.new.self.items c.in_ok-sort_by_key.ensures.permutation c.self.invariant.distinct)

pub returns-clause-same : goal.returns-clause-same
returns-clause-same c = λ p.
    lookup-permuted c.self.inside.pages.items c.sort_by_key.new.self.items p c.in_ok-sort_by_key.ensures.permutation c.self.invariant.distinct ∙ ap (lookup (nat_eq p)) c.self.view_is
