use Rattle.std.proofs.Common.{◌≢◌, ◌↔◌, ◌<◌, subst, sym}
use Rattle.std.specs.Prelude.{ℕ, List, AllPairs, IsPermutation, IsTrue}
use Rattle.std.specs.List.{AllByRecursion}
use Rattle.std.specs.List.Sorted.{IsSorted}
use Rattle.std.specs.Ordering.{nat_cmp}
use Rattle.file_check.proofs.DifferingLemmas.{numbers_differ}
use Rattle.file_check.proofs.differing.are_apart_below.Goals as goal

pub returns-clause-judged : goal.returns-clause-judged
returns-clause-judged c =
    let differ : IsTrue c.do_neighbours_differ.result ↔ AllPairs (λ a b. a ≢ b) c.args.numbers.now.items =
    numbers_differ c.args.numbers.now.items c.deref-2.result.now c.do_neighbours_differ.result
    (subst (λ (ns : List ℕ). IsPermutation c.args.numbers.now.items ns) (sym c.deref-2.ensures.value) c.in_ok-sort.ensures.permutation)
    (subst (λ (ns : List ℕ). IsSorted nat_cmp ns) (sym c.deref-2.ensures.value) c.in_ok-sort.ensures.sorted)
    c.do_neighbours_differ.ensures.differ c.do_neighbours_differ.ensures.equal in
    let below : AllByRecursion (λ number. number < c.args.next) c.args.numbers.now.items =
    subst (λ (ns : List ℕ). AllByRecursion (λ number. number < c.args.next) ns) c.deref.ensures.value (c.are_below.ensures.0 c.if-not-are_below.false) in
    (λ h. record { below_next = below; differ = differ.0 h }, λ apart. differ.1 apart.differ)
