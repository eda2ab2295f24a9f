use Rattle.std.proofs.Common.{subst, sym, Vec, Global}
use Rattle.std.specs.Prelude.{ℕ, List, IsPermutation}
use Rattle.std.specs.List.Sorted.{IsSorted}
use Rattle.std.specs.Cmp.Lexicographic.{slice_cmp}
use Rattle.std.specs.Ordering.{nat_cmp}
use Rattle.file_check.proofs.DifferingLemmas.{texts_differ}
use Rattle.file_check.proofs.differing.do_keys_differ.Goals as goal

pub returns-clause-judged : goal.returns-clause-judged
returns-clause-judged c =
    texts_differ (λ key. key.items) c.args.keys.now.items c.deref.result.now c.do_neighbours_differ.result
    (subst (λ (keys : List (Vec ℕ Global)). IsPermutation c.args.keys.now.items keys) (sym c.deref.ensures.value) c.in_ok-sort.ensures.permutation)
    (subst (λ (keys : List (Vec ℕ Global)). IsSorted (λ x y. slice_cmp nat_cmp x.items y.items) keys) (sym c.deref.ensures.value) c.in_ok-sort.ensures.sorted)
    c.do_neighbours_differ.ensures.differ c.do_neighbours_differ.ensures.equal
