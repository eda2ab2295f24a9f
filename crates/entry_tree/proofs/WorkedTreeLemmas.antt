-- The tree of three levels is one.
use Rattle.std.proofs.Common.{◌≤◌, ℕ, zero, suc, refl, arith}
use Rattle.mdc_words.specs.ByteOrder.{below}
use Rattle.entry_tree.specs.Forest.{IsTree, times}
use Rattle.entry_tree.specs.WorkedTree.{worked_nodes, worked_tree}
use Rattle.entry_tree.proofs.ForestLemmas.{once_other}

apart : (n : ℕ) → times n worked_tree ≤ 1
apart zero = omega arith
apart (suc zero) = omega arith
apart (suc (suc zero)) = omega arith
apart (suc (suc (suc zero))) = omega arith
apart (suc (suc (suc (suc zero)))) = omega arith
apart (suc (suc (suc (suc (suc n))))) =
    let m : ℕ = suc (suc (suc (suc (suc n)))) in
    omega (arith, once_other m 0 (λ e. omega arith), once_other m 1 (λ e. omega arith), once_other m 2 (λ e. omega arith), once_other m 3 (λ e. omega arith), once_other m 4 (λ e. omega arith))

pub worked_is_tree : IsTree worked_nodes 0 worked_tree
unfolding below
worked_is_tree = record {
  head = refl;
  holds = (refl, (refl, (refl, (refl, (refl, tt)), tt)), tt);
  fits = (tt, (tt, (tt, refl, tt), (tt, (refl, (refl, refl, (refl, refl, tt)), (tt, (refl, tt, tt), refl)), refl)), refl);
  distinct = apart;
}
