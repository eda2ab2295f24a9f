use Rattle.std.proofs.Common.{arith, rules}
use Rattle.std.specs.List.Sorted.{IsNonDecreasingBy}
use Rattle.std.proofs.lemmas.List.Sorted.{IsNonDecreasingBy-from_sort, answers_always}
use Rattle.block_rows.specs.declared.hit.Hit.{Hit}
use Rattle.executor.proofs.found.Found.by_number.Goals as goal

pub returns-clause-in_order : goal.returns-clause-in_order
returns-clause-in_order c i j d low high =
    let sorted : IsNonDecreasingBy (λ (hit : Hit). hit.row.number) c.sort_unstable_by_key.new.self.items =
    IsNonDecreasingBy-from_sort (λ (hit : Hit). hit.row.number) c.sort_unstable_by_key.new.self.items
    (c.sort_unstable_by_key.ensures.sorted (λ (hit : Hit). hit.row.number) (answers_always _ _ _ (λ f a r h k. search rules))) in
    sorted i j d (omega (arith, low)) high
