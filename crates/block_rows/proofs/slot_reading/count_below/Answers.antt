use Rattle.std.proofs.Common.{arith, rules}
use Rattle.std.proofs.lemmas.Bool.{ltb-false, ltb-true}
use Rattle.std.proofs.lemmas.List.Sorted.{IsPartitionPoint-from_clause, IsPartitionedBy-ltb}
use Rattle.std.specs.Prelude.{nat_lt}
use Rattle.block_rows.proofs.ListedSlotsLemmas.{below_taken, from_dropped, rise_sorted}
use Rattle.block_rows.proofs.slot_reading.count_below.Goals as goal

pub returns-clause-below : goal.returns-clause-below
returns-clause-below c =
    let parted = IsPartitionedBy-ltb (λ n. n) c.args.slots.now c.args.bound (rise_sorted c.args.slots.now c.requires.rise) in
    let point = IsPartitionPoint-from_clause (λ n. nat_lt n c.args.bound) _ _ c.partition_point.ensures.partitioned parted (λ a r q k. search rules) in
    below_taken c.partition_point.result c.args.bound c.args.slots.now (λ k d low. ltb-true _ _ (point.0 k d (omega arith) low))

pub returns-clause-behind : goal.returns-clause-behind
returns-clause-behind c =
    let parted = IsPartitionedBy-ltb (λ n. n) c.args.slots.now c.args.bound (rise_sorted c.args.slots.now c.requires.rise) in
    let point = IsPartitionPoint-from_clause (λ n. nat_lt n c.args.bound) _ _ c.partition_point.ensures.partitioned parted (λ a r q k. search rules) in
    from_dropped c.partition_point.result c.args.bound c.args.slots.now (λ k d late low. ltb-false _ _ (point.1 k d late low))
