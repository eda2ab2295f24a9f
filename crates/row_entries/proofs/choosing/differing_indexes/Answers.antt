use Rattle.std.proofs.Common.{arith, length-set, subst, suc, take, ◌+◌, ◌≡◌}
use Rattle.std.specs.Prelude.{slice_set}
use Rattle.row_entries.specs.ChosenIndexes.{differ_in, differing_chosen}
use Rattle.row_entries.proofs.ChosenBitsLemmas.{next_told}
use Rattle.row_entries.proofs.choosing.differing_indexes.Goals as goal

pub loop-index-preserved : goal.loop-index-preserved
loop-index-preserved c =
    let next : suc c.loop-index.index ≡ c.loop-index.index + 1 = omega arith in (
      omega (arith, length-set c.loop-index.chosen c.loop-index.index c.do_keys_differ.result, c.loop-index.invariant.0),
      subst (λ n. take n (slice_set c.loop-index.chosen c.loop-index.index c.do_keys_differ.result) ≡ take n (differing_chosen c.args.def.now c.args.a.now c.args.b.now)) next
          (next_told (differ_in c.args.def.now c.args.a.now c.args.b.now) c.loop-index.index c.loop-index.chosen c.args.def.now.indexes c.at.result.now c.do_keys_differ.result c.loop-index.invariant.1 c.at.ensures c.do_keys_differ.ensures
          (omega (arith, c.loop-index.invariant.0, c.loop-index-test.true, c.len-index-end.ensures, c.requires.defined.indexes.few))),
    )
