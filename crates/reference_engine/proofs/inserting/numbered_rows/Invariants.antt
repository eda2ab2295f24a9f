use Rattle.std.proofs.Common.{◌≡◌, ◌+◌, ◌++◌, length}
use Rattle.std.specs.Vec.Iter.{into_iter_items}
use Rattle.mdc_ast.specs.Database.{numbered}
use Rattle.reference_engine.proofs.inserting.numbered_rows.Given as goal

abbrev pub invariant-loop-values : goal.invariant-loop-values
invariant-loop-values l = record {
  rows : l.rows.items ++ numbered l.number (into_iter_items l.values-iterator) ≡ numbered l.fn.next l.fn.tuples;
  number : l.number + length (into_iter_items l.values-iterator) ≡ l.fn.next + length l.fn.tuples;
}
