use Rattle.std.proofs.Common.{◌≡◌, ◌++◌, map}
use Rattle.std.specs.Prelude.{IsTrue, None}
use Rattle.std.specs.List.{list_all}
use Rattle.std.specs.Vec.Iter.{into_iter_items}
use Rattle.statement_meaning.specs.Doing.{changed_row}
use Rattle.block_rows.specs.HeldRows.{placed_row}
use Rattle.row_checks.specs.Filtering.{may_change}
use Rattle.statement_rows.specs.Turning.{turned_row}
use Rattle.script_engine.proofs.updating.turned_rows.Given as goal

-- what was made so far, and what is left
abbrev pub invariant-loop-hit : goal.invariant-loop-hit
invariant-loop-hit l = record {
  settable : IsTrue (list_all (λ hit. may_change l.sets None hit.row) (into_iter_items l.hit-iterator));
  made : map turned_row l.turned.items ++ map (λ hit. (placed_row hit, changed_row l.sets None hit.row)) (into_iter_items l.hit-iterator)
      ≡ map (λ hit. (placed_row hit, changed_row l.sets None hit.row)) l.fn.hits.items;
}
