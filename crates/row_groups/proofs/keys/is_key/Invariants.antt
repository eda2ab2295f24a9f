use Rattle.std.proofs.Common.{◌≡◌, ◌++◌, take}
use Rattle.std.specs.Prelude.{IsTrue}
use Rattle.row_groups.specs.Keys.{are_small, group_key}
use Rattle.row_groups.proofs.keys.is_key.Given as goal

abbrev pub invariant-loop-column : goal.invariant-loop-column
invariant-loop-column l = record {
  key : l.key ≡ group_key (take l.column-index l.columns) l.values ++ l.left;
  small : IsTrue (are_small (take l.column-index l.columns) l.values);
}
