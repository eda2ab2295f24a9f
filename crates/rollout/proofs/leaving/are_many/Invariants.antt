use Rattle.std.proofs.Common.{◌≡◌, ◌≤◌, ◌*◌, map, take}
use Rattle.block_map.specs.MapRows.{line_of}
use Rattle.rollout.specs.SweptPart.{all_rows}
use Rattle.rollout.proofs.leaving.are_many.Given as goal

-- the first lines were counted
abbrev pub invariant-loop-line : goal.invariant-loop-line
invariant-loop-line l = record {
  value : l.all ≡ all_rows (map line_of (take l.line-index l.lines));
  few : l.all ≤ 65536 * l.line-index;
}
