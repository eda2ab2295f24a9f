use Rattle.std.proofs.Common.{◌≡◌, ◌≤◌, ◌*◌, map, take}
use Rattle.block_map.specs.MapRows.{line_of}
use Rattle.rollout.specs.SweptPart.{rows_among}
use Rattle.rollout.proofs.leaving.counted_rows.Given as goal

-- the first lines were counted
abbrev pub invariant-loop-line : goal.invariant-loop-line
invariant-loop-line l = record {
  value : l.rows ≡ rows_among (map line_of (take l.line-index l.lines)) l.blocks;
  few : l.rows ≤ 65536 * l.line-index;
}
