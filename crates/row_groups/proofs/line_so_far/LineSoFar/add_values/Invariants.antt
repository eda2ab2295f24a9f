use Rattle.std.proofs.Common.{◌≡◌, length, map, take}
use Rattle.row_groups.specs.Adding.{in_places, many_added, seen}
use Rattle.row_groups.proofs.line_so_far.LineSoFar.add_values.Given as goal

abbrev pub invariant-loop-place : goal.invariant-loop-place
invariant-loop-place l = record {
  number : l.self-inside.number ≡ l.initial.self-inside.number;
  sorts : l.self-inside.sorts ≡ l.initial.self-inside.sorts;
  long : length l.self-inside.tallies.items ≡ length l.initial.self-inside.tallies.items;
  shows : map seen l.self-inside.tallies.items ≡ in_places (many_added l.count) (take l.place l.outs) (map seen l.initial.self-inside.tallies.items) l.values;
}
