use Rattle.std.proofs.Common.{◌≡◌, map, take}
use Rattle.table_scan.specs.SeenTable.{listed_line}
use Rattle.table_scan.proofs.choosing.listed_by_lines.Given as goal

-- the blocks so far are those of the lines so far
abbrev pub invariant-loop-line : goal.invariant-loop-line
invariant-loop-line l = record { so_far : l.listed.items ≡ map listed_line (take l.line-index l.lines) }
