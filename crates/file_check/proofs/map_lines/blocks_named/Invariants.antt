use Rattle.file_check.proofs.MapEntriesLemmas.{NamesTo}
use Rattle.file_check.proofs.map_lines.blocks_named.Given as goal

abbrev pub invariant-loop-i : goal.invariant-loop-i
invariant-loop-i l = NamesTo l.entries l.i l.blocks.items l.from
