use Rattle.std.proofs.Common.{◌≡◌, ◌++◌, take}
use Rattle.table_trees.specs.TableTrees.{rising_parts}
use Rattle.file_check.proofs.table_index.push_rising.Given as goal

-- the first columns came behind what was there
abbrev pub invariant-loop-column : goal.invariant-loop-column
invariant-loop-column l = l.parts.items ≡ l.fn.parts.items ++ rising_parts (take l.column-index l.column-items)
