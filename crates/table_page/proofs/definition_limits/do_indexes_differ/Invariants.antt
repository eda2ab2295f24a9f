use Rattle.std.proofs.Common.{◌↔◌, drop}
use Rattle.std.specs.Prelude.{map}
use Rattle.mdc_ast.specs.Definitions.{AllNamesDiffer}
use Rattle.table_page.proofs.definition_limits.do_indexes_differ.Given as goal

-- none of the first ones stands again
abbrev pub invariant-loop-i : goal.invariant-loop-i
invariant-loop-i l = AllNamesDiffer (map (λ index. index.name) (drop l.i l.indexes)) ↔ AllNamesDiffer (map (λ index. index.name) l.indexes)
