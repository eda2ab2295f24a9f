use Rattle.std.proofs.Common.{take}
use Rattle.std.specs.List.{All}
use Rattle.mdc_ast.specs.TableLimits.{IsGoodIndex}
use Rattle.table_page.proofs.definition_limits.are_good_indexes.Given as goal

-- the first ones are good
abbrev pub invariant-loop-index : goal.invariant-loop-index
invariant-loop-index l = All (IsGoodIndex l.columns) (take l.index-index l.indexes)
