use Rattle.std.proofs.Common.{take}
use Rattle.std.specs.Prelude.{filter}
use Rattle.mdc_ast.specs.Truth.{qualifies}
use Rattle.answer_text.specs.Answering.{AreLinesOf}
use Rattle.reference_engine.proofs.querying.lines_found.Given as goal

abbrev pub invariant-loop-row : goal.invariant-loop-row
invariant-loop-row l = AreLinesOf l.columns l.select (filter (λ row. qualifies l.select.pred row.values) (take l.row-index l.rows)) l.lines
