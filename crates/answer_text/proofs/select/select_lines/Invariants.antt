use Rattle.std.proofs.Common.{take}
use Rattle.answer_text.specs.Answering.{AreLinesOf}
use Rattle.answer_text.proofs.select.select_lines.Given as goal

abbrev pub invariant-loop-row : goal.invariant-loop-row
invariant-loop-row l = AreLinesOf l.def.columns l.query (take l.row-index l.row-items) l.lines
