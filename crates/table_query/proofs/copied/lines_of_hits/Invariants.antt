use Rattle.std.proofs.Common.{map, take}
use Rattle.answer_text.specs.Answering.{AreLinesOf}
use Rattle.table_query.proofs.copied.lines_of_hits.Given as goal

abbrev pub invariant-loop-hit : goal.invariant-loop-hit
invariant-loop-hit l = AreLinesOf l.columns l.select (map (λ hit. hit.row) (take l.hit-index l.hits)) l.lines
