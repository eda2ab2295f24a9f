use Rattle.std.proofs.Common.{List, length, map, subst, take}
use Rattle.mdc_ast.specs.declared.row.Row.{Row}
use Rattle.block_rows.specs.declared.hit.Hit.{Hit}
use Rattle.answer_text.specs.Answering.{AreLinesOf}
use Rattle.answer_text.proofs.QueryLinesLemmas.{at_once_within}
use Rattle.table_query.proofs.CopiedRowsLemmas.{outs_in_row, rows_more}
use Rattle.table_query.proofs.copied.lines_of_hits.Goals as goal

pub add-requires : goal.add-requires
add-requires c =
    at_once_within c.args.columns.now c.args.select.now (map (λ (hit : Hit). hit.row) (take c.loop-hit.hit-index c.args.hits.now)) c.loop-hit.lines (length c.hit-item.result.row.values) c.loop-hit.invariant
    (outs_in_row c.args.columns.now c.args.select.now.outs c.args.hits.now c.loop-hit.hit-index c.hit-item.result c.requires.read c.loop-hit-test.true c.hit-item.is c.requires.shown)

pub loop-hit-preserved : goal.loop-hit-preserved
loop-hit-preserved c =
    subst (λ (rows : List Row). AreLinesOf c.args.columns.now c.args.select.now rows c.add.new.self)
    (rows_more c.args.hits.now c.loop-hit.hit-index c.hit-item.result c.loop-hit-test.true c.hit-item.is)
    (c.in_ok-add.ensures c.args.columns.now c.args.select.now (map (λ (hit : Hit). hit.row) (take c.loop-hit.hit-index c.args.hits.now)) c.loop-hit.invariant)
