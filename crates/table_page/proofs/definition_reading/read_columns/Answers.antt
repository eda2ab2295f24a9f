-- One entry more is read.
use Rattle.std.proofs.Common.{◌*◌, ◌∙◌, ap}
use Rattle.table_page.specs.ReadingBack.{column_in_page}
use Rattle.node_page.specs.Node.{bytes_in}
use Rattle.table_page.proofs.PartsLemmas.{listed-more}
use Rattle.table_page.proofs.definition_reading.read_columns.Goals as goal

pub loop-i-preserved : goal.loop-i-preserved
loop-i-preserved c =
    listed-more (λ k. column_in_page (bytes_in (31 * k) 31 c.args.bytes.now)) c.loop-i.i c.loop-i.columns c.push.new.self _ c.loop-i.invariant
    (c.in_ok-column.ensures ∙ ap column_in_page c.part.ensures.bytes) c.in_ok-push.ensures.ok
