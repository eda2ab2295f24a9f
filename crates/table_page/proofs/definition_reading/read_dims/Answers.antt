-- One entry more is read.
use Rattle.std.proofs.Common.{◌*◌, ◌∙◌, ap}
use Rattle.table_page.specs.ReadingBack.{dimension_in_page}
use Rattle.node_page.specs.Node.{bytes_in}
use Rattle.table_page.proofs.PartsLemmas.{listed-more}
use Rattle.table_page.proofs.definition_reading.read_dims.Goals as goal

pub loop-i-preserved : goal.loop-i-preserved
loop-i-preserved c =
    listed-more (λ k. dimension_in_page (bytes_in (17 * k) 17 c.args.bytes.now)) c.loop-i.i c.loop-i.dims c.push.new.self _ c.loop-i.invariant
    (c.in_ok-dim.ensures ∙ ap dimension_in_page c.part.ensures.bytes) c.in_ok-push.ensures.ok
