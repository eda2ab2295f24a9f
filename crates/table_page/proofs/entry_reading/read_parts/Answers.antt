-- One entry more is read.
use Rattle.std.proofs.Common.{◌*◌, ◌∙◌, ap}
use Rattle.table_page.specs.ReadingBack.{part_in_page}
use Rattle.node_page.specs.Node.{bytes_in}
use Rattle.table_page.proofs.PartsLemmas.{listed-more}
use Rattle.table_page.proofs.entry_reading.read_parts.Goals as goal

pub loop-i-preserved : goal.loop-i-preserved
loop-i-preserved c =
    listed-more (λ k. part_in_page (bytes_in (2 * k) 2 c.args.bytes.now)) c.loop-i.i c.loop-i.parts c.push.new.self _ c.loop-i.invariant
    (c.read_part.ensures ∙ ap part_in_page c.part.ensures.bytes) c.in_ok-push.ensures.ok
