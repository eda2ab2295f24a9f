-- One entry more is read.
use Rattle.std.proofs.Common.{◌*◌, ◌∙◌, ap}
use Rattle.byteorder.specs.Endian.{big_number}
use Rattle.node_page.specs.Node.{bytes_in}
use Rattle.table_page.proofs.PartsLemmas.{listed-more}
use Rattle.table_page.proofs.definition_reading.read_dim_roots.Goals as goal

pub loop-i-preserved : goal.loop-i-preserved
loop-i-preserved c =
    listed-more (λ k. (big_number 4) (bytes_in (4 * k) 4 c.args.bytes.now)) c.loop-i.i c.loop-i.roots c.push.new.self _ c.loop-i.invariant
    (c.read_u32-root.ensures ∙ ap (big_number 4) c.part.ensures.bytes) c.in_ok-push.ensures.ok
