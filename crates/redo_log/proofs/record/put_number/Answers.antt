-- The bytes of the number stand in the rest of the page, and the others are as they were.
use Rattle.std.proofs.Common.{arith, refl, ◌*◌}
use Rattle.byteorder.specs.Endian.{big_bytes}
use Rattle.redo_journal.proofs.PiecesLemmas.{put_bytes}
use Rattle.redo_log.proofs.record.put_number.Goals as goal

pub returns : goal.returns
returns c = put_bytes c.args.page.now c.write_u32.new.buf (big_bytes 4 c.args.number) (4 * c.args.k) 4096 c.told-page (omega arith) refl c.write_u32.ensures
