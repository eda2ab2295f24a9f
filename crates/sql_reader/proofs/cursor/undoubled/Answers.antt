use Rattle.sql_reader.proofs.Folding.{undoubled_skips, undoubled_takes}
use Rattle.sql_reader.proofs.cursor.undoubled.Goals as goal

pub loop-byte-preserved-then-behind_quote : goal.loop-byte-preserved-then-behind_quote
loop-byte-preserved-then-behind_quote c = undoubled_skips c.loop-byte.behind_quote c.loop-byte.byte-index c.args.quoted.now c.loop-byte.bytes.items _ c.loop-byte-test.true c.if-behind_quote.true c.loop-byte.invariant

pub loop-byte-preserved : goal.loop-byte-preserved
loop-byte-preserved c = rw c.in_ok-push.ensures.items (undoubled_takes c.loop-byte.behind_quote c.loop-byte.byte-index c.args.quoted.now c.loop-byte.bytes.items _ c.loop-byte-test.true c.if-behind_quote.false c.loop-byte.invariant)
