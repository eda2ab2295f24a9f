-- One number more in each round, and at the end those of the whole chunk.
use Rattle.std.proofs.Common.{length-drop, drop, arith}
use Rattle.store_api.specs.StoreState.{zero_page}
use Rattle.redo_journal.proofs.PiecesLemmas.{next_number, whole_index}
use Rattle.redo_journal.proofs.page.index_page.Goals as goal

pub loop-k-preserved : goal.loop-k-preserved
loop-k-preserved c = next_number c.args.images.now c.args.first c.loop-k.k _ zero_page c.loop-k.page c.put_number.new.page c.at-number.ensures.image c.loop-k.invariant c.put_number.ensures

pub returns : goal.returns
returns c = whole_index (drop c.args.first c.args.images.now) c.loop-k.k 1024 zero_page c.loop-k.page (omega (arith, length-drop c.args.first c.args.images.now)) c.loop-k.invariant
