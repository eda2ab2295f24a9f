use Rattle.std.proofs.Common.{arith}
use Rattle.record_index.proofs.KeysLemmas.{row_key_short}
use Rattle.record_index.proofs.keys.row_entry.Goals as goal

pub put_row_entry-end-requires-clause-room : goal.put_row_entry-end-requires-clause-room
put_row_entry-end-requires-clause-room c = let short = row_key_short c.args.columns.now c.args.parts.now c.args.values.now c.requires.parts c.requires.values in omega (arith, short)
