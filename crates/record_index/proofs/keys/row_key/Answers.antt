use Rattle.record_index.proofs.KeysLemmas.{row_key_short}
use Rattle.record_index.proofs.keys.row_key.Goals as goal

pub put_row_key-end-requires-clause-room : goal.put_row_key-end-requires-clause-room
put_row_key-end-requires-clause-room c = row_key_short c.args.columns.now c.args.parts.now c.args.values.now c.requires.parts c.requires.values
