use Rattle.std.proofs.Common.{◌≤◌, drop, length, take}
use Rattle.key_codec.specs.Keys.{key_bytes}
use Rattle.record_index.proofs.KeysLemmas.{IsKeyedTo}
use Rattle.record_index.proofs.keys.put_row_key.Given as goal

abbrev pub invariant-loop-part : goal.invariant-loop-part
invariant-loop-part l = IsKeyedTo l.columns l.values (key_bytes l.columns l.parts l.values) (drop l.part-index l.part-items) (take l.end l.out) × (l.end ≤ length l.out)
