use Rattle.std.proofs.Common.{drop}
use Rattle.std.specs.Str.{bytes_eq}
use Rattle.key_codec.specs.Keys.{key_bytes}
use Rattle.row_entries.proofs.ComparedKeysLemmas.{IsComparedTo}
use Rattle.row_entries.proofs.choosing.do_keys_differ.Given as goal

abbrev pub invariant-loop-part : goal.invariant-loop-part
invariant-loop-part l = IsComparedTo l.columns l.a l.b (bytes_eq (key_bytes l.columns l.parts l.a) (key_bytes l.columns l.parts l.b)) (drop l.part-index l.part-items)
