use Rattle.std.proofs.Common.{drop}
use Rattle.key_codec.proofs.PutLemmas.{HasPut}
use Rattle.key_codec.proofs.encoding.put_key.Given as goal

abbrev pub invariant-loop-part : goal.invariant-loop-part
invariant-loop-part l = HasPut l.columns l.parts l.values l.initial.out (drop l.part-index l.part-items) l.at l.out
