use Rattle.std.proofs.Common.{◌≡◌, drop}
use Rattle.key_codec.specs.Edges.{side_of_blanks}
use Rattle.key_codec.proofs.edge.side_of_blanks.Given as goal

abbrev pub invariant-loop-byte : goal.invariant-loop-byte
invariant-loop-byte l = side_of_blanks l.behind (drop l.byte-index l.text) ≡ side_of_blanks l.behind l.text
