use Rattle.std.proofs.Common.{◌≡◌, ◌++◌, drop, false}
use Rattle.sql_reader.specs.Token.{undoubled}
use Rattle.sql_reader.proofs.cursor.undoubled.Given as goal

abbrev pub invariant-loop-byte : goal.invariant-loop-byte
invariant-loop-byte l = l.bytes.items ++ undoubled l.behind_quote (drop l.byte-index l.quoted) ≡ undoubled false l.fn.quoted
