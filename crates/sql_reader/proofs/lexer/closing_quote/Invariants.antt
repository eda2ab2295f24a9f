use Rattle.std.proofs.Common.{◌≡◌, ◌<◌, None, drop, length}
use Rattle.std.specs.Prelude.{IfSome}
use Rattle.sql_reader.specs.Front.{closing_at}
use Rattle.sql_reader.proofs.lexer.closing_quote.Given as goal

abbrev pub invariant-loop-place : goal.invariant-loop-place
invariant-loop-place l = (closing_at l.quote l.place (drop l.place l.bytes) ≡ closing_at None 0 l.fn.bytes) × IfSome l.quote (λ q. q < length l.bytes)
