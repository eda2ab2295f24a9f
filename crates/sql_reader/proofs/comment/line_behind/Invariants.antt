use Rattle.std.proofs.Common.{ℕ, List, length}
use Rattle.mdc_ast.specs.Cutting.{Lacks}
use Rattle.sql_reader.specs.Trim.{StandsBehindLine}
use Rattle.sql_reader.proofs.comment.line_behind.Given as goal

-- the line feed of the rest is that of all
abbrev pub invariant-loop-byte : goal.invariant-loop-byte
invariant-loop-byte l = ((behind : List ℕ) → StandsBehindLine l.rest behind → StandsBehindLine l.fn.bytes behind) × (Lacks 10 l.rest → Lacks 10 l.fn.bytes)

abbrev pub decreases-loop-byte : goal.decreases-loop-byte
decreases-loop-byte l = length l.rest
