use Rattle.std.proofs.Common.{◌≡◌, ◌++◌, ℕ, List, length}
use Rattle.sql_reader.specs.Standing.{StandsFor}
use Rattle.sql_reader.proofs.trim.lead.Given as goal

-- the rest ends the piece and stands for it
abbrev pub invariant-loop-first : goal.invariant-loop-first
invariant-loop-first l = ((front : List ℕ) × (l.fn.piece ≡ front ++ l.rest)) × StandsFor l.fn.piece l.rest

abbrev pub decreases-loop-first : goal.decreases-loop-first
decreases-loop-first l = length l.rest
