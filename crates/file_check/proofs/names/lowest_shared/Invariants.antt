use Rattle.std.proofs.Common.{◌≡◌, ◌+◌, drop}
use Rattle.file_check.specs.TablePagesJudged.{first_shared}
use Rattle.file_check.proofs.names.lowest_shared.Given as goal

-- none of the first ones shares a name with a later one
abbrev pub invariant-loop-t : goal.invariant-loop-t
invariant-loop-t l = first_shared (1 + l.t) (drop l.t l.defs) ≡ first_shared 1 l.defs
