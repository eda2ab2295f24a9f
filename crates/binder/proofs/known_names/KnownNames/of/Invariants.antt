use Rattle.std.proofs.Common.{take}
use Rattle.binder.specs.Knowing.{Knows}
use Rattle.binder.proofs.known_names.KnownNames.of.Given as goal

abbrev pub invariant-loop-name : goal.invariant-loop-name
invariant-loop-name l = Knows l.known (take l.name-index l.names)
