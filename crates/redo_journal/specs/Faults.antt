-- What kind of fault a replay met.
use Rattle.redo_journal.specs.declared.replaying.ReplayFault.{ReplayFault}
use Rattle.redo_journal.specs.declared.replaying.ReplayFault.TheVariants.{Device, Damaged, Memory}

-- a rule is broken
abbrev pub IsDamaged : ReplayFault → Type 0
IsDamaged Device = ⊥
IsDamaged (Damaged damage) = Unit {0}
IsDamaged Memory = ⊥
