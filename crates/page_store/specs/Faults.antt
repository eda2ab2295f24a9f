-- What kind of fault keeps a file from being opened.
use Rattle.std.specs.Prelude.{◌≡◌, ◌⊎◌}
use Rattle.redo_journal.specs.declared.replaying.ReplayFault.{ReplayFault}
use Rattle.redo_journal.specs.declared.replaying.ReplayFault.TheVariants as replay
use Rattle.page_store.specs.declared.fault.OpenFault.{OpenFault}
use Rattle.page_store.specs.declared.fault.OpenFault.TheVariants.{Exists, Unmade, NotMdc, Version, Device, Damaged, Memory}

-- the same fault of a whole file
abbrev pub open_fault_of : ReplayFault → OpenFault
open_fault_of replay.Device = Device
open_fault_of (replay.Damaged damage) = Damaged damage
open_fault_of replay.Memory = Memory

-- a database that can't be served: it is damaged, or of another version
abbrev pub IsUnserved : OpenFault → Type 0
IsUnserved Exists = ⊥
IsUnserved Unmade = ⊥
IsUnserved NotMdc = ⊥
IsUnserved (Version version) = Unit {0}
IsUnserved Device = ⊥
IsUnserved (Damaged damage) = Unit {0}
IsUnserved Memory = ⊥

-- a fault that may come before all of the file is on the disk
abbrev pub MayComeFirst : OpenFault → Type 0
MayComeFirst fault = (fault ≡ Device) ⊎ (fault ≡ Memory)
