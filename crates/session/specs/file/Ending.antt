-- How a run on a file ends.
use Rattle.std.specs.Prelude.{◌≡◌, ◌⊎◌, ℕ, List, Result, Err}
use Rattle.page_store.specs.Fresh.{IsUnmade}
use Rattle.page_store.specs.Opening.{IsDamagedFile, IsOfVersion, IsOther, IsServed}
use Rattle.page_store.specs.declared.fault.OpenFault.{OpenFault}
use Rattle.page_store.specs.declared.fault.OpenFault.TheVariants as opening
use Rattle.session.specs.declared.script.served.Served.{Served}
use Rattle.session.specs.declared.stop.Stop.{Stop}
use Rattle.session.specs.file.Well.{IsWell}
use Rattle.session.specs.declared.stop.Stop.TheVariants.{Damaged, Device, Memory, NotMdc, Unmade, Version}

-- A refusal of a file at its opening. None says that it has a byte already: that is one of a making alone.
abbrev pub StopsOpening : OpenFault → Stop → Type 0
StopsOpening opening.Exists stop = ⊥
StopsOpening opening.Unmade stop = stop ≡ Unmade
StopsOpening opening.NotMdc stop = stop ≡ NotMdc
StopsOpening (opening.Version version) stop = stop ≡ Version version
StopsOpening opening.Device stop = stop ≡ Device
StopsOpening (opening.Damaged damage) stop = stop ≡ Damaged damage
StopsOpening opening.Memory stop = stop ≡ Memory

-- Why the file, of these bytes, isn't served: each refusal has its cause in them. Damage is named of a file that can't be opened, or
-- of one that is opened and isn't well.
abbrev pub IsCauseIn : List ℕ → Result Served Stop → Type 0
IsCauseIn file (Err Unmade) = IsUnmade file
IsCauseIn file (Err NotMdc) = IsOther file
IsCauseIn file (Err (Version version)) = IsOfVersion version file
IsCauseIn file (Err (Damaged damage)) = IsDamagedFile damage file ⊎ (IsServed file × (IsWell file → ⊥))
IsCauseIn file result = Unit {0}

-- a file that no database was made in, or of another program or version
abbrev pub IsRefused : Result Served Stop → Type 0
IsRefused (Err Unmade) = Unit {0}
IsRefused (Err NotMdc) = Unit {0}
IsRefused (Err (Version version)) = Unit {0}
IsRefused result = ⊥

-- an end of a file that can't be opened
abbrev pub IsUnopened : Result Served Stop → Type 0
IsUnopened (Err Unmade) = Unit {0}
IsUnopened (Err NotMdc) = Unit {0}
IsUnopened (Err (Version version)) = Unit {0}
IsUnopened (Err (Damaged damage)) = Unit {0}
IsUnopened (Err Device) = Unit {0}
IsUnopened (Err Memory) = Unit {0}
IsUnopened result = ⊥
