-- What a real host has attached.
use Rattle.std.specs.Prelude.{Option, Some, None}
use Rattle.std.specs.declared.io.Error.{Error}
use Rattle.host_edge.specs.declared.file_host.Attached.{Attached}
use Rattle.host_edge.specs.declared.file_host.Attached.TheVariants.{File, Scratch}

-- why a sync of the attached file failed, if one did
abbrev pub lost_by : {F : Type 0} → Option (Attached F) → Option Error
lost_by None = None
lost_by (Some (File file)) = file.lost
lost_by (Some Scratch) = None
