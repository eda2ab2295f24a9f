-- Calls that leave a disk alone.
use Rattle.std.specs.Prelude.{◌≡◌, ℕ, Bool, List, Option}
use Rattle.mdc_outside.specs.Disk.{File}

-- no call of the disk was made: its file, its list of attaches and its count of faults are as they were
pub record IsUntouched {H : Type 0} (file : H → Option File) (attaches : H → Option (List (List ℕ × Bool))) (disk_faults : H → ℕ) (old new : H) : Type 0 where
  pub same_file : file new ≡ file old
  pub same_attaches : attaches new ≡ attaches old
  pub same_faults : disk_faults new ≡ disk_faults old
