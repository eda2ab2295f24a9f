-- The log of a file, and when it has no room.
use Rattle.std.specs.Prelude.{◌≡◌, ◌⊎◌, ◌<◌, ◌-◌, ℕ, Bool, true, false, Option, Some, Result, Err}
use Rattle.mdc_outside.specs.Disk.{File, all_synced}
use Rattle.page_file.specs.declared.layout.TheConstants.{FIRST_PAGE}
use Rattle.redo_log.specs.declared.fault.LogFault.{LogFault}
use Rattle.redo_log.specs.declared.fault.LogFault.TheVariants.{Device, NoRoom}
use Rattle.redo_log.specs.declared.layout.TheConstants.{GATE_COUNT}
use Rattle.redo_log.specs.declared.log.RedoLog.{RedoLog}
use Rattle.redo_log.specs.Layout.{log_end, need_of, HasRecords, NoneFrom}
use Rattle.redo_log.specs.Standing.{IsFormedBy}

-- all is on the disk, n records count, no gate behind them is open, and the file is formed
pub record IsLogged (n : ℕ) (file : File) : Type 0 where
  pub synced : file.since ≡ all_synced file.bytes
  pub has : HasRecords n file.bytes
  pub none : NoneFrom n file.bytes
  pub formed : IsFormedBy n file.bytes

-- how many of its records count
abbrev pub records_of : RedoLog → ℕ
records_of log = log.gates

-- the file page behind them
abbrev pub end_page_of : RedoLog → ℕ
end_page_of log = log.end

-- this is the log of the file: as many records count, and they end there
pub record IsLogOf (log : RedoLog) (file : File) : Type 0 where
  pub logged : IsLogged (records_of log) file
  pub ends : log_end (records_of log) file.bytes ≡ end_page_of log

-- so many images and their index pages need more pages than are free, or all gates are used
abbrev pub HasNoRoom : RedoLog → ℕ → Type 0
HasNoRoom log m = (FIRST_PAGE - end_page_of log < need_of m) ⊎ (records_of log ≡ GATE_COUNT)

-- the answer then
abbrev pub IsFull : {T : Type 0} → RedoLog → ℕ → Result T LogFault → Type 0
IsFull log m result = result ≡ Err (NoRoom (need_of m) (FIRST_PAGE - end_page_of log) (records_of log))

-- the fault is want of room
abbrev pub no_room : LogFault → Bool
no_room Device = false
no_room (NoRoom need free gates) = true

-- a fact of the file before and after, where both are told
pub record BothFiles (old new : Option File) (fact : File → File → Type 0) : Type 0 where
  pub holds : (before after : File) → old ≡ Some before → new ≡ Some after → fact before after
