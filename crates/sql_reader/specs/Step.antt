-- What a call for the next item does, from how far the reader was to how far it is then.
use Rattle.std.specs.Prelude.{◌≡◌, ◌⊎◌, ◌<◌, ◌≤◌, length, ℕ, List, [], Option, true, take, Result, IfOk, OnErr, IfSome, IfNone, IsErrOf}
use Rattle.mdc_ast.specs.Reading.{Item, Closes}
use Rattle.sql_reader.specs.declared.statements.Read.{Read}
use Rattle.sql_reader.specs.declared.statements.ReadStop.{ReadStop}
use Rattle.sql_reader.specs.declared.statements.ReadStop.TheVariants as stop
use Rattle.sql_reader.specs.Item.{item_of}
use Rattle.sql_reader.specs.Items.{GivesOne, KeepsGiven}
use Rattle.sql_reader.specs.Progress.{Progress, Given, Took, IsLastRead, IsJustClosed}

-- A call from one progress to another, over a source that changed from one state to another.
pub record GoesOn {Object : Type 0} (left : Object → Option (List ℕ)) (before after : Object) (old new : Progress) (result : Result (Option Read) ReadStop) : Type 0 where
  -- what comes off the source is taken, and nothing is read where a closed statement waits
  pub taken : Took (left before) old.taken (left after) new.taken
  pub waiting : (given closed : List Item) → Given old given → Closes old.taken closed → length given < length closed → after ≡ before
  pub last_read : ((after ≡ before) × (new.taken ≡ old.taken)) ⊎ IsLastRead old new.taken
  -- an item is the next one of the script, and no more was taken than one read behind what closes it
  pub item : IfOk result (λ found. IfSome found (λ read. GivesOne old new (item_of read)))
  pub just : IfOk result (λ found. IfSome found (λ _. IsJustClosed old new.taken))
  -- `None` comes where there is no other
  pub end : IfOk result (λ found. IfNone found ((new.finished ≡ true) × KeepsGiven old new))
  pub at_end : new.finished ≡ true → (old.finished ≡ true) ⊎ IfSome (left after) (λ bytes. bytes ≡ [])
  -- `Source` and `TooLong` come only once each closed statement was given, and the limit is passed nowhere else
  pub source : IsErrOf result stop.Source → (given : List Item) → Given old given → Closes new.taken given
  pub too_long : IsErrOf result stop.TooLong → (67108864 < length new.taken)
      × ((given : List Item) → Given old given → Closes (take 67108864 new.taken) given)
  pub within : (length new.taken ≤ 67108864) ⊎ IsErrOf result stop.TooLong
  pub kept : OnErr result (KeepsGiven old new)
