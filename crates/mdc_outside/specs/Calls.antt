-- A recorded call as a caller sees it.
use Rattle.mdc_outside.specs.declared.call.Call.{Call}
use Rattle.mdc_outside.specs.declared.call.Call.TheVariants as call
use Rattle.mdc_outside.specs.declared.call.Event.{Event}
use Rattle.mdc_outside.specs.declared.call.Event.TheVariants.{Attach, Len, Read, Write, Sync, Say}
use Rattle.mdc_outside.specs.declared.call.Entry.{Entry}

-- the call of an event
abbrev pub call_of_event : Event → Call
call_of_event (Attach path make) = call.Attach
call_of_event Len = call.Len
call_of_event (Read at) = call.Read at
call_of_event (Write at bytes) = call.Write at
call_of_event Sync = call.Sync
call_of_event (Say piece) = call.Say

-- the recorded call
abbrev pub call_of : Entry → Call
call_of entry = call_of_event entry.event
