-- Which stop of a session a stop of its reader or a fault of its store is, and which end a script.
use Rattle.std.specs.Prelude.{Bool, true, false}
use Rattle.store_api.specs.declared.fault.StoreFault.{StoreFault}
use Rattle.store_api.specs.declared.fault.StoreFault.TheVariants as fault
use Rattle.sql_reader.specs.declared.statements.ReadStop.{ReadStop}
use Rattle.sql_reader.specs.declared.statements.ReadStop.TheVariants as read
use Rattle.session.specs.declared.script.served.Served.{Served}
use Rattle.session.specs.declared.script.served.Served.TheVariants.{AllDone, SomeRefused}
use Rattle.session.specs.declared.stop.Stop.{Stop}
use Rattle.session.specs.declared.stop.Stop.TheVariants.{Damaged, Device, Memory, NotMdc, TooLong, Unmade, Unread, Version}

-- a stop of the reader
abbrev pub stop_of_reader : ReadStop → Stop
stop_of_reader read.Source = Unread
stop_of_reader read.TooLong = TooLong
stop_of_reader read.Memory = Memory

-- a fault of the store, which the engine answers
abbrev pub stop_of_fault : StoreFault → Stop
stop_of_fault fault.Device = Device
stop_of_fault (fault.Damaged damage) = Damaged damage
stop_of_fault fault.Memory = Memory

-- a stop of a script that was begun: none that refuses its file
abbrev pub IsOfScript : Stop → Type 0
IsOfScript Unmade = ⊥
IsOfScript NotMdc = ⊥
IsOfScript (Version version) = ⊥
IsOfScript stop = Unit {0}

-- how a script's statements were answered, by whether one was refused
abbrev pub served_by : Bool → Served
served_by false = AllDone
served_by true = SomeRefused
