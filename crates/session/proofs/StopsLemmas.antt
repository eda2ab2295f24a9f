-- Which stop of a session a stop of its reader or a fault of its store is.
use Rattle.std.proofs.Common.{◌≡◌, ◌⊎◌, ℕ, Err, refl, sym, ap, subst, inl, inr}
use Rattle.std.specs.Prelude.{IsErrOf}
use Rattle.mdc_words.specs.Faults.{CountsFault}
use Rattle.mdc_words.proofs.FaultsLemmas.{counts_fault_as, counts_fault_none}
use Rattle.store_api.specs.declared.fault.Damage.{Damage}
use Rattle.store_api.specs.declared.fault.StoreFault.{StoreFault}
use Rattle.store_api.specs.declared.fault.StoreFault.TheVariants as fault
use Rattle.sql_reader.specs.declared.statements.ReadStop.{ReadStop}
use Rattle.sql_reader.specs.declared.statements.ReadStop.TheVariants as read
use Rattle.session.specs.Stops.{IsOfScript, stop_of_fault, stop_of_reader}
use Rattle.session.specs.script.Turning.{IsTurnStop}
use Rattle.session.specs.declared.stop.Stop.{Stop}
use Rattle.session.specs.declared.stop.Stop.TheVariants.{Damaged, Device, Memory, NotMdc, TooLong, Unmade, Unread, Unsaid, Version}

-- ---- of the reader

-- it names no damage
pub reader_names_no_damage : (stop : ReadStop) (damage : Damage) → stop_of_reader stop ≡ Damaged damage → ⊥
reader_names_no_damage read.Source damage e = cc
reader_names_no_damage read.TooLong damage e = cc
reader_names_no_damage read.Memory damage e = cc

-- it refuses no file
pub reader_of_script : (stop : ReadStop) → IsOfScript (stop_of_reader stop)
reader_of_script read.Source = tt
reader_of_script read.TooLong = tt
reader_of_script read.Memory = tt

-- ---- of the engine

-- a fault refuses no file
pub fault_of_script : (stop : StoreFault) → IsOfScript (stop_of_fault stop)
fault_of_script fault.Device = tt
fault_of_script (fault.Damaged damage) = tt
fault_of_script fault.Memory = tt

-- a stop of the engine is one of a turn
pub engine_stops_turn : (stop : StoreFault) → IsTurnStop (stop_of_fault stop)
engine_stops_turn fault.Device = tt
engine_stops_turn (fault.Damaged damage) = tt
engine_stops_turn fault.Memory = tt

-- one that names damage is one of the engine that does
pub names_damage : (stop : StoreFault) (damage : Damage) → stop_of_fault stop ≡ Damaged damage → stop ≡ fault.Damaged damage
names_damage fault.Device damage e = absurd (cc)
names_damage (fault.Damaged named) damage e = let same : named ≡ damage = cc in ap fault.Damaged same
names_damage fault.Memory damage e = absurd (cc)

-- one of the disk
is_device : {X Y : Type 0} (stop : StoreFault) → IsErrOf {T = X} (Err (stop_of_fault stop)) Device → IsErrOf {T = Y} (Err stop) fault.Device
is_device fault.Device e = refl
is_device (fault.Damaged damage) e = absurd (cc)
is_device fault.Memory e = absurd (cc)

pub of_device : {X Y : Type 0} (stop : StoreFault) → IsErrOf {T = X} (Err stop) fault.Device → IsErrOf {T = Y} (Err (stop_of_fault stop)) Device
of_device fault.Device e = refl
of_device (fault.Damaged damage) e = absurd (cc)
of_device fault.Memory e = absurd (cc)

-- and so where no result is spoken of
pub device_stop : {X : Type 0} (stop : StoreFault) → IsErrOf {T = X} (Err stop) fault.Device → stop_of_fault stop ≡ Device
device_stop fault.Device e = refl
device_stop (fault.Damaged damage) e = absurd (cc)
device_stop fault.Memory e = absurd (cc)

-- none says that nothing could be told
pub never_unsaid : {X : Type 0} (stop : StoreFault) → IsErrOf {T = X} (Err (stop_of_fault stop)) Unsaid → ⊥
never_unsaid fault.Device e = cc
never_unsaid (fault.Damaged damage) e = cc
never_unsaid fault.Memory e = cc

-- what isn't answered isn't counted
pub counts_none : {Answered : Type 0} {before now : ℕ} → (Answered → ⊥) → now ≡ before → CountsFault Answered before now
counts_none {Answered} {before} none same = subst (CountsFault Answered before) (sym same) (counts_fault_none none)

-- the device of an engine's stop is counted as its own
pub counts_device : {X Y : Type 0} {before now : ℕ} (stop : StoreFault) → CountsFault (IsErrOf {T = X} (Err stop) fault.Device) before now
    → CountsFault (IsErrOf {T = Y} (Err (stop_of_fault stop)) Device) before now
counts_device stop counts = counts_fault_as (is_device stop) (of_device stop) counts

-- ---- of a turn

-- it refuses no file either
pub turn_of_script : (stop : Stop) → IsTurnStop stop → IsOfScript stop
turn_of_script Unmade none = absurd none
turn_of_script NotMdc none = absurd none
turn_of_script (Version version) none = absurd none
turn_of_script Unread none = absurd none
turn_of_script TooLong none = absurd none
turn_of_script Unsaid is = tt
turn_of_script Device is = tt
turn_of_script (Damaged damage) is = tt
turn_of_script Memory is = tt

-- ---- of a reply

-- a want of memory or a reply that couldn't be told names no damage
pub telling_names_no_damage : (stop : Stop) (damage : Damage) → IsErrOf {T = Unit {0}} (Err stop) Memory ⊎ IsErrOf {T = Unit {0}} (Err stop) Unsaid → stop ≡ Damaged damage → ⊥
telling_names_no_damage stop damage (inl memory) is = cc
telling_names_no_damage stop damage (inr unsaid) is = cc

pub telling_stops_turn : (stop : Stop) → IsErrOf {T = Unit {0}} (Err stop) Memory ⊎ IsErrOf {T = Unit {0}} (Err stop) Unsaid → IsTurnStop stop
telling_stops_turn stop (inl memory) = let is : Memory ≡ stop = cc in subst IsTurnStop is tt
telling_stops_turn stop (inr unsaid) = let is : Unsaid ≡ stop = cc in subst IsTurnStop is tt

pub telling_not_device : {X : Type 0} (stop : Stop) → IsErrOf {T = Unit {0}} (Err stop) Memory ⊎ IsErrOf {T = Unit {0}} (Err stop) Unsaid → IsErrOf {T = X} (Err stop) Device → ⊥
telling_not_device stop (inl memory) is = cc
telling_not_device stop (inr unsaid) is = cc
