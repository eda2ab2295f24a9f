-- What a run on a file makes of it beside its pages.
use Rattle.std.proofs.Common.{◌≡◌, ℕ, List, Option, Some, None, IfSome, refl, ap, subst, sym, ◌∙◌}
use Rattle.std.specs.Option.{ForSome}
use Rattle.mdc_outside.specs.Disk.{File}
use Rattle.page_store.proofs.FrontAgreesLemmas.{front_agrees_back, front_agrees_stays, front_agrees_then}
use Rattle.page_store.specs.FileStore.{GrewWhere}
use Rattle.page_store.specs.Opened.{file_bytes}
use Rattle.page_store.specs.Standing.{FrontAgrees, IsFormed}
use Rattle.page_store.specs.declared.fault.OpenFault.{OpenFault}
use Rattle.page_store.specs.declared.fault.OpenFault.TheVariants as opening
use Rattle.session.specs.file.Ending.{StopsOpening}
use Rattle.session.specs.declared.stop.Stop.{Stop}
use Rattle.session.specs.declared.stop.Stop.TheVariants as why

-- what is picked as a file is read is what it has
pub picked_as_read : (picked : Option (List ℕ)) (told : Option File) → picked ≡ file_bytes told → IfSome picked (λ first. ForSome told (λ file. file.bytes ≡ first))
picked_as_read None told is = tt
picked_as_read (Some first) None is = cc
picked_as_read (Some first) (Some read) is = λ at same. (let bytes : first ≡ read.bytes = cc in let one : at ≡ read = cc in ap (λ (f : File). f.bytes) one ∙ sym bytes)

-- what has grown from bytes that are picked
pub grew_picked : (P : List ℕ → Type 0) (picked : Option (List ℕ)) (first : List ℕ) → picked ≡ Some first → IfSome picked P → P first
grew_picked P None first is grew = absurd (cc)
grew_picked P (Some bytes) first is grew = let same : bytes ≡ first = cc in subst P same grew

-- what has grown where a store goes on has grown where it does by another fact
pub grew_by_run : {Going Runs : Type 0} (picked : Option (List ℕ)) (told : Option File) → (Runs → Going) → IfSome picked (λ first. ForSome told (λ file. GrewWhere Going first file.bytes))
    → IfSome picked (λ first. ForSome told (λ file. GrewWhere Runs first file.bytes))
grew_by_run None told going grew = grew
grew_by_run (Some first) told going grew = λ at is. let so = grew at is in (so.0, so.1, λ runs. so.2 (going runs), so.3)

-- the front of what has grown from a formed file agrees with any that agrees with it
pub front_grown : {Going : Type 0} {first file at_end : List ℕ} → IsFormed first → FrontAgrees first file → GrewWhere Going first at_end → FrontAgrees file at_end
front_grown formed agrees grew = front_agrees_then (front_agrees_back agrees) (front_agrees_stays formed grew.3.front)

-- a file that is told behind an opening was told before
pub told_first : (old new : Option File) → (old ≡ None → new ≡ None) → (after : File) → new ≡ Some after → (before : File) × (old ≡ Some before)
told_first None new untold after is = absurd (let none = untold refl in cc)
told_first (Some before) new untold after is = (before, refl)

-- an opening that was refused for a fault of the disk stops the run for it
pub stops_for_device : (fault : OpenFault) (stop : Stop) → StopsOpening fault stop → fault ≡ opening.Device → stop ≡ why.Device
stops_for_device fault stop stops is = subst (λ (f : OpenFault). StopsOpening f stop) is stops
