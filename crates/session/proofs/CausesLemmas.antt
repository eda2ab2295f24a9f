-- Why a file isn't served to its end.
use Rattle.std.proofs.Common.{◌≡◌, ℕ, List, Result, Ok, Err, IfErr, refl, sym, inl, inr, subst}
use Rattle.store_api.specs.declared.fault.Damage.{Damage}
use Rattle.page_store.specs.Opening.{IsServed, Refuses}
use Rattle.page_store.specs.declared.fault.OpenFault.{OpenFault}
use Rattle.page_store.specs.declared.fault.OpenFault.TheVariants as opening
use Rattle.session.specs.Stops.{IsOfScript}
use Rattle.session.specs.declared.script.served.Served.{Served}
use Rattle.session.specs.declared.stop.Stop.{Stop}
use Rattle.session.specs.declared.stop.Stop.TheVariants as why
use Rattle.session.specs.file.Ending.{IsCauseIn, StopsOpening}
use Rattle.session.specs.file.Well.{IsWell}

-- a refusal has its cause in the file
pub cause_of_opening : (bytes : List ℕ) (fault : OpenFault) (stop : Stop) → Refuses fault bytes → StopsOpening fault stop → IsCauseIn bytes (Err stop)
cause_of_opening bytes opening.Exists stop refuses stops = absurd refuses
cause_of_opening bytes opening.Unmade stop refuses stops = subst (λ (s : Stop). IsCauseIn bytes (Err s)) (sym stops) refuses
cause_of_opening bytes opening.NotMdc stop refuses stops = subst (λ (s : Stop). IsCauseIn bytes (Err s)) (sym stops) refuses
cause_of_opening bytes (opening.Version version) stop refuses stops = subst (λ (s : Stop). IsCauseIn bytes (Err s)) (sym stops) refuses
cause_of_opening bytes opening.Device stop refuses stops = subst (λ (s : Stop). IsCauseIn bytes (Err s)) (sym stops) tt
cause_of_opening bytes (opening.Damaged damage) stop refuses stops = subst (λ (s : Stop). IsCauseIn bytes (Err s)) (sym stops) (inl refuses)
cause_of_opening bytes opening.Memory stop refuses stops = subst (λ (s : Stop). IsCauseIn bytes (Err s)) (sym stops) tt

-- the end of a script has its cause too, where it names damage of no well file
pub cause_of_script : (bytes : List ℕ) (result : Result Served Stop) → IsServed bytes → IfErr result IsOfScript → ((damage : Damage) → result ≡ Err (why.Damaged damage) → IsWell bytes → ⊥) → IsCauseIn bytes result
cause_of_script bytes (Ok served) is begun undamaged = tt
cause_of_script bytes (Err why.Unmade) is begun undamaged = absurd begun
cause_of_script bytes (Err why.NotMdc) is begun undamaged = absurd begun
cause_of_script bytes (Err (why.Version version)) is begun undamaged = absurd begun
cause_of_script bytes (Err why.Unread) is begun undamaged = tt
cause_of_script bytes (Err why.TooLong) is begun undamaged = tt
cause_of_script bytes (Err why.Unsaid) is begun undamaged = tt
cause_of_script bytes (Err why.Device) is begun undamaged = tt
cause_of_script bytes (Err (why.Damaged damage)) is begun undamaged = inr (is, undamaged damage refl)
cause_of_script bytes (Err why.Memory) is begun undamaged = tt

-- where the run doesn't end by a fault of the disk, neither did the opening
pub not_device : (fault : OpenFault) (stop : Stop) → StopsOpening fault stop → (stop ≡ why.Device → ⊥) → fault ≡ opening.Device → ⊥
not_device fault stop stops other is = other (subst (λ (f : OpenFault). StopsOpening f stop) is stops)
