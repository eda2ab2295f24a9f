-- The end of a run that stopped before its first read, and what it took.
use Rattle.std.proofs.Common.{◌≡◌, ◌⊎◌, ℕ, List, [], Option, Some, None, Err, IfSome, refl, inl, inr, arith}
use Rattle.session.proofs.ScriptItemsLemmas.{closes_nothing, in_time_first}
use Rattle.page_store.specs.declared.fault.OpenFault.{OpenFault}
use Rattle.page_store.specs.declared.fault.OpenFault.TheVariants as opening
use Rattle.session.specs.script.Ending.{EndsSo, StopsWithin}
use Rattle.session.specs.script.Serving.{EndsScript, IsTakenBy, TakesScript}
use Rattle.session.specs.declared.stop.Stop.{Stop}
use Rattle.session.specs.declared.stop.Stop.TheVariants.{Damaged, Device, Memory, NotMdc, TooLong, Unmade, Unread, Unsaid, Version}
use Rattle.session.specs.file.Ending.{IsRefused, StopsOpening}
use Rattle.session.specs.file.Serving.{TakesBySession}

stops_first : (rest : List ℕ) → StopsWithin [] rest [] [] [] []
stops_first rest = record {
  all = [];
  are = inl closes_nothing;
  unmet = [];
  all_are = refl;
  answered = 0;
  says = record { done = []; left = []; part = []; all = refl; next = refl; bytes = refl; count = refl };
  but_one = omega arith;
  at_once = inl refl;
  in_time = in_time_first;
  fits = omega arith;
}

ends_so_first : (stop : Stop) (rest : List ℕ) → (stop ≡ Unread → ⊥) → (stop ≡ TooLong → ⊥) → EndsSo [] rest [] [] [] [] (Err stop)
ends_so_first Unmade rest read long = stops_first rest
ends_so_first NotMdc rest read long = stops_first rest
ends_so_first (Version version) rest read long = stops_first rest
ends_so_first Unread rest read long = absurd (read refl)
ends_so_first TooLong rest read long = absurd (long refl)
ends_so_first Unsaid rest read long = stops_first rest
ends_so_first Device rest read long = stops_first rest
ends_so_first (Damaged damage) rest read long = stops_first rest
ends_so_first Memory rest read long = stops_first rest

-- the run of a script of which nothing was read ends with no item, and all of the script is left
pub ends_first : (script : Option (List ℕ)) (stop : Stop) → (stop ≡ Unread → ⊥) → (stop ≡ TooLong → ⊥)
    → IfSome script (λ bytes. EndsScript bytes script [] [] [] [] (Err stop))
ends_first None stop read long = tt
ends_first (Some bytes) stop read long = record { taken = []; rest = bytes; script_is = refl; left_is = refl; ends = ends_so_first stop bytes read long }

-- ---- what was taken

none_taken : (stop : Stop) (rest : List ℕ) → (stop ≡ TooLong → ⊥) → IsTakenBy (Err stop) [] rest
none_taken Unmade rest long = omega arith
none_taken NotMdc rest long = omega arith
none_taken (Version version) rest long = omega arith
none_taken Unread rest long = omega arith
none_taken TooLong rest long = absurd (long refl)
none_taken Unsaid rest long = omega arith
none_taken Device rest long = omega arith
none_taken (Damaged damage) rest long = omega arith
none_taken Memory rest long = omega arith

-- of a script of which nothing was read nothing was taken
pub takes_first : (script : Option (List ℕ)) (stop : Stop) → (stop ≡ TooLong → ⊥) → IfSome script (λ bytes. TakesScript bytes script (Err stop))
takes_first None stop long = tt
takes_first (Some bytes) stop long = record { taken = []; rest = bytes; script_is = refl; left_is = refl; by_end = none_taken stop bytes long }

-- nor by one whose opening stopped, unless it refused the file
pub takes_unopened : (script : Option (List ℕ)) (fault : OpenFault) (stop : Stop) → StopsOpening fault stop → IsRefused (Err stop) ⊎ TakesBySession script script (Err stop)
takes_unopened script opening.Exists stop is = absurd is
takes_unopened script opening.Unmade stop is = inl (rw is tt)
takes_unopened script opening.NotMdc stop is = inl (rw is tt)
takes_unopened script (opening.Version version) stop is = inl (rw is tt)
takes_unopened script opening.Device stop is = inr (rw is (tt, takes_first script Device (λ e. cc)))
takes_unopened script (opening.Damaged damage) stop is = inr (rw is (tt, takes_first script (Damaged damage) (λ e. cc)))
takes_unopened script opening.Memory stop is = inr (rw is (tt, takes_first script Memory (λ e. cc)))
