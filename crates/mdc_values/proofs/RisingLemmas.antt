-- A rising list stays one where an element behind its last is put last.
use Rattle.std.specs.Prelude.{List, [], ◌∷◌, ◌++◌}
use Rattle.mdc_values.specs.Rising.{IsRising, LastIsBefore}

pub IsRising-push : {X : Type 0} (Before : X → X → Type 0) (xs : List X) (new : X) → IsRising Before xs → LastIsBefore Before new xs → IsRising Before (xs ++ new ∷ [])
IsRising-push Before [] new rising last = tt
IsRising-push Before (x ∷ []) new rising last = (last, tt)
IsRising-push Before (x ∷ y ∷ xs) new rising last = (rising.0, IsRising-push Before (y ∷ xs) new rising.1 last)
