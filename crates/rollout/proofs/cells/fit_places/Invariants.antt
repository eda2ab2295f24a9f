use Rattle.std.proofs.Common.{◌<◌, ℕ, get_or}
use Rattle.std.specs.Prelude.{IsTrue}
use Rattle.mdc_values.specs.declared.value.Value.TheVariants.{Null}
use Rattle.key_codec.specs.Keys.{has_key, type_of_column}
use Rattle.rollout.proofs.cells.fit_places.Given as goal

-- each so far fits
abbrev pub invariant-loop-at : goal.invariant-loop-at
invariant-loop-at l = (k : ℕ) → k < l.at → IsTrue (has_key (type_of_column l.columns (get_or l.places k 0)) (get_or l.values k Null))
