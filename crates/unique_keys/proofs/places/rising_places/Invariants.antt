use Rattle.std.proofs.Common.{take}
use Rattle.std.specs.Prelude.{◌↔◌, Contains}
use Rattle.mdc_values.specs.declared.rid.Rid.{Rid}
use Rattle.unique_keys.proofs.places.rising_places.Given as goal

-- the places so far are there
abbrev pub invariant-loop-rid : goal.invariant-loop-rid
invariant-loop-rid l = (rid : Rid) → Contains l.places rid ↔ Contains (take l.rid-index l.rid-items) rid
