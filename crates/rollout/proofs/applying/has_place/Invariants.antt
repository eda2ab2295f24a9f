use Rattle.std.proofs.Common.{◌≡◌, ◌==◌, false, take}
use Rattle.std.specs.List.{list_any}
use Rattle.rollout.proofs.applying.has_place.Given as goal

-- none so far is it
abbrev pub invariant-loop-place : goal.invariant-loop-place
invariant-loop-place l = list_any (λ place. place == l.column) (take l.place-index l.places) ≡ false
