-- All so far are below the number.
use Rattle.std.proofs.Common.{◌<◌, take}
use Rattle.std.specs.List.{All}
use Rattle.redo_journal.specs.Images.{unboxed}
use Rattle.redo_log.proofs.overlay.place_of.Given as goal

abbrev pub invariant-loop-at : goal.invariant-loop-at
invariant-loop-at l = All (λ image. image.0 < l.p) (take l.at (unboxed l.images))
