use Rattle.std.proofs.Common.{◌≡◌}
use Rattle.std.specs.Vec.Iter.{into_iter_items}
use Rattle.plan_chooser.specs.Covers.{all_covers, no_cover}
use Rattle.plan_chooser.proofs.joining.all_of.Given as goal

abbrev pub invariant-loop-cover : goal.invariant-loop-cover
invariant-loop-cover l = all_covers l.known (into_iter_items l.cover-iterator) ≡ all_covers no_cover l.fn.covers
