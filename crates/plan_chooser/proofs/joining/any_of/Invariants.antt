use Rattle.std.proofs.Common.{◌≡◌, ◌++◌, map}
use Rattle.std.specs.List.{list_any}
use Rattle.std.specs.Vec.Iter.{into_iter_items}
use Rattle.plan_chooser.specs.Covers.{plan_of_cover, tells_nothing}
use Rattle.plan_chooser.proofs.joining.any_of.Given as goal

abbrev pub invariant-loop-cover : goal.invariant-loop-cover
invariant-loop-cover l = record {
  plans : l.parts ++ map plan_of_cover (into_iter_items l.cover-iterator) ≡ map plan_of_cover l.fn.covers;
  known : list_any tells_nothing (into_iter_items l.cover-iterator) ≡ list_any tells_nothing l.fn.covers;
}
