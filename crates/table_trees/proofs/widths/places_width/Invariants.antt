use Rattle.std.proofs.Common.{◌≡◌, ◌+◌, drop}
use Rattle.key_codec.specs.Keys.{width_of_parts}
use Rattle.table_trees.specs.TableTrees.{rising_parts}
use Rattle.table_trees.proofs.widths.places_width.Given as goal

abbrev pub invariant-loop-place : goal.invariant-loop-place
invariant-loop-place l = l.total + width_of_parts l.columns (rising_parts (drop l.place-index l.place-items)) ≡ width_of_parts l.columns (rising_parts l.places)
