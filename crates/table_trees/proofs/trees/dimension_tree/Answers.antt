use Rattle.std.proofs.Common.{arith, sym, ap, ◌∙◌, ◌+◌}
use Rattle.std.specs.Prelude.{Some}
use Rattle.table_trees.specs.TableTrees.{dimension_place, place_of_tree, rising_parts}
use Rattle.table_trees.proofs.TableTreesLemmas.{dimension_place_at, same_tree_place, wide_enough}
use Rattle.table_trees.proofs.trees.dimension_tree.Goals as goal

pub at-requires-3-clause-wide : goal.at-requires-3-clause-wide
at-requires-3-clause-wide c = omega (arith, c.places_width-width.ensures, wide_enough c.args.def.now.columns (rising_parts c.at.result.now) (c.requires.parts c.at.result.now c.at.ensures))

pub returns : goal.returns
returns c =
    dimension_place_at c.args.def.now c.args.dim c.at.result.now c.at-2.result.now c.at.ensures c.at-2.ensures
    ∙ ap Some (sym (same_tree_place (place_of_tree c.at-3.result) (dimension_place c.args.def.now c.at.result.now c.at-2.result.now) c.at-3.ensures.root (c.at-3.ensures.width ∙ ap (λ w. w + 4) c.places_width-width.ensures)))
