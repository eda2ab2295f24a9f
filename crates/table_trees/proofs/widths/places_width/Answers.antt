use Rattle.table_trees.proofs.TableTreesLemmas.{place_within}
use Rattle.table_trees.proofs.widths.places_width.Goals as goal

pub at-requires : goal.at-requires
at-requires c = place_within c.args.columns.now c.args.places.now c.as_slice-place-items.result.now c.loop-place.place-index c.as_slice-place-items.ensures c.requires.there c.loop-place-test.true
