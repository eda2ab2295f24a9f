use Rattle.std.proofs.Common.{◌++◌, arith, length, refl}
use Rattle.std.proofs.lemmas.Option.{slice_get_read}
use Rattle.block_index.specs.Cells.{key_of_values}
use Rattle.block_index.proofs.CellsLemmas.{column_within, keyed_next, value_fits}
use Rattle.block_index.proofs.keys.push_key.Goals as goal

pub at-requires-in-loop-i : goal.at-requires-in-loop-i
at-requires-in-loop-i c =
    column_within c.args.columns.now (c.args.key.now.items ++ key_of_values c.args.columns.now c.args.places.now c.args.values.now) c.args.places.now c.args.values.now c.loop-i.i c.at.result.now c.loop-i.key.items c.loop-i.invariant c.at.ensures c.requires.parts.there

pub push_key_part-requires : goal.push_key_part-requires
push_key_part-requires c =
    value_fits c.args.columns.now (c.args.key.now.items ++ key_of_values c.args.columns.now c.args.places.now c.args.values.now) c.args.places.now c.args.values.now c.loop-i.i c.at.result.now c.loop-i.key.items c.loop-i.invariant c.at.ensures
    c.index-values-i.result c.at-in-loop-i.result.now (slice_get_read c.args.values.now (length c.args.values.now) c.loop-i.i c.index-values-i.result refl (omega (arith, c.loop-i-test.true, c.len-i-end.ensures, c.requires.enough)) c.index-values-i.is) c.at-in-loop-i.ensures

pub loop-i-preserved : goal.loop-i-preserved
loop-i-preserved c =
    keyed_next c.args.columns.now (c.args.key.now.items ++ key_of_values c.args.columns.now c.args.places.now c.args.values.now) c.args.places.now c.args.values.now c.loop-i.i c.at.result.now c.loop-i.key.items c.loop-i.invariant c.at.ensures
    c.index-values-i.result c.at-in-loop-i.result.now c.push_key_part.new.key.items (slice_get_read c.args.values.now (length c.args.values.now) c.loop-i.i c.index-values-i.result refl (omega (arith, c.loop-i-test.true, c.len-i-end.ensures, c.requires.enough)) c.index-values-i.is) c.at-in-loop-i.ensures c.in_ok-push_key_part.ensures
