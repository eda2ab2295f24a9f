use Rattle.std.proofs.Common.{◌≡◌, length, ap, arith, refl, subst}
use Rattle.entry_tree.specs.Reading.{BoundFits}
use Rattle.record_index.specs.RecordIndexes.{place_of_record_index}
use Rattle.record_index.proofs.IndexesLemmas.{has_indexes, parts_there, width_is}
use Rattle.table_trees.proofs.TableTreesLemmas.{narrow_enough}
use Rattle.cleaner.proofs.sweeping.begins_at.Goals as goal

pub of-requires : goal.of-requires
of-requires c =
    let def = c.args.def.now in
    let index = c.args.pass.now.index in
    let parts = parts_there def index (has_indexes def.number def c.requires.defined) c.requires.there in
    let wide : length c.in-Some.bound ≡ (place_of_record_index def index).width = subst (BoundFits (place_of_record_index def index).width) c.in-Some.is c.requires.width in
    omega (arith, wide, ap length c.bytes.ensures, width_is def index (place_of_record_index def index) c.requires.there refl, narrow_enough def.columns _ parts.key)
