use Rattle.std.proofs.lemmas.Result.{on_ok_weaker}
use Rattle.mdc_sound.proofs.DefinitionTreesLemmas.{has_block_indexes}
use Rattle.index_building.proofs.DroppingIndexRunsLemmas.{freeing_index, frees_index}
use Rattle.index_building.proofs.dropping.free_index.Goals as goal

pub returns-clause-frees : goal.returns-clause-frees
returns-clause-frees g c =
    on_ok_weaker c.free_all.result (λ freed. frees_index g.P.Pages c.args.shape c.args.pages.now c.args.def.now c.args.index c.from.result c.record_tree.result c.from.ensures c.record_tree.ensures freed) c.free_all.ensures.freed

pub returns-clause-runs : goal.returns-clause-runs
returns-clause-runs g c =
    freeing_index g.P.Pages c.args.shape c.args.pages.now c.args.def.now c.args.index c.from.result c.record_tree.result c.from.ensures c.record_tree.ensures
    (has_block_indexes c.args.def.now.number c.args.def.now c.requires.defined) c.free_all.ensures.runs
