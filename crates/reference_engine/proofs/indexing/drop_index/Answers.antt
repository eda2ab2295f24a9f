use Rattle.reference_engine.proofs.ChangedTables.{valid_number}
use Rattle.reference_engine.proofs.indexing.drop_index.Goals as goal

pub remove_index-requires-clause-numbered : goal.remove_index-requires-clause-numbered
remove_index-requires-clause-numbered c = valid_number c.args.tables.now c.args.table c.requires.valid
