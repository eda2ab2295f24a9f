use Rattle.reference_engine.proofs.ChangedTables.{still_there, is_there-some}
use Rattle.reference_engine.proofs.Effects.{delete_is}
use Rattle.reference_engine.proofs.deleting.delete.Goals as goal

pub put_rows-requires : goal.put_rows-requires
put_rows-requires c = still_there c.args.tables.now c.take_rows-rows.new.self c.args.table _ c.take_rows-rows.ensures.left (is_there-some _ _ c.requires)

pub returns : goal.returns
returns c =
    delete_is c.args.tables.now c.take_rows-rows.new.self c.put_rows.new.self c.args.table c.args.pred.now c.take_rows-rows.result.items c.delete_rows-count.new.rows.items c.delete_rows-count.result
    c.take_rows-rows.ensures.taken c.take_rows-rows.ensures.left c.put_rows.ensures c.delete_rows-count.ensures.left c.delete_rows-count.ensures.count
