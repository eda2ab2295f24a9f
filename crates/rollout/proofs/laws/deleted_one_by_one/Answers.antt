use Rattle.rollout.proofs.RowByRowLemmas.{loses_entries, takes_deleted}
use Rattle.rollout.proofs.SweptCountLemmas.{indexes_long}
use Rattle.rollout.proofs.laws.deleted_one_by_one.Goals as goal

pub returns-clause-spots : goal.returns-clause-spots
returns-clause-spots g c owners owners_now forests forests_now rows deletes = takes_deleted g.P.Pages c.args.shape c.args.def.now deletes

pub returns-clause-entries : goal.returns-clause-entries
returns-clause-entries g c owners owners_now forests forests_now rows deletes st =
    loses_entries g.P.Pages c.args.shape c.args.def.now deletes (indexes_long g.P.Pages c.args.shape c.args.old.now c.args.def.now c.requires.defined owners forests st)
