use Rattle.std.proofs.Common.{refl}
use Rattle.page_store.proofs.BesideLemmas.{same_beside}
use Rattle.page_store.proofs.Passing.{stays}
use Rattle.page_store.proofs.Wholes.{still_going, whole_again, counted_there}
use Rattle.std.proofs.lemmas.Result.{on_ok_weaker, on_err_weaker}
use Rattle.page_store.proofs.LoggedLemmas.{loses_with, prepares_with, shown_by}
use Rattle.page_store.proofs.file_store.FileStoreStore.prepare.Goals as goal

pub invariant_of-self : goal.invariant_of-self
invariant_of-self g c =
    let going = still_going c.self.inside.host c.self.inside.desk c.args.self.now c.self.view_is c.requires.going in
    whole_again _ _ _ _ c.self.inside.desk c.prepare.new.self c.self.invariant.attached (c.prepare.ensures.kept _ (c.self.invariant.kept going) (counted_there g.H.Disk.file c.self.inside.host c.self.inside.desk c.args.self.now c.self.view_is c.requires.counted) going)
    refl going c.self.invariant.grew

pub returns-clause-ok : goal.returns-clause-ok
returns-clause-ok g c =
    let going = still_going c.self.inside.host c.self.inside.desk c.args.self.now c.self.view_is c.requires.going in
    rw (← c.self.view_is, same_beside (g.H.Disk.attaches c.self.inside.host) c.prepare.ensures.shape) (on_ok_weaker c.prepare.result (prepares_with (g.L.FetchLog.told c.self.inside.log) (shown_by g.H.Disk.file g.H.Disk.beside g.H.Disk.attaches c.self.inside.host c.self.inside.desk)) (c.prepare.ensures.ok _ _ _))

pub returns-clause-err : goal.returns-clause-err
returns-clause-err g c =
    let going = still_going c.self.inside.host c.self.inside.desk c.args.self.now c.self.view_is c.requires.going in
    rw (← c.self.view_is, same_beside (g.H.Disk.attaches c.self.inside.host) c.prepare.ensures.shape) (on_err_weaker c.prepare.result (loses_with (g.L.FetchLog.told c.self.inside.log) (shown_by g.H.Disk.file g.H.Disk.beside g.H.Disk.attaches c.self.inside.host c.self.inside.desk)) (c.prepare.ensures.err _ _ _))

pub returns-clause-time : goal.returns-clause-time
returns-clause-time g c =
    rw (← c.self.view_is) (stays g.H.Disk.file g.H.Disk.beside g.H.Disk.clock g.H.Disk.moment _ c.self.inside.host c.self.inside.desk c.prepare.new.self c.prepare.ensures.shape)
