use Rattle.std.proofs.Common.{arith, refl}
use Rattle.page_store.proofs.BesideLemmas.{same_beside}
use Rattle.page_store.proofs.Passing.{stays}
use Rattle.page_store.proofs.Wholes.{still_going, held_pages, whole_again}
use Rattle.std.proofs.lemmas.Result.{on_ok_weaker, on_err_weaker}
use Rattle.page_store.proofs.LoggedLemmas.{loses_with, shown_by, writes_with}
use Rattle.page_store.proofs.file_store.FileStorePages.write.Goals as goal

pub write-requires : goal.write-requires
write-requires g c = omega (arith, c.requires.within, held_pages g.H.Disk.file c.self.inside.host c.self.inside.desk c.args.self.now c.self.view_is)

pub invariant_of-self : goal.invariant_of-self
invariant_of-self g c =
    let going = still_going c.self.inside.host c.self.inside.desk c.args.self.now c.self.view_is c.requires.going in
    whole_again _ _ _ _ c.self.inside.desk c.write.new.self c.self.invariant.attached (c.write.ensures.kept _ (c.self.invariant.kept going)) refl going c.self.invariant.grew

pub returns-clause-ok : goal.returns-clause-ok
returns-clause-ok g c =
    let going = still_going c.self.inside.host c.self.inside.desk c.args.self.now c.self.view_is c.requires.going in
    rw (← c.self.view_is, same_beside (g.H.Disk.attaches c.self.inside.host) c.write.ensures.shape) (on_ok_weaker c.write.result (writes_with (g.L.FetchLog.told c.self.inside.log) (shown_by g.H.Disk.file g.H.Disk.beside g.H.Disk.attaches c.self.inside.host c.self.inside.desk) c.args.p c.args.bytes.now) (c.write.ensures.ok _ (c.self.invariant.kept going) _ _))

pub returns-clause-err : goal.returns-clause-err
returns-clause-err g c =
    let going = still_going c.self.inside.host c.self.inside.desk c.args.self.now c.self.view_is c.requires.going in
    rw (← c.self.view_is, same_beside (g.H.Disk.attaches c.self.inside.host) c.write.ensures.shape) (on_err_weaker c.write.result (loses_with (g.L.FetchLog.told c.self.inside.log) (shown_by g.H.Disk.file g.H.Disk.beside g.H.Disk.attaches c.self.inside.host c.self.inside.desk)) (c.write.ensures.err _ _ _))

pub returns-clause-time : goal.returns-clause-time
returns-clause-time g c =
    rw (← c.self.view_is) (stays g.H.Disk.file g.H.Disk.beside g.H.Disk.clock g.H.Disk.moment _ c.self.inside.host c.self.inside.desk c.write.new.self c.write.ensures.shape)
