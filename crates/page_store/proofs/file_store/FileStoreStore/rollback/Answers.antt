use Rattle.std.proofs.Common.{refl}
use Rattle.page_store.proofs.BesideLemmas.{same_beside}
use Rattle.page_store.proofs.Passing.{stays}
use Rattle.page_store.proofs.Wholes.{still_going, whole_again}
use Rattle.page_store.proofs.LoggedLemmas.{rolls_back_with, shown_by}
use Rattle.page_store.proofs.file_store.FileStoreStore.rollback.Goals as goal

pub invariant_of-self : goal.invariant_of-self
invariant_of-self g c =
    let going = still_going c.self.inside.host c.self.inside.desk c.args.self.now c.self.view_is c.requires in
    whole_again _ _ _ _ c.self.inside.desk c.rollback.new.self c.self.invariant.attached (c.rollback.ensures.kept _ (c.self.invariant.kept going)) refl going c.self.invariant.grew

pub returns-clause-rolled_back : goal.returns-clause-rolled_back
returns-clause-rolled_back g c =
    let going = still_going c.self.inside.host c.self.inside.desk c.args.self.now c.self.view_is c.requires in
    rw (← c.self.view_is, same_beside (g.H.Disk.attaches c.self.inside.host) c.rollback.ensures.shape) (rolls_back_with (g.L.FetchLog.told c.self.inside.log) (shown_by g.H.Disk.file g.H.Disk.beside g.H.Disk.attaches c.self.inside.host c.self.inside.desk) (c.rollback.ensures.does _ (c.self.invariant.kept going) going _ _))

pub returns-clause-time : goal.returns-clause-time
returns-clause-time g c =
    rw (← c.self.view_is) (stays g.H.Disk.file g.H.Disk.beside g.H.Disk.clock g.H.Disk.moment _ c.self.inside.host c.self.inside.desk c.rollback.new.self c.rollback.ensures.shape)
