use Rattle.std.proofs.Common.{refl}
use Rattle.page_store.proofs.BesideLemmas.{same_beside}
use Rattle.page_store.proofs.Passing.{stays}
use Rattle.page_store.proofs.Wholes.{still_going, whole_again}
use Rattle.page_store.proofs.LoggedLemmas.{marks_with, shown_by}
use Rattle.page_store.proofs.file_store.FileStorePages.mark.Goals as goal

pub invariant_of-self : goal.invariant_of-self
invariant_of-self g c =
    let going = still_going c.self.inside.host c.self.inside.desk c.args.self.now c.self.view_is c.requires.going in
    whole_again _ _ _ _ c.self.inside.desk c.mark.new.self c.self.invariant.attached (c.mark.ensures.kept _ (c.self.invariant.kept going)) refl going c.self.invariant.grew

pub returns-clause-marked : goal.returns-clause-marked
returns-clause-marked g c =
    let going = still_going c.self.inside.host c.self.inside.desk c.args.self.now c.self.view_is c.requires.going in
    rw (← c.self.view_is, same_beside (g.H.Disk.attaches c.self.inside.host) c.mark.ensures.shape) (marks_with (g.L.FetchLog.told c.self.inside.log) (shown_by g.H.Disk.file g.H.Disk.beside g.H.Disk.attaches c.self.inside.host c.self.inside.desk) (c.mark.ensures.does _ _ _))

pub returns-clause-time : goal.returns-clause-time
returns-clause-time g c =
    rw (← c.self.view_is) (stays g.H.Disk.file g.H.Disk.beside g.H.Disk.clock g.H.Disk.moment _ c.self.inside.host c.self.inside.desk c.mark.new.self c.mark.ensures.shape)
