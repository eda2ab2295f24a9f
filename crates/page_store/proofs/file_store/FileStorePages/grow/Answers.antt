use Rattle.std.proofs.Common.{arith, refl}
use Rattle.page_store.proofs.BesideLemmas.{same_beside}
use Rattle.page_store.proofs.Passing.{stays}
use Rattle.page_store.proofs.Wholes.{still_going, held_pages, whole_again}
use Rattle.page_store.proofs.LoggedLemmas.{grows_with, shown_by}
use Rattle.page_store.proofs.file_store.FileStorePages.grow.Goals as goal

pub grow-requires : goal.grow-requires
grow-requires g c = omega (arith, c.requires.room, held_pages g.H.Disk.file c.self.inside.host c.self.inside.desk c.args.self.now c.self.view_is)

pub invariant_of-self : goal.invariant_of-self
invariant_of-self g c =
    let going = still_going c.self.inside.host c.self.inside.desk c.args.self.now c.self.view_is c.requires.going in
    whole_again _ _ _ _ c.self.inside.desk c.grow.new.self c.self.invariant.attached (c.grow.ensures.kept _ (c.self.invariant.kept going)) refl going c.self.invariant.grew

pub returns-clause-ok : goal.returns-clause-ok
returns-clause-ok g c =
    let going = still_going c.self.inside.host c.self.inside.desk c.args.self.now c.self.view_is c.requires.going in
    rw (← c.self.view_is, same_beside (g.H.Disk.attaches c.self.inside.host) c.grow.ensures.shape) (grows_with (g.L.FetchLog.told c.self.inside.log) (shown_by g.H.Disk.file g.H.Disk.beside g.H.Disk.attaches c.self.inside.host c.self.inside.desk) c.args.n (c.grow.ensures.does _ (c.self.invariant.kept going) going _ _))

pub returns-clause-time : goal.returns-clause-time
returns-clause-time g c =
    rw (← c.self.view_is) (stays g.H.Disk.file g.H.Disk.beside g.H.Disk.clock g.H.Disk.moment _ c.self.inside.host c.self.inside.desk c.grow.new.self c.grow.ensures.shape)
