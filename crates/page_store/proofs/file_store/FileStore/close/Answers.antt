-- The host is handed back as it is.
use Rattle.std.proofs.Common.{sym}
use Rattle.page_store.proofs.Deciding.{each_left}
use Rattle.page_store.proofs.Grown.{grown_closed}
use Rattle.page_store.proofs.Wholes.{still_going, holds_base}
use Rattle.page_store.proofs.file_store.FileStore.close.Goals as goal

pub returns-clause-left : goal.returns-clause-left
returns-clause-left g c =
    rw (← c.self.view_is) (each_left c.self.inside.desk.shape (g.H.Disk.file c.self.inside.host) (g.H.Disk.beside c.self.inside.host).tape (g.H.Disk.moment c.self.inside.host))

pub returns-clause-base : goal.returns-clause-base
returns-clause-base g c = λ ended.
    let going = still_going c.self.inside.host c.self.inside.desk c.args.self c.self.view_is ended in
    rw (← c.self.view_is) (holds_base (g.H.Disk.file c.self.inside.host) c.self.inside.desk (c.self.invariant.kept going) going)

pub returns-clause-told : goal.returns-clause-told
returns-clause-told g c =
    rw (← c.self.view_is) (sym (g.met.H.Host.lies_beside c.self.inside.host).0)

pub returns-clause-grew : goal.returns-clause-grew
returns-clause-grew g c = rw (← c.self.view_is) (grown_closed _ (g.H.Disk.file c.self.inside.host) c.self.inside.desk.halt c.self.invariant.grew)
