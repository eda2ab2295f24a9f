use Rattle.page_store.proofs.Wholes.{still_going}
use Rattle.page_store.proofs.file_store.FileStoreStore.written.Goals as goal

pub written-requires : goal.written-requires
written-requires g c =
    let going = still_going c.self.inside.host c.self.inside.desk c.args.self.now c.self.view_is c.requires in
    (c.self.invariant.kept going).count.0

pub returns-clause-enough : goal.returns-clause-enough
returns-clause-enough g c =
    let going = still_going c.self.inside.host c.self.inside.desk c.args.self.now c.self.view_is c.requires in
    rw (← c.self.view_is) (c.written.ensures.enough _ (c.self.invariant.kept going) going)
