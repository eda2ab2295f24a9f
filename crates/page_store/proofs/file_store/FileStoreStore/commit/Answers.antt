use Rattle.std.proofs.Common.{◌≡◌, None, rules}
use Rattle.store_api.specs.Moments.{BaseOrWork}
use Rattle.page_store.specs.Desk.{IsKept, state_of}
use Rattle.page_store.specs.FileStore.{beside_of}
use Rattle.page_store.proofs.BesideLemmas.{same_beside}
use Rattle.page_store.proofs.FrontAgreesLemmas.{agrees_after, agrees_at_rest}
use Rattle.page_store.proofs.Grown.{grown_by_commit}
use Rattle.page_store.proofs.Passing.{passes, rests, commit_rests, commit_agrees, either_reopens, if_said}
use Rattle.page_store.proofs.Wholes.{still_going}
use Rattle.std.proofs.lemmas.Result.{on_ok_weaker, on_err_weaker}
use Rattle.page_store.proofs.LoggedLemmas.{commits_with, ends_with, shown_by}
use Rattle.page_store.proofs.file_store.FileStoreStore.commit.Goals as goal

pub invariant_of-self : goal.invariant_of-self
invariant_of-self g c =
    let going = still_going c.self.inside.host c.self.inside.desk c.args.self.now c.self.view_is c.requires.going in
    let kept : c.commit.new.self.halt ≡ None → IsKept c.commit.new.self (g.H.Disk.file c.commit.new.disk) = search rules in
    record {
      attached = search rules;
      kept = kept;
      grew = grown_by_commit c.commit.result _ c.self.inside.desk c.commit.new.self (c.self.invariant.kept going) going (search rules) c.commit.ensures.base c.commit.ensures.halted kept c.commit.ensures.leaves c.commit.ensures.reach c.self.invariant.grew;
    }

pub returns-clause-ok : goal.returns-clause-ok
returns-clause-ok g c = rw (← c.self.view_is, c.commit.ensures.leaves.beside, c.commit.ensures.leaves.listed, same_beside (g.H.Disk.attaches c.self.inside.host) c.commit.ensures.shape) (on_ok_weaker c.commit.result (commits_with (g.L.FetchLog.told c.self.inside.log) (shown_by g.H.Disk.file g.H.Disk.beside g.H.Disk.attaches c.self.inside.host c.self.inside.desk)) (c.commit.ensures.ok _ _))

pub returns-clause-err : goal.returns-clause-err
returns-clause-err g c = rw (← c.self.view_is, c.commit.ensures.leaves.beside, c.commit.ensures.leaves.listed, same_beside (g.H.Disk.attaches c.self.inside.host) c.commit.ensures.shape) (on_err_weaker c.commit.result (ends_with (g.L.FetchLog.told c.self.inside.log) (shown_by g.H.Disk.file g.H.Disk.beside g.H.Disk.attaches c.self.inside.host c.self.inside.desk)) (c.commit.ensures.err _ _))

pub returns-clause-time : goal.returns-clause-time
returns-clause-time g c =
    let going = still_going c.self.inside.host c.self.inside.desk c.args.self.now c.self.view_is c.requires.going in
    let fronts = commit_agrees (g.H.Disk.file c.self.inside.host) c.self.inside.desk (c.self.invariant.kept going) in
    rw (← c.self.view_is) (passes (BaseOrWork (state_of (g.H.Disk.file c.self.inside.host) (g.H.Disk.beside c.self.inside.host).tape (beside_of c.self.inside.desk.shape (g.H.Disk.attaches c.self.inside.host)) c.self.inside.desk))
    (record { host = c.self.inside.host; desk = c.self.inside.desk; log = c.self.inside.log }) (record { host = c.commit.new.disk; desk = c.commit.new.self; log = c.self.inside.log })
    c.commit.ensures.leaves c.commit.ensures.shape (agrees_after c.commit.ensures.leaves fronts)
    (λ before said image pages is tape stands reopens. (
      either_reopens (g.H.Disk.file c.self.inside.host) c.self.inside.desk before image pages is stands.0 (fronts before image is stands) reopens,
      if_said (g.H.Disk.beside c.self.inside.host).tape said tape,
    )))

pub returns-clause-rests : goal.returns-clause-rests
returns-clause-rests g c =
    let going = still_going c.self.inside.host c.self.inside.desk c.args.self.now c.self.view_is c.requires.going in
    rests g.H.Disk.file g.H.Disk.beside g.H.Disk.attaches g.H.Disk.clock g.H.Disk.moment (record { host = c.commit.new.disk; desk = c.commit.new.self; log = c.self.inside.log }) (g.met.H.Disk.only_now c.commit.new.disk)
    (commit_rests c.commit.result (g.H.Disk.file c.commit.new.disk) (g.H.Disk.beside c.commit.new.disk).tape (beside_of c.commit.new.self.shape (g.H.Disk.attaches c.commit.new.disk)) c.commit.new.self
    c.commit.ensures.going_on c.commit.ensures.still_kept c.commit.ensures.halted c.commit.ensures.rests
    (agrees_at_rest c.commit.ensures.leaves (commit_agrees (g.H.Disk.file c.self.inside.host) c.self.inside.desk (c.self.invariant.kept going))))
