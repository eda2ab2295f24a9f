use Rattle.std.proofs.Common.{IsTrue, arith, rules}
use Rattle.page_file.proofs.RunsLemmas.{runs_within}
use Rattle.page_file.proofs.LeavesLemmas.{runs_leave}
use Rattle.page_file.proofs.LeavesLemmas.{sound_image}
use Rattle.page_store.proofs.BesideLemmas.{same_beside}
use Rattle.page_store.proofs.Passing.{keeps_base}
use Rattle.page_store.proofs.Wholes.{still_going, length-base_of, whole_again}
use Rattle.page_store.proofs.LoggedLemmas.{committed_with, loses_hand_with, shown_by}
use Rattle.page_store.proofs.file_store.FileStoreStore.committed.Goals as goal

pub committed-requires-clause-within : goal.committed-requires-clause-within
committed-requires-clause-within g c =
    let going = still_going c.self.inside.host c.self.inside.desk c.args.self.now c.self.view_is c.requires.going in
    let within = rw (← c.self.view_is) at c.requires.within in
    omega (arith, within, length-base_of (g.H.Disk.file c.self.inside.host) c.self.inside.desk going)

pub invariant_of-self : goal.invariant_of-self
invariant_of-self g c =
    let going = still_going c.self.inside.host c.self.inside.desk c.args.self.now c.self.view_is c.requires.going in
    let attached : IsTrue (g.H.Disk.is_attached c.committed.new.disk) = search rules in
    whole_again _ _ _ _ c.self.inside.desk c.committed.new.self attached c.committed.ensures.still_kept c.committed.ensures.same going c.self.invariant.grew

pub returns-clause-ok : goal.returns-clause-ok
returns-clause-ok g c = rw (← c.self.view_is, c.committed.ensures.runs.beside, c.committed.ensures.runs.listed, same_beside (g.H.Disk.attaches c.self.inside.host) c.committed.ensures.shape) (committed_with c.committed.result c.args.p _ _ (shown_by g.H.Disk.file g.H.Disk.beside g.H.Disk.attaches c.self.inside.host c.self.inside.desk) _ c.committed.ensures.noted (c.committed.ensures.ok _ _))

pub returns-clause-err : goal.returns-clause-err
returns-clause-err g c = rw (← c.self.view_is, c.committed.ensures.runs.beside, c.committed.ensures.runs.listed, same_beside (g.H.Disk.attaches c.self.inside.host) c.committed.ensures.shape) (loses_hand_with c.committed.result _ _ (shown_by g.H.Disk.file g.H.Disk.beside g.H.Disk.attaches c.self.inside.host c.self.inside.desk) _ c.committed.ensures.unnoted (c.committed.ensures.err _ _))

pub returns-clause-time : goal.returns-clause-time
returns-clause-time g c =
    let going = still_going c.self.inside.host c.self.inside.desk c.args.self.now c.self.view_is c.requires.going in
    rw (← c.self.view_is) (keeps_base (record { host = c.self.inside.host; desk = c.self.inside.desk; log = c.self.inside.log }) (record { host = c.committed.new.disk; desk = c.committed.new.self; log = c.committed.new.log })
    (runs_leave (runs_within c.committed.ensures.runs) (λ f is. sound_image _ f (g.met.H.Disk.sound c.committed.new.disk) is) (λ before image is left. left))
    c.committed.ensures.same (c.self.invariant.kept going) going c.committed.ensures.shape)
