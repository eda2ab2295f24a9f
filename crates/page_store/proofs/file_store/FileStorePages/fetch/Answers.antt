use Rattle.std.proofs.Common.{IsTrue, arith, rules}
use Rattle.page_file.proofs.RunsLemmas.{runs_within}
use Rattle.page_file.proofs.LeavesLemmas.{runs_leave}
use Rattle.page_file.proofs.LeavesLemmas.{sound_image}
use Rattle.page_store.proofs.BesideLemmas.{same_beside}
use Rattle.page_store.proofs.Passing.{keeps_base}
use Rattle.page_store.proofs.Wholes.{still_going, held_pages, whole_again}
use Rattle.page_store.proofs.LoggedLemmas.{fetches_with, loses_hand_with, shown_by}
use Rattle.page_store.proofs.file_store.FileStorePages.fetch.Goals as goal

pub fetch-requires-clause-within : goal.fetch-requires-clause-within
fetch-requires-clause-within g c = omega (arith, c.requires.within, held_pages g.H.Disk.file c.self.inside.host c.self.inside.desk c.args.self.now c.self.view_is)

pub invariant_of-self : goal.invariant_of-self
invariant_of-self g c =
    let going = still_going c.self.inside.host c.self.inside.desk c.args.self.now c.self.view_is c.requires.going in
    let attached : IsTrue (g.H.Disk.is_attached c.fetch.new.disk) = search rules in
    whole_again _ _ _ _ c.self.inside.desk c.fetch.new.self attached c.fetch.ensures.still_kept c.fetch.ensures.same going c.self.invariant.grew

pub returns-clause-ok : goal.returns-clause-ok
returns-clause-ok g c = rw (← c.self.view_is, c.fetch.ensures.runs.beside, c.fetch.ensures.runs.listed, same_beside (g.H.Disk.attaches c.self.inside.host) c.fetch.ensures.shape) (fetches_with c.fetch.result c.args.p _ _ (shown_by g.H.Disk.file g.H.Disk.beside g.H.Disk.attaches c.self.inside.host c.self.inside.desk) _ c.fetch.ensures.noted (c.fetch.ensures.ok _ _))

pub returns-clause-err : goal.returns-clause-err
returns-clause-err g c = rw (← c.self.view_is, c.fetch.ensures.runs.beside, c.fetch.ensures.runs.listed, same_beside (g.H.Disk.attaches c.self.inside.host) c.fetch.ensures.shape) (loses_hand_with c.fetch.result _ _ (shown_by g.H.Disk.file g.H.Disk.beside g.H.Disk.attaches c.self.inside.host c.self.inside.desk) _ c.fetch.ensures.unnoted (c.fetch.ensures.err _ _))

pub returns-clause-time : goal.returns-clause-time
returns-clause-time g c =
    let going = still_going c.self.inside.host c.self.inside.desk c.args.self.now c.self.view_is c.requires.going in
    rw (← c.self.view_is) (keeps_base (record { host = c.self.inside.host; desk = c.self.inside.desk; log = c.self.inside.log }) (record { host = c.fetch.new.disk; desk = c.fetch.new.self; log = c.fetch.new.log })
    (runs_leave (runs_within c.fetch.ensures.runs) (λ f is. sound_image _ f (g.met.H.Disk.sound c.fetch.new.disk) is) (λ before image is left. left))
    c.fetch.ensures.same (c.self.invariant.kept going) going c.fetch.ensures.shape)
