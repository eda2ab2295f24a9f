use Rattle.std.proofs.Common.{None, refl}
use Rattle.page_store.specs.Desk.{IsKept}
use Rattle.page_store.specs.FileStore.{beside_of}
use Rattle.page_store.proofs.Desks.{kept_with}
use Rattle.page_store.proofs.Passing.{rests_kept}
use Rattle.page_store.proofs.Telling.{tells_ok, tells_err, tells_pass}
use Rattle.page_store.proofs.Wholes.{still_going, whole_again}
use Rattle.std.proofs.lemmas.Result.{on_ok_weaker, on_err_weaker}
use Rattle.page_store.proofs.LoggedLemmas.{shown_by, tells_part_with, tells_with}
use Rattle.page_store.proofs.file_store.FileStoreStore.tell.Goals as goal

pub invariant_of-self : goal.invariant_of-self
invariant_of-self g c =
    let going = still_going c.self.inside.host c.self.inside.desk c.args.self.now c.self.view_is c.requires in
    let kept = c.self.invariant.kept going in
    rw (c.say.ensures.file, c.say.ensures.attached) (whole_again _ _ _ _ c.self.inside.desk _ c.self.invariant.attached (kept_with _ c.self.inside.desk None c.self.inside.desk.cache kept kept.clean (λ none. absurd (cc))) refl going c.self.invariant.grew)

pub returns-clause-ok : goal.returns-clause-ok
returns-clause-ok g c =
    rw (← c.self.view_is, c.say.ensures.file, c.say.ensures.listed)
    (on_ok_weaker c.say.result (tells_with (g.L.FetchLog.told c.self.inside.log) (shown_by g.H.Disk.file g.H.Disk.beside g.H.Disk.attaches c.self.inside.host c.self.inside.desk) c.args.bytes.now) (tells_ok c.say.result (g.H.Disk.file c.self.inside.host) (g.H.Disk.beside c.self.inside.host).tape (g.H.Disk.beside c.say.new.host).tape (beside_of c.self.inside.desk.shape (g.H.Disk.attaches c.self.inside.host)) c.self.inside.desk c.args.bytes.now c.say.ensures.said))

pub returns-clause-err : goal.returns-clause-err
returns-clause-err g c =
    rw (← c.self.view_is, c.say.ensures.file, c.say.ensures.listed)
    (on_err_weaker c.say.result (tells_part_with (g.L.FetchLog.told c.self.inside.log) (shown_by g.H.Disk.file g.H.Disk.beside g.H.Disk.attaches c.self.inside.host c.self.inside.desk) c.args.bytes.now) (tells_err c.say.result (g.H.Disk.file c.self.inside.host) (g.H.Disk.beside c.self.inside.host).tape (g.H.Disk.beside c.say.new.host).tape (beside_of c.self.inside.desk.shape (g.H.Disk.attaches c.self.inside.host)) c.self.inside.desk c.args.bytes.now c.say.ensures.part))

pub returns-clause-time : goal.returns-clause-time
returns-clause-time g c =
    let going = still_going c.self.inside.host c.self.inside.desk c.args.self.now c.self.view_is c.requires in
    rw (← c.self.view_is) (tells_pass g.H.Disk.file g.H.Disk.beside g.H.Disk.attaches g.H.Disk.clock g.H.Disk.moment
    (record { host = c.self.inside.host; desk = c.self.inside.desk; log = c.self.inside.log }) (record { host = c.say.new.host; desk = record c.self.inside.desk { hand = None }; log = c.self.inside.log })
    c.args.bytes.now c.say.ensures.file c.say.ensures.part c.say.ensures.time (c.self.invariant.kept going) going refl)

pub returns-clause-rests : goal.returns-clause-rests
returns-clause-rests g c =
    let going = still_going c.self.inside.host c.self.inside.desk c.args.self.now c.self.view_is c.requires in
    let kept = c.self.invariant.kept going in
    let kept_now : IsKept (record c.self.inside.desk { hand = None }) (g.H.Disk.file c.say.new.host) =
    rw c.say.ensures.file (kept_with _ c.self.inside.desk None c.self.inside.desk.cache kept kept.clean (λ none. absurd (cc))) in
    rests_kept g.H.Disk.file g.H.Disk.beside g.H.Disk.attaches g.H.Disk.clock g.H.Disk.moment (record { host = c.say.new.host; desk = record c.self.inside.desk { hand = None }; log = c.self.inside.log }) (g.met.H.Disk.only_now c.say.new.host) kept_now going
