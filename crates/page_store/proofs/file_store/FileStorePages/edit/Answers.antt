-- The page came among the changes, where the work stays, and then it is as its borrower left it.
use Rattle.std.proofs.Common.{◌≡◌, ◌<◌, ◌∙◌, ℕ, List, Some, None, MutBor, length, slice_index_or, is_some, arith, IsTrue, IsErrOf, refl, ap, sym, subst, rules}
use Rattle.std.proofs.lemmas.Result.{IfOk-weaker, on_err_weaker}
use Rattle.mdc_words.proofs.FaultsLemmas.{counts_fault_none, counts_fault_then}
use Rattle.store_api.specs.Calls.{noted}
use Rattle.store_api.specs.StoreState.{StoreState, page_at}
use Rattle.store_api.specs.declared.fault.PageFault.TheVariants.{Device}
use Rattle.page_file.proofs.RunsLemmas.{runs_within}
use Rattle.page_file.proofs.LeavesLemmas.{runs_leave, sound_image}
use Rattle.page_store.specs.Desk.{state_of, work_of}
use Rattle.page_store.specs.FileStore.{beside_of}
use Rattle.page_store.proofs.BesideLemmas.{same_beside}
use Rattle.page_store.proofs.Lent.{kept_same, edits_does, keeps_does, lost_writes, lost_twice, changed_page, counts_passed}
use Rattle.page_store.proofs.LoggedLemmas.{edits_with, on_err_both, on_ok_holds, readiness_with}
use Rattle.page_store.proofs.Passing.{keeps_base}
use Rattle.page_store.proofs.Wholes.{still_going, held_pages, whole_again}
use Rattle.page_store.proofs.file_store.FileStorePages.edit.Goals as goal

pub admit-requires-clause-within : goal.admit-requires-clause-within
admit-requires-clause-within g c = omega (arith, c.requires.within, held_pages g.H.Disk.file c.self.inside.host c.self.inside.desk c.args.self.now c.self.view_is)

pub invariant_of-self-lent : goal.invariant_of-self-lent
invariant_of-self-lent g c =
    let going = still_going c.self.inside.host c.self.inside.desk c.args.self.now c.self.view_is c.requires.going in
    let attached : IsTrue (g.H.Disk.is_attached c.admit.new.disk) = search rules in λ _. (
      (λ w. whole_again _ _ _ _ c.self.inside.desk _ attached (kept_same _ c.admit.new.self (c.edit.follows.lender w) c.admit.ensures.still_kept (c.edit.follows.holds w).0 c.admit.ensures.bare.0 c.admit.ensures.bare.1) c.admit.ensures.same going c.self.invariant.grew),
      whole_again _ _ _ _ c.self.inside.desk _ attached (kept_same _ c.admit.new.self c.edit.follows.lender-at-none c.admit.ensures.still_kept c.edit.follows.holds-at-none.0 c.admit.ensures.bare.0 c.admit.ensures.bare.1) c.admit.ensures.same going c.self.invariant.grew,
    )

pub returns-in-Ok : goal.returns-in-Ok
returns-in-Ok g c =
    let going = still_going c.self.inside.host c.self.inside.desk c.args.self.now c.self.view_is c.requires.going in (
      (
        refl,
        (λ w ok. record {
          ok = rw (← c.self.view_is, c.admit.ensures.runs.beside, c.admit.ensures.runs.listed, same_beside (g.H.Disk.attaches c.self.inside.host) (c.edit.follows.holds w).0.shape, same_beside (g.H.Disk.attaches c.self.inside.host) c.admit.ensures.shape) (edits_with c.args.p w (g.L.FetchLog.told c.self.inside.log) (g.L.FetchLog.told c.edit.new.log) (state_of (g.H.Disk.file c.self.inside.host) (g.H.Disk.beside c.self.inside.host).tape (beside_of c.self.inside.desk.shape (g.H.Disk.attaches c.self.inside.host)) c.self.inside.desk) (state_of (g.H.Disk.file c.admit.new.disk) (g.H.Disk.beside c.self.inside.host).tape (beside_of c.self.inside.desk.shape (g.H.Disk.attaches c.self.inside.host)) (c.edit.follows.lender w)) (on_ok_holds c.edit.result ok c.edit.ensures.noted ∙ ap (noted c.args.p) c.admit.ensures.unnoted) (lost_writes (state_of (g.H.Disk.file c.self.inside.host) (g.H.Disk.beside c.self.inside.host).tape (beside_of c.self.inside.desk.shape (g.H.Disk.attaches c.self.inside.host)) c.self.inside.desk) (state_of (g.H.Disk.file c.admit.new.disk) (g.H.Disk.beside c.self.inside.host).tape (beside_of c.self.inside.desk.shape (g.H.Disk.attaches c.self.inside.host)) c.admit.new.self) (state_of (g.H.Disk.file c.admit.new.disk) (g.H.Disk.beside c.self.inside.host).tape (beside_of c.self.inside.desk.shape (g.H.Disk.attaches c.self.inside.host)) (c.edit.follows.lender w)) c.args.p w (c.admit.ensures.does _ _)
              (edits_does (g.H.Disk.file c.admit.new.disk) c.admit.new.self (c.edit.follows.lender w) c.args.p w (c.edit.follows.holds w).0 ((c.edit.follows.holds w).1 ok) c.admit.ensures.bare.0 c.admit.ensures.bare.1 _ _)));
          written = rw (← c.self.view_is) (omega (arith, c.admit.ensures.written, (c.edit.follows.holds w).0.changes.kept));
          disk_faults = rw (← c.self.view_is) (c.admit.ensures.cause.still (λ device. let wrong = subst (λ r. IsErrOf r Device) c.in-Ok.is device in absurd (cc)));
          say_faults = search rules;
          time = rw (← c.self.view_is) (keeps_base (record { host = c.self.inside.host; desk = c.self.inside.desk; log = c.self.inside.log }) (record { host = c.admit.new.disk; desk = c.edit.follows.lender w; log = c.edit.new.log }) (runs_leave (runs_within c.admit.ensures.runs) (λ f is. sound_image _ f (g.met.H.Disk.sound c.admit.new.disk) is) (λ before image is left. left)) c.admit.ensures.same (c.self.invariant.kept going) going ((c.edit.follows.holds w).0.shape ∙ c.admit.ensures.shape));
        }),
        on_err_weaker c.edit.result (λ (both : ((c.edit.follows.lender-at-none).changes.now ≡ c.admit.new.self.changes.now) × (g.L.FetchLog.told c.edit.new.log ≡ g.L.FetchLog.told c.admit.new.log)). record {
          err = rw (← c.self.view_is, c.admit.ensures.runs.beside, c.admit.ensures.runs.listed, same_beside (g.H.Disk.attaches c.self.inside.host) c.edit.follows.holds-at-none.0.shape, same_beside (g.H.Disk.attaches c.self.inside.host) c.admit.ensures.shape) (readiness_with (g.L.FetchLog.told c.self.inside.log) (g.L.FetchLog.told c.edit.new.log) (state_of (g.H.Disk.file c.self.inside.host) (g.H.Disk.beside c.self.inside.host).tape (beside_of c.self.inside.desk.shape (g.H.Disk.attaches c.self.inside.host)) c.self.inside.desk) (state_of (g.H.Disk.file c.admit.new.disk) (g.H.Disk.beside c.self.inside.host).tape (beside_of c.self.inside.desk.shape (g.H.Disk.attaches c.self.inside.host)) c.edit.follows.lender-at-none) (both.1 ∙ c.admit.ensures.unnoted) (lost_twice (state_of (g.H.Disk.file c.self.inside.host) (g.H.Disk.beside c.self.inside.host).tape (beside_of c.self.inside.desk.shape (g.H.Disk.attaches c.self.inside.host)) c.self.inside.desk) (state_of (g.H.Disk.file c.admit.new.disk) (g.H.Disk.beside c.self.inside.host).tape (beside_of c.self.inside.desk.shape (g.H.Disk.attaches c.self.inside.host)) c.admit.new.self) (state_of (g.H.Disk.file c.admit.new.disk) (g.H.Disk.beside c.self.inside.host).tape (beside_of c.self.inside.desk.shape (g.H.Disk.attaches c.self.inside.host)) c.edit.follows.lender-at-none) (c.admit.ensures.does _ _)
              (keeps_does (g.H.Disk.file c.admit.new.disk) c.admit.new.self c.edit.follows.lender-at-none c.edit.follows.holds-at-none.0 both.0 c.admit.ensures.bare.0 c.admit.ensures.bare.1 _ _)));
          written = rw (← c.self.view_is) (omega (arith, c.admit.ensures.written, c.edit.follows.holds-at-none.0.changes.kept));
          disk_faults = rw (← c.self.view_is) (counts_fault_then (c.admit.ensures.cause.still (λ device. let wrong = subst (λ r. IsErrOf r Device) c.in-Ok.is device in absurd (cc))) (counts_fault_none c.edit.ensures.memory));
          say_faults = search rules;
          time = rw (← c.self.view_is) (keeps_base (record { host = c.self.inside.host; desk = c.self.inside.desk; log = c.self.inside.log }) (record { host = c.admit.new.disk; desk = c.edit.follows.lender-at-none; log = c.edit.new.log }) (runs_leave (runs_within c.admit.ensures.runs) (λ f is. sound_image _ f (g.met.H.Disk.sound c.admit.new.disk) is) (λ before image is left. left)) c.admit.ensures.same (c.self.invariant.kept going) going (c.edit.follows.holds-at-none.0.shape ∙ c.admit.ensures.shape));
        }) (on_err_both _ _ c.edit.result c.edit.follows.holds-at-none.1 c.edit.ensures.unnoted),
      ),
      record {
        lends = tt;
        page = rw (← c.self.view_is) (IfOk-weaker c.edit.result (λ (page : MutBor (List ℕ)). slice_index_or c.admit.new.self.changes.now c.args.p None ≡ Some page.now)
            (λ (page : MutBor (List ℕ)). IsTrue (is_some (g.H.Disk.file c.self.inside.host)) → page.now ≡ page_at (work_of (g.H.Disk.file c.self.inside.host) c.self.inside.desk c.self.inside.desk.changes.now) c.args.p)
            (λ page is shown.
            let within : c.args.p < length c.admit.new.self.changes.now = omega (arith, c.requires.within, c.admit.ensures.pages, held_pages g.H.Disk.file c.self.inside.host c.self.inside.desk c.args.self.now c.self.view_is) in
            let told : IsTrue (is_some (g.H.Disk.file c.admit.new.disk)) = subst (λ t. IsTrue (is_some t)) (sym c.admit.ensures.same) shown in
            changed_page (g.H.Disk.file c.admit.new.disk) c.admit.new.self c.args.p page.now c.admit.ensures.going_on within is told
            ∙ ap (λ (s : StoreState). page_at s.work c.args.p) (c.admit.ensures.does (g.H.Disk.beside c.self.inside.host).tape (beside_of c.self.inside.desk.shape (g.H.Disk.attaches c.self.inside.host)))) c.edit.ensures.page);
      },
    )

pub returns-in-Err : goal.returns-in-Err
returns-in-Err g c =
    let going = still_going c.self.inside.host c.self.inside.desk c.args.self.now c.self.view_is c.requires.going in (
      (
        refl,
        (λ w ok. absurd (cc)),
        record {
          err = rw (← c.self.view_is, c.admit.ensures.runs.beside, c.admit.ensures.runs.listed, same_beside (g.H.Disk.attaches c.self.inside.host) c.admit.ensures.shape) (readiness_with (g.L.FetchLog.told c.self.inside.log) (g.L.FetchLog.told c.admit.new.log) (state_of (g.H.Disk.file c.self.inside.host) (g.H.Disk.beside c.self.inside.host).tape (beside_of c.self.inside.desk.shape (g.H.Disk.attaches c.self.inside.host)) c.self.inside.desk) (state_of (g.H.Disk.file c.admit.new.disk) (g.H.Disk.beside c.self.inside.host).tape (beside_of c.self.inside.desk.shape (g.H.Disk.attaches c.self.inside.host)) c.admit.new.self) c.admit.ensures.unnoted (c.admit.ensures.does _ _));
          written = rw (← c.self.view_is) c.admit.ensures.written;
          disk_faults = rw (← c.self.view_is) (counts_passed c.admit.result c.in-Err.fault (g.H.Disk.disk_faults c.self.inside.host) (g.H.Disk.disk_faults c.admit.new.disk) c.in-Err.is c.admit.ensures.cause);
          say_faults = search rules;
          time = rw (← c.self.view_is) (keeps_base (record { host = c.self.inside.host; desk = c.self.inside.desk; log = c.self.inside.log }) (record { host = c.admit.new.disk; desk = c.admit.new.self; log = c.admit.new.log }) (runs_leave (runs_within c.admit.ensures.runs) (λ f is. sound_image _ f (g.met.H.Disk.sound c.admit.new.disk) is) (λ before image is left. left)) c.admit.ensures.same (c.self.invariant.kept going) going c.admit.ensures.shape);
        },
      ),
      record { lends = tt; page = tt },
    )
