-- What a replay finds: the gates as they were read, and the log where no stray gate is open any more.
use Rattle.std.proofs.Common.{◌≡◌, ◌≢◌, ◌≤◌, ◌<◌, ◌+◌, ℕ, Bool, List, Option, IfSome, Result, Ok, Err, OnOk, length, get_or, min, arith, refl, ap, sym, subst, ◌∙◌, inl, inr}
use Rattle.std.specs.Option.{ForSome}
use Rattle.std.proofs.lemmas.Bool.{cases_lt}
use Rattle.mdc_outside.specs.Disk.{File, Since, IsImage, IsSound, all_synced}
use Rattle.mdc_outside.specs.Moments.{Beside}
use Rattle.page_file.specs.Leaving.{Leaves}
use Rattle.page_file.specs.Runs.{Runs, IsCovered}
use Rattle.page_file.proofs.LeavesLemmas.{runs_leave, leaves_as, leaves_then, leaves_itself, sound_image}
use Rattle.page_file.proofs.RunsLemmas.{runs_within}
use Rattle.redo_journal.specs.Images.{Numbered}
use Rattle.redo_log.specs.Checkpointing.{AreOverlay, HasClosed, IsClosed, LeavesClosing, LeavesStrays, OnlyStrays}
use Rattle.redo_log.specs.declared.log.RedoLog.{RedoLog}
use Rattle.redo_log.specs.Layout.{leading, log_end, records_in, AreGates, AreLaid, HasRecords, NoneFrom}
use Rattle.redo_log.specs.Log.{BothFiles}
use Rattle.redo_log.specs.Replaying.{FindsLog, LeavesLog}
use Rattle.redo_log.specs.Standing.{pages_by, IsFormedBy, Stands}
use Rattle.redo_log.proofs.Appends.{told_file}
use Rattle.redo_log.proofs.Homing.{counts_again, only_itself, stands_itself}
use Rattle.redo_log.proofs.Keeps.{log_end_same}
use Rattle.redo_log.proofs.Leading.{has_read, has_records, is_records, leading_stops}
use Rattle.redo_log.proofs.Steps.{OnlyGates, gates_keep}

-- a file of which n records count is an image of itself
strays_none : (n : ℕ) (file : File) → HasRecords n file.bytes → LeavesStrays n file file.bytes
strays_none n file has = record {
  only = record { size = refl; same = λ i lt other. refl };
  has = has;
  stands = λ formed. stands_itself n file.bytes formed has;
}

-- so is each image of it where all is on the disk
strays_still : (n : ℕ) (file : File) (image : List ℕ) → file.since ≡ all_synced file.bytes → HasRecords n file.bytes → IsImage file.since image → LeavesClosing n file image
strays_still n file image synced has left =
    subst (λ (xs : List ℕ). LeavesClosing n file xs) (only_itself file.bytes image (subst (λ (s : Since). IsImage s image) synced left))
    (record { strays = strays_none n file has; still = λ none. refl })

-- a fact of a file holds where it is as it was
pub still : {fact : File → Type 0} (told now : Option File) → ForSome told fact → now ≡ told → ForSome now fact
still told now holds same f is = holds f (sym same ∙ is)

-- so many records count, by the gates that were read
pub counts_read : (n : ℕ) (gates : List ℕ) (told : Option File) → ForSome told (λ f. AreGates gates f.bytes) → n ≡ leading gates → ForSome told (λ f. HasRecords n f.bytes)
counts_read n gates told read count f is = has_read n gates f.bytes (read f is) count

-- and so says the file
pub counts_records : (n : ℕ) (told : Option File) → ForSome told (λ f. HasRecords n f.bytes) → ForSome told (λ f. records_in f.bytes ≡ n)
counts_records n told has f is = is_records (has f is)

-- where no gate behind the records is open, all is as it should be
pub none_to_close : (n : ℕ) (gates : List ℕ) (told : Option File) → ForSome told (λ f. f.since ≡ all_synced f.bytes) → ForSome told (λ f. AreGates gates f.bytes) → n ≡ leading gates
    → length gates ≡ 32 → ((k : ℕ) → n ≤ k → k < length gates → get_or gates k 0 ≢ 79) → BothFiles told told (HasClosed n)
none_to_close n gates told synced read count size none = record {
  holds = λ before after is is_after.
      let one : after ≡ before = told_file {o = told} is_after is in
      let shut : NoneFrom n before.bytes = record { shut = λ k from lt stays. none k from (omega arith) ((read before is).each k lt ∙ stays) } in
      subst (λ (f : File). HasClosed n before f) (sym one) (record {
        settled = record { synced = synced before is; none = shut; left = strays_none n before (has_read n gates before.bytes (read before is) count) };
        still = λ none_so. refl;
        closed = λ stray. absurd (stray shut);
      });
}

-- a gate from gate n on was read as open
abbrev pub HasStray : ℕ → List ℕ → Type 0
HasStray n gates = (k : ℕ) × (n ≤ k) × (k < length gates) × (get_or gates k 0 ≡ 79)

-- so it is one in the file
stray_read : (n : ℕ) (gates : List ℕ) (file : File) → AreGates gates file.bytes → HasStray n gates → NoneFrom n file.bytes → ⊥
stray_read n gates file are stray none =
    let lt : stray.0 < 32 = omega (arith, are.size, stray.2) in
    none.shut stray.0 stray.1 lt (sym (are.each stray.0 lt) ∙ stray.3)

-- it stands behind gate n, and before the end of the file
pub stray_fits : (n size : ℕ) (gates : List ℕ) → n ≡ leading gates → length gates ≡ 32 → ((k : ℕ) → size ≤ 2048 + k → get_or gates k 0 ≡ 0) → HasStray n gates → 2049 + n ≤ min size 2080
stray_fits n size gates count few behind stray =
    let other : stray.0 ≢ n = λ same. leading_stops gates n (sym count) (omega (arith, stray.2)) (ap (λ k. get_or gates k 0) (sym same) ∙ stray.3) in
    let there : 2048 + stray.0 < size = elim (cases_lt (2048 + stray.0) size) [ inl lt ↦ lt | inr past ↦ (let none = behind stray.0 past in omega (arith, stray.3)) ] in
    omega (arith, stray.1, stray.2)

-- where one is open, all behind gate n were closed
pub strays_shut : {T E : Type 0} (result : Result T E) (n : ℕ) (gates : List ℕ) (told now : Option File) → ForSome told (λ f. AreGates gates f.bytes)
    → HasStray n gates → OnOk result (BothFiles told now (IsClosed n)) → OnOk result (BothFiles told now (HasClosed n))
strays_shut (Ok done) n gates told now read stray shut = record {
  holds = λ before after is is_after.
      let closed = shut.holds before after is is_after in
      record {
        settled = closed.settled;
        still = λ none. absurd (stray_read n gates before (read before is) stray none);
        closed = λ open_so. closed.closed;
      };
}
strays_shut (Err e) n gates told now read stray shut = shut

-- the gates of the file and the file end there
pub gates_end : (end size : ℕ) (told : Option File) → ForSome told (λ f. size ≡ length f.bytes) → end ≡ min size 2080 → ForSome told (λ f. end ≡ min (length f.bytes) 2080)
gates_end end size told sizes is f there = is ∙ ap (λ m. min m 2080) (sizes f there)

-- the same of a file that was as it is when it was read
pub settled_since : (n : ℕ) (told middle now : Option File) → middle ≡ told → BothFiles middle now (HasClosed n) → BothFiles told now (HasClosed n)
settled_since n told middle now same closed = record { holds = λ before after is is_after. closed.holds before after (same ∙ is) is_after }

-- an image that differs in stray gates alone differs in gates alone
strays_are_gates : (n : ℕ) (bytes image : List ℕ) → OnlyStrays n bytes image → n ≤ 32 → OnlyGates bytes image
strays_are_gates n bytes image only most = record {
  size = only.size;
  same = λ i lt other. only.same i lt (elim (cases_lt i (2049 + n)) [ inl before ↦ inl before | inr behind ↦ elim other [ inl low ↦ absurd (omega arith) | inr high ↦ inr (omega arith) ] ]);
}

-- the log and its overlay
pub log_found : (log : RedoLog) (overlay : Numbered) (told now : Option File) → ForSome told (λ f. HasRecords log.gates f.bytes)
    → ForSome told (λ f. log_end log.gates f.bytes ≡ log.end) → ForSome told (λ f. AreLaid log.gates f.bytes) → ForSome told (λ f. AreOverlay log.gates f.bytes overlay)
    → BothFiles told now (HasClosed log.gates) → BothFiles told now (FindsLog log overlay)
log_found log overlay told now has ends laid over closed = record {
  holds = λ before after is is_after.
      let has_closed = closed.holds before after is is_after in
      let settled = has_closed.settled in
      let counts : records_in before.bytes ≡ log.gates = is_records (has before is) in
      record {
        counts = counts;
        ends = ends before is;
        laid = laid before is;
        overlay_is = over before is;
        closed = has_closed;
        log_of = λ formed.
            let formed_so : IsFormedBy log.gates before.bytes = subst (λ (m : ℕ). IsFormedBy m before.bytes) counts formed in
            let stands : Stands before.bytes (pages_by log.gates before.bytes) after.bytes = settled.left.stands formed_so in
            let again = counts_again stands settled.left.has in
            record {
              logged = record { synced = settled.synced; has = settled.left.has; none = settled.none; formed = again.0 };
              ends = log_end_same log.gates before.bytes after.bytes
                  (gates_keep log.gates before.bytes after.bytes (strays_are_gates log.gates before.bytes after.bytes settled.left.only settled.left.has.most) formed_so settled.left.has.most)
                  ∙ ends before is;
            };
      };
}

module _ {D : Type 0} {file : D → Option File} {aside : D → Beside} {attaches : D → Option (List (List ℕ × Bool))} {is_attached : D → Bool} {clock : D → ℕ} {moment : D → ℕ → List ℕ → List ℕ → Type 0} where
  -- while the file is read
  pub reading_leaves : {old new : D} → ((disk : D) → IfSome (file disk) IsSound) → ForSome (file old) (λ f. f.since ≡ all_synced f.bytes)
      → Runs file aside attaches is_attached clock moment IsCovered (λ since. since) old new
      → Leaves file aside attaches is_attached clock moment LeavesLog old new
  reading_leaves {old} {new} sound synced run = runs_leave (runs_within run) (λ after is. sound_image (file new) after (sound new) is)
      (λ before image is left. strays_still (records_in before.bytes) before image (synced before is) (has_records before.bytes) left)

  -- where nothing is called
  pub strays_rest : (n : ℕ) (disk : D) → ((disk : D) → IfSome (file disk) IsSound) → ForSome (file disk) (λ f. f.since ≡ all_synced f.bytes) → ForSome (file disk) (λ f. HasRecords n f.bytes)
      → Leaves file aside attaches is_attached clock moment (LeavesClosing n) disk disk
  strays_rest n disk sound synced has = leaves_itself (λ before is. sound_image (file disk) before (sound disk) is)
      (λ before image is left. strays_still n before image (synced before is) (has before is) left)

  -- while strays are closed
  pub shut_leaves : (n : ℕ) (gates : List ℕ) {old new : D} → ForSome (file old) (λ f. AreGates gates f.bytes) → HasStray n gates
      → Leaves file aside attaches is_attached clock moment (LeavesStrays n) old new
      → Leaves file aside attaches is_attached clock moment (LeavesClosing n) old new
  shut_leaves n gates read stray leaves = leaves_as leaves (λ before image is left. record {
    strays = left;
    still = λ none. absurd (stray_read n gates before (read before is) stray none);
  })

  -- while strays are closed behind that
  pub closing_leaves : (n : ℕ) {old middle new : D} → ForSome (file old) (λ f. HasRecords n f.bytes) → file middle ≡ file old
      → Leaves file aside attaches is_attached clock moment LeavesLog old middle
      → Leaves file aside attaches is_attached clock moment (LeavesClosing n) middle new
      → Leaves file aside attaches is_attached clock moment LeavesLog old new
  closing_leaves n {old} {middle} {new} has same first second = leaves_then first second (λ before image is left. left)
      (λ before half image is is_half left more.
      let one : half ≡ before = told_file {o = file middle} is_half (same ∙ is) in
      subst (λ (m : ℕ). LeavesClosing m before image) (sym (is_records (has before is))) (subst (λ (f : File). LeavesClosing n f image) one more))
