-- A check: its status by its verdict, what the line changes of what is left, and what an attach in front of it does.
use Rattle.std.proofs.Common.{◌≡◌, ◌⊎◌, ℕ, List, [], Option, Some, Result, Ok, Err, refl, sym, ap, subst, ◌∙◌, inl, inr, arith, append-nil}
use Rattle.std.specs.Option.{option_map}
use Rattle.mdc_words.specs.Faults.{CountsFault}
use Rattle.mdc_words.specs.Time.{OverTime, ReachesBack}
use Rattle.mdc_words.proofs.FaultsLemmas.{counts_fault_as, counts_fault_none, counts_fault_then}
use Rattle.mdc_words.proofs.TimeLemmas.{over_time_then, over_time_wider}
use Rattle.mdc_outside.specs.Disk.{File, opened}
use Rattle.mdc_outside.specs.Moments.{IsWithinCall}
use Rattle.mdc_outside.specs.Outside.{Takes}
use Rattle.mdc_outside.specs.declared.disk.Disk.{Ghosts}
use Rattle.table_trees.specs.ToldPages.{PageList}
use Rattle.page_file.specs.Leaving.{LeavesImage}
use Rattle.page_store.specs.Opened.{CouldBeLeft}
use Rattle.session.proofs.ToldLemmas.{takes_nothing}
use Rattle.file_check.specs.declared.verdict.Verdict.{Verdict}
use Rattle.file_check.specs.declared.verdict.Verdict.TheVariants.{Broken, Sound}
use Rattle.file_verdict.specs.Resting.{ComesToRest, StandsAsBefore}
use Rattle.file_verdict.specs.SoundFile.{IsSoundFile}
use Rattle.file_verdict.specs.Verdict.{IsAnswerOnSound, IsNoVerdict, IsVerdictOn}
use Rattle.file_verdict.specs.declared.unjudged.Unjudged.{Unjudged}
use Rattle.file_verdict.specs.declared.unjudged.Unjudged.TheVariants.{Device, Memory, NotMdc, Unmade, Version}
use Rattle.file_verdict.proofs.RestingLemmas.{TellsNow}
use Rattle.file_verdict.proofs.SoundFilesLemmas.{states_as_before}
use Rattle.session.specs.script.Leaving.{AreServedPages}
use Rattle.session.specs.file.Well.{IsWell}
use Rattle.mdc_shell.specs.Check.{ChecksFormed, ChecksPath, ChecksUnserved, IsCheckStatus, IsStatusOnSound, IsUnsettled, SaysVerdict, line_of_verdict, status_of_verdict}
use Rattle.mdc_shell.proofs.OriginLemmas.{could_be_left-moment, rests-opened, rests_then_said}

-- ---- the status

-- where there is no verdict, no line is said
pub no_verdict-quiet : (verdict : Result Verdict Unjudged) → IsNoVerdict verdict → line_of_verdict verdict ≡ []
no_verdict-quiet (Ok Sound) none = absurd none
no_verdict-quiet (Ok (Broken damage)) none = absurd none
no_verdict-quiet (Err Device) none = refl
no_verdict-quiet (Err Memory) none = refl
no_verdict-quiet (Err Unmade) none = absurd none
no_verdict-quiet (Err NotMdc) none = absurd none
no_verdict-quiet (Err (Version version)) none = absurd none

-- and the status is one of two
pub no_verdict-unsettled : (verdict : Result Verdict Unjudged) → IsNoVerdict verdict → IsUnsettled (status_of_verdict verdict)
no_verdict-unsettled (Ok Sound) none = absurd none
no_verdict-unsettled (Ok (Broken damage)) none = absurd none
no_verdict-unsettled (Err Device) none = inl refl
no_verdict-unsettled (Err Memory) none = inr refl
no_verdict-unsettled (Err Unmade) none = absurd none
no_verdict-unsettled (Err NotMdc) none = absurd none
no_verdict-unsettled (Err (Version version)) none = absurd none

-- a verdict has one of the statuses of a check
one_of : (verdict : Result Verdict Unjudged) → IsCheckStatus (status_of_verdict verdict)
one_of (Ok Sound) = inl refl
one_of (Ok (Broken damage)) = inr (inr (inr (inr (inr refl))))
one_of (Err Device) = inr (inl refl)
one_of (Err Memory) = inr (inr (inr (inr (inl refl))))
one_of (Err Unmade) = inr (inr (inr (inl refl)))
one_of (Err NotMdc) = inr (inr (inr (inl refl)))
one_of (Err (Version version)) = inr (inr (inr (inl refl)))

pub status-one_of : (tape new : Option (List ℕ)) (status : ℕ) (verdict : Result Verdict Unjudged) → SaysVerdict tape new status verdict → IsCheckStatus status
status-one_of tape new status verdict (inl said) = subst IsCheckStatus (sym said.0) (one_of verdict)
status-one_of tape new status verdict (inr (inl part)) = inr (inr (inl part.0))
status-one_of tape new status verdict (inr (inr memory)) = inr (inr (inr (inr (inl memory.0))))

-- that of a sound file
answer-status : (verdict : Result Verdict Unjudged) → IsAnswerOnSound verdict → IsStatusOnSound (status_of_verdict verdict)
answer-status (Ok Sound) answer = inl refl
answer-status (Ok (Broken damage)) answer = absurd answer
answer-status (Err Device) answer = inr (inl refl)
answer-status (Err Memory) answer = inr (inr (inr refl))
answer-status (Err Unmade) answer = absurd answer
answer-status (Err NotMdc) answer = absurd answer
answer-status (Err (Version version)) answer = absurd answer

pub status-on_sound : (tape new : Option (List ℕ)) (status : ℕ) (verdict : Result Verdict Unjudged) → IsAnswerOnSound verdict → SaysVerdict tape new status verdict → IsStatusOnSound status
status-on_sound tape new status verdict answer (inl said) = subst IsStatusOnSound (sym said.0) (answer-status verdict answer)
status-on_sound tape new status verdict answer (inr (inl part)) = inr (inr (inl part.0))
status-on_sound tape new status verdict answer (inr (inr memory)) = inr (inr (inr memory.0))

-- 0 is that of a sound file alone
sound_by_status : (file : List ℕ) (verdict : Result Verdict Unjudged) → status_of_verdict verdict ≡ 0 → IsVerdictOn file verdict → IsSoundFile file
sound_by_status file (Ok Sound) zero is = is
sound_by_status file (Ok (Broken damage)) zero is = absurd (cc)
sound_by_status file (Err Device) zero is = absurd (cc)
sound_by_status file (Err Memory) zero is = absurd (cc)
sound_by_status file (Err Unmade) zero is = absurd (cc)
sound_by_status file (Err NotMdc) zero is = absurd (cc)
sound_by_status file (Err (Version version)) zero is = absurd (cc)

pub done-sound : (file : List ℕ) (tape new : Option (List ℕ)) (status : ℕ) (verdict : Result Verdict Unjudged) → status ≡ 0 → SaysVerdict tape new status verdict → IsVerdictOn file verdict → IsSoundFile file
done-sound file tape new status verdict zero (inl said) is = sound_by_status file verdict (sym said.0 ∙ zero) is
done-sound file tape new status verdict zero (inr (inl part)) is = absurd (omega (arith, zero, part.0))
done-sound file tape new status verdict zero (inr (inr memory)) is = absurd (omega (arith, zero, memory.0))

-- 3 is that of a fault of the disk alone
device_by_status : (verdict : Result Verdict Unjudged) → status_of_verdict verdict ≡ 3 → verdict ≡ Err Device
device_by_status (Ok Sound) three = absurd (cc)
device_by_status (Ok (Broken damage)) three = absurd (cc)
device_by_status (Err Device) three = refl
device_by_status (Err Memory) three = absurd (cc)
device_by_status (Err Unmade) three = absurd (cc)
device_by_status (Err NotMdc) three = absurd (cc)
device_by_status (Err (Version version)) three = absurd (cc)

failed-device : (tape new : Option (List ℕ)) (status : ℕ) (verdict : Result Verdict Unjudged) → status ≡ 3 → SaysVerdict tape new status verdict → verdict ≡ Err Device
failed-device tape new status verdict three (inl said) = device_by_status verdict (sym said.0 ∙ three)
failed-device tape new status verdict three (inr (inl part)) = absurd (omega (arith, three, part.0))
failed-device tape new status verdict three (inr (inr memory)) = absurd (omega (arith, three, memory.0))

-- so it counts what the verdict counts
pub status-device : (tape new : Option (List ℕ)) (status : ℕ) (verdict : Result Verdict Unjudged) (before now last : ℕ) → SaysVerdict tape new status verdict → (line_of_verdict verdict ≡ [] → status ≡ status_of_verdict verdict)
    → last ≡ now → CountsFault (verdict ≡ Err Device) before now → CountsFault (status ≡ 3) before last
status-device tape new status verdict before now last says quiet same counts =
    subst (λ (n : ℕ). CountsFault (status ≡ 3) before n) (sym same)
    (counts_fault_as (λ three. failed-device tape new status verdict three says) (λ is. quiet (ap line_of_verdict is) ∙ ap status_of_verdict is) counts)

-- 0 is no status of a check without a verdict
pub done_settled : {status : ℕ} → status ≡ 0 → IsUnsettled status → ⊥
done_settled zero (inl three) = omega (arith, zero, three)
done_settled zero (inr eight) = omega (arith, zero, eight)

-- a line that is none isn't counted as unsaid
quiet_counted : {status other before now last : ℕ} → now ≡ before → last ≡ now → status ≡ other → (other ≡ 5 → ⊥) → CountsFault (status ≡ 5) before last
quiet_counted {status} {other} {before} {now} {last} same none is differs = subst (λ (n : ℕ). CountsFault (status ≡ 5) before n) (sym (none ∙ same)) (counts_fault_none (λ five. differs (sym is ∙ five)))

-- 5 is counted where the line wasn't said
pub status-unsaid : (verdict : Result Verdict Unjudged) (status before now last : ℕ) → now ≡ before → (line_of_verdict verdict ≡ [] → (last ≡ now) × (status ≡ status_of_verdict verdict))
    → ((line_of_verdict verdict ≡ [] → ⊥) → CountsFault (status ≡ 5) now last) → CountsFault (status ≡ 5) before last
status-unsaid (Ok Sound) status before now last same quiet says = counts_fault_then same (says (λ e. cc))
status-unsaid (Ok (Broken damage)) status before now last same quiet says = counts_fault_then same (says (λ e. cc))
status-unsaid (Err Device) status before now last same quiet says = let none = quiet refl in quiet_counted same none.0 none.1 (λ e. omega (arith, e))
status-unsaid (Err Memory) status before now last same quiet says = let none = quiet refl in quiet_counted same none.0 none.1 (λ e. omega (arith, e))
status-unsaid (Err Unmade) status before now last same quiet says = counts_fault_then same (says (λ e. cc))
status-unsaid (Err NotMdc) status before now last same quiet says = counts_fault_then same (says (λ e. cc))
status-unsaid (Err (Version version)) status before now last same quiet says = counts_fault_then same (says (λ e. cc))

-- ---- a formed file

-- a check that was judged, and then its line
pub checks_formed-said : {D : Type 0} (g : Ghosts D) (before after : File) (said : List ℕ) (old mid new : D) (tape new_tape : Option (List ℕ)) (verdict : Result Verdict Unjudged) (status : ℕ)
    → TellsNow g mid → ReachesBack g.clock g.moment mid → g.file mid ≡ Some after → (g.beside mid).tape ≡ Some said → tape ≡ Some said → IsVerdictOn before.bytes verdict → SaysVerdict tape new_tape status verdict
    → (line_of_verdict verdict ≡ [] → (new ≡ mid) × (status ≡ status_of_verdict verdict)) → OverTime g.clock g.moment (IsWithinCall (g.file mid) tape (line_of_verdict verdict)) mid new
    → ComesToRest g before said (λ image tape. StandsAsBefore before.bytes image × (tape ≡ said)) old mid ⊎ (IsNoVerdict verdict × OverTime g.clock g.moment (LeavesImage (CouldBeLeft before) said) old mid)
    → ChecksFormed g before said new_tape old new status
checks_formed-said {D} g before after said old mid new tape new_tape verdict status now back is_mid told_mid tape_is is says quiet saying rests = record {
  verdict = verdict;
  is_its = is;
  says = subst (λ (t : Option (List ℕ)). SaysVerdict t new_tape status verdict) tape_is says;
  leaves = elim rests [
    | inl rest ↦ inl (rests_then_said g before after said said (line_of_verdict verdict) _ _ old mid new tape now back is_mid told_mid tape_is saying
        (λ image taken left. (left.0, ([], line_of_verdict verdict, refl, left.1 ∙ sym (append-nil said)))) (λ image taken left part. (left.0, part)) rest)
    | inr stopped ↦
        let none = quiet (no_verdict-quiet verdict stopped.0) in
        inr (subst IsUnsettled (sym none.1) (no_verdict-unsettled verdict stopped.0), subst (λ (d : D). OverTime g.clock g.moment (LeavesImage (CouldBeLeft before) said) old d) (sym none.0) stopped.1)
  ];
}

-- one behind an attach is one of the file as it was
pub checks_formed-opened : {D : Type 0} (g : Ghosts D) (before : File) (said : List ℕ) (new_tape : Option (List ℕ)) (old mid new : D) (status : ℕ)
    → OverTime g.clock g.moment (LeavesImage (CouldBeLeft before) said) old mid → ChecksFormed g (opened before) said new_tape mid new status → ChecksFormed g before said new_tape old new status
checks_formed-opened g before said new_tape old mid new status attached checks = record {
  verdict = checks.verdict;
  is_its = checks.is_its;
  says = checks.says;
  leaves = elim checks.leaves [
    | inl rest ↦ inl (rests-opened g before said old mid new attached rest)
    | inr stopped ↦ inr (stopped.0, over_time_then attached stopped.1)
  ];
}

-- ---- before any call of the opening

-- the line of a check without a verdict
says_verdict-quiet : (tape new : Option (List ℕ)) (verdict : Result Verdict Unjudged) → IsNoVerdict verdict → new ≡ tape → SaysVerdict tape new (status_of_verdict verdict) verdict
says_verdict-quiet tape new verdict none same =
    let Said : List ℕ → Type 0 = λ line. Takes tape line new in
    inl (refl, subst Said (sym (no_verdict-quiet verdict none)) (subst (λ (t : Option (List ℕ)). Takes tape [] t) (sym same) (takes_nothing tape)))

-- which is one of any file
no_verdict-any : (file : List ℕ) (verdict : Result Verdict Unjudged) → IsNoVerdict verdict → IsVerdictOn file verdict
no_verdict-any file (Ok Sound) none = absurd none
no_verdict-any file (Ok (Broken damage)) none = absurd none
no_verdict-any file (Err Device) none = tt
no_verdict-any file (Err Memory) none = tt
no_verdict-any file (Err Unmade) none = absurd none
no_verdict-any file (Err NotMdc) none = absurd none
no_verdict-any file (Err (Version version)) none = absurd none

pub checks_path-before : (file : Option File) (tape new : Option (List ℕ)) (verdict : Result Verdict Unjudged) → IsNoVerdict verdict → new ≡ tape → ChecksPath file tape new (status_of_verdict verdict)
checks_path-before file tape new verdict none same = record { verdict = verdict; is_its = λ f is. no_verdict-any f.bytes verdict none; says = says_verdict-quiet tape new verdict none same }

pub checks_formed-before : {D : Type 0} (g : Ghosts D) (before : File) (said : List ℕ) (new_tape : Option (List ℕ)) (old new : D) (verdict : Result Verdict Unjudged) → IsNoVerdict verdict → new_tape ≡ Some said
    → OverTime g.clock g.moment (LeavesImage (CouldBeLeft before) said) old new → ChecksFormed g before said new_tape old new (status_of_verdict verdict)
checks_formed-before g before said new_tape old new verdict none same meanwhile = record {
  verdict = verdict;
  is_its = no_verdict-any before.bytes verdict none;
  says = says_verdict-quiet (Some said) new_tape verdict none same;
  leaves = inr (no_verdict-unsettled verdict none, meanwhile);
}

pub checks_unserved-before : {D : Type 0} (g : Ghosts D) (before : File) (said : List ℕ) (new_tape : Option (List ℕ)) (old new : D) (verdict : Result Verdict Unjudged) → IsNoVerdict verdict → new_tape ≡ Some said
    → OverTime g.clock g.moment (LeavesImage (CouldBeLeft before) said) old new → ChecksUnserved g before said new_tape old new (status_of_verdict verdict)
checks_unserved-before g before said new_tape old new verdict none same meanwhile = record {
  verdict = verdict;
  is_its = no_verdict-any before.bytes verdict none;
  says = says_verdict-quiet (Some said) new_tape verdict none same;
  time = over_time_wider meanwhile (could_be_left-moment before said (line_of_verdict verdict));
}

-- ---- behind an attach

pub checks_path-opened : (file mid : Option File) (tape mid_tape new : Option (List ℕ)) (status : ℕ) → mid ≡ option_map opened file → mid_tape ≡ tape → ChecksPath mid mid_tape new status → ChecksPath file tape new status
checks_path-opened file mid tape mid_tape new status is same checks = record {
  verdict = checks.verdict;
  is_its = λ f told. checks.is_its (opened f) (is ∙ ap (option_map opened) told);
  says = subst (λ (t : Option (List ℕ)). SaysVerdict t new status checks.verdict) same checks.says;
}

pub checks_unserved-opened : {D : Type 0} (g : Ghosts D) (before : File) (said : List ℕ) (new_tape : Option (List ℕ)) (old mid new : D) (status : ℕ)
    → OverTime g.clock g.moment (LeavesImage (CouldBeLeft before) said) old mid → ChecksUnserved g (opened before) said new_tape mid new status → ChecksUnserved g before said new_tape old new status
checks_unserved-opened g before said new_tape old mid new status attached checks = record {
  verdict = checks.verdict;
  is_its = checks.is_its;
  says = checks.says;
  time = over_time_then (over_time_wider attached (could_be_left-moment before said (line_of_verdict checks.verdict))) checks.time;
}

-- ---- well files

-- what stands for the pages of a well file is well
pub well_standing : (file image : List ℕ) → StandsAsBefore file image → IsWell file → IsWell image
well_standing file image stands well = record {
  formed = stands.stays.formed;
  shape = well.shape;
  states = states_as_before file image well.shape stands well.states;
  served = subst (λ (pages : PageList). AreServedPages well.shape pages) (sym stands.pages) well.served;
}
