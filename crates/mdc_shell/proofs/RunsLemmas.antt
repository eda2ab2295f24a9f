-- The runs of scripts: how they end, what an attach before them changes, and what is left where nothing was run.
use Rattle.std.proofs.Common.{◌≡◌, ◌⊎◌, ◌≤◌, ℕ, List, [], IsTrue, false, Option, Some, None, IfErr, IfSome, Result, Ok, Err, length, length-append, refl, sym, ap, subst, ◌∙◌, inl, inr, arith, ◌<◌, ◌++◌}
use Rattle.mdc_ast.specs.declared.reply.Outcome.{Outcome}
use Rattle.mdc_ast.specs.Reading.{Item}
use Rattle.mdc_words.specs.Time.{OverTime, ReachesBack}
use Rattle.mdc_words.proofs.TimeLemmas.{over_time_then, over_time_wider}
use Rattle.mdc_outside.specs.Disk.{Becomes, File, IsImage, opened}
use Rattle.mdc_outside.specs.Moments.{IsMoment, IsWithinCall}
use Rattle.mdc_outside.specs.Outside.{Takes}
use Rattle.mdc_outside.specs.declared.disk.Disk.{Ghosts}
use Rattle.mdc_outside.proofs.MomentLemmas.{within_call-told}
use Rattle.store_api.specs.declared.fault.Damage.{Damage}
use Rattle.store_api.specs.declared.shape.Shape.{Shape}
use Rattle.table_trees.specs.ToldPages.{PageList}
use Rattle.page_file.specs.Leaving.{LeavesImage}
use Rattle.page_file.proofs.LeavesLemmas.{nothing_said}
use Rattle.page_store.specs.Opened.{CouldBeLeft, file_bytes}
use Rattle.page_store.specs.Standing.{pages_in}
use Rattle.std.specs.Option.{option_map}
use Rattle.file_verdict.specs.Resting.{ComesToRest, StaysFormed}
use Rattle.file_verdict.proofs.RestingLemmas.{TellsNow}
use Rattle.session.specs.script.Fetching.{FetchesInRun}
use Rattle.session.specs.script.Serving.{EndsScript, TakesScript}
use Rattle.session.specs.declared.script.served.Served.{Served}
use Rattle.session.specs.declared.script.served.Served.TheVariants.{AllDone, SomeRefused}
use Rattle.session.specs.Stops.{IsOfScript}
use Rattle.session.specs.declared.stop.Stop.{Stop}
use Rattle.session.specs.script.Told.{TellsMore}
use Rattle.session.specs.script.Ending.{script_limit}
use Rattle.session.specs.file.Ending.{IsCauseIn, IsUnopened, IsRefused}
use Rattle.session.specs.file.Serving.{RunsItems, RunsOnFile, TakesBySession}
use Rattle.session.specs.file.Well.{IsWell}
use Rattle.session.specs.declared.stop.Stop.TheVariants.{Damaged, Device, Memory, NotMdc, TooLong, Unmade, Unread, Unsaid, Version}
use Rattle.session.specs.file.Leaving.{StopsUnrested}
use Rattle.page_file.specs.Bound.{LeavesOf}
use Rattle.mdc_shell.specs.Run.{IsComplete, IsStopBefore, IsWithinLimit, RefusesFile, ReopensFile, RunsPath, RunsScratch, ServesPath, TakesByStatus}
use Rattle.mdc_shell.specs.Status.{SaysEnd, line_of_end, status_of, status_of_stop}
use Rattle.session.proofs.ToldLemmas.{same-tells_more, takes_nothing}
use Rattle.mdc_shell.proofs.OriginLemmas.{could_be_left-moment, rests-opened, rests_then_said, unrested_said}
use Rattle.mdc_shell.proofs.AnyRunsLemmas.{served_before, served_behind}

-- ---- how a run ends

-- a script that was begun and names no damage ends with no line
begun-quiet : (end_ : Result Served Stop) → IfErr end_ IsOfScript → ((damage : Damage) → end_ ≡ Err (Damaged damage) → ⊥) → line_of_end end_ ≡ []
begun-quiet (Ok served) begun undamaged = refl
begun-quiet (Err Unmade) begun undamaged = absurd begun
begun-quiet (Err NotMdc) begun undamaged = absurd begun
begun-quiet (Err (Version version)) begun undamaged = absurd begun
begun-quiet (Err Unread) begun undamaged = refl
begun-quiet (Err TooLong) begun undamaged = refl
begun-quiet (Err Unsaid) begun undamaged = refl
begun-quiet (Err Device) begun undamaged = refl
begun-quiet (Err (Damaged damage)) begun undamaged = absurd (undamaged damage refl)
begun-quiet (Err Memory) begun undamaged = refl

-- so does a run of items
pub runs_items-quiet : {shape : Shape} {pages : PageList} {said : List ℕ} {script left tape : Option (List ℕ)} {end_ : Result Served Stop} → RunsItems shape pages said script left tape end_
    → line_of_end end_ ≡ []
runs_items-quiet {end_ = end_} run = begun-quiet end_ run.of_script run.undamaged

-- a run on a file whose end says nothing
pub runs_path-ended : {D : Type 0} (g : Ghosts D) (before : File) (said : List ℕ) (script left : Option (List ℕ)) (old mid new : D) (end_ : Result Served Stop) (status : ℕ) {log now : Option (List ℕ)}
    → RunsOnFile g before said script left old mid end_ log now → new ≡ mid → status ≡ status_of end_ → RunsPath g before said script left old new status log now
runs_path-ended {D} g before said script left old mid new end_ status {log} {now} run same is =
    record { end_ = end_; run = subst (λ (d : D). RunsOnFile g before said script left old d end_ log now) (sym same) run; status_is = is }

-- a run on a scratch file, by its tape and its status
pub runs_scratch-ended : (said : List ℕ) (script left tape new_tape : Option (List ℕ)) (status new_status : ℕ) {log now : Option (List ℕ)} → RunsScratch said script left tape status log now → tape ≡ new_tape
    → new_status ≡ status → RunsScratch said script left new_tape new_status log now
runs_scratch-ended said script left tape new_tape status new_status {log} {now} run same is =
    subst (λ (t : Option (List ℕ)). RunsScratch said script left t new_status log now) same (subst (λ (n : ℕ). RunsScratch said script left tape n log now) (sym is) run)

-- ---- behind an attach

-- a file whose attach failed is as it was, where none was to be made
pub attach_failed : (old new : Option File) → Becomes old (λ old new. (new ≡ old) ⊎ (IsTrue false × (new ≡ opened old))) new → new ≡ old
attach_failed None new becomes = becomes
attach_failed (Some file) new becomes = becomes.1 ∙ elim becomes.2 [ inl same ↦ ap Some same | inr made ↦ absurd (no_true made.0) ]
  where
    no_true : IsTrue false → ⊥
    no_true e = cc

-- a moment at which nothing is said leaves what could be left before
pub could_be_left-quiet : (file : Option File) (tape : Option (List ℕ)) (before : File) (said : List ℕ) → file ≡ Some before → tape ≡ Some said
    → (image taken : List ℕ) → IsWithinCall file tape [] image taken → LeavesImage (CouldBeLeft before) said image taken
could_be_left-quiet file tape before said is told image taken within =
    let moment : IsMoment before.since said [] image taken = within_call-told before said image taken is told within in
    (moment.left, nothing_said moment.said.0 moment.said.1 said taken moment.said.2 moment.said.3)

-- a run on a file that an attach opened is one on the file as it was
pub runs_path-opened : {D : Type 0} (g : Ghosts D) (before : File) (said : List ℕ) (script left : Option (List ℕ)) (old mid new : D) (status : ℕ) {log now : Option (List ℕ)}
    → OverTime g.clock g.moment (LeavesImage (CouldBeLeft before) said) old mid → RunsPath g (opened before) said script left mid new status log now
    → RunsPath g before said script left old new status log now
runs_path-opened g before said script left old mid new status attached run = record {
  end_ = run.end_;
  run = record {
    shape = run.run.shape;
    states_extents = run.run.states_extents;
    run = run.run.run;
    fetches = run.run.fetches;
    leaves = elim run.run.leaves [
      | inl rest ↦ inl (rests-opened g before said old mid new attached rest)
      | inr meanwhile ↦ inr (over_time_then attached meanwhile)
    ];
  };
  status_is = run.status_is;
}

-- ---- where nothing was run

-- the end of a stop that says nothing
pub says_end-quiet : (tape new : Option (List ℕ)) (stop : Stop) → IsStopBefore stop → new ≡ tape → SaysEnd tape new (status_of_stop stop) (Err stop)
says_end-quiet tape new Device before same = inl (refl, subst (λ (t : Option (List ℕ)). Takes tape [] t) (sym same) (takes_nothing tape))
says_end-quiet tape new Memory before same = inl (refl, subst (λ (t : Option (List ℕ)). Takes tape [] t) (sym same) (takes_nothing tape))
says_end-quiet tape new Unmade before same = absurd before
says_end-quiet tape new NotMdc before same = absurd before
says_end-quiet tape new (Version version) before same = absurd before
says_end-quiet tape new Unread before same = absurd before
says_end-quiet tape new TooLong before same = absurd before
says_end-quiet tape new Unsaid before same = absurd before
says_end-quiet tape new (Damaged damage) before same = absurd before

-- it has no cause in a file
cause-before : (file : List ℕ) (stop : Stop) → IsStopBefore stop → IsCauseIn file (Err stop)
cause-before file Device before = tt
cause-before file Memory before = tt
cause-before file Unmade before = absurd before
cause-before file NotMdc before = absurd before
cause-before file (Version version) before = absurd before
cause-before file Unread before = tt
cause-before file TooLong before = tt
cause-before file Unsaid before = tt
cause-before file (Damaged damage) before = absurd before

-- and it may be that of a file that isn't opened
unopened-before : (stop : Stop) → IsStopBefore stop → IsUnopened (Err stop)
unopened-before Device before = tt
unopened-before Memory before = tt
unopened-before Unmade before = tt
unopened-before NotMdc before = tt
unopened-before (Version version) before = tt
unopened-before Unread before = absurd before
unopened-before TooLong before = absurd before
unopened-before Unsaid before = absurd before
unopened-before (Damaged damage) before = tt

pub serves_path-before : (file : Option File) (script tape new : Option (List ℕ)) (stop : Stop) → IsStopBefore stop → new ≡ tape → ServesPath file script script tape new (status_of_stop stop)
serves_path-before file script tape new stop before same = record {
  end_ = Err stop;
  cause = λ f is. cause-before f.bytes stop before;
  before_line = tape;
  kept = same-tells_more tape tape refl;
  any = inr (served_before file script tape tape stop before refl);
  ends = says_end-quiet tape new stop before same;
}

-- a run on a file that an attach opened is one on the file as it was
pub serves_path-opened : (file mid : Option File) (script left tape mid_tape new : Option (List ℕ)) (status : ℕ) → mid ≡ option_map opened file → mid_tape ≡ tape
    → ServesPath mid script left mid_tape new status → ServesPath file script left tape new status
serves_path-opened file mid script left tape mid_tape new status is same serves = record {
  end_ = serves.end_;
  cause = λ f told. serves.cause (opened f) (is ∙ ap (option_map opened) told);
  before_line = serves.before_line;
  kept = subst (λ (t : Option (List ℕ)). TellsMore t serves.before_line) same serves.kept;
  any = elim serves.any [
    | inl refused ↦ inl refused
    | inr run ↦ inr (served_behind file mid script left tape mid_tape serves.before_line serves.end_ is same run)
  ];
  ends = serves.ends;
}

pub refuses_file-before : {D : Type 0} (g : Ghosts D) (before : File) (said : List ℕ) (new_tape : Option (List ℕ)) (old new : D) (stop : Stop) → IsStopBefore stop → new_tape ≡ Some said
    → OverTime g.clock g.moment (LeavesImage (CouldBeLeft before) said) old new → RefusesFile g before said new_tape old new (status_of_stop stop)
refuses_file-before g before said new_tape old new stop is_before same meanwhile = record {
  end_ = Err stop;
  unopened = unopened-before stop is_before;
  cause = cause-before before.bytes stop is_before;
  ends = says_end-quiet (Some said) new_tape stop is_before same;
  time = over_time_wider meanwhile (could_be_left-moment before said (line_of_end (Err stop)));
}

pub runs_path-before : {D : Type 0} (g : Ghosts D) (before : File) (said : List ℕ) (script : Option (List ℕ)) (old new : D) (stop : Stop) (well : IsWell before.bytes) {log now : Option (List ℕ)}
    → (run : RunsItems well.shape (pages_in before.bytes) said script script (Some said) (Err stop)) × ((log : Option (List ℕ)) → FetchesInRun well.shape run.held run.items run.in_hand run.stages log log) → now ≡ log → (g.beside new).tape ≡ Some said
    → OverTime g.clock g.moment (LeavesImage (CouldBeLeft before) said) old new → RunsPath g before said script script old new (status_of_stop stop) log now
runs_path-before g before said script old new stop well {log} nothing quiet tape meanwhile =
    let Runs : Option (List ℕ) → Option (List ℕ) → Type 0 = λ t now. (run : RunsItems well.shape (pages_in before.bytes) said script script t (Err stop)) × FetchesInRun well.shape run.held run.items run.in_hand run.stages log now in
    let (run, fetches) = subst (λ (now : Option (List ℕ)). Runs (g.beside new).tape now) (sym quiet) (subst (λ (t : Option (List ℕ)). Runs t log) (sym tape) (nothing.0, nothing.1 log)) in
    record {
      end_ = Err stop;
      run = record { shape = well.shape; states_extents = well.states; run = run; fetches = fetches; leaves = inr meanwhile };
      status_is = refl;
    }

-- ---- where nothing failed

-- a session within the limit is run to its end, unless memory is wanted
completes_session : (end_ : Result Served Stop) (script left : Option (List ℕ)) (said : List ℕ) (items in_hand : List Item) (outcomes : List Outcome)
    → IfErr end_ IsOfScript → ((damage : Damage) → end_ ≡ Err (Damaged damage) → ⊥) → IfSome script (λ script. EndsScript script left said items in_hand outcomes end_) → IsWithinLimit script
    → (status_of end_ ≡ 3 → ⊥) → (status_of end_ ≡ 4 → ⊥) → (status_of end_ ≡ 5 → ⊥) → IsComplete (status_of end_)
completes_session (Ok AllDone) script left said items in_hand outcomes begun undamaged ends within no_disk no_read no_say = inl refl
completes_session (Ok SomeRefused) script left said items in_hand outcomes begun undamaged ends within no_disk no_read no_say = inr (inl refl)
completes_session (Err Unmade) script left said items in_hand outcomes begun undamaged ends within no_disk no_read no_say = absurd begun
completes_session (Err NotMdc) script left said items in_hand outcomes begun undamaged ends within no_disk no_read no_say = absurd begun
completes_session (Err (Version version)) script left said items in_hand outcomes begun undamaged ends within no_disk no_read no_say = absurd begun
completes_session (Err Unread) script left said items in_hand outcomes begun undamaged ends within no_disk no_read no_say = absurd (no_read refl)
completes_session (Err TooLong) None left said items in_hand outcomes begun undamaged ends within no_disk no_read no_say = absurd within
completes_session (Err TooLong) (Some script) left said items in_hand outcomes begun undamaged ends within no_disk no_read no_say =
    absurd (omega (arith, ends.ends.1, within, ap length ends.script_is, length-append ends.taken ends.rest))
completes_session (Err Unsaid) script left said items in_hand outcomes begun undamaged ends within no_disk no_read no_say = absurd (no_say refl)
completes_session (Err Device) script left said items in_hand outcomes begun undamaged ends within no_disk no_read no_say = absurd (no_disk refl)
completes_session (Err (Damaged damage)) script left said items in_hand outcomes begun undamaged ends within no_disk no_read no_say = absurd (undamaged damage refl)
completes_session (Err Memory) script left said items in_hand outcomes begun undamaged ends within no_disk no_read no_say = inr (inr refl)

-- so is a run of items, whose status is that of its end
pub runs_items-complete : {shape : Shape} {pages : PageList} (said : List ℕ) (script left tape : Option (List ℕ)) (end_ : Result Served Stop) (status : ℕ)
    → RunsItems shape pages said script left tape end_ → status ≡ status_of end_ → IsWithinLimit script → (status ≡ 3 → ⊥) → (status ≡ 4 → ⊥) → (status ≡ 5 → ⊥) → IsComplete status
runs_items-complete said script left tape end_ status run is within no_disk no_read no_say =
    subst IsComplete (sym is) (completes_session end_ script left run.more run.items run.in_hand run.outcomes run.of_script run.undamaged run.ends within
    (λ e. no_disk (is ∙ e)) (λ e. no_read (is ∙ e)) (λ e. no_say (is ∙ e)))

-- told files of the same bytes have them
pub same_bytes : (old new : Option File) (before after : File) → old ≡ Some before → new ≡ Some after → file_bytes new ≡ file_bytes old → after.bytes ≡ before.bytes
same_bytes old new before after is now same = let both : Some after.bytes ≡ Some before.bytes = sym (ap file_bytes now) ∙ (same ∙ ap file_bytes is) in cc

-- ---- a file that can't be opened

-- a refusal, and then its line
pub refused_time : {D : Type 0} (g : Ghosts D) (before : File) (said line : List ℕ) (old mid new : D) → g.file old ≡ Some before → (g.beside old).tape ≡ Some said → (tape : Option (List ℕ)) → tape ≡ Some said
    → LeavesOf g CouldBeLeft old mid → OverTime g.clock g.moment (IsWithinCall (g.file mid) tape line) mid new → OverTime g.clock g.moment (IsMoment before.since said line) old new
refused_time g before said line old mid new is told tape heard leaves saying =
    let after = leaves.told before is in
    over_time_then (over_time_wider (leaves.crash before said is told) (could_be_left-moment before said line))
    (over_time_wider saying (λ image taken within.
    let moment = within_call-told after.0 said image taken after.1 heard within in
    record { left = after.3 image moment.left; said = moment.said }))

-- one behind an attach is one of the file as it was
pub refuses_file-opened : {D : Type 0} (g : Ghosts D) (before : File) (said : List ℕ) (new_tape : Option (List ℕ)) (old mid new : D) (status : ℕ)
    → OverTime g.clock g.moment (LeavesImage (CouldBeLeft before) said) old mid → RefusesFile g (opened before) said new_tape mid new status → RefusesFile g before said new_tape old new status
refuses_file-opened g before said new_tape old mid new status attached refuses = record {
  end_ = refuses.end_;
  unopened = refuses.unopened;
  cause = refuses.cause;
  ends = refuses.ends;
  time = over_time_then (over_time_wider attached (could_be_left-moment before said (line_of_end refuses.end_))) refuses.time;
}

-- ---- a formed file

-- a run, and then the line of its end
pub reopens_file-said : {D : Type 0} (g : Ghosts D) (before after : File) (said heard : List ℕ) (script left : Option (List ℕ)) (old mid new : D) (tape new_tape : Option (List ℕ)) (end_ : Result Served Stop) (status : ℕ)
    → TellsNow g old → TellsNow g mid → ReachesBack g.clock g.moment mid → g.file old ≡ Some before → (g.beside old).tape ≡ Some said → g.file mid ≡ Some after → IsImage after.since after.bytes
    → (g.beside mid).tape ≡ Some heard → tape ≡ Some heard → IsCauseIn before.bytes end_ → SaysEnd tape new_tape status end_
    → OverTime g.clock g.moment (IsWithinCall (g.file mid) tape (line_of_end end_)) mid new
    → ComesToRest g before said (λ image tape. StaysFormed before.bytes image) old mid ⊎ StopsUnrested g before said script left old mid → ReopensFile g before said script left new_tape old new status
reopens_file-said g before after said heard script left old mid new tape new_tape end_ status now_old now_mid back is told is_mid sound told_mid tape_is cause ends saying (inl rest) =
    inl (rests_then_said g before after said heard (line_of_end end_) (λ image taken. StaysFormed before.bytes image) (λ image taken. StaysFormed before.bytes image) old mid new tape now_mid back is_mid told_mid tape_is saying
    (λ image taken is. is) (λ image taken is part. is) rest)
reopens_file-said g before after said heard script left old mid new tape new_tape end_ status now_old now_mid back is told is_mid sound told_mid tape_is cause ends saying (inr (meanwhile, untaken)) =
    let unrested = unrested_said g before after said heard (line_of_end end_) old mid new tape now_old now_mid back is told is_mid sound told_mid tape_is meanwhile saying in
    inr (record {
      end_ = end_;
      untaken = untaken;
      cause = cause;
      ends = subst (λ (t : Option (List ℕ)). SaysEnd t new_tape status end_) unrested.0 ends;
      time = unrested.1;
    })

-- one behind an attach is one of the file as it was
pub reopens_file-opened : {D : Type 0} (g : Ghosts D) (before : File) (said : List ℕ) (script left new_tape : Option (List ℕ)) (old mid new : D) (status : ℕ)
    → OverTime g.clock g.moment (LeavesImage (CouldBeLeft before) said) old mid → ReopensFile g (opened before) said script left new_tape mid new status → ReopensFile g before said script left new_tape old new status
reopens_file-opened g before said script left new_tape old mid new status attached (inl rest) = inl (rests-opened g before said old mid new attached rest)
reopens_file-opened g before said script left new_tape old mid new status attached (inr stops) = inr (record {
  end_ = stops.end_;
  untaken = stops.untaken;
  cause = stops.cause;
  ends = stops.ends;
  time = over_time_then (over_time_wider attached (could_be_left-moment before said (line_of_end stops.end_))) stops.time;
})

-- a stop before anything is taken comes before any origin
pub reopens_file-before : {D : Type 0} (g : Ghosts D) (before : File) (said : List ℕ) (script new_tape : Option (List ℕ)) (old new : D) (stop : Stop) → IsStopBefore stop → new_tape ≡ Some said
    → OverTime g.clock g.moment (LeavesImage (CouldBeLeft before) said) old new → ReopensFile g before said script script new_tape old new (status_of_stop stop)
reopens_file-before g before said script new_tape old new stop is_before same meanwhile = inr (record {
  end_ = Err stop;
  untaken = refl;
  cause = cause-before before.bytes stop is_before;
  ends = says_end-quiet (Some said) new_tape stop is_before same;
  time = over_time_wider meanwhile (could_be_left-moment before said (line_of_end (Err stop)));
})

-- ---- what was taken

-- a part within the limit, at a status that allows one
part_taken : {script : List ℕ} {left : Option (List ℕ)} {status : ℕ} (taken rest : List ℕ) → script ≡ taken ++ rest → left ≡ Some rest → length taken ≤ script_limit
    → (status ≡ 0 → ⊥) → (status ≡ 1 → ⊥) → (status ≡ 7 → ⊥) → TakesByStatus script left status
part_taken taken rest is left_is fits not_done not_refused not_long = record {
  taken = taken;
  rest = rest;
  script_is = is;
  left_is = left_is;
  all = λ done. elim done [ inl e ↦ absurd (not_done e) | inr e ↦ absurd (not_refused e) ];
  past = λ e. absurd (not_long e);
  within = λ e. fits;
}

-- nothing
pub takes_none : (script : Option (List ℕ)) (status : ℕ) → (status ≡ 0 → ⊥) → (status ≡ 1 → ⊥) → (status ≡ 7 → ⊥) → IfSome script (λ bytes. TakesByStatus bytes script status)
takes_none None status not_done not_refused not_long = tt
takes_none (Some bytes) status not_done not_refused not_long = part_taken [] bytes refl refl (omega arith) not_done not_refused not_long

-- what a session took, by the status of the run
takes_at : (end_ : Result Served Stop) (script : List ℕ) (left : Option (List ℕ)) (status : ℕ) → IfErr end_ IsOfScript → TakesScript script left end_
    → (status ≡ status_of end_) ⊎ (status ≡ 5) ⊎ (status ≡ 8) → (line_of_end end_ ≡ [] → status ≡ status_of end_) → TakesByStatus script left status
takes_at (Ok AllDone) script left status begun takes either quiet =
    let is : status ≡ 0 = quiet refl in
    record { taken = takes.taken; rest = takes.rest; script_is = takes.script_is; left_is = takes.left_is; all = λ done. takes.by_end.0; past = λ e. absurd (omega (arith, is, e)); within = λ e. takes.by_end.1 }
takes_at (Ok SomeRefused) script left status begun takes either quiet =
    let is : status ≡ 1 = quiet refl in
    record { taken = takes.taken; rest = takes.rest; script_is = takes.script_is; left_is = takes.left_is; all = λ done. takes.by_end.0; past = λ e. absurd (omega (arith, is, e)); within = λ e. takes.by_end.1 }
takes_at (Err Unmade) script left status begun takes either quiet = absurd begun
takes_at (Err NotMdc) script left status begun takes either quiet = absurd begun
takes_at (Err (Version version)) script left status begun takes either quiet = absurd begun
takes_at (Err TooLong) script left status begun takes either quiet =
    let is : status ≡ 7 = quiet refl in
    record {
      taken = takes.taken;
      rest = takes.rest;
      script_is = takes.script_is;
      left_is = takes.left_is;
      all = λ done. elim done [ inl e ↦ absurd (omega (arith, is, e)) | inr e ↦ absurd (omega (arith, is, e)) ];
      past = λ e. takes.by_end;
      within = λ not_long. absurd (not_long is);
    }
takes_at (Err Unread) script left status begun takes either quiet =
    let is : status ≡ 4 = quiet refl in
    part_taken takes.taken takes.rest takes.script_is takes.left_is takes.by_end (λ e. omega (arith, is, e)) (λ e. omega (arith, is, e)) (λ e. omega (arith, is, e))
takes_at (Err Unsaid) script left status begun takes either quiet =
    let is : status ≡ 5 = quiet refl in
    part_taken takes.taken takes.rest takes.script_is takes.left_is takes.by_end (λ e. omega (arith, is, e)) (λ e. omega (arith, is, e)) (λ e. omega (arith, is, e))
takes_at (Err Device) script left status begun takes either quiet =
    let is : status ≡ 3 = quiet refl in
    part_taken takes.taken takes.rest takes.script_is takes.left_is takes.by_end (λ e. omega (arith, is, e)) (λ e. omega (arith, is, e)) (λ e. omega (arith, is, e))
takes_at (Err Memory) script left status begun takes either quiet =
    let is : status ≡ 8 = quiet refl in
    part_taken takes.taken takes.rest takes.script_is takes.left_is takes.by_end (λ e. omega (arith, is, e)) (λ e. omega (arith, is, e)) (λ e. omega (arith, is, e))
takes_at (Err (Damaged damage)) script left status begun takes either quiet = elim either [
  | inl is ↦ part_taken takes.taken takes.rest takes.script_is takes.left_is takes.by_end (λ e. damaged is e (omega arith)) (λ e. damaged is e (omega arith)) (λ e. damaged is e (omega arith))
  | inr other ↦ elim other [
    | inl is ↦ part_taken takes.taken takes.rest takes.script_is takes.left_is takes.by_end (λ e. omega (arith, is, e)) (λ e. omega (arith, is, e)) (λ e. omega (arith, is, e))
    | inr is ↦ part_taken takes.taken takes.rest takes.script_is takes.left_is takes.by_end (λ e. omega (arith, is, e)) (λ e. omega (arith, is, e)) (λ e. omega (arith, is, e))
  ]
]
  where
    damaged : {n : ℕ} → status ≡ 9 → status ≡ n → n < 9 → ⊥
    damaged is e less = omega (arith, is, e, less)

-- a file that was refused has status 6, or that of its line
refused_status : (end_ : Result Served Stop) → IsRefused end_ → status_of end_ ≡ 6
refused_status (Ok AllDone) is = absurd is
refused_status (Ok SomeRefused) is = absurd is
refused_status (Err Unmade) is = refl
refused_status (Err NotMdc) is = refl
refused_status (Err (Version version)) is = refl
refused_status (Err Unread) is = absurd is
refused_status (Err TooLong) is = absurd is
refused_status (Err Unsaid) is = absurd is
refused_status (Err Device) is = absurd is
refused_status (Err (Damaged damage)) is = absurd is
refused_status (Err Memory) is = absurd is

-- the status is that of the end, or that of a line that wasn't said
pub status_either : (tape new : Option (List ℕ)) (status : ℕ) (end_ : Result Served Stop) → SaysEnd tape new status end_ → (status ≡ status_of end_) ⊎ (status ≡ 5) ⊎ (status ≡ 8)
status_either tape new status end_ (inl is) = inl is.0
status_either tape new status end_ (inr (inl is)) = inr (inl is.0)
status_either tape new status end_ (inr (inr is)) = inr (inr is.0)

refused_either : (status : ℕ) (end_ : Result Served Stop) → IsRefused end_ → (status ≡ status_of end_) ⊎ (status ≡ 5) ⊎ (status ≡ 8) → (5 ≤ status) × (status ≤ 8) × (status ≡ 7 → ⊥)
refused_either status end_ refused (inl is) = let six = refused_status end_ refused in (omega (arith, is, six), omega (arith, is, six), λ e. omega (arith, is, six, e))
refused_either status end_ refused (inr (inl is)) = (omega (arith, is), omega (arith, is), λ e. omega (arith, is, e))
refused_either status end_ refused (inr (inr is)) = (omega (arith, is), omega (arith, is), λ e. omega (arith, is, e))

pub takes_by_status : (script left : Option (List ℕ)) (end_ : Result Served Stop) (status : ℕ) → (IsRefused end_ → left ≡ script) → IsRefused end_ ⊎ TakesBySession script left end_
    → (status ≡ status_of end_) ⊎ (status ≡ 5) ⊎ (status ≡ 8) → (line_of_end end_ ≡ [] → status ≡ status_of end_) → IfSome script (λ bytes. TakesByStatus bytes left status)
takes_by_status None left end_ status same takes either quiet = tt
takes_by_status (Some bytes) left end_ status same (inl refused) either quiet =
    let at = refused_either status end_ refused either in
    part_taken [] bytes refl (same refused) (omega arith) (λ e. omega (arith, at.0, e)) (λ e. omega (arith, at.0, e)) at.2
takes_by_status (Some bytes) left end_ status same (inr takes) either quiet = takes_at end_ bytes left status takes.0 takes.1 either quiet
