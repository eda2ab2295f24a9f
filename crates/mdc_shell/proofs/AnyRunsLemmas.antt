-- Runs of scripts on files whatever their pages are: behind an attach, before the line of their end, and where nothing was run.
use Rattle.std.proofs.Common.{◌≡◌, ℕ, List, Option, Some, None, Result, Err, refl, sym, ap, subst, inl, inr}
use Rattle.std.specs.Option.{option_map}
use Rattle.mdc_words.specs.Time.{OverTime, ReachesBack}
use Rattle.mdc_words.proofs.TimeLemmas.{over_time_then, over_time_wider}
use Rattle.mdc_outside.specs.Disk.{File, IsImage, opened}
use Rattle.mdc_outside.specs.Moments.{IsWithinCall}
use Rattle.mdc_outside.specs.Outside.{Takes}
use Rattle.mdc_outside.specs.declared.disk.Disk.{Ghosts}
use Rattle.page_file.specs.Leaving.{LeavesImage}
use Rattle.page_store.specs.Opened.{CouldBeLeft}
use Rattle.session.specs.script.Going.{held_last}
use Rattle.session.specs.declared.script.served.Served.{Served}
use Rattle.session.specs.file.AnyServing.{RunsOnAnyFile, RunsOnServed, StandsFor}
use Rattle.session.specs.file.Leaving.{LeftByAnyRun}
use Rattle.session.specs.declared.stop.Stop.{Stop}
use Rattle.session.specs.declared.stop.Stop.TheVariants.{Damaged, Device, Memory, NotMdc, TooLong, Unmade, Unread, Unsaid, Version}
use Rattle.session.proofs.AnyFileRunsLemmas.{any_before}
use Rattle.file_verdict.proofs.RestingLemmas.{TellsNow}
use Rattle.mdc_shell.specs.Run.{IsStopBefore, LeftWithLine, RunsAnyPath}
use Rattle.mdc_shell.specs.Status.{SaysEnd, line_of_end, status_of_stop}
use Rattle.mdc_shell.proofs.OriginLemmas.{could_be_left-moment, rests-opened, rests_then_said, unrested_said}

-- ---- a run

-- with tapes that are the same
pub served_along : {file : Option File} {script left tape was new_tape now : Option (List ℕ)} {end_ : Result Served Stop} → tape ≡ was → new_tape ≡ now → RunsOnServed file script left tape new_tape end_
    → RunsOnServed file script left was now end_
served_along {tape = tape} {now = now} told heard serves = record {
  pages = serves.pages;
  theirs = serves.theirs;
  run = record {
    held = serves.run.held;
    first = serves.run.first;
    items = serves.run.items;
    outcomes = serves.run.outcomes;
    stages = serves.run.stages;
    in_hand = serves.run.in_hand;
    goes = serves.run.goes;
    said = serves.run.said;
    read = serves.run.read;
    tape_is = subst (λ (t : Option (List ℕ)). Takes t serves.run.said now) told (subst (Takes tape serves.run.said) heard serves.run.tape_is);
    of_script = serves.run.of_script;
    ends = serves.run.ends;
    built = serves.run.built;
  };
  damage = serves.damage;
}

-- on a file that an attach opened
served_opened : {before : File} {script left tape new_tape : Option (List ℕ)} {end_ : Result Served Stop} → RunsOnServed (Some (opened before)) script left tape new_tape end_
    → RunsOnServed (Some before) script left tape new_tape end_
served_opened serves = record {
  pages = serves.pages;
  theirs = λ file is. serves.theirs (opened file) (ap (option_map opened) is);
  run = serves.run;
  damage = λ damage ends file is. serves.damage damage ends (opened file) (ap (option_map opened) is);
}

served_attached : (file : Option File) (script left tape new_tape : Option (List ℕ)) (end_ : Result Served Stop) → RunsOnServed (option_map opened file) script left tape new_tape end_
    → RunsOnServed file script left tape new_tape end_
served_attached None script left tape new_tape end_ serves = serves
served_attached (Some file) script left tape new_tape end_ serves = served_opened serves

pub served_behind : (file mid : Option File) (script left tape mid_tape new_tape : Option (List ℕ)) (end_ : Result Served Stop) → mid ≡ option_map opened file → mid_tape ≡ tape
    → RunsOnServed mid script left mid_tape new_tape end_ → RunsOnServed file script left tape new_tape end_
served_behind file mid script left tape mid_tape new_tape end_ is same serves =
    served_attached file script left tape new_tape end_ (served_along same refl (subst (λ (f : Option File). RunsOnServed f script left mid_tape new_tape end_) is serves))

-- where nothing was run
pub served_before : (file : Option File) (script tape new_tape : Option (List ℕ)) (stop : Stop) → IsStopBefore stop → new_tape ≡ tape → RunsOnServed file script script tape new_tape (Err stop)
served_before file script tape new_tape Device before same = any_before file script tape new_tape Device (inl refl) same
served_before file script tape new_tape Memory before same = any_before file script tape new_tape Memory (inr refl) same
served_before file script tape new_tape Unmade before same = absurd before
served_before file script tape new_tape NotMdc before same = absurd before
served_before file script tape new_tape (Version version) before same = absurd before
served_before file script tape new_tape Unread before same = absurd before
served_before file script tape new_tape TooLong before same = absurd before
served_before file script tape new_tape Unsaid before same = absurd before
served_before file script tape new_tape (Damaged damage) before same = absurd before

-- ---- and what a crash leaves of it

module _ {D : Type 0} (g : Ghosts D) (before : File) (said : List ℕ) (script left : Option (List ℕ)) where
  -- a run, and then the line of its end
  pub runs_any-said : (after : File) (heard : List ℕ) (old mid new : D) (tape new_tape : Option (List ℕ)) (end_ : Result Served Stop) (status : ℕ) → TellsNow g old → TellsNow g mid → ReachesBack g.clock g.moment mid
      → g.file old ≡ Some before → (g.beside old).tape ≡ Some said → g.file mid ≡ Some after → IsImage after.since after.bytes → (g.beside mid).tape ≡ Some heard → tape ≡ Some heard → SaysEnd tape new_tape status end_
      → OverTime g.clock g.moment (IsWithinCall (g.file mid) tape (line_of_end end_)) mid new → g.file new ≡ g.file mid → RunsOnAnyFile g before said script left old mid end_ → RunsAnyPath g before said script left new_tape old new status
  unfolding served_along
  runs_any-said after heard old mid new tape new_tape end_ status now_old now_mid back is told is_mid sound told_mid tape_is ends saying same_file runs =
      let run = runs.serves.run in
      let Left : List ℕ → List ℕ → Type 0 = LeftByAnyRun before.bytes run.held run.stages run.outcomes run.in_hand said in
      record {
        end_ = end_;
        heard = heard;
        serves = served_along refl told_mid runs.serves;
        ends = subst (λ (t : Option (List ℕ)). SaysEnd t new_tape status end_) tape_is ends;
        leaves = elim runs.leaves [
          | inl rests ↦ inl (record {
            rest = rests_then_said g before after said heard (line_of_end end_) Left (LeftWithLine Left heard (line_of_end end_)) old mid new tape now_mid back is_mid told_mid tape_is saying
                (λ image taken left. inl left) (λ image taken left part. inr (left, part)) rests.rest;
            kept = λ other. subst (StandsFor before.bytes (held_last run.held run.stages).base) (sym same_file) (rests.kept other);
          })
          | inr stopped ↦ inr (
            (unrested_said g before after said heard (line_of_end end_) old mid new tape now_old now_mid back is told is_mid sound told_mid tape_is stopped.0 saying).1,
            stopped.1,
          )
        ];
      }

  -- one behind an attach is one of the file as it was
  pub runs_any-opened : (new_tape : Option (List ℕ)) (old mid new : D) (status : ℕ) → OverTime g.clock g.moment (LeavesImage (CouldBeLeft before) said) old mid
      → RunsAnyPath g (opened before) said script left new_tape mid new status → RunsAnyPath g before said script left new_tape old new status
  unfolding served_opened
  runs_any-opened new_tape old mid new status attached runs = record {
    end_ = runs.end_;
    heard = runs.heard;
    serves = served_opened runs.serves;
    ends = runs.ends;
    leaves = elim runs.leaves [
      | inl rests ↦ inl (record { rest = rests-opened g before said old mid new attached rests.rest; kept = rests.kept })
      | inr stopped ↦ inr (over_time_then (over_time_wider attached (could_be_left-moment before said (line_of_end runs.end_))) stopped.0, stopped.1)
    ];
  }

-- one that stopped before anything was taken
pub runs_any-before : {D : Type 0} (g : Ghosts D) (before : File) (said : List ℕ) (script new_tape : Option (List ℕ)) (old new : D) (stop : Stop) → IsStopBefore stop → SaysEnd (Some said) new_tape (status_of_stop stop) (Err stop)
    → OverTime g.clock g.moment (LeavesImage (CouldBeLeft before) said) old new → RunsAnyPath g before said script script new_tape old new (status_of_stop stop)
runs_any-before g before said script new_tape old new stop is_before ends meanwhile = record {
  end_ = Err stop;
  heard = said;
  serves = served_before (Some before) script (Some said) (Some said) stop is_before refl;
  ends = ends;
  leaves = inr (over_time_wider meanwhile (could_be_left-moment before said (line_of_end (Err stop))), refl);
}
