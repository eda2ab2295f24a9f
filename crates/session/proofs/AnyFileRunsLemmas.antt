-- Runs on a file whatever its pages are: from the store that was opened on it, and where none was opened.
use Rattle.std.proofs.Common.{◌≡◌, ◌⊎◌, ◌≤◌, ◌++◌, ℕ, Bool, List, [], Option, Some, None, Result, Err, true, false, is_some, refl, sym, ◌∙◌, ap, subst, inl, inr, arith}
use Rattle.std.specs.Option.{ForSome}
use Rattle.std.specs.Prelude.{IsTrue}
use Rattle.mdc_words.specs.Time.{ReachesBack}
use Rattle.mdc_ast.specs.Definitions.{no_tables}
use Rattle.statement_meaning.specs.Session.{first_settings}
use Rattle.statement_meaning.specs.declared.pass.Pass.TheVariants.{Idle}
use Rattle.mdc_outside.specs.Disk.{File, IsImage}
use Rattle.mdc_outside.specs.Outside.{Takes}
use Rattle.mdc_outside.specs.declared.disk.Disk as disk
use Rattle.store_api.specs.declared.fault.Damage.{Damage}
use Rattle.store_api.specs.declared.pages.Pages as pages
use Rattle.table_trees.specs.ToldPages.{PageList}
use Rattle.stored_catalog.specs.StoredDefinitions.{AreStored}
use Rattle.page_file.specs.Bound.{LeavesOf}
use Rattle.page_store.specs.Bound.{OpensOf}
use Rattle.page_store.specs.Opened.{CouldBeLeft, LeavesBaseSince, StandsSince}
use Rattle.page_store.specs.Opening.{IsDamagedFile, Refuses, StandsAs}
use Rattle.page_store.specs.Standing.{IsFormed, Stands, pages_in}
use Rattle.page_store.specs.declared.fault.OpenFault.{OpenFault}
use Rattle.page_store.specs.declared.fault.OpenFault.TheVariants as opening
use Rattle.script_engine.specs.Held.{HeldPages}
use Rattle.session.proofs.ToldLemmas.{takes_nothing, told_behind}
use Rattle.file_verdict.specs.Resting.{StaysFormed}
use Rattle.file_verdict.specs.SoundFile.{StatesExtents}
use Rattle.file_verdict.proofs.RestingLemmas.{IsLeftByStore, TellsNow, image_since, kept_beside, rests_on_file, rests_refused}
use Rattle.file_verdict.proofs.SoundFilesLemmas.{formed_along, formed_standing, states_standing}
use Rattle.session.specs.script.AnyGoing.{GoesOnAny}
use Rattle.session.specs.script.Going.{Goes, held_last}
use Rattle.session.specs.script.Leaving.{LeftOnAny}
use Rattle.session.specs.declared.script.served.Served.{Served}
use Rattle.session.specs.Stops.{IsOfScript}
use Rattle.session.specs.declared.stop.Stop.{Stop}
use Rattle.session.specs.declared.stop.Stop.TheVariants as why
use Rattle.session.specs.file.AnyServing.{RestsByRun, RunsAnyItems, RunsNothing, RunsOnAnyFile, RunsOnServed, StandsFor}
use Rattle.session.specs.file.Ending.{IsRefused, StopsOpening}
use Rattle.session.specs.file.Leaving.{LeftByAnyRun, StopsUnrested}
use Rattle.session.specs.file.Running.{IsLeftSinceAny, ServesAny}
use Rattle.session.proofs.FirstEndsLemmas.{ends_first}
use Rattle.session.proofs.FileRunsLemmas.{early_of_script}
use Rattle.session.proofs.FirstLeftLemmas.{left_first}

-- ---- a store was opened

-- a run on pages that are told as others are, behind the same tape, is one on these
items_along : {told is_told : Bool} {pages theirs : PageList} {script left tape was new_tape : Option (List ℕ)} {result : Result Served Stop} → told ≡ is_told → pages ≡ theirs → tape ≡ was
    → RunsAnyItems told pages script left tape new_tape result → RunsAnyItems is_told theirs script left was new_tape result
items_along {is_told = is_told} {pages = pages} {script = script} {left = left} {new_tape = new_tape} tells same told run = record {
  held = run.held;
  first = record { base = run.first.base ∙ same; work = run.first.work ∙ same; closed = run.first.closed; settings = run.first.settings; pass = run.first.pass };
  items = run.items;
  outcomes = run.outcomes;
  stages = run.stages;
  in_hand = run.in_hand;
  goes = subst (λ (is : Bool). GoesOnAny is run.held run.items run.outcomes run.stages) tells run.goes;
  said = run.said;
  read = subst (λ (at : PageList). (IsTrue is_told → AreStored at run.held.defs) ⊎ RunsNothing run.items run.in_hand run.said script left) same
      (subst (λ (is : Bool). (IsTrue is → AreStored pages run.held.defs) ⊎ RunsNothing run.items run.in_hand run.said script left) tells run.read);
  tape_is = subst (λ (tape : Option (List ℕ)). Takes tape run.said new_tape) told run.tape_is;
  of_script = run.of_script;
  ends = run.ends;
  built = run.built;
}

-- an opening keeps whether the file is told
pub tells_still : (old new : Option File) → (old ≡ None → new ≡ None) → ((before : File) → old ≡ Some before → (after : File) × (new ≡ Some after)) → is_some new ≡ is_some old
tells_still None new untold told = ap is_some (untold refl)
tells_still (Some before) new untold told = ap is_some (told before refl).1

module _ {S D : Type 0} (g : pages.Ghosts S) (d : disk.Ghosts D) (store : S) (script left : Option (List ℕ)) (new : D) (result : Result Served Stop) where
  -- a run on a store that was opened on a file is one on the file
  pub any_served_on_file : (file opened : Option File) (tape : Option (List ℕ)) → ServesAny g d opened script left store new result → is_some opened ≡ is_some file → (g.state store).told ≡ tape
      → ForSome file (λ before. ((g.state store).base ≡ pages_in before.bytes) × IsFormed before.bytes × (after : File) × (opened ≡ Some after) × Stands before.bytes (pages_in before.bytes) after.bytes)
      → RunsOnServed file script left tape (d.beside new).tape result
  unfolding items_along
  any_served_on_file file opened tape serves tells told opens = record {
    pages = (g.state store).base;
    theirs = λ before is. (opens before is).0;
    run = items_along tells refl told serves.run;
    damage = λ damage ends before is. inr (λ shape states.
        let stands = opens before is in
        serves.damage damage ends stands.2 stands.3 shape (states_standing before.bytes stands.2.bytes (pages_in before.bytes) shape stands.4 states));
  }

  -- what a crash leaves of it
  module _ (before after : File) (said : List ℕ) (opened : D) (serves : ServesAny g d (Some after) script left store new result) (base : (g.state store).base ≡ pages_in before.bytes) (stays : StaysFormed before.bytes after.bytes)
      (told : (g.state store).told ≡ Some said) where
    -- an image that the run left, or the store left it, and for the pages of the file the run leaves it
    left_opened : (t : ℕ) (image heard : List ℕ) → IsLeftSinceAny (λ pages heard. LeftOnAny serves.run.held serves.run.stages serves.run.outcomes serves.run.in_hand said (Some pages) heard) after.bytes (g.left store t) image heard
        → LeftByAnyRun before.bytes serves.run.held serves.run.stages serves.run.outcomes serves.run.in_hand said image heard
        ⊎ IsLeftByStore g store before.bytes said (LeftByAnyRun before.bytes serves.run.held serves.run.stages serves.run.outcomes serves.run.in_hand said) t image heard
    left_opened t image heard (inl (is, inl was)) = inr (record {
      pages = Some (pages_in image);
      left = was;
      kind = λ same silent. record {
        stays = formed_along before.bytes after.bytes image stays is;
        left = left_first serves.run.held serves.run.stages serves.run.outcomes serves.run.in_hand said (pages_in before.bytes) (Some (pages_in image)) heard tt (serves.run.first.base ∙ base) same silent;
      };
    })
    left_opened t image heard (inl (is, inr within)) = inl (record { stays = formed_along before.bytes after.bytes image stays is; left = within })
    left_opened t image heard (inr none) = inr (record { pages = None; left = none; kind = λ same silent. absurd (cc) })

    -- at its end
    kept_opened : (heard : List ℕ) → TellsNow d new → ReachesBack d.clock d.moment new → (d.beside new).tape ≡ Some heard → (result ≡ Err why.Device → ⊥)
        → StandsFor before.bytes (held_last serves.run.held serves.run.stages).base (d.file new)
    kept_opened heard now back heard_is other at is image could =
        let kept = serves.kept other said told after refl image heard (image_since d new at heard (d.clock new) image now back is heard_is (omega arith) could) in
        (formed_along before.bytes after.bytes image stays kept.0, kept.1)

    -- so a run on the store is one on the file, with what a crash leaves of it
    any_run_on_file : (old : D) → TellsNow d new → ReachesBack d.clock d.moment new → IsFormed before.bytes → StandsAs before.bytes after.bytes
        → (origin : D) × StandsSince d.clock d.moment before said old origin opened → g.clock store ≡ d.clock opened → d.clock opened ≤ d.clock new
        → ((t : ℕ) (left : Option PageList) (heard : List ℕ) → g.left store t left heard → (image : List ℕ) × d.moment opened t image heard)
        → LeavesBaseSince (d.moment opened) (g.left store) before.bytes said → RunsOnAnyFile d before said script left old new result
    unfolding items_along
    any_run_on_file old now back formed stands crash same_clock later by_host rests =
        let run = items_along refl base told serves.run in
        let heard = told_behind (Some said) (d.beside new).tape run.said said refl run.tape_is in
        record {
          serves = record {
            pages = pages_in before.bytes;
            theirs = λ file is. (let same : before ≡ file = cc in ap (λ (f : File). pages_in f.bytes) same);
            run = run;
            damage = λ damage ends file is. inr (λ shape states.
                let same : before ≡ file = cc in
                let own : StatesExtents before.bytes shape = subst (λ (f : File). StatesExtents f.bytes shape) (sym same) states in
                serves.damage damage ends after refl shape (states_standing before.bytes after.bytes (pages_in before.bytes) shape (stands.1 formed) own));
          };
          leaves = inl (record {
            rest = rests_on_file d g store before said (LeftByAnyRun before.bytes serves.run.held serves.run.stages serves.run.outcomes serves.run.in_hand said) old opened new
                (λ t image heard early now. left_opened t image heard (serves.since said told after refl t early image heard now)) crash same_clock later by_host rests;
            kept = kept_opened (said ++ run.said) now back heard;
          });
        }

  -- the same by what the host told of the file as the store was opened
  pub any_run_opened : (told_file : Option File) (before after : File) (said : List ℕ) (opened old : D) → ServesAny g d told_file script left store new result → told_file ≡ Some after → (g.state store).base ≡ pages_in before.bytes
      → (g.state store).told ≡ Some said → TellsNow d new → ReachesBack d.clock d.moment new → IsFormed before.bytes → StandsAs before.bytes after.bytes
      → (origin : D) × StandsSince d.clock d.moment before said old origin opened → g.clock store ≡ d.clock opened → d.clock opened ≤ d.clock new
      → ((t : ℕ) (left : Option PageList) (heard : List ℕ) → g.left store t left heard → (image : List ℕ) × d.moment opened t image heard)
      → LeavesBaseSince (d.moment opened) (g.left store) before.bytes said → RunsOnAnyFile d before said script left old new result
  any_run_opened told_file before after said opened old serves is base told now back formed stands crash same_clock later by_host rests =
      any_run_on_file before after said opened (subst (λ (f : Option File). ServesAny g d f script left store new result) is serves) base (formed_standing before.bytes after.bytes (pages_in before.bytes) formed (stands.1 formed)) told
      old now back formed stands crash same_clock later by_host rests

-- ---- none was opened

-- the pages that a file stands for, where it is told
abbrev pub pages_of_file : Option File → PageList
pages_of_file None = []
pages_of_file (Some file) = pages_in file.bytes

theirs_of_file : (file : Option File) → ForSome file (λ at. pages_of_file file ≡ pages_in at.bytes)
theirs_of_file None at is = absurd (cc)
theirs_of_file (Some file) at is = let same : file ≡ at = cc in ap (λ (f : File). pages_in f.bytes) same

-- a run of nothing on these pages, up to a stop that isn't of the script
nothing_on : (told : Bool) (pages : PageList) (script tape new_tape : Option (List ℕ)) (stop : Stop) → IsOfScript stop → (stop ≡ why.Unread → ⊥) → (stop ≡ why.TooLong → ⊥) → new_tape ≡ tape
    → RunsAnyItems told pages script script tape new_tape (Err stop)
nothing_on told pages script tape new_tape stop is read long same = record {
  held = record { base = pages; work = pages; defs = no_tables; open_ = false; settings = first_settings; pass = Idle };
  first = record { base = refl; work = refl; closed = refl; settings = refl; pass = refl };
  items = [];
  outcomes = [];
  stages = [];
  in_hand = [];
  goes = Goes.nothing;
  said = [];
  read = inr (record { unmet = refl; none_in_hand = refl; unsaid = refl; untaken = refl });
  tape_is = subst (Takes tape []) (sym same) (takes_nothing tape);
  of_script = is;
  ends = ends_first script stop read long;
  built = λ stmt hand other. absurd (cc);
}

-- a file that isn't opened for damage is damaged there
damage_of_opening : (bytes : List ℕ) (fault : OpenFault) (stop : Stop) (damage : Damage) → Refuses fault bytes → StopsOpening fault stop → stop ≡ why.Damaged damage → IsDamagedFile damage bytes
damage_of_opening bytes opening.Exists stop damage refuses stops is = absurd refuses
damage_of_opening bytes opening.Unmade stop damage refuses stops is = absurd (cc)
damage_of_opening bytes opening.NotMdc stop damage refuses stops is = absurd (cc)
damage_of_opening bytes (opening.Version version) stop damage refuses stops is = absurd (cc)
damage_of_opening bytes opening.Device stop damage refuses stops is = absurd (cc)
damage_of_opening bytes (opening.Damaged named) stop damage refuses stops is =
    let same : named ≡ damage = cc in
    subst (λ (d : Damage). IsDamagedFile d bytes) same refuses
damage_of_opening bytes opening.Memory stop damage refuses stops is = absurd (cc)

-- such a run on a file, where the damage that it names is that of one that can't be opened
nothing_on_file : (at : Option File) (script tape new_tape : Option (List ℕ)) (stop : Stop) → ((damage : Damage) → stop ≡ why.Damaged damage → ForSome at (λ told. IsDamagedFile damage told.bytes))
    → IsOfScript stop → (stop ≡ why.Unread → ⊥) → (stop ≡ why.TooLong → ⊥) → new_tape ≡ tape → RunsOnServed at script script tape new_tape (Err stop)
nothing_on_file at script tape new_tape stop damaged is read long same = record {
  pages = pages_of_file at;
  theirs = theirs_of_file at;
  run = nothing_on (is_some at) (pages_of_file at) script tape new_tape stop is read long same;
  damage = λ damage ends before told. inl (damaged damage (cc) before told);
}

-- nothing was run on a file that wasn't opened, unless its opening refused it
pub any_unopened : (file : Option File) (script tape new_tape : Option (List ℕ)) (fault : OpenFault) (stop : Stop) → ForSome file (λ file. Refuses fault file.bytes) → StopsOpening fault stop → new_tape ≡ tape
    → IsRefused (Err stop) ⊎ RunsOnServed file script script tape new_tape (Err stop)
any_unopened at script tape new_tape opening.Exists stop refuses stops same = absurd stops
any_unopened at script tape new_tape opening.Unmade stop refuses stops same = inl (rw stops tt)
any_unopened at script tape new_tape opening.NotMdc stop refuses stops same = inl (rw stops tt)
any_unopened at script tape new_tape (opening.Version version) stop refuses stops same = inl (rw stops tt)
any_unopened at script tape new_tape opening.Device stop refuses stops same = inr (nothing_on_file at script tape new_tape stop (λ damage named. absurd (cc)) (rw stops tt) (λ e. cc) (λ e. cc) same)
any_unopened at script tape new_tape (opening.Damaged damage) stop refuses stops same =
    inr (nothing_on_file at script tape new_tape stop (λ other named before is. damage_of_opening before.bytes (opening.Damaged damage) stop other (refuses before is) stops named) (rw stops tt) (λ e. cc) (λ e. cc) same)
any_unopened at script tape new_tape opening.Memory stop refuses stops same = inr (nothing_on_file at script tape new_tape stop (λ damage named. absurd (cc)) (rw stops tt) (λ e. cc) (λ e. cc) same)

-- nor where the disk failed or memory was wanted before
pub any_before : (file : Option File) (script tape new_tape : Option (List ℕ)) (stop : Stop) → (stop ≡ why.Device) ⊎ (stop ≡ why.Memory) → new_tape ≡ tape
    → RunsOnServed file script script tape new_tape (Err stop)
any_before at script tape new_tape stop is_one same =
    nothing_on_file at script tape new_tape stop (λ damage named. absurd (undamaged stop is_one damage named)) (early_of_script stop is_one) (λ e. elim is_one [ inl f ↦ cc | inr f ↦ cc ]) (λ e. elim is_one [ inl f ↦ cc | inr f ↦ cc ]) same
  where
    undamaged : (stop : Stop) → (stop ≡ why.Device) ⊎ (stop ≡ why.Memory) → (damage : Damage) → stop ≡ why.Damaged damage → ⊥
    undamaged stop (inl is) damage named = cc
    undamaged stop (inr is) damage named = cc

module _ {D : Type 0} (d : disk.Ghosts D) (before : File) (said : List ℕ) (script : Option (List ℕ)) (old new : D) (First : Type 0) (fault : OpenFault) (stop : Stop) (formed : IsFormed before.bytes) (is : d.file old ≡ Some before) (told : (d.beside old).tape ≡ Some said) where
  -- what is kept where all was on the disk
  kept_unopened : OpensOf d old new → StandsFor before.bytes (pages_in before.bytes) (d.file new)
  kept_unopened opens at is_at image could =
      let after = opens.told before is in
      let same : after.0 ≡ at = (let both : Some after.0 ≡ Some at = sym after.1 ∙ is_at in cc) in
      let stands = (after.3 image (subst (λ (f : File). IsImage f.since image) (sym same) could)).1 formed in
      (formed_standing before.bytes image (pages_in before.bytes) formed stands, stands.pages)

  -- what a crash leaves of a run of nothing
  leaves_unopened : (held : HeldPages) → held.base ≡ pages_in before.bytes → (result : Result Served Stop) → OpensOf d old new ⊎ (First × LeavesOf d CouldBeLeft old new)
      → RestsByRun d before said held [] [] [] old new result ⊎ StopsUnrested d before said script script old new
  leaves_unopened held base result (inl opens) =
      let Left : List ℕ → List ℕ → Type 0 = LeftByAnyRun before.bytes held [] [] [] said in
      let rests = rests_refused d before said Left old new First First
      (λ image heard stand same. let stands = stand.1 formed in record {
        stays = formed_standing before.bytes image (pages_in before.bytes) formed stands;
        left = left_first held [] [] [] said (pages_in before.bytes) (Some (pages_in image)) heard tt base (ap Some stands.pages) same;
      }) (λ first. first) is told (inl opens) in
      elim rests [
        | inl rest ↦ inl (record { rest = rest; kept = λ other at is_at image could. let kept = kept_unopened opens at is_at image could in (kept.0, kept.1 ∙ sym base) })
        | inr stopped ↦ inr (stopped.1, refl)
      ]
  leaves_unopened held base result (inr leaves) = inr (leaves.1.crash before said is told, refl)

  -- a run of nothing on a file that is served, but wasn't opened
  pub any_refused_on_file : (stop ≡ why.Device) ⊎ (stop ≡ why.Memory) → Refuses fault before.bytes → StopsOpening fault stop
      → OpensOf d old new ⊎ (First × LeavesOf d CouldBeLeft old new) → RunsOnAnyFile d before said script script old new (Err stop)
  unfolding nothing_on
  any_refused_on_file is_one refuses stops leaves =
      let tape : (d.beside new).tape ≡ Some said = ap (λ b. b.tape) (kept_beside d old new First leaves) ∙ told in
      let run = nothing_on true (pages_in before.bytes) script (Some said) (d.beside new).tape stop (early_of_script stop is_one) (λ e. elim is_one [ inl f ↦ cc | inr f ↦ cc ]) (λ e. elim is_one [ inl f ↦ cc | inr f ↦ cc ]) tape in
      record {
        serves = record {
          pages = pages_in before.bytes;
          theirs = λ at is_at. (let same : before ≡ at = cc in ap (λ (f : File). pages_in f.bytes) same);
          run = run;
          damage = λ damage ends at is_at. inl (let same : before ≡ at = cc in subst (λ (f : File). IsDamagedFile damage f.bytes) same (damage_of_opening before.bytes fault stop damage refuses stops (cc)));
        };
        leaves = leaves_unopened run.held run.first.base (Err stop) leaves;
      }
