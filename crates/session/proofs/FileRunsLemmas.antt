-- Runs on a file: from the store that was opened on it, and where none was opened.
use Rattle.std.proofs.Common.{◌≡◌, ◌⊎◌, ◌≤◌, ◌++◌, ℕ, List, [], Option, Some, None, Result, Err, false, refl, sym, ◌∙◌, ap, subst, inl, inr, append-nil}
use Rattle.mdc_words.specs.Time.{ReachesBack}
use Rattle.mdc_ast.specs.declared.reply.Outcome.{Outcome}
use Rattle.mdc_ast.specs.Reading.{Item}
use Rattle.statement_meaning.specs.Session.{first_settings}
use Rattle.statement_meaning.specs.declared.pass.Pass.TheVariants.{Idle}
use Rattle.mdc_outside.specs.Disk.{File}
use Rattle.mdc_outside.specs.declared.disk.Disk as disk
use Rattle.store_api.specs.declared.fault.Damage.{Damage}
use Rattle.store_api.specs.declared.pages.Pages as pages
use Rattle.store_api.specs.declared.shape.Shape.{Shape}
use Rattle.table_trees.specs.ToldPages.{PageList}
use Rattle.page_file.specs.Bound.{LeavesOf}
use Rattle.page_store.specs.Bound.{OpensOf}
use Rattle.page_store.specs.Opened.{CouldBeLeft, LeavesBaseSince, StandsSince}
use Rattle.page_store.specs.Standing.{IsFormed, pages_in}
use Rattle.script_engine.specs.Held.{HeldPages}
use Rattle.file_verdict.specs.Resting.{LeavesSince}
use Rattle.file_verdict.specs.SoundFile.{StatesExtents}
use Rattle.file_verdict.proofs.RestingLemmas.{IsLeftByStore, TellsNow, each_since, kept_beside, leaves_since, rests_on_file, rests_refused}
use Rattle.file_verdict.proofs.SoundFilesLemmas.{states_standing}
use Rattle.session.specs.script.Fetching.{FetchesInRun}
use Rattle.session.proofs.FetchedRunsLemmas.{fetches_nothing}
use Rattle.session.specs.script.Going.{Goes, Stage}
use Rattle.session.specs.script.Leaving.{AreServedPages, LeftByServing}
use Rattle.session.specs.Stops.{IsOfScript}
use Rattle.session.specs.declared.script.served.Served.{Served}
use Rattle.session.specs.declared.stop.Stop.{Stop}
use Rattle.session.specs.declared.stop.Stop.TheVariants as why
use Rattle.session.specs.file.Leaving.{LeftByRun}
use Rattle.session.specs.file.Running.{IsLeftSince, ServesStore}
use Rattle.session.specs.file.Serving.{RunsItems, RunsOnFile}
use Rattle.session.specs.file.Well.{AreWell, IsWell}
use Rattle.session.proofs.FirstEndsLemmas.{ends_first}
use Rattle.session.proofs.FirstLeftLemmas.{left_first}
use Rattle.session.proofs.HostRunsLemmas.{ListLaws, items_on_lists}
use Rattle.session.proofs.WellFilesLemmas.{well_left}

-- a fact that follows from each of three others
split_left : {Formed States First Second None_ Fact : Type 0} → (Formed × States × (First ⊎ Second)) ⊎ None_ → (Formed → States → First → Fact) → (Formed → States → Second → Fact) → (None_ → Fact) → Fact
split_left (inl (formed, states, inl was)) in_first in_second in_none = in_first formed states was
split_left (inl (formed, states, inr was)) in_first in_second in_none = in_second formed states was
split_left (inr none) in_first in_second in_none = in_none none

-- a fault of the disk and a want of memory name no damage
no_damage : (end_ : Stop) (result : Result Served Stop) → (end_ ≡ why.Device) ⊎ (end_ ≡ why.Memory) → result ≡ Err end_ → (damage : Damage) → result ≡ Err (why.Damaged damage) → ⊥
no_damage end_ result (inl e) was damage ends = cc
no_damage end_ result (inr e) was damage ends = cc

-- nor do they refuse a file
pub early_of_script : (stop : Stop) → (stop ≡ why.Device) ⊎ (stop ≡ why.Memory) → IsOfScript stop
early_of_script stop (inl is) = subst IsOfScript (sym is) tt
early_of_script stop (inr is) = subst IsOfScript (sym is) tt

module _ {D : Type 0} (d : disk.Ghosts D) where
  -- a run on pages that a file stands for
  record RunsFrom (pages : PageList) (before : File) (said : List ℕ) (script left : Option (List ℕ)) (old new : D) (result : Result Served Stop) (log now : Option (List ℕ)) : Type 0 where
    pub shape : Shape
    pub states_extents : StatesExtents before.bytes shape
    pub run : RunsItems shape pages said script left (d.beside new).tape result
    pub fetches : FetchesInRun shape run.held run.items run.in_hand run.stages log now
    pub leaves : LeavesSince d before said (LeftByRun shape run.held run.stages run.outcomes run.in_hand said) old new

  on_file : (before : File) (said : List ℕ) (script left : Option (List ℕ)) (old new : D) (result : Result Served Stop) (log now : Option (List ℕ))
      → RunsFrom (pages_in before.bytes) before said script left old new result log now → RunsOnFile d before said script left old new result log now
  on_file before said script left old new result log now runs = record { shape = runs.shape; states_extents = runs.states_extents; run = runs.run; fetches = runs.fetches; leaves = runs.leaves }

  -- ---- a store was opened

  -- an image that the run left, or the store left it, and for the pages of the file the run leaves it
  left_opened : {S : Type 0} (g : pages.Ghosts S) (store : S) (shape : Shape) (held : HeldPages) (run_stages : List Stage) (outcomes : List Outcome) (in_hand : List Item) (bytes said : List ℕ) (t : ℕ) (image heard : List ℕ)
      → AreServedPages shape (g.state store).base → held.base ≡ (g.state store).base → (g.state store).base ≡ pages_in bytes
      → IsLeftSince (λ pages heard. LeftByServing shape held run_stages outcomes in_hand said (Some pages) heard) shape (g.left store t) image heard
      → LeftByRun shape held run_stages outcomes in_hand said image heard ⊎ IsLeftByStore g store bytes said (LeftByRun shape held run_stages outcomes in_hand said) t image heard
  left_opened g store shape held run_stages outcomes in_hand bytes said t image heard served held_base base left =
      split_left left
      (λ formed states was. inr (record {
        pages = Some (pages_in image);
        left = was;
        kind = λ is same. record {
          formed = formed;
          states_extents = states;
          left = left_first held run_stages outcomes in_hand said (g.state store).base (Some (pages_in image)) heard served held_base (is ∙ ap Some (sym base)) same;
        };
      }))
      (λ formed states within. inl (record { formed = formed; states_extents = states; left = within }))
      (λ none. inr (record { pages = None; left = none; kind = λ is same. absurd (let never = is in cc) }))

  -- a run on the store that was opened on a file is one on the file
  pub run_on_file : {S : Type 0} (g : pages.Ghosts S) (store : S) (before : File) (said : List ℕ) (script left : Option (List ℕ)) (old opened new : D) (shape : Shape) (result : Result Served Stop) (log now : Option (List ℕ))
      → StatesExtents before.bytes shape → ServesStore g d shape said script left store new result now → (g.state store).fetched ≡ log → (g.state store).base ≡ pages_in before.bytes
      → TellsNow d old → d.file old ≡ Some before → (d.beside old).tape ≡ Some said → (origin : D) × StandsSince d.clock d.moment before said old origin opened → g.clock store ≡ d.clock opened → d.clock opened ≤ d.clock new
      → ((t : ℕ) (left : Option PageList) (heard : List ℕ) → g.left store t left heard → (image : List ℕ) × d.moment opened t image heard)
      → LeavesBaseSince (d.moment opened) (g.left store) before.bytes said → RunsOnFile d before said script left old new result log now
  run_on_file g store before said script left old opened new shape result log now states serves log_is base now_old is told crash same_clock later by_host rests =
      let Runs : PageList → Type 0 = λ pages. RunsFrom pages before said script left old new result log now in
      on_file before said script left old new result log now (subst Runs base (record {
        shape = shape;
        states_extents = states;
        run = serves.run;
        fetches = subst (λ (first : Option (List ℕ)). FetchesInRun shape serves.run.held serves.run.items serves.run.in_hand serves.run.stages first now) log_is serves.fetches;
        leaves = inl (rests_on_file d g store before said (LeftByRun shape serves.run.held serves.run.stages serves.run.outcomes serves.run.in_hand said) old opened new
            (λ t image heard early now.
            left_opened g store shape serves.run.held serves.run.stages serves.run.outcomes serves.run.in_hand before.bytes said t image heard serves.served serves.run.opened.base base (serves.since t early image heard now))
            crash same_clock later by_host rests);
      }))

  -- ---- none was opened

  -- a crash within an opening that was refused leaves the pages of the file
  leaves_refused : (before : File) (said : List ℕ) (shape : Shape) (held : HeldPages) (run_stages : List Stage) (outcomes : List Outcome) (in_hand : List Item) (old new : D) (First : Type 0) → IsFormed before.bytes
      → StatesExtents before.bytes shape → AreServedPages shape (pages_in before.bytes) → held.base ≡ pages_in before.bytes → TellsNow d old → d.file old ≡ Some before → (d.beside old).tape ≡ Some said
      → OpensOf d old new ⊎ (First × LeavesOf d CouldBeLeft old new) → LeavesSince d before said (LeftByRun shape held run_stages outcomes in_hand said) old new
  leaves_refused before said shape held run_stages outcomes in_hand old new First formed states served base now_old is told leaves =
      let Left : List ℕ → List ℕ → Type 0 = LeftByRun shape held run_stages outcomes in_hand said in
      leaves_since d before said Left old new (rests_refused d before said Left old new First First
      (λ image heard stand same.
      let stands = stand.1 formed in
      record {
        formed = stands.formed;
        states_extents = states_standing before.bytes image (pages_in before.bytes) shape stands states;
        left = left_first held run_stages outcomes in_hand said (pages_in before.bytes) (Some (pages_in image)) heard served base (ap Some stands.pages) same;
      }) (λ first. first) is told leaves)

  -- a run that stopped before any item, on a well file
  pub refused_on_file : (laws : ListLaws) (before : File) (said : List ℕ) (script : Option (List ℕ)) (old new : D) (First : Type 0) (stop : Stop) (log now : Option (List ℕ)) → now ≡ log → (well : IsWell before.bytes)
      → (stop ≡ why.Device) ⊎ (stop ≡ why.Memory) → TellsNow d old → d.file old ≡ Some before → (d.beside old).tape ≡ Some said
      → OpensOf d old new ⊎ (First × LeavesOf d CouldBeLeft old new) → RunsOnFile d before said script script old new (Err stop) log now
  unfolding items_on_lists
  refused_on_file laws before said script old new First stop log now quiet well is_one now_old is told leaves =
      let held : HeldPages = record { base = pages_in before.bytes; work = pages_in before.bytes; defs = well.served.defs; open_ = false; settings = first_settings; pass = Idle } in
      let tape : (d.beside new).tape ≡ Some (said ++ []) = ap (λ b. b.tape) (kept_beside d old new First leaves) ∙ (told ∙ ap Some (sym (append-nil said))) in
      let run : RunsItems well.shape (pages_in before.bytes) said script script (d.beside new).tape (Err stop) =
      items_on_lists laws well.shape (pages_in before.bytes) said script script (d.beside new).tape (Err stop) held well.served (record { base = refl; work = refl; defs = well.served.stored; closed = refl; settings = refl; pass = refl })
      [] [] [] [] Goes.nothing [] tape (λ damage ends. no_damage stop (Err stop) is_one refl damage ends) (early_of_script stop is_one)
      (ends_first script stop (λ e. elim is_one [ inl f ↦ cc | inr f ↦ cc ]) (λ e. elim is_one [ inl f ↦ cc | inr f ↦ cc ])) in
      record {
        shape = well.shape;
        states_extents = well.states;
        run = run;
        fetches = fetches_nothing well.shape held quiet;
        leaves = leaves_refused before said well.shape run.held run.stages run.outcomes run.in_hand old new First well.formed well.states well.served run.opened.base now_old is told leaves;
      }

  -- ---- each image is of a kind

  -- after a run each image is well, where each was before
  pub stays_well : (before after : File) (said : List ℕ) (script left : Option (List ℕ)) (old new : D) (result : Result Served Stop) {log now : Option (List ℕ)} → TellsNow d old → TellsNow d new → ReachesBack d.clock d.moment new
      → d.file old ≡ Some before → (d.beside old).tape ≡ Some said → d.file new ≡ Some after → AreWell before → RunsOnFile d before said script left old new result log now → AreWell after
  stays_well before after said script left old new result now_old now_new back is told is_after well runs =
      each_since d IsWell before after said (said ++ runs.run.more) old new (LeftByRun runs.shape runs.run.held runs.run.stages runs.run.outcomes runs.run.in_hand said) now_old now_new back is told is_after runs.run.tape_is
      (λ image heard run. well_left runs.shape runs.run.held runs.run.stages runs.run.outcomes runs.run.in_hand said image heard run) well runs.leaves
