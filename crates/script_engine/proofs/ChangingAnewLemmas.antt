-- A statement that is tried once more, on the pages of the last commit, by what was read of them anew.
use Rattle.std.proofs.Common.{◌≡◌, ◌⊎◌, Bool, true, false, None, Result, Ok, Err, IsErrAnd, refl, sym, ap, subst, inl, inr, ◌∙◌}
use Rattle.std.specs.Prelude.{IsErrOf, IsTrue}
use Rattle.mdc_words.specs.Faults.{CountsFault}
use Rattle.mdc_words.specs.Time.{OverTime}
use Rattle.mdc_words.proofs.FaultsLemmas.{counts_fault_none, counts_fault_then}
use Rattle.mdc_ast.specs.declared.refusal.Refusal.{Refusal}
use Rattle.mdc_ast.specs.declared.reply.Outcome.{Outcome}
use Rattle.mdc_ast.specs.declared.reply.Outcome.TheVariants as said
use Rattle.mdc_ast.specs.declared.statement.Stmt.{Stmt}
use Rattle.mdc_ast.specs.Definitions.{Definitions}
use Rattle.statement_meaning.specs.Built.{are_built}
use Rattle.statement_meaning.specs.Cause.{NotBuilt, refusal_of}
use Rattle.statement_meaning.specs.Session.{is_refusal}
use Rattle.store_api.specs.Calls.{RollsBack}
use Rattle.store_api.specs.Fetching.{BringsOnly}
use Rattle.store_api.specs.Moments.{OnlyBase}
use Rattle.store_api.specs.Works.{Rests, Steady}
use Rattle.store_api.specs.declared.fault.Damage.{Damage}
use Rattle.store_api.specs.declared.fault.StoreFault.{StoreFault}
use Rattle.store_api.specs.declared.fault.StoreFault.TheVariants.{Damaged, Device}
use Rattle.store_api.specs.declared.pages.Pages.{Ghosts}
use Rattle.store_api.specs.declared.shape.Shape.{Shape}
use Rattle.store_api.proofs.FetchingLemmas.{only_same, only_then}
use Rattle.store_api.proofs.WorksLemmas.{steady_rollback, steady_then}
use Rattle.table_trees.specs.ToldPages.{PageList}
use Rattle.mdc_sound.specs.SoundDatabase.{IsSoundDatabase}
use Rattle.mdc_sound.specs.StandingTable.{pages_of}
use Rattle.statement_rows.specs.RowsOfStatement.{AnyPage}
use Rattle.stored_catalog.specs.StoredDefinitions.{AreStored}
use Rattle.script_engine.specs.Breaking.{NamesExactly}
use Rattle.script_engine.specs.Committing.{CommitsWork, CountsPages}
use Rattle.script_engine.specs.Doing.{SaysNoRow}
use Rattle.script_engine.specs.Held.{KeepsBase}
use Rattle.script_engine.specs.Leaving.{IsAllCommitted}
use Rattle.script_engine.specs.OnAnyPages.{ExecutesOnAny, IsGoingEngine}
use Rattle.script_engine.specs.Ready.{AreServed}
use Rattle.script_engine.specs.Reloading.{Reloads}
use Rattle.script_engine.specs.Replies.{IsDoneAs, IsReplyOf}
use Rattle.script_engine.specs.Roles.{is_built_form, is_tried, only_reads, role_of}
use Rattle.script_engine.specs.Serving.{MayCall, held_by}
use Rattle.script_engine.specs.Touching.{TouchesAsHeld}
use Rattle.script_engine.specs.Trying.{AnswersBySoundPages, Tries, TriesStep}
use Rattle.script_engine.specs.Turns.{ComesUnready, Executes, LeavesOutside}
use Rattle.script_engine.specs.declared.engine.Engine.{Engine}
use Rattle.script_engine.specs.declared.tables.Tables.{Tables}
use Rattle.script_engine.proofs.AnsweringAnewLemmas.{answered_ready}
use Rattle.script_engine.proofs.CatalogLemmas.{served_of}
use Rattle.script_engine.proofs.OnAnyLemmas.{any_answered, any_commit_stops, any_commits, any_halts, as_held, does_other, judged_other, made_on_any, not_refused, steps_any, stopped_at}
use Rattle.script_engine.proofs.TouchesForStatementLemmas.{held_along, held_still, held_then}
use Rattle.script_engine.proofs.TurnsLemmas.{BringsPages, KeepsSettings, answers_other, executes_stop, outside_steady, outside_then, outside_value, same_settings, sets_other, sound_root}
use Rattle.script_engine.proofs.TryingLemmas.{ready_tried}

-- what is said in a refusal
pub refusal_in : (outcome : Outcome) → is_refusal outcome ≡ true → (refusal : Refusal) × (outcome ≡ said.Refused refusal)
refusal_in (said.Done reply) is = absurd (cc)
refusal_in (said.Refused refusal) is = (refusal, refl)

module _ {S : Type 0} (g : Ghosts S) (stmt : Stmt) (first here : Engine S) (comes : ComesUnready g first here) (other : is_tried (role_of stmt) ≡ true)
    (changing : only_reads (role_of stmt) ≡ false) where
  -- ---- an end

  set_here : (new : Engine S) → new.tables.settings ≡ here.tables.settings → new.pass ≡ here.pass → KeepsSettings (held_by g first) (held_by g new)
  set_here new settings pass = same_settings (settings ∙ comes.settings) (pass ∙ comes.pass)

  -- a stop, behind which the pages of the last commit are held where it is damage
  module _ (stop : StoreFault) (new : Engine S) (steady : Steady g here.store new.store) (brings : BringsOnly g AnyPage here.store new.store) (is_open : new.is_open ≡ here.is_open) where
    steady_new : Steady g first.store new.store
    steady_new = steady_then comes.steady steady

    -- on ready pages it never comes so far
    brings_new : BringsPages g stmt first new
    brings_new = record { fetches = λ ready. absurd (comes.unready ready); lists = λ ready. absurd (comes.unready ready); any = only_then comes.brings brings }

    pub anew_stops : {X : Type 0} (result : Result Outcome StoreFault) → IsErrAnd result (λ e. e ≡ stop) → new.tables.shape ≡ here.tables.shape → new.tables.settings ≡ here.tables.settings
        → CountsFault (IsErrOf {T = X} (Err stop) Device) (g.disk_faults here.store) (g.disk_faults new.store)
        → NamesExactly {X = X} g here.tables.shape (Err stop) new.store → ((damage : Damage) → stop ≡ Damaged damage → (g.state new.store).marked ≡ None) → (g.state here.store).ended ≡ false
        → Executes g stmt result first new
    anew_stops {X} result is shape settings device exact unmarked going =
        executes_stop g {X = X} {Y = X} stmt result stop first new is (λ damage e ready. comes.unready ready)
        (subst (λ (of : Shape). NamesExactly {X = X} g of (Err stop) new.store) comes.shape exact)
        (λ damage e. record { base = steady_new.base; going = steady.ended ∙ going; unmarked = unmarked damage e; is_open = is_open ∙ comes.is_open })
        (λ ready. absurd (comes.unready ready)) brings_new (shape ∙ comes.shape) (settings ∙ comes.settings)
        (outside_steady g {X = X} (Err stop) first new steady_new (counts_fault_then comes.still device))

    pub anew_stops_any : {X : Type 0} (result : Result Outcome StoreFault) → IsErrAnd result (λ e. e ≡ stop)
        → ((damage : Damage) → stop ≡ Damaged damage → ((g.state new.store).work ≡ (g.state here.store).base) × ((g.state new.store).marked ≡ None))
        → NamesExactly {X = X} g here.tables.shape (Err stop) new.store → IsGoingEngine g first → ExecutesOnAny g stmt result first new
    anew_stops_any {X} result is back exact going =
        any_halts g stmt result stop first new is steady_new going.may.going (λ e. sym going.by_forms ∙ comes.served)
        (λ damage e.
        let at = back damage e in
        stopped_at g stmt first new damage (subst (λ (of : Shape). NamesExactly {X = X} g of (Err stop) new.store) comes.shape exact damage (ap Err e)) steady_new
        (at.0 ∙ (comes.steady.base ∙ (going.committed comes.shut ∙ sym (judged_other stmt (held_by g first) other)))) at.1 going.may.going (is_open ∙ comes.is_open))

  -- an answer
  pub anew_answers : (outcome : Outcome) (new : Engine S) → MayCall g new → new.served ≡ are_built new.tables.catalog → KeepsBase (held_by g first) (held_by g new) → new.is_open ≡ here.is_open
      → new.tables.shape ≡ here.tables.shape → new.tables.settings ≡ here.tables.settings → BringsOnly g AnyPage here.store new.store
      → (IsAllCommitted (held_by g first) → TouchesAsHeld g stmt first.store new.store first.tables) → LeavesOutside g (Ok outcome) first new → Executes g stmt (Ok outcome) first new
  anew_answers outcome new may served keeps is_open shape settings brings touches outside = record {
    steps = λ ready. absurd (comes.unready ready);
    may = may;
    keeps = λ all. keeps;
    controls = answers_other first.is_open (role_of stmt) outcome other;
    settings = sets_other (role_of stmt) first.served first.tables.settings outcome new.tables.settings other (settings ∙ comes.settings);
    built = λ was. served;
    leaves = λ ready. absurd (comes.unready ready);
    fetches = λ ready. absurd (comes.unready ready);
    once = λ ok ready. absurd (comes.unready ready);
    lists = λ ready. absurd (comes.unready ready);
    brings = only_then comes.brings brings;
    touches = touches;
    unserved = λ unserved is outcome e. let wrong : true ≡ false = sym comes.served ∙ unserved in absurd (cc);
    damaged = λ damage e ready. absurd (cc);
    exact = λ damage e. absurd (cc);
    stays = λ damage e. absurd (cc);
    shape = shape ∙ comes.shape;
    outside = outside;
  }

  -- ---- it was gone back to the pages of the last commit

  module _ (back : S) (tables : Tables) (served : Bool) (reloads : Reloads g (Ok served) here.store back here.tables tables) where
    steady_back : Steady g first.store back
    steady_back = steady_then comes.steady reloads.steady

    still_here : g.disk_faults back ≡ g.disk_faults here.store
    still_here = reloads.device.still (λ e. absurd (cc))

    still_back : g.disk_faults back ≡ g.disk_faults first.store
    still_back = still_here ∙ comes.still

    work_back : (g.state back).work ≡ (g.state first.store).base
    work_back = reloads.work ∙ comes.steady.base

    stored_back : IsTrue (g.state first.store).is_told → AreStored (g.state first.store).base tables.catalog
    stored_back told = subst (λ (pages : PageList). AreStored pages tables.catalog) comes.steady.base (reloads.stored (subst IsTrue (sym comes.steady.is_told) told))

    -- they are those of a form that isn't built, or the statement was refused: nothing changed but the definitions
    module _ (outcome : Outcome) (refusal : Refusal) (is : outcome ≡ said.Refused refusal) (store : S) (now : Tables) (flag : Bool) (run : Steady g back store)
        (device : CountsFault (IsErrOf (Ok outcome) Device) (g.disk_faults back) (g.disk_faults store)) (brings : BringsOnly g AnyPage back store) (work : (g.state store).work ≡ (g.state back).work)
        (unmarked : (g.state store).marked ≡ None) (shape : now.shape ≡ tables.shape) (set : now.settings ≡ tables.settings) (catalog : now.catalog ≡ tables.catalog) (flag_is : flag ≡ are_built now.catalog) where
      abbrev refused_engine : Engine S
      refused_engine = record here { store = store; tables = now; served = flag }

      steady_refused : Steady g first.store store
      steady_refused = steady_then steady_back run

      pub anew_refused : (g.state here.store).ended ≡ false → Executes g stmt (Ok outcome) first refused_engine
      anew_refused going =
          anew_answers outcome refused_engine
          (record {
            going = run.ended ∙ (reloads.steady.ended ∙ going);
            unmarked = unmarked;
            served = λ e.
                let built : are_built now.catalog ≡ true = sym flag_is ∙ e in
                subst AreServed (sym catalog) (served_of tables.catalog reloads.limits reloads.names (ap are_built (sym catalog) ∙ built));
          }) flag_is
          (record { closed = λ shut. steady_refused.base ∙ (sym work_back ∙ sym work); is_open = λ opened. steady_refused.base }) refl
          (shape ∙ reloads.shape) (set ∙ reloads.settings) (only_then reloads.brings brings)
          (λ all. held_still g stmt first.store store first.tables steady_refused.is_told (work ∙ (work_back ∙ all comes.shut)))
          (outside_steady g (Ok outcome) first refused_engine steady_refused (counts_fault_then still_back device))

      pub anew_refused_any : IsGoingEngine g first → (is_built_form stmt ≡ false → outcome ≡ said.Refused (refusal_of NotBuilt)) → ExecutesOnAny g stmt (Ok outcome) first refused_engine
      anew_refused_any going unbuilt =
          let told = (g.state first.store).is_told in
          let same : (g.state first.store).base ≡ (g.state first.store).work = going.committed comes.shut in
          any_answered g stmt first refused_engine outcome steady_refused (steps_any g stmt first refused_engine outcome (anew_refused (comes.steady.ended ∙ going.may.going)) going
          (λ reply e. absurd (cc))
          (λ other_refusal e. as_held told (held_by g first) (held_by g refused_engine) steady_refused.base (work ∙ (work_back ∙ same)) comes.is_open (set_here refused_engine (set ∙ reloads.settings) refl)
          (inr (λ is_told. subst (λ (pages : PageList). AreStored pages now.catalog) same (subst (λ (defs : _). AreStored (g.state first.store).base defs) (sym catalog) (stored_back is_told)))))
          unbuilt (subst (IsDoneAs (IsReplyOf stmt)) (sym is) tt) (λ none. absurd (subst SaysNoRow is none)))

    -- they were judged, and the statement was tried on them
    module _ (mid : S) (now : Tables) (flag : Bool) where
      -- they aren't sound, or the execution stopped
      module _ (result : Result Outcome StoreFault) (stop : StoreFault) (is : IsErrAnd result (λ e. e ≡ stop)) (tries : Tries g stmt (Err stop) back mid tables now)
          (exact : NamesExactly {X = Outcome} g tables.shape (Err stop) mid) where
        abbrev untried_engine : Engine S
        untried_engine = record here { store = mid; tables = now; served = flag }

        exact_here : NamesExactly {X = Outcome} g here.tables.shape (Err stop) mid
        exact_here = subst (λ (of : Shape). NamesExactly {X = Outcome} g of (Err stop) mid) reloads.shape exact

        pub anew_untried : (g.state here.store).ended ≡ false → Executes g stmt result first untried_engine
        anew_untried going =
            anew_stops stop untried_engine (steady_then reloads.steady tries.steady) (only_then reloads.brings tries.brings) refl {X = Outcome} result is (tries.shape ∙ reloads.shape) (tries.settings ∙ reloads.settings) (counts_fault_then still_here tries.device) exact_here
            (λ damage e. (tries.back damage (ap Err e)).unmarked) going

        pub anew_untried_any : IsGoingEngine g first → ExecutesOnAny g stmt result first untried_engine
        anew_untried_any going =
            anew_stops_any stop untried_engine (steady_then reloads.steady tries.steady) (only_then reloads.brings tries.brings) refl {X = Outcome} result is
            (λ damage e. let left = tries.back damage (ap Err e) in (left.leaves.pages ∙ reloads.work, left.unmarked)) exact_here going

      module _ (outcome : Outcome) (done : is_refusal outcome ≡ false) (tries : Tries g stmt (Ok outcome) back mid tables now) where
        steady_mid : Steady g first.store mid
        steady_mid = steady_then steady_back tries.steady

        still_mid : g.disk_faults mid ≡ g.disk_faults first.store
        still_mid = tries.device.still (λ e. absurd (cc)) ∙ still_back

        steady_tried : Steady g here.store mid
        steady_tried = steady_then reloads.steady tries.steady

        tried_so_far : BringsOnly g AnyPage here.store mid
        tried_so_far = only_then reloads.brings tries.brings

        still_tried : g.disk_faults mid ≡ g.disk_faults here.store
        still_tried = tries.device.still (λ e. absurd (cc)) ∙ still_here

        -- definitions that it left, or read anew, are those of the pages of the last commit
        stored_anew : (defs : Definitions) → (defs ≡ tables.catalog) ⊎ (IsTrue (g.state back).is_told → AreStored (pages_of g back) defs) → IsTrue (g.state first.store).is_told
            → AreStored (g.state first.store).base defs
        stored_anew defs (inl kept) told = subst (AreStored (g.state first.store).base) (sym kept) (stored_back told)
        stored_anew defs (inr anew) told = subst (λ (pages : PageList). AreStored pages defs) work_back (anew (subst IsTrue (sym steady_back.is_told) told))

        -- page 0 couldn't be looked at
        module _ (result : Result Outcome StoreFault) (stop : StoreFault) (is : IsErrAnd result (λ e. e ≡ stop)) (looked : S) (counts : CountsPages g (Err stop) mid looked) where
          abbrev unread_engine : Engine S
          unread_engine = record here { store = looked; tables = now; served = flag }

          whole_unread : NamesExactly {X = Bool} g here.tables.shape (Err stop) looked
          whole_unread damage e = absurd (counts.whole damage e)

          pub anew_unread : (g.state here.store).ended ≡ false → Executes g stmt result first unread_engine
          anew_unread going =
              anew_stops stop unread_engine (steady_then steady_tried counts.reads.steady) (only_then tried_so_far counts.reads.brings) refl {X = Bool} result is (tries.shape ∙ reloads.shape) (tries.settings ∙ reloads.settings) (counts_fault_then still_tried counts.device) whole_unread
              (λ damage e. absurd (counts.whole damage (ap Err e))) going

          pub anew_unread_any : IsGoingEngine g first → ExecutesOnAny g stmt result first unread_engine
          anew_unread_any going =
              anew_stops_any stop unread_engine (steady_then steady_tried counts.reads.steady) (only_then tried_so_far counts.reads.brings) refl {X = Bool} result is (λ damage e. absurd (counts.whole damage (ap Err e))) whole_unread going

        -- it doesn't state how many pages there are, and it was gone back once more: pages that are told are counted
        module _ (met : Damage) (sound : IsTrue (g.state back).is_told → IsSoundDatabase tables.shape (g.state back).work) (answers : AnswersBySoundPages g stmt (Ok outcome) back mid tables now)
            (looked again : S) (counts : CountsPages g (Ok false) mid looked) (rolls : RollsBack (g.state looked) (g.state again)) (count : g.disk_faults again ≡ g.disk_faults looked)
            (say : g.say_faults again ≡ g.say_faults looked) (time : OverTime g.clock g.left (OnlyBase (g.state looked)) looked again) where
          abbrev again_engine : Engine S
          again_engine = record here { store = again; tables = now; served = flag }

          steady_again : Steady g here.store again
          steady_again = steady_then (steady_then steady_tried counts.reads.steady) (steady_rollback rolls count say time)

          brought_again : BringsOnly g AnyPage here.store again
          brought_again = only_then (only_then tried_so_far counts.reads.brings) (only_same (ap (λ s. s.fetched) rolls))

          whole_again : NamesExactly {X = Bool} g here.tables.shape (Err (Damaged met)) again
          whole_again damage e told =
              let told_back : IsTrue (g.state back).is_told = subst IsTrue (sym reloads.steady.is_told) (subst IsTrue steady_again.is_told told) in
              let made = answered_ready g stmt back mid tables now outcome (answers told_back (sound told_back)) (λ refusal. not_refused outcome refusal done) in
              absurd (counts.miscounted refl (sound_root g mid made.0 made.1))

          still_again : CountsFault (IsErrOf {T = Bool} (Err (Damaged met)) Device) (g.disk_faults here.store) (g.disk_faults again)
          still_again = subst (λ n. CountsFault (IsErrOf {T = Bool} (Err (Damaged met)) Device) n (g.disk_faults again)) (count ∙ (counts.device.still (λ e. absurd (cc)) ∙ still_tried)) (counts_fault_none (λ e. absurd (cc)))

          pub anew_miscounted : (g.state here.store).ended ≡ false → Executes g stmt (Err (Damaged met)) first again_engine
          anew_miscounted going =
              anew_stops (Damaged met) again_engine steady_again brought_again refl {X = Bool} (Err (Damaged met)) refl (tries.shape ∙ reloads.shape) (tries.settings ∙ reloads.settings) still_again whole_again (λ damage e. ap (λ s. s.marked) rolls) going

          pub anew_miscounted_any : IsGoingEngine g first → ExecutesOnAny g stmt (Err (Damaged met)) first again_engine
          anew_miscounted_any going =
              anew_stops_any (Damaged met) again_engine steady_again brought_again refl {X = Bool} (Err (Damaged met)) refl
              (λ damage e. (ap (λ s. s.work) rolls ∙ (counts.reads.steady.base ∙ steady_tried.base), ap (λ s. s.marked) rolls)) whole_again going

        module _ (store : S) where
          abbrev anew_engine : Engine S
          anew_engine = record here { store = store; tables = now; served = flag }

          -- only pages changed that the statement changes, by definitions of the pages of the last commit
          touched : IsAllCommitted (held_by g first) → CommitsWork {X = Unit {0}} g (Ok tt) mid store → TouchesAsHeld g stmt first.store store first.tables
          touched all commits =
              let committed : (g.state first.store).base ≡ (g.state first.store).work = all comes.shut in
              held_then g stmt first.store mid store first.tables commits.is_told commits.work
              (held_along g stmt first.store back mid first.tables tables steady_back.is_told (work_back ∙ committed) (reloads.shape ∙ comes.shape) (reloads.settings ∙ comes.settings)
              (λ defs are. inr (λ told. subst (λ (pages : PageList). AreStored pages defs) committed (stored_anew defs are told))) tries.touches)

          -- its pages were committed
          pub anew_done : CommitsWork {X = Unit {0}} g (Ok tt) mid store → (Rests g mid → Rests g store) → flag ≡ true → (g.state here.store).ended ≡ false → Executes g stmt (Ok outcome) first anew_engine
          anew_done commits rests flag_is going =
              anew_answers outcome anew_engine (record { going = commits.going (λ e. absurd (cc)) ∙ (tries.steady.ended ∙ (reloads.steady.ended ∙ going)); unmarked = commits.unmarked; served = λ e. tries.served }) (flag_is ∙ sym tries.served.built)
              (record { closed = λ shut. commits.base ∙ sym commits.work; is_open = λ opened. let wrong : true ≡ false = sym opened ∙ (comes.is_open ∙ comes.shut) in absurd (cc) }) refl
              (tries.shape ∙ reloads.shape) (tries.settings ∙ reloads.settings) (only_then tried_so_far commits.log) (λ all. touched all commits) (outside_value g first anew_engine (outside_then g (Ok tt) first anew_engine mid steady_mid still_mid commits rests))

          pub anew_done_any : CommitsWork {X = Unit {0}} g (Ok tt) mid store → Executes g stmt (Ok outcome) first anew_engine → IsGoingEngine g first → ExecutesOnAny g stmt (Ok outcome) first anew_engine
          anew_done_any commits does going =
              any_commits g stmt first anew_engine mid steady_mid outcome commits (steps_any g stmt first anew_engine outcome does going
              (λ reply e. does_other (g.state first.store).is_told (held_by g first) (held_by g anew_engine) (role_of stmt) other
              (λ reads. let wrong : true ≡ false = sym reads ∙ changing in absurd (cc))
              (λ changes. record { is_open = comes.is_open; base = does.keeps going.committed; settings = tries.settings ∙ (reloads.settings ∙ comes.settings); pass = comes.pass }))
              (λ refusal e. absurd (not_refused outcome refusal done e)) tries.unbuilt tries.kind
              (λ none.
              let left = tries.idle none in
              let same : (g.state first.store).base ≡ (g.state first.store).work = going.committed comes.shut in
              as_held (g.state first.store).is_told (held_by g first) (held_by g anew_engine) (commits.base ∙ (left.pages ∙ work_back)) (commits.work ∙ (left.pages ∙ (work_back ∙ same))) comes.is_open
              (set_here anew_engine (tries.settings ∙ reloads.settings) refl) (inr (λ told. subst (λ (pages : PageList). AreStored pages now.catalog) same (stored_anew now.catalog left.defs told)))))

          -- the commit stopped, and not at damage
          pub anew_uncommitted : (result : Result Outcome StoreFault) (stop : StoreFault) → IsErrAnd result (λ e. e ≡ stop) → CommitsWork {X = Unit {0}} g (Err stop) mid store
              → (Rests g mid → Rests g store) → ((damage : Damage) → stop ≡ Damaged damage → ⊥) → Executes g stmt result first anew_engine
          anew_uncommitted result stop is commits rests whole =
              executes_stop g {X = Unit {0}} {Y = Unit {0}} stmt result stop first anew_engine is (λ damage e ready. comes.unready ready) (λ damage e. absurd (whole damage (cc))) (λ damage e. absurd (whole damage e)) (λ ready. absurd (comes.unready ready))
              (record { fetches = λ ready. absurd (comes.unready ready); lists = λ ready. absurd (comes.unready ready); any = only_then comes.brings (only_then tried_so_far commits.log) })
              (tries.shape ∙ (reloads.shape ∙ comes.shape)) (tries.settings ∙ (reloads.settings ∙ comes.settings)) (outside_then g (Err stop) first anew_engine mid steady_mid still_mid commits rests)

          pub anew_uncommitted_any : (result : Result Outcome StoreFault) (stop : StoreFault) → IsErrAnd result (λ e. e ≡ stop) → CommitsWork {X = Unit {0}} g (Err stop) mid store
              → ((damage : Damage) → stop ≡ Damaged damage → ⊥) → IsGoingEngine g first → ExecutesOnAny g stmt result first anew_engine
          anew_uncommitted_any result stop is commits whole going =
              any_commit_stops g stmt first anew_engine mid steady_mid result stop is commits going.may.going
              (made_on_any g (held_by g first) back mid tables now stmt outcome other changing done comes.shut tries) (λ e. sym going.by_forms ∙ comes.served) (λ damage e. absurd (whole damage e))

-- ---- a statement behind which page 0 doesn't state how many pages there are

pub comes_unready : {S : Type 0} (g : Ghosts S) (first : Engine S) (mid counted : S) (tables : Tables) (stmt : Stmt) (outcome : Outcome) → first.served ≡ true → first.is_open ≡ false
    → TriesStep g stmt (Ok outcome) first.store mid first.tables tables → CountsPages g (Ok false) mid counted → ComesUnready g first (record first { store = counted; tables = tables })
comes_unready g first mid counted tables stmt outcome served shut tried counts = record {
  unready = λ ready. counts.miscounted refl (sound_root g mid tables (ready_tried g first.store mid first.tables tables stmt outcome (tried.does ready.work)));
  served = served;
  shut = shut;
  steady = steady_then tried.tries.steady counts.reads.steady;
  still = counts.device.still (λ e. absurd (cc)) ∙ tried.tries.device.still (λ e. absurd (cc));
  is_open = refl;
  settings = tried.tries.settings;
  pass = refl;
  shape = tried.tries.shape;
  brings = only_then tried.tries.brings counts.reads.brings;
}
