-- What statements do to an engine whatever the pages are.
use Rattle.std.proofs.Common.{◌≡◌, ◌⊎◌, Bool, true, false, Some, None, Result, Ok, Err, IsErrAnd, IfSome, refl, sym, ap, subst, inl, inr, ◌∙◌}
use Rattle.std.specs.Prelude.{IsTrue, if◌then◌else◌}
use Rattle.mdc_words.specs.Time.{OverTime}
use Rattle.mdc_words.proofs.TimeLemmas.{over_time_then, over_time_wider}
use Rattle.mdc_ast.specs.declared.refusal.Refusal.{Refusal}
use Rattle.mdc_ast.specs.declared.reply.Outcome.{Outcome}
use Rattle.mdc_ast.specs.declared.reply.Outcome.TheVariants as said
use Rattle.mdc_ast.specs.declared.reply.Reply.{Reply}
use Rattle.mdc_ast.specs.declared.reply.Reply.TheVariants as reply
use Rattle.mdc_ast.specs.declared.statement.Stmt.{Stmt}
use Rattle.mdc_ast.specs.declared.statement.Stmt.TheVariants as statement
use Rattle.statement_meaning.specs.Built.{are_built}
use Rattle.statement_meaning.specs.Cause.{NotBuilt, refusal_of}
use Rattle.statement_meaning.specs.Session.{is_refusal}
use Rattle.store_api.specs.Works.{Steady}
use Rattle.store_api.specs.declared.fault.Damage.{Damage}
use Rattle.store_api.specs.declared.fault.StoreFault.{StoreFault}
use Rattle.store_api.specs.declared.fault.StoreFault.TheVariants.{Damaged}
use Rattle.store_api.specs.declared.pages.Pages.{Ghosts}
use Rattle.store_api.proofs.WorksLemmas.{steady_none}
use Rattle.table_trees.specs.ToldPages.{PageList}
use Rattle.mdc_sound.specs.Breaks.{IsFirstBreak}
use Rattle.stored_catalog.specs.StoredDefinitions.{AreStored}
use Rattle.script_engine.specs.Breaking.{IsExactDamage, NamesExactly}
use Rattle.script_engine.specs.Committing.{CommitsWork}
use Rattle.script_engine.specs.Controls.{AnswersControl, AnswersSetting}
use Rattle.script_engine.specs.Doing.{SaysNoRow}
use Rattle.script_engine.specs.Held.{HeldPages}
use Rattle.script_engine.specs.OnAnyPages.{ChangesPages, DoesOnAny, ExecutesOnAny, IsGoingEngine, LeftWithinOnAny, MayBeLeftOnAny, MayCommit, StaysAsHeld, StepsOnAny, StopsAtDamage, judged_pages}
use Rattle.script_engine.specs.Reloading.{Reloads}
use Rattle.script_engine.specs.Replies.{IsDoneAs, IsReplyOf}
use Rattle.script_engine.specs.Roles.{Begins, Commits, Explains, GoesBack, Lists, Queries, Role, Sets, is_built_form, is_control, is_going_back, is_tried, only_reads, role_of}
use Rattle.script_engine.specs.Serving.{held_by}
use Rattle.script_engine.specs.Trying.{Tries, TriesStep}
use Rattle.script_engine.specs.Turns.{Executes}
use Rattle.script_engine.specs.declared.engine.Engine.{Engine}
use Rattle.script_engine.specs.declared.tables.Tables.{Tables}
use Rattle.script_engine.proofs.TurnsLemmas.{KeepsSettings, held_left, tried_reading, same_held, same_settings}

-- ---- what is held

-- nothing changed but the definitions
pub as_held : (told : Bool) (old new : HeldPages) → new.base ≡ old.base → new.work ≡ old.work → new.open_ ≡ old.open_ → KeepsSettings old new
    → (new.defs ≡ old.defs) ⊎ (IsTrue told → AreStored old.work new.defs) → StaysAsHeld told old new
as_held told old new base work is_open set defs = record {
  same = same_held (record old { defs = new.defs }) new base work refl is_open (same_settings set.settings set.pass);
  defs = defs;
}

-- nothing changed
pub as_it_was : (told : Bool) (old new : HeldPages) → new ≡ old → StaysAsHeld told old new
as_it_was told old new is = subst (λ (held : HeldPages). StaysAsHeld told old held) (sym is) (record { same = refl; defs = inl refl })

-- ---- a statement that is tried on the pages

-- it leaves all where it reads alone, and else changes pages
pub does_other : (told : Bool) (old new : HeldPages) (role : Role) → is_tried role ≡ true → (only_reads role ≡ true → new ≡ old) → (only_reads role ≡ false → ChangesPages old new) → DoesOnAny told role old new
does_other told old new Begins tried reads changes = absurd (cc)
does_other told old new Commits tried reads changes = absurd (cc)
does_other told old new GoesBack tried reads changes = absurd (cc)
does_other told old new (Sets setting) tried reads changes = absurd (cc)
does_other told old new (Lists name) tried reads changes = reads refl
does_other told old new (Explains select) tried reads changes = reads refl
does_other told old new Queries tried reads changes = reads refl
does_other told old new role tried reads changes = changes refl

-- damage is that of the pages that are held
pub judged_other : (stmt : Stmt) (held : HeldPages) → is_tried (role_of stmt) ≡ true → judged_pages stmt held ≡ held.work
judged_other stmt held tried = ap (λ (b : Bool). if b then held.base else held.work) (none_back (role_of stmt) tried)
  where
    none_back : (role : Role) → is_tried role ≡ true → is_going_back role ≡ false
    none_back GoesBack tried = absurd (cc)
    none_back role tried = refl

-- one of a built form that doesn't read alone may commit any pages, outside a transaction
may_commit : (stmt : Stmt) (held : HeldPages) (pages : PageList) → is_tried (role_of stmt) ≡ true → only_reads (role_of stmt) ≡ false → is_built_form stmt ≡ true → held.open_ ≡ false → MayCommit stmt held pages
may_commit (statement.CreateTable name columns dims) held pages tried changing built shut = shut
may_commit (statement.CreateIndex name unique table parts) held pages tried changing built shut = shut
may_commit (statement.DropTable name) held pages tried changing built shut = shut
may_commit (statement.DropIndex name) held pages tried changing built shut = shut
may_commit (statement.Insert name listed tuples) held pages tried changing built shut = shut
may_commit (statement.Update name sets pred) held pages tried changing built shut = shut
may_commit (statement.Delete name pred) held pages tried changing built shut = shut
may_commit (statement.Reclaim name) held pages tried changing built shut = shut
may_commit stmt held pages tried changing built shut = absurd (cc)

pub not_refused : (outcome : Outcome) (refusal : Refusal) → is_refusal outcome ≡ false → outcome ≡ said.Refused refusal → ⊥
not_refused outcome refusal done is = let wrong : true ≡ false = sym (ap is_refusal is) ∙ done in cc

module _ {S : Type 0} (g : Ghosts S) where
  -- the pages that a statement made, which was done outside a transaction on those of the last commit, may be left
  pub made_on_any : (held : HeldPages) (start mid : S) (before tables : Tables) (stmt : Stmt) (outcome : Outcome) → is_tried (role_of stmt) ≡ true → only_reads (role_of stmt) ≡ false → is_refusal outcome ≡ false
      → held.open_ ≡ false → Tries g stmt (Ok outcome) start mid before tables → MayBeLeftOnAny held stmt (g.state mid).work
  made_on_any held start mid before tables stmt outcome other changing done shut tries = by_form (is_built_form stmt) refl
    where
      by_form : (built : Bool) → is_built_form stmt ≡ built → MayBeLeftOnAny held stmt (g.state mid).work
      by_form true form = inr (may_commit stmt held (g.state mid).work other changing form shut)
      by_form false form = absurd (not_refused outcome (refusal_of NotBuilt) done (tries.unbuilt form))

  -- ---- an answer, and a stop

  module _ (stmt : Stmt) where
    -- what is left to be shown of an answer, of which the rest is known
    pub steps_any : (old new : Engine S) (outcome : Outcome) → Executes g stmt (Ok outcome) old new → IsGoingEngine g old
        → ((reply : Reply) → outcome ≡ said.Done reply → DoesOnAny (g.state old.store).is_told (role_of stmt) (held_by g old) (held_by g new))
        → ((refusal : Refusal) → outcome ≡ said.Refused refusal → StaysAsHeld (g.state old.store).is_told (held_by g old) (held_by g new))
        → (is_built_form stmt ≡ false → outcome ≡ said.Refused (refusal_of NotBuilt)) → IsDoneAs (IsReplyOf stmt) outcome → (SaysNoRow outcome → StaysAsHeld (g.state old.store).is_told (held_by g old) (held_by g new))
        → StepsOnAny (g.state old.store).is_told (held_by g old) stmt outcome (held_by g new) × IsGoingEngine g new
    steps_any old new outcome does going done refused unbuilt kind idle = (
      record {
        done = done;
        refused = refused;
        controls = does.controls;
        settings = subst (λ (served : Bool). AnswersSetting (role_of stmt) served old.tables.settings outcome new.tables.settings) going.by_forms does.settings;
        unbuilt_form = unbuilt;
        unbuilt_tables = λ other form. does.unserved (going.by_forms ∙ form) other outcome refl;
        kind = kind;
        idle = idle;
      },
      record { may = does.may; by_forms = does.built going.by_forms; committed = (does.keeps going.committed).closed },
    )

    -- nothing is committed
    within_steady : (old new : Engine S) → Steady g old.store new.store → OverTime g.clock g.left (LeftWithinOnAny (held_by g old) stmt (g.state old.store)) old.store new.store
    within_steady old new steady = over_time_wider steady.time (λ left told only. (((g.state old.store).base, only.0, inl refl), only.1))

    pub any_answered : (old new : Engine S) (outcome : Outcome) → Steady g old.store new.store
        → StepsOnAny (g.state old.store).is_told (held_by g old) stmt outcome (held_by g new) × IsGoingEngine g new → ExecutesOnAny g stmt (Ok outcome) old new
    any_answered old new outcome steady steps = record {
      steps = steps;
      answered = over_time_wider steady.time (λ left told only. (inl only.0, only.1));
      stopped = tt;
      base = tt;
      kept = tt;
      going = tt;
      built = tt;
      damage = λ damage e. absurd (cc);
    }

    -- a stop that is passed on
    any_as : (result : Result Outcome StoreFault) (stop : StoreFault) (old new : Engine S) → IsErrAnd result (λ e. e ≡ stop) → ExecutesOnAny g stmt (Err stop) old new → ExecutesOnAny g stmt result old new
    any_as (Ok outcome) stop old new is any = absurd is
    any_as (Err e) stop old new is any = subst (λ (x : StoreFault). ExecutesOnAny g stmt (Err x) old new) (sym is) any

    pub any_halts : (result : Result Outcome StoreFault) (stop : StoreFault) (old new : Engine S) → IsErrAnd result (λ e. e ≡ stop) → Steady g old.store new.store → (g.state old.store).ended ≡ false
        → (is_control (role_of stmt) ≡ false → are_built old.tables.catalog ≡ true) → ((damage : Damage) → stop ≡ Damaged damage → StopsAtDamage g stmt old new damage) → ExecutesOnAny g stmt result old new
    any_halts result stop old new is steady going built damage = any_as result stop old new is (record {
      steps = tt;
      answered = tt;
      stopped = within_steady old new steady;
      base = inl steady.base;
      kept = λ other. steady.base;
      going = λ other. steady.ended ∙ going;
      built = built;
      damage = λ d e. damage d (cc);
    })

    -- a run of calls, and a commit behind it
    module _ (old new : Engine S) (mid : S) (steady : Steady g old.store mid) where
      pub any_commits : (outcome : Outcome) → CommitsWork {X = Unit {0}} g (Ok tt) mid new.store
          → StepsOnAny (g.state old.store).is_told (held_by g old) stmt outcome (held_by g new) × IsGoingEngine g new → ExecutesOnAny g stmt (Ok outcome) old new
      any_commits outcome commits steps = record {
        steps = steps;
        answered = over_time_then (over_time_wider steady.time (λ left told only. (inl only.0, only.1)))
            (over_time_wider commits.time (λ left told either. (
              elim either.0 [ inl base ↦ inl (base ∙ ap Some steady.base) | inr work ↦ inr (work ∙ ap Some (commits.work ∙ sym commits.base)) ],
              subst (λ o. IfSome o (λ bytes. told ≡ bytes)) steady.told either.1,
            )));
        stopped = tt;
        base = tt;
        kept = tt;
        going = tt;
        built = tt;
        damage = λ damage e. absurd (cc);
      }

      pub any_commit_stops : (result : Result Outcome StoreFault) (stop : StoreFault) → IsErrAnd result (λ e. e ≡ stop) → CommitsWork {X = Unit {0}} g (Err stop) mid new.store → (g.state old.store).ended ≡ false
          → MayBeLeftOnAny (held_by g old) stmt (g.state mid).work → (is_control (role_of stmt) ≡ false → are_built old.tables.catalog ≡ true)
          → ((damage : Damage) → stop ≡ Damaged damage → StopsAtDamage g stmt old new damage) → ExecutesOnAny g stmt result old new
      any_commit_stops result stop is commits going made built damage = any_as result stop old new is (record {
        steps = tt;
        answered = tt;
        stopped = over_time_then (over_time_wider steady.time (λ left told only. (((g.state old.store).base, only.0, inl refl), only.1)))
            (over_time_wider commits.time (λ left told either. (
              elim either.0 [
                | inl base ↦ ((g.state old.store).base, base ∙ ap Some steady.base, inl refl)
                | inr work ↦ ((g.state mid).work, work ∙ ap Some commits.work, made)
              ],
              subst (λ o. IfSome o (λ bytes. told ≡ bytes)) steady.told either.1,
            )));
        base = elim commits.either [
          | inl same ↦ inl (same ∙ steady.base)
          | inr work ↦ subst (MayBeLeftOnAny (held_by g old) stmt) (sym work) made
        ];
        kept = λ other. commits.kept (λ is. other (cc)) ∙ steady.base;
        going = λ other. commits.going (λ is. other (cc)) ∙ (steady.ended ∙ going);
        built = built;
        damage = λ d e. damage d (cc);
      })

    -- damage of the pages that were to be judged
    pub stopped_at : (old new : Engine S) (damage : Damage) → IsExactDamage g old.tables.shape new.store damage → Steady g old.store new.store → (g.state new.store).work ≡ judged_pages stmt (held_by g old)
        → (g.state new.store).marked ≡ None → (g.state old.store).ended ≡ false → new.is_open ≡ old.is_open → StopsAtDamage g stmt old new damage
    stopped_at old new damage exact steady work unmarked going is_open = record {
      first = λ told. subst (λ (pages : PageList). IsFirstBreak old.tables.shape pages damage.rule damage.page) work (exact (subst IsTrue (sym steady.is_told) told));
      work = work;
      base = steady.base;
      going = steady.ended ∙ going;
      unmarked = unmarked;
      is_open = is_open;
    }

  -- ---- a refusal that changes nothing

  pub any_refused : (stmt : Stmt) (old : Engine S) (refusal : Refusal) → IsGoingEngine g old → AnswersControl (role_of stmt) old.is_open (said.Refused refusal)
      → (is_built_form stmt ≡ false → said.Refused refusal ≡ said.Refused (refusal_of NotBuilt))
      → (is_control (role_of stmt) ≡ false → are_built old.tables.catalog ≡ false → said.Refused refusal ≡ said.Refused (refusal_of NotBuilt))
      → AnswersSetting (role_of stmt) (are_built old.tables.catalog) old.tables.settings (said.Refused refusal) old.tables.settings → ExecutesOnAny g stmt (Ok (said.Refused refusal)) old old
  any_refused stmt old refusal going controls form tables settings = any_answered stmt old old (said.Refused refusal) steady_none (
    record {
      done = λ reply e. absurd (cc);
      refused = λ other e. record { same = refl; defs = inl refl };
      controls = controls;
      settings = settings;
      unbuilt_form = form;
      unbuilt_tables = tables;
      kind = tt;
      idle = λ none. absurd none;
    },
    going,
  )

  -- ---- BEGIN, COMMIT and ROLLBACK

  -- the answer 12
  pub any_out_of_state : (stmt : Stmt) (old : Engine S) (refusal : Refusal) → is_built_form stmt ≡ true → (is_control (role_of stmt) ≡ false → ⊥) → IsGoingEngine g old
      → AnswersControl (role_of stmt) old.is_open (said.Refused refusal) → AnswersSetting (role_of stmt) (are_built old.tables.catalog) old.tables.settings (said.Refused refusal) old.tables.settings
      → ExecutesOnAny g stmt (Ok (said.Refused refusal)) old old
  any_out_of_state stmt old refusal built none going controls settings =
      any_refused stmt old refusal going controls (λ unbuilt. let wrong : true ≡ false = sym built ∙ unbuilt in absurd (cc)) (λ other. absurd (none other)) settings

  pub begun_any : (old : Engine S) → old.is_open ≡ false → IsGoingEngine g old → ExecutesOnAny g statement.Begin (Ok (said.Done reply.Done)) old (record old { is_open = true })
  begun_any old shut going = any_answered statement.Begin old (record old { is_open = true }) (said.Done reply.Done) steady_none (
    record {
      done = λ reply e. refl;
      refused = λ refusal e. absurd (cc);
      controls = rw shut refl;
      settings = refl;
      unbuilt_form = λ e. absurd (cc);
      unbuilt_tables = λ e. absurd (cc);
      kind = refl;
      idle = λ none. absurd none;
    },
    record {
      may = record { going = going.may.going; unmarked = going.may.unmarked; served = going.may.served };
      by_forms = going.by_forms;
      committed = λ e. absurd (cc);
    },
  )

  pub committed_any : (old : Engine S) (store : S) → CommitsWork {X = Unit {0}} g (Ok tt) old.store store
      → Executes g statement.Commit (Ok (said.Done reply.Done)) old (record old { store = store; is_open = false }) → IsGoingEngine g old
      → ExecutesOnAny g statement.Commit (Ok (said.Done reply.Done)) old (record old { store = store; is_open = false })
  committed_any old store commits does going =
      let new : Engine S = record old { store = store; is_open = false } in
      any_commits statement.Commit old new old.store steady_none (said.Done reply.Done) commits (steps_any statement.Commit old new (said.Done reply.Done) does going
      (λ reply e. same_held (record (held_by g old) { open_ = false; base = (g.state old.store).work }) (held_by g new) commits.base commits.work refl refl (same_settings refl refl))
      (λ refusal e. absurd (cc)) (λ e. absurd (cc)) refl (λ none. absurd none))

  pub commit_stops_any : (result : Result Outcome StoreFault) (stop : StoreFault) (old : Engine S) (store : S) → old.is_open ≡ true → IsErrAnd result (λ e. e ≡ stop)
      → CommitsWork {X = Unit {0}} g (Err stop) old.store store → NamesExactly {X = Unit {0}} g old.tables.shape (Err stop) store → IsGoingEngine g old
      → ExecutesOnAny g statement.Commit result old (record old { store = store })
  commit_stops_any result stop old store is_open is commits exact going =
      let new : Engine S = record old { store = store } in
      any_commit_stops statement.Commit old new old.store steady_none result stop is commits going.may.going (inr (is_open, refl)) (λ e. absurd (cc))
      (λ damage e.
      let halts = commits.halts damage (ap Err e) in
      stopped_at statement.Commit old new damage (exact damage (ap Err e)) halts.steady halts.work (halts.marked ∙ going.may.unmarked) going.may.going refl)

  pub rolled_back_any : (old : Engine S) (store : S) (tables : Tables) (served : Bool) → Reloads g (Ok served) old.store store old.tables tables
      → Executes g statement.Rollback (Ok (said.Done reply.Done)) old (record old { store = store; tables = tables; served = served; is_open = false }) → IsGoingEngine g old
      → ExecutesOnAny g statement.Rollback (Ok (said.Done reply.Done)) old (record old { store = store; tables = tables; served = served; is_open = false })
  rolled_back_any old store tables served reloads does going =
      let new : Engine S = record old { store = store; tables = tables; served = served; is_open = false } in
      any_answered statement.Rollback old new (said.Done reply.Done) reloads.steady (steps_any statement.Rollback old new (said.Done reply.Done) does going
      (λ reply e. record {
        same = same_held (record (held_by g old) { open_ = false; work = (g.state old.store).base; defs = tables.catalog }) (held_by g new) reloads.steady.base reloads.work refl refl (same_settings reloads.settings refl);
        stored = reloads.stored;
      })
      (λ refusal e. absurd (cc)) (λ e. absurd (cc)) refl (λ none. absurd none))

  pub roll_back_stops_any : (result : Result Outcome StoreFault) (stop : StoreFault) (old : Engine S) (store : S) (tables : Tables) → IsErrAnd result (λ e. e ≡ stop)
      → Reloads g (Err stop) old.store store old.tables tables → NamesExactly {X = Bool} g old.tables.shape (Err stop) store → IsGoingEngine g old
      → ExecutesOnAny g statement.Rollback result old (record old { store = store; tables = tables })
  roll_back_stops_any result stop old store tables is reloads exact going =
      let new : Engine S = record old { store = store; tables = tables } in
      any_halts statement.Rollback result stop old new is reloads.steady going.may.going (λ e. absurd (cc))
      (λ damage e. stopped_at statement.Rollback old new damage (exact damage (ap Err e)) reloads.steady reloads.work reloads.unmarked going.may.going refl)

  -- ---- any other statement

  module _ (old : Engine S) (stmt : Stmt) (going : IsGoingEngine g old) (served : old.served ≡ true) (other : is_tried (role_of stmt) ≡ true) where
    -- all tables are of built forms
    forms_built : is_control (role_of stmt) ≡ false → are_built old.tables.catalog ≡ true
    forms_built is = sym going.by_forms ∙ served

    -- the execution stopped
    pub untried_any : (result : Result Outcome StoreFault) (stop : StoreFault) (store : S) (tables : Tables) → IsErrAnd result (λ e. e ≡ stop)
        → Tries g stmt (Err stop) old.store store old.tables tables → NamesExactly {X = Outcome} g old.tables.shape (Err stop) store
        → ExecutesOnAny g stmt result old (record old { store = store; tables = tables })
    untried_any result stop store tables is tries exact =
        let new : Engine S = record old { store = store; tables = tables } in
        any_halts stmt result stop old new is tries.steady going.may.going forms_built
        (λ damage e.
        let back = tries.back damage (ap Err e) in
        stopped_at stmt old new damage (exact damage (ap Err e)) tries.steady (back.leaves.pages ∙ sym (judged_other stmt (held_by g old) other)) back.unmarked going.may.going refl)

    module _ (mid : S) (tables : Tables) (outcome : Outcome) (tries : Tries g stmt (Ok outcome) old.store mid old.tables tables) where
      -- it wasn't committed
      pub kept_any : Executes g stmt (Ok outcome) old (record old { store = mid; tables = tables }) → ExecutesOnAny g stmt (Ok outcome) old (record old { store = mid; tables = tables })
      kept_any does =
          let new : Engine S = record old { store = mid; tables = tables } in
          any_answered stmt old new outcome tries.steady (steps_any stmt old new outcome does going
          (λ reply e. does_other (g.state old.store).is_told (held_by g old) (held_by g new) (role_of stmt) other
          (λ reads. held_left g old mid tables tries.steady (tries.reads reads) tries.settings)
          (λ changing. record { is_open = refl; base = does.keeps going.committed; settings = tries.settings; pass = refl }))
          (λ refusal e. as_it_was (g.state old.store).is_told (held_by g old) (held_by g new) (held_left g old mid tables tries.steady (tries.refused refusal (ap Ok e)) tries.settings)) tries.unbuilt tries.kind
          (λ none.
          let left = tries.idle none in
          as_held (g.state old.store).is_told (held_by g old) (held_by g new) tries.steady.base left.pages refl (same_settings tries.settings refl) left.defs))

      module _ (changing : only_reads (role_of stmt) ≡ false) (shut : old.is_open ≡ false) (done : is_refusal outcome ≡ false) (store : S) where
        abbrev new : Engine S
        new = record old { store = store; tables = tables }

        -- its pages were committed
        pub changed_any : CommitsWork {X = Unit {0}} g (Ok tt) mid store → Executes g stmt (Ok outcome) old (record old { store = store; tables = tables })
            → ExecutesOnAny g stmt (Ok outcome) old (record old { store = store; tables = tables })
        changed_any commits does =
            any_commits stmt old new mid tries.steady outcome commits (steps_any stmt old new outcome does going
            (λ reply e. does_other (g.state old.store).is_told (held_by g old) (held_by g new) (role_of stmt) other
            (λ reads. let wrong : true ≡ false = sym reads ∙ changing in absurd (cc))
            (λ changes. record { is_open = refl; base = does.keeps going.committed; settings = tries.settings; pass = refl }))
            (λ refusal e. absurd (not_refused outcome refusal done e)) tries.unbuilt tries.kind
            (λ none.
            let left = tries.idle none in
            as_held (g.state old.store).is_told (held_by g old) (held_by g new) (commits.base ∙ (left.pages ∙ sym (going.committed shut))) (commits.work ∙ left.pages) refl (same_settings tries.settings refl) left.defs))

        -- the commit stopped, and not at damage
        pub change_stops_any : (result : Result Outcome StoreFault) (stop : StoreFault) → IsErrAnd result (λ e. e ≡ stop) → CommitsWork {X = Unit {0}} g (Err stop) mid store
            → ((damage : Damage) → stop ≡ Damaged damage → ⊥) → ExecutesOnAny g stmt result old (record old { store = store; tables = tables })
        change_stops_any result stop is commits whole =
            any_commit_stops stmt old new mid tries.steady result stop is commits going.may.going
            (made_on_any (held_by g old) old.store mid old.tables tables stmt outcome other changing done shut tries) forms_built (λ damage e. absurd (whole damage e))

  -- a statement that reads alone was tried
  pub read_any : (result : Result Outcome StoreFault) (old : Engine S) (store : S) (tables : Tables) (stmt : Stmt) → only_reads (role_of stmt) ≡ true → old.served ≡ true
      → TriesStep g stmt result old.store store old.tables tables → NamesExactly g old.tables.shape result store → Executes g stmt result old (record old { store = store; tables = tables })
      → IsGoingEngine g old → ExecutesOnAny g stmt result old (record old { store = store; tables = tables })
  read_any (Ok outcome) old store tables stmt reads served tried exact does going = kept_any old stmt going served (tried_reading (role_of stmt) reads) store tables outcome tried.tries does
  read_any (Err stop) old store tables stmt reads served tried exact does going = untried_any old stmt going served (tried_reading (role_of stmt) reads) (Err stop) stop store tables refl tried.tries exact
