-- What is left as the pages of the last commit of a run of calls on an engine's store.
use Rattle.std.proofs.Common.{◌≡◌, false, Some, Result, IfSome, refl, sym, ap, subst, inl, inr, ◌∙◌}
use Rattle.mdc_words.specs.Time.{OverTime, ReachesBack, RestsAt}
use Rattle.mdc_words.proofs.TimeLemmas.{over_time_then, over_time_wider, rests_at_over_time}
use Rattle.mdc_ast.specs.declared.statement.Stmt.{Stmt}
use Rattle.store_api.specs.Works.{Rests, Steady}
use Rattle.store_api.specs.declared.fault.StoreFault.{StoreFault}
use Rattle.store_api.specs.declared.pages.Pages.{Ghosts}
use Rattle.store_api.proofs.WorksLemmas.{only_base_at_rest, steady_none}
use Rattle.script_engine.specs.Committing.{CommitsWork}
use Rattle.script_engine.specs.Leaving.{LeftWithin, MayBeLeft}
use Rattle.script_engine.specs.Serving.{held_by}
use Rattle.script_engine.specs.Turns.{LeavesCommitted}
use Rattle.script_engine.specs.declared.engine.Engine.{Engine}

module _ {S : Type 0} (g : Ghosts S) where
  -- of a run without a commit
  pub leaves_steady : (stmt : Stmt) (old new : Engine S) → Steady g old.store new.store → LeavesCommitted g stmt old new
  leaves_steady stmt old new steady = record {
    time = over_time_wider steady.time (λ left told only. (((g.state old.store).base, only.0, MayBeLeft.before refl), only.1));
    base = MayBeLeft.before steady.base;
  }

  -- of no call at all
  pub leaves_still : (stmt : Stmt) (old new : Engine S) → new.store ≡ old.store → LeavesCommitted g stmt old new
  leaves_still stmt old new same = leaves_steady stmt old new (subst (Steady g old.store) (sym same) steady_none)

  -- of a commit behind such a run
  pub leaves_then : {X : Type 0} (result : Result X StoreFault) (stmt : Stmt) (old new : Engine S) (mid : S) → Steady g old.store mid → CommitsWork g result mid new.store
      → MayBeLeft old.tables.shape (held_by g old) stmt (g.state mid).work → LeavesCommitted g stmt old new
  leaves_then result stmt old new mid steady commits made = record {
    time = over_time_then (over_time_wider steady.time (λ left told only. (((g.state old.store).base, only.0, MayBeLeft.before refl), only.1)))
        (over_time_wider commits.time (λ left told either. (
          elim either.0 [
            | inl base ↦ ((g.state old.store).base, base ∙ ap Some steady.base, MayBeLeft.before refl)
            | inr work ↦ ((g.state mid).work, work ∙ ap Some commits.work, made)
          ],
          subst (λ o. IfSome o (λ bytes. told ≡ bytes)) steady.told either.1,
        )));
    base = elim commits.either [
      | inl same ↦ MayBeLeft.before (same ∙ steady.base)
      | inr work ↦ subst (MayBeLeft old.tables.shape (held_by g old) stmt) (sym work) made
    ];
  }

  -- what a crash within a statement may leave, one after it may leave too, and nothing else
  pub rests_within : (stmt : Stmt) (old new : Engine S) → ReachesBack g.clock g.left new.store → (g.state old.store).ended ≡ false → Rests g old.store
      → OverTime g.clock g.left (LeftWithin old.tables.shape (held_by g old) stmt (g.state old.store)) old.store new.store
      → RestsAt g.clock g.left (LeftWithin old.tables.shape (held_by g old) stmt (g.state old.store)) new.store
  rests_within stmt old new back going rests time = rests_at_over_time back time rests
      (λ left told rest.
      let only = only_base_at_rest (g.state old.store) left told going rest in
      (((g.state old.store).base, only.0, MayBeLeft.before refl), only.1))
      (λ left told within. within)
