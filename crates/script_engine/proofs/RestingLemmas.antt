-- An engine that takes no step behind an answer.
use Rattle.std.proofs.Common.{[], Ok, refl}
use Rattle.mdc_words.proofs.FaultsLemmas.{counts_fault_none}
use Rattle.mdc_words.proofs.TimeLemmas.{over_time_none}
use Rattle.store_api.specs.declared.pages.Pages.{Ghosts}
use Rattle.script_engine.specs.Held.{HeldPages}
use Rattle.script_engine.specs.Resting.{Settles, TakesStepsBy, nothing}
use Rattle.script_engine.specs.Serving.{MayCall, held_by}
use Rattle.script_engine.specs.declared.engine.Engine.{Engine}

-- no step was taken
takes_none : {S : Type 0} (g : Ghosts S) {Once : HeldPages → HeldPages → Type 0} {Ready : Engine S → Type 0} (engine : Engine S) → Ready engine → TakesStepsBy g Once Ready (Ok tt) engine engine
takes_none g engine ready = record {
  rests = [];
  steps = nothing;
  last = (refl, ready);
  base = (held_by g engine, refl, refl);
  kept = tt;
  work = λ damage is. absurd (cc);
  time = over_time_none;
}

-- it stays as it is
pub settles_still : {S : Type 0} (g : Ghosts S) (engine : Engine S) → MayCall g engine → Settles g (Ok tt) engine engine
settles_still g engine may = record {
  takes = λ ready. takes_none g engine ready;
  takes_any = λ going. takes_none g engine going;
  still = λ opened. refl;
  may = may;
  built = λ was. was;
  keeps = λ all. all;
  opens = refl;
  damaged = λ damage is. absurd (cc);
  exact = λ damage is. absurd (cc);
  going = λ other. may.going;
  committed = λ damage is. absurd (cc);
  shape = refl;
  device = counts_fault_none (λ is. absurd (cc));
  say_faults = refl;
  is_told = refl;
  told = refl;
  fetched = refl;
  beside = refl;
  time = over_time_none;
  at_rest = λ back going rests. rests;
}
