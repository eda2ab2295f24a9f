use Rattle.std.proofs.Common.{◌≡◌, ℕ, IsErrOf, [], ◌∷◌, ◌++◌, Err, refl, ap, inl, inr, arith, ◌∙◌}
use Rattle.mdc_words.specs.Faults.{CountsFault}
use Rattle.mdc_words.proofs.FaultsLemmas.{counts_fault_as, counts_fault_then}
use Rattle.sql_reader.specs.Holding.{Holding}
use Rattle.sql_reader.specs.Item.{item_of}
use Rattle.mdc_words.proofs.TimeLemmas.{over_time_none, over_time_then}
use Rattle.session.specs.script.Engines.{IsAnyEngine, IsSoundEngine}
use Rattle.session.specs.Stops.{stop_of_reader}
use Rattle.session.specs.script.TheWays.{on_any, on_sound}
use Rattle.session.specs.declared.stop.Stop.TheVariants.{Damaged, Device, Memory, Unsaid}
use Rattle.session.proofs.AskedEndsLemmas.{takes_asked_done, takes_asked_reading, takes_asked_turning, takes_unasked}
use Rattle.session.proofs.AskingLemmas.{IsAsked, asked_next, given_first, given_next}
use Rattle.session.proofs.FetchedRunsLemmas.{fetches_more_then, fetches_same}
use Rattle.session.proofs.HandedLemmas.{handed}
use Rattle.session.proofs.ServingLemmas.{answered_first, answered_more, exit_done, exit_first, exit_reading, exit_turning}
use Rattle.session.proofs.StopsLemmas.{reader_names_no_damage, reader_of_script, turn_of_script}
use Rattle.session.proofs.ToldLemmas.{same-tells_more, tells_more_then}
use Rattle.session.proofs.WayLemmas.{any_way, sound_way}
use Rattle.session.proofs.script.serving.serve.Given.{Over}
use Rattle.session.proofs.script.serving.serve.Goals.{After-drop-statements-inside, After-drop-statements-inside-in_err-refused, After-from_residual, After-next}
use Rattle.session.proofs.script.serving.serve.Goals as goal

-- once the reader was asked for the next item
asked : (g : Over) (c : After-next g) → IsAsked (g.I.Source.left c.args.input.now) (g.I.Source.left c.next.new.source) c.next.new.self c.loop-reply.invariant.items c.next.result
asked g c =
    let asks = c.next.ensures in
    asked_next c.script_laws.ensures g.I.Source.left c.loop-reply.input c.next.new.source c.loop-reply.invariant.given asks.goes asks.finished asks.within

-- which stops are handed on: want of memory, the reader's, and that of a turn
none_read : (g : Over) (c : After-from_residual g) → c.from_residual.result ≡ Err Memory
none_read g c = handed c.from_residual.result _ c.from_residual.ensures.1

read_stopped : (g : Over) (c : After-drop-statements-inside g) → c.from_residual-in_err-read.result ≡ Err (stop_of_reader c.in_err-read.field-0.0)
read_stopped g c = handed c.from_residual-in_err-read.result _ c.from_residual-in_err-read.ensures.1

turn_stopped : (g : Over) (c : After-drop-statements-inside-in_err-refused g) → c.from_residual-in_err-refused.result ≡ Err c.in_err-refused.field-0.0
turn_stopped g c = handed c.from_residual-in_err-refused.result _ c.from_residual-in_err-refused.ensures.1

-- an error is this one, whatever would have been answered in its place
of_err : {X Y E : Type 0} (stop fault : E) → IsErrOf {T = X} (Err stop) fault → IsErrOf {T = Y} (Err stop) fault
of_err stop fault is = cc

-- an error counts alike, whatever would have been answered in its place
counts_err : {X Y E : Type 0} {before now : ℕ} (stop fault : E) → CountsFault (IsErrOf {T = X} (Err stop) fault) before now → CountsFault (IsErrOf {T = Y} (Err stop) fault) before now
counts_err stop fault counts = counts_fault_as (λ e. cc) (λ e. cc) counts

pub loop-reply-init : goal.loop-reply-init
loop-reply-init g c = record {
  items = [];
  given = given_first c.script_laws.ensures (g.I.Source.left c.args.input.now) c.in_ok-statements.statements c.in_ok-statements.ensures.at;
  answered = λ ready.
      let shape = c.args.engine.now.tables.shape in
      answered_first (on_sound shape) (sound_way shape) (IsSoundEngine g.S.Pages shape) g.S.Pages c.args.engine.now (record { ready = ready; is_shape = refl });
  any = λ going.
      let shape = c.args.engine.now.tables.shape in
      let told = (g.S.Pages.state c.args.engine.now.store).is_told in
      answered_first (on_any told shape) (any_way told shape) (IsAnyEngine g.S.Pages told shape) g.S.Pages c.args.engine.now (record { going = going; is_told = refl; is_shape = refl });
  may = c.requires.may;
  fits = omega (arith, ap (λ (reader : Holding). reader.count) c.in_ok-statements.ensures.held);
  reads = refl;
  unsaid = refl;
  device = refl;
  beside = refl;
  is_told = refl;
  tells = same-tells_more _ _ refl;
  log = fetches_same refl;
  at_rest = λ rests. rests;
  reopens = over_time_none;
  later = omega arith;
}

pub answer-requires-clause-written : goal.answer-requires-clause-written
answer-requires-clause-written g c = (rw (c.in_ok-read.was, c.in-Some.is) at (asked g (goal.at.answer-requires-clause-written g c).After-next)).written

pub loop-reply-preserved : goal.loop-reply-preserved
loop-reply-preserved g c =
    let was = c.loop-reply.invariant in
    let asks = c.in_ok-read.ensures in
    let turns = c.in_ok-refused.ensures.turns in
    let read = c.in-Some.read in
    record {
      items = was.items ++ item_of read ∷ [];
      given = given_next (rw (c.in_ok-read.was, c.in-Some.is) at (asked g (goal.at.loop-reply-preserved g c).After-next));
      answered = λ ready.
          let shape = c.args.engine.now.tables.shape in
          let answered = was.answered ready in
          answered_more (on_sound shape) (sound_way shape) (IsSoundEngine g.S.Pages shape) g.S.Pages (item_of read) answered (turns.sound shape answered.ready);
      any = λ going.
          let shape = c.args.engine.now.tables.shape in
          let told = (g.S.Pages.state c.args.engine.now.store).is_told in
          let answered = was.any going in
          answered_more (on_any told shape) (any_way told shape) (IsAnyEngine g.S.Pages told shape) g.S.Pages (item_of read) answered (turns.any told shape answered.ready);
      may = turns.may;
      fits = elim asks.within [ inl fits ↦ fits | inr e ↦ absurd (cc) ];
      reads = elim asks.no_fault [ inl e ↦ absurd (cc) | inr still ↦ still ∙ was.reads ];
      unsaid = turns.unsaid.still (λ e. cc) ∙ was.unsaid;
      device = turns.device.still (λ e. cc) ∙ was.device;
      beside = turns.beside ∙ was.beside;
      is_told = turns.is_told ∙ was.is_told;
      tells = tells_more_then _ _ _ was.tells turns.tells;
      log = fetches_more_then was.log turns.log;
      at_rest = λ rests. turns.at_rest (λ s. g.met.S.Pages.earlier s) (was.at_rest rests);
      reopens = over_time_then was.reopens turns.reopens;
      later = omega (arith, was.later, turns.later);
    }

-- ---- memory is wanted before the first read

pub returns-in_err-statements-clause-runs : goal.returns-in_err-statements-clause-runs
returns-in_err-statements-clause-runs g c ready =
    let shape = c.args.engine.now.tables.shape in
    rw (none_read g c) (exit_first (on_sound shape) (sound_way shape) (IsSoundEngine g.S.Pages shape) g.S.Pages c.script_laws.ensures (g.I.Source.left c.args.input.now) c.args.engine.now)

pub returns-in_err-statements-clause-any : goal.returns-in_err-statements-clause-any
returns-in_err-statements-clause-any g c going =
    let shape = c.args.engine.now.tables.shape in
    let told = (g.S.Pages.state c.args.engine.now.store).is_told in
    rw (none_read g c) (exit_first (on_any told shape) (any_way told shape) (IsAnyEngine g.S.Pages told shape) g.S.Pages c.script_laws.ensures (g.I.Source.left c.args.input.now) c.args.engine.now)

pub returns-in_err-statements-clause-rests : goal.returns-in_err-statements-clause-rests
returns-in_err-statements-clause-rests g c = λ rests. rests

pub returns-in_err-statements-clause-takes : goal.returns-in_err-statements-clause-takes
returns-in_err-statements-clause-takes g c = rw (none_read g c) (takes_unasked (g.I.Source.left c.args.input.now))

pub returns-in_err-statements-clause-stop : goal.returns-in_err-statements-clause-stop
returns-in_err-statements-clause-stop g c = rw (none_read g c) tt

-- ---- the reader stops

pub returns-in_err-read-clause-runs : goal.returns-in_err-read-clause-runs
returns-in_err-read-clause-runs g c ready =
    let shape = c.args.engine.now.tables.shape in
    rw (read_stopped g c) (exit_reading (on_sound shape) (sound_way shape) (IsSoundEngine g.S.Pages shape) g.S.Pages c.script_laws.ensures
    (rw c.in_err-read.was at (asked g (goal.at.returns-in_err-read-clause-runs g c).After-next)) (c.loop-reply.invariant.answered ready))

pub returns-in_err-read-clause-any : goal.returns-in_err-read-clause-any
returns-in_err-read-clause-any g c going =
    let shape = c.args.engine.now.tables.shape in
    let told = (g.S.Pages.state c.args.engine.now.store).is_told in
    rw (read_stopped g c) (exit_reading (on_any told shape) (any_way told shape) (IsAnyEngine g.S.Pages told shape) g.S.Pages c.script_laws.ensures
    (rw c.in_err-read.was at (asked g (goal.at.returns-in_err-read-clause-any g c).After-next)) (c.loop-reply.invariant.any going))

pub returns-in_err-read-clause-going : goal.returns-in_err-read-clause-going
returns-in_err-read-clause-going g c = λ is other. c.loop-reply.invariant.may.going

pub returns-in_err-read-clause-rests : goal.returns-in_err-read-clause-rests
returns-in_err-read-clause-rests g c = c.loop-reply.invariant.at_rest

pub returns-in_err-read-clause-takes : goal.returns-in_err-read-clause-takes
returns-in_err-read-clause-takes g c =
    rw (read_stopped g c) (takes_asked_reading (rw c.in_err-read.was at (asked g (goal.at.returns-in_err-read-clause-takes g c).After-next)))

pub returns-in_err-read-clause-reopens : goal.returns-in_err-read-clause-reopens
returns-in_err-read-clause-reopens g c = c.loop-reply.invariant.reopens

pub returns-in_err-read-clause-damaged : goal.returns-in_err-read-clause-damaged
returns-in_err-read-clause-damaged g c damage e ready =
    reader_names_no_damage c.in_err-read.field-0.0 damage (cc (read_stopped g c))

pub returns-in_err-read-clause-stop : goal.returns-in_err-read-clause-stop
returns-in_err-read-clause-stop g c = rw (read_stopped g c) (reader_of_script c.in_err-read.field-0.0)

-- ---- the turn of an item stops

pub returns-in_err-refused-clause-runs : goal.returns-in_err-refused-clause-runs
returns-in_err-refused-clause-runs g c ready =
    let turns = c.in_err-refused.ensures.turns in
    let shape = c.args.engine.now.tables.shape in
    let answered = c.loop-reply.invariant.answered ready in
    rw (turn_stopped g c) (exit_turning (on_sound shape) (sound_way shape) (IsSoundEngine g.S.Pages shape) g.S.Pages c.script_laws.ensures c.in_err-refused.field-0.0
    (rw (c.in_ok-read.was, c.in-Some.is) at (asked g (goal.at.returns-in_err-refused-clause-runs g c).After-next)) answered turns.stop (turns.sound shape answered.ready))

pub returns-in_err-refused-clause-any : goal.returns-in_err-refused-clause-any
returns-in_err-refused-clause-any g c going =
    let turns = c.in_err-refused.ensures.turns in
    let shape = c.args.engine.now.tables.shape in
    let told = (g.S.Pages.state c.args.engine.now.store).is_told in
    let answered = c.loop-reply.invariant.any going in
    rw (turn_stopped g c) (exit_turning (on_any told shape) (any_way told shape) (IsAnyEngine g.S.Pages told shape) g.S.Pages c.script_laws.ensures c.in_err-refused.field-0.0
    (rw (c.in_ok-read.was, c.in-Some.is) at (asked g (goal.at.returns-in_err-refused-clause-any g c).After-next)) answered turns.stop (turns.any told shape answered.ready))

pub returns-in_err-refused-clause-going : goal.returns-in_err-refused-clause-going
returns-in_err-refused-clause-going g c = λ is other.
    c.in_err-refused.ensures.turns.going (c.loop-reply.invariant.any is).ready.going (λ e. other (rw (turn_stopped g c) (of_err c.in_err-refused.field-0.0 Device e)))

pub returns-in_err-refused-clause-rests : goal.returns-in_err-refused-clause-rests
returns-in_err-refused-clause-rests g c = λ rests. c.in_err-refused.ensures.turns.at_rest (λ s. g.met.S.Pages.earlier s) (c.loop-reply.invariant.at_rest rests)

pub returns-in_err-refused-clause-takes : goal.returns-in_err-refused-clause-takes
returns-in_err-refused-clause-takes g c =
    rw (turn_stopped g c) (takes_asked_turning c.in_err-refused.field-0.0 (rw (c.in_ok-read.was, c.in-Some.is) at (asked g (goal.at.returns-in_err-refused-clause-takes g c).After-next)) c.in_err-refused.ensures.turns.stop)

pub returns-in_err-refused-clause-unsaid : goal.returns-in_err-refused-clause-unsaid
returns-in_err-refused-clause-unsaid g c =
    rw (turn_stopped g c) (counts_fault_then {now = g.S.Pages.say_faults c.answer.new.engine.store} c.loop-reply.invariant.unsaid (counts_err c.in_err-refused.field-0.0 Unsaid c.in_err-refused.ensures.turns.unsaid))

pub returns-in_err-refused-clause-device : goal.returns-in_err-refused-clause-device
returns-in_err-refused-clause-device g c =
    rw (turn_stopped g c) (counts_fault_then {now = g.S.Pages.disk_faults c.answer.new.engine.store} c.loop-reply.invariant.device (counts_err c.in_err-refused.field-0.0 Device c.in_err-refused.ensures.turns.device))

pub returns-in_err-refused-clause-tells : goal.returns-in_err-refused-clause-tells
returns-in_err-refused-clause-tells g c = tells_more_then _ _ _ c.loop-reply.invariant.tells c.in_err-refused.ensures.turns.tells

pub returns-in_err-refused-clause-log : goal.returns-in_err-refused-clause-log
returns-in_err-refused-clause-log g c = fetches_more_then c.loop-reply.invariant.log c.in_err-refused.ensures.turns.log

pub returns-in_err-refused-clause-reopens : goal.returns-in_err-refused-clause-reopens
returns-in_err-refused-clause-reopens g c = over_time_then c.loop-reply.invariant.reopens c.in_err-refused.ensures.turns.reopens

pub returns-in_err-refused-clause-damaged : goal.returns-in_err-refused-clause-damaged
returns-in_err-refused-clause-damaged g c damage e ready =
    let named : c.in_err-refused.field-0.0 ≡ Damaged damage = cc (turn_stopped g c) in
    c.in_err-refused.ensures.turns.damaged damage (ap Err named) (c.loop-reply.invariant.answered ready).ready.ready

pub returns-in_err-refused-clause-stop : goal.returns-in_err-refused-clause-stop
returns-in_err-refused-clause-stop g c = rw (turn_stopped g c) (turn_of_script c.in_err-refused.field-0.0 c.in_err-refused.ensures.turns.stop)

-- ---- the script ends

pub returns-clause-runs : goal.returns-clause-runs
returns-clause-runs g c ready =
    let shape = c.args.engine.now.tables.shape in
    rw c.by_refusal.ensures (exit_done (on_sound shape) (sound_way shape) (IsSoundEngine g.S.Pages shape) g.S.Pages c.loop-reply.refused
    (rw (c.in_ok-read.was, c.in_default.is) at (asked g (goal.at.returns-clause-runs g c).After-next)) (c.loop-reply.invariant.answered ready))

pub returns-clause-any : goal.returns-clause-any
returns-clause-any g c going =
    let shape = c.args.engine.now.tables.shape in
    let told = (g.S.Pages.state c.args.engine.now.store).is_told in
    rw c.by_refusal.ensures (exit_done (on_any told shape) (any_way told shape) (IsAnyEngine g.S.Pages told shape) g.S.Pages c.loop-reply.refused
    (rw (c.in_ok-read.was, c.in_default.is) at (asked g (goal.at.returns-clause-any g c).After-next)) (c.loop-reply.invariant.any going))

pub returns-clause-going : goal.returns-clause-going
returns-clause-going g c = λ is other. c.loop-reply.invariant.may.going

pub returns-clause-rests : goal.returns-clause-rests
returns-clause-rests g c = c.loop-reply.invariant.at_rest

pub returns-clause-takes : goal.returns-clause-takes
returns-clause-takes g c = rw c.by_refusal.ensures (takes_asked_done c.loop-reply.refused (rw (c.in_ok-read.was, c.in_default.is) at (asked g (goal.at.returns-clause-takes g c).After-next)))

pub returns-clause-reopens : goal.returns-clause-reopens
returns-clause-reopens g c = c.loop-reply.invariant.reopens
