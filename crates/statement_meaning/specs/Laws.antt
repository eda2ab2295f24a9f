-- Laws of the step, and of a session's turn.
use Rattle.std.specs.Prelude.{◌≡◌, List, [], ◌∷◌, Bool, true, false, if◌then◌else◌, refl}
use Rattle.mdc_ast.specs.declared.refusal.Refusal.{Refusal}
use Rattle.mdc_ast.specs.declared.reply.Reply.{Reply}
use Rattle.mdc_ast.specs.declared.reply.Reply.TheVariants as reply
use Rattle.mdc_ast.specs.declared.statement.RolloutMode.{RolloutMode}
use Rattle.mdc_ast.specs.declared.statement.RolloutMode.TheVariants as rollout
use Rattle.mdc_ast.specs.declared.statement.Stmt.{Stmt}
use Rattle.mdc_ast.specs.declared.statement.Stmt.TheVariants as stmt
use Rattle.statement_meaning.specs.Binding.{bound_of}
use Rattle.statement_meaning.specs.Built.{are_built}
use Rattle.statement_meaning.specs.Cause.{Cause, NotBuilt, refusal_of}
use Rattle.mdc_ast.specs.Database.{Database, defs_of}
use Rattle.statement_meaning.specs.Doing.{effect}
use Rattle.statement_meaning.specs.Session.{Session, begun, committed, rolled_back, set_rollout, set_to, stepped, turn}
use Rattle.statement_meaning.specs.Step.{Answer, Refused, Replied, ToldByPages, faults, step, step_by}
use Rattle.statement_meaning.specs.declared.settings.Settings.{Settings}

kept_by : (db : Database) (causes : List Cause) (done : Database × Reply) (refusal : Refusal) → (step_by db causes done).1 ≡ Refused refusal → (step_by db causes done).0 ≡ db
kept_by db [] done refusal e = cc
kept_by db (first ∷ causes) done refusal e = refl

-- a statement that is refused leaves the database
pub refused_stays : (db : Database) (stmt : Stmt) (refusal : Refusal) → (step db stmt).1 ≡ Refused refusal → (step db stmt).0 ≡ db
refused_stays db stmt refusal e = kept_by db (faults db stmt) (effect db (bound_of (defs_of db) stmt)) refusal e

done_by : (db : Database) (causes : List Cause) (done : Database × Reply) → causes ≡ [] → step_by db causes done ≡ (done.0, Replied done.1)
done_by db [] done e = refl
done_by db (first ∷ causes) done e = cc

-- a statement with nothing against it is done
pub faultless_is_done : (db : Database) (stmt : Stmt) → faults db stmt ≡ [] → step db stmt ≡ ((effect db (bound_of (defs_of db) stmt)).0, Replied (effect db (bound_of (defs_of db) stmt)).1)
faultless_is_done db stmt e = done_by db (faults db stmt) (effect db (bound_of (defs_of db) stmt)) e

-- ---- a refusal leaves a session

begun_refused : (session : Session) (is_open : Bool) (refusal : Refusal) → (begun session is_open).1 ≡ Refused refusal → (begun session is_open).0 ≡ session
begun_refused session true refusal e = refl
begun_refused session false refusal e = cc

committed_refused : (session : Session) (is_open : Bool) (refusal : Refusal) → (committed session is_open).1 ≡ Refused refusal → (committed session is_open).0 ≡ session
committed_refused session true refusal e = cc
committed_refused session false refusal e = refl

rolled_back_refused : (session : Session) (is_open : Bool) (refusal : Refusal) → (rolled_back session is_open).1 ≡ Refused refusal → (rolled_back session is_open).0 ≡ session
rolled_back_refused session true refusal e = cc
rolled_back_refused session false refusal e = refl

stepped_refused : (session : Session) (end_ : Database × Answer) (refusal : Refusal) → (stepped session end_).1 ≡ Refused refusal → (stepped session end_).0 ≡ session
stepped_refused session (db, Replied reply) refusal e = cc
stepped_refused session (db, Refused said) refusal e = refl
stepped_refused session (db, ToldByPages) refusal e = refl

set_refused : (session : Session) (settings : Settings) (refusal : Refusal) → (set_to session settings).1 ≡ Refused refusal → (set_to session settings).0 ≡ session
set_refused session settings refusal e = by_built (are_built (defs_of session.working)) e
  where
    by_end : Bool → Session × Answer
    by_end built = if built then (record session { settings = settings }, Replied reply.Done) else (session, Refused (refusal_of NotBuilt))

    by_built : (built : Bool) → (by_end built).1 ≡ Refused refusal → (by_end built).0 ≡ session
    by_built true e = cc
    by_built false e = refl

rollout_refused : (session : Session) (mode : RolloutMode) (refusal : Refusal) → (set_rollout session mode).1 ≡ Refused refusal → (set_rollout session mode).0 ≡ session
rollout_refused session rollout.None refusal e = set_refused session _ refusal e
rollout_refused session rollout.Immediate refusal e = set_refused session _ refusal e
rollout_refused session rollout.Deferred refusal e = refl

-- a statement that is refused in a session leaves it
pub refused_turn_stays : (session : Session) (statement : Stmt) (refusal : Refusal) → (turn session statement).1 ≡ Refused refusal → (turn session statement).0 ≡ session
refused_turn_stays session stmt.Begin refusal e = begun_refused session session.open_ refusal e
refused_turn_stays session stmt.Commit refusal e = committed_refused session session.open_ refusal e
refused_turn_stays session stmt.Rollback refusal e = rolled_back_refused session session.open_ refusal e
refused_turn_stays session (stmt.SetPlan mode) refusal e = set_refused session _ refusal e
refused_turn_stays session (stmt.SetRollout mode) refusal e = rollout_refused session mode refusal e
refused_turn_stays session (stmt.ListBlocks name) refusal e = refl
refused_turn_stays session (stmt.Explain select) refusal e = refl
refused_turn_stays session statement refusal e = stepped_refused session (step session.working statement) refusal e
