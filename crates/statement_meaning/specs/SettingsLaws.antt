-- Laws of the settings: two statements alone set them, and no answer and no database depends on them.
use Rattle.std.proofs.Common.{ap, ◌∙◌}
use Rattle.std.specs.Prelude.{◌≡◌, List, [], ◌∷◌, Bool, true, false, if◌then◌else◌, Option, refl}
use Rattle.mdc_ast.specs.declared.reply.Outcome.{Outcome}
use Rattle.mdc_ast.specs.declared.reply.Reply.TheVariants as reply
use Rattle.mdc_ast.specs.declared.statement.RolloutMode.{RolloutMode}
use Rattle.mdc_ast.specs.declared.statement.RolloutMode.TheVariants as rollout
use Rattle.mdc_ast.specs.declared.statement.Stmt.{Stmt}
use Rattle.mdc_ast.specs.declared.statement.Stmt.TheVariants as stmt
use Rattle.mdc_ast.specs.Database.{Database, defs_of}
use Rattle.mdc_ast.specs.Reading.{Item, Statement}
use Rattle.mdc_ast.specs.Reading as reading
use Rattle.statement_meaning.specs.Built.{are_built}
use Rattle.statement_meaning.specs.Cause.{NotBuilt, refusal_of}
use Rattle.statement_meaning.specs.Session.{Session, begun, committed, item_turn, outcome_of, outcomes_from, rolled_back, set_rollout, set_to, stepped, turn}
use Rattle.statement_meaning.specs.Step.{Answer, Refused, Replied, ToldByPages, step}
use Rattle.statement_meaning.specs.declared.settings.Settings.{Settings}

-- a statement that sets something
abbrev pub is_setting : Stmt → Bool
is_setting (stmt.SetPlan mode) = true
is_setting (stmt.SetRollout mode) = true
is_setting statement = false

-- the session, set otherwise
abbrev pub with_settings : Session → Settings → Session
with_settings session settings = record session { settings = settings }

-- two turns answer the same, and leave sessions that differ in their settings at most
pub record TurnAlike (a b : Session × Answer) : Type 0 where
  pub answer : a.1 ≡ b.1
  pub sessions : (settings : Settings) → with_settings a.0 settings ≡ with_settings b.0 settings

module _ (session : Session) where
  -- ---- what sets nothing leaves the settings

  begun_keeps : (is_open : Bool) → (begun session is_open).0.settings ≡ session.settings
  begun_keeps true = refl
  begun_keeps false = refl

  committed_keeps : (is_open : Bool) → (committed session is_open).0.settings ≡ session.settings
  committed_keeps true = refl
  committed_keeps false = refl

  rolled_back_keeps : (is_open : Bool) → (rolled_back session is_open).0.settings ≡ session.settings
  rolled_back_keeps true = refl
  rolled_back_keeps false = refl

  stepped_keeps : (end_ : Database × Answer) → (stepped session end_).0.settings ≡ session.settings
  stepped_keeps (db, Replied reply) = refl
  stepped_keeps (db, Refused refusal) = refl
  stepped_keeps (db, ToldByPages) = refl

  -- a statement that sets nothing leaves the settings, ROLLBACK too
  pub keeps_settings : (statement : Stmt) → is_setting statement ≡ false → (turn session statement).0.settings ≡ session.settings
  keeps_settings stmt.Begin e = begun_keeps session.open_
  keeps_settings stmt.Commit e = committed_keeps session.open_
  keeps_settings stmt.Rollback e = rolled_back_keeps session.open_
  keeps_settings (stmt.SetPlan mode) e = cc
  keeps_settings (stmt.SetRollout mode) e = cc
  keeps_settings (stmt.ListBlocks name) e = refl
  keeps_settings (stmt.Explain select) e = refl
  keeps_settings statement e = stepped_keeps (step session.working statement)

  -- ---- no answer depends on them

  module _ (other : Settings) where
    begun_alike : (is_open : Bool) → TurnAlike (begun (with_settings session other) is_open) (begun session is_open)
    begun_alike true = record { answer = refl; sessions = λ settings. refl }
    begun_alike false = record { answer = refl; sessions = λ settings. refl }

    committed_alike : (is_open : Bool) → TurnAlike (committed (with_settings session other) is_open) (committed session is_open)
    committed_alike true = record { answer = refl; sessions = λ settings. refl }
    committed_alike false = record { answer = refl; sessions = λ settings. refl }

    rolled_back_alike : (is_open : Bool) → TurnAlike (rolled_back (with_settings session other) is_open) (rolled_back session is_open)
    rolled_back_alike true = record { answer = refl; sessions = λ settings. refl }
    rolled_back_alike false = record { answer = refl; sessions = λ settings. refl }

    stepped_alike : (end_ : Database × Answer) → TurnAlike (stepped (with_settings session other) end_) (stepped session end_)
    stepped_alike (db, Replied reply) = record { answer = refl; sessions = λ settings. refl }
    stepped_alike (db, Refused refusal) = record { answer = refl; sessions = λ settings. refl }
    stepped_alike (db, ToldByPages) = record { answer = refl; sessions = λ settings. refl }

    set_alike : (here there : Settings) → TurnAlike (set_to (with_settings session other) here) (set_to session there)
    set_alike here there = by_built (are_built (defs_of session.working))
      where
        set_where : Session → Settings → Bool → Session × Answer
        set_where to settings built = if built then (record to { settings = settings }, Replied reply.Done) else (to, Refused (refusal_of NotBuilt))

        by_built : (built : Bool) → TurnAlike (set_where (with_settings session other) here built) (set_where session there built)
        by_built true = record { answer = refl; sessions = λ settings. refl }
        by_built false = record { answer = refl; sessions = λ settings. refl }

    rollout_alike : (mode : RolloutMode) → TurnAlike (set_rollout (with_settings session other) mode) (set_rollout session mode)
    rollout_alike rollout.None = set_alike _ _
    rollout_alike rollout.Immediate = set_alike _ _
    rollout_alike rollout.Deferred = record { answer = refl; sessions = λ settings. refl }

    -- a statement turns sessions alike that differ in their settings alone
    pub turn_alike : (statement : Stmt) → TurnAlike (turn (with_settings session other) statement) (turn session statement)
    turn_alike stmt.Begin = begun_alike session.open_
    turn_alike stmt.Commit = committed_alike session.open_
    turn_alike stmt.Rollback = rolled_back_alike session.open_
    turn_alike (stmt.SetPlan mode) = set_alike _ _
    turn_alike (stmt.SetRollout mode) = rollout_alike mode
    turn_alike (stmt.ListBlocks name) = record { answer = refl; sessions = λ settings. refl }
    turn_alike (stmt.Explain select) = record { answer = refl; sessions = λ settings. refl }
    turn_alike statement = stepped_alike (step session.working statement)

    item_alike : (item : Item) → TurnAlike (item_turn (with_settings session other) item) (item_turn session item)
    item_alike (Statement statement) = turn_alike statement
    item_alike (reading.Refused refusal) = record { answer = refl; sessions = λ settings. refl }

-- so the same is said to all items, whatever a run is set to: no reply that lists of rows give depends on a plan or a rollout mode
pub told_alike : (session : Session) (other : Settings) (items : List Item) → outcomes_from (with_settings session other) items ≡ outcomes_from session items
told_alike session other [] = refl
told_alike session other (item ∷ items) =
    let alike : TurnAlike (item_turn (with_settings session other) item) (item_turn session item) = item_alike session other item in
    let here : Session = (item_turn (with_settings session other) item).0 in
    let there : Session = (item_turn session item).0 in
    ap (λ (answer : Answer). outcome_of answer ∷ outcomes_from here items) alike.answer
    ∙ ap (λ (rest : List (Option Outcome)). outcome_of (item_turn session item).1 ∷ rest)
    (ap (λ (session : Session). outcomes_from session items) (alike.sessions here.settings) ∙ told_alike there here.settings items)
