-- What a turn does to the session of an engine.
use Rattle.std.proofs.Common.{◌≡◌, List, [], ◌∷◌, Option, Some, None, Result, Ok, Err, refl, sym, ap, subst, ◌∙◌}
use Rattle.mdc_values.specs.declared.memory.Memory.{Memory}
use Rattle.std.specs.Prelude.{Bool, if◌then◌else◌, is_none, is_some, true, false}
use Rattle.mdc_ast.specs.declared.definition.TableDef.{TableDef}
use Rattle.mdc_ast.specs.declared.name.Name.{Name}
use Rattle.mdc_ast.specs.declared.refusal.Refusal.{Refusal}
use Rattle.mdc_ast.specs.declared.reply.Reply.TheVariants as reply
use Rattle.mdc_ast.specs.declared.reply.Outcome.{Outcome}
use Rattle.mdc_ast.specs.declared.reply.Outcome.TheVariants as outcome
use Rattle.mdc_ast.specs.declared.statement.PlanMode.{PlanMode}
use Rattle.mdc_ast.specs.declared.statement.RolloutMode.{RolloutMode}
use Rattle.mdc_ast.specs.declared.statement.Select.{Select}
use Rattle.mdc_ast.specs.declared.statement.Stmt.{Stmt}
use Rattle.mdc_ast.specs.declared.statement.Stmt.TheVariants as stmt
use Rattle.mdc_ast.specs.Database.{Database, defs_of}
use Rattle.mdc_ast.specs.Definitions.{Definitions, def_named}
use Rattle.statement_meaning.specs.Built.{are_built, is_built_mode}
use Rattle.statement_meaning.specs.Cause.{Cause, NoTable, NotBuilt, State, refusal_of}
use Rattle.statement_meaning.specs.Judged.{judged_of}
use Rattle.statement_meaning.specs.Judging.{in_order}
use Rattle.statement_meaning.specs.Laws.{refused_turn_stays}
use Rattle.statement_meaning.specs.Laws as laws
use Rattle.statement_meaning.specs.Session.{Session, explained, explained_for, listed, listed_of, outcome_of, set_rollout, set_to, stepped, turn}
use Rattle.statement_meaning.specs.Step.{Answer, Refused, Replied, ToldByPages, step}
use Rattle.statement_meaning.specs.declared.pass.Pass.{Pass}
use Rattle.statement_meaning.specs.declared.settings.Settings.{Settings}
use Rattle.binder.specs.Refusing.{IsRefusedFor}
use Rattle.binder.specs.declared.binding.BindFault.TheVariants as fault
use Rattle.row_checks.specs.Executing.{answer_of}
use Rattle.reference_engine.specs.Sessions.{EndsTurn, Steps, Turns, session_of}

-- what is said as a refusal is one
says_refused : (answer : Answer) (refusal : Refusal) → Some (outcome.Refused refusal) ≡ outcome_of answer → answer ≡ Refused refusal
says_refused (Replied reply) refusal e = absurd (cc)
says_refused (Refused other) refusal e = let same : other ≡ refusal = cc in ap Refused same
says_refused ToldByPages refusal e = absurd (cc)

-- a statement that is refused leaves the session
pub refused_stays : (statement : Stmt) (result : Result (Option Outcome) Memory) (old new : Session) (refusal : Refusal) → Turns statement result old new → result ≡ Ok (Some (outcome.Refused refusal)) → new ≡ old
refused_stays statement (Ok said) old new refusal turns is =
    let same : said ≡ Some (outcome.Refused refusal) = cc in
    turns.0 ∙ refused_turn_stays old statement refusal (says_refused (turn old statement).1 refusal (sym same ∙ turns.1))
refused_stays statement (Err memory) old new refusal turns is = absurd (cc)

-- a step of the tables that was done or refused is one of the session
step_ends : (working new : Database) (kept : Option Database) (settings : Settings) (pass : Pass) (statement : Stmt) (said : Outcome) (end_ : Database × Answer) → end_ ≡ (new, answer_of said)
    → ((refusal : Refusal) → said ≡ outcome.Refused refusal → new ≡ working)
    → EndsTurn (stepped (session_of working kept settings pass) end_) (Ok (Some said)) (session_of working kept settings pass) (session_of new kept settings pass)
step_ends working new None settings pass statement (outcome.Done reply) end_ is refused =
    subst (λ (e : Database × Answer). EndsTurn (stepped (session_of working None settings pass) e) (Ok (Some (outcome.Done reply))) (session_of working None settings pass) (session_of new None settings pass)) (sym is) (refl, refl)
step_ends working new (Some kept) settings pass statement (outcome.Done reply) end_ is refused =
    subst (λ (e : Database × Answer). EndsTurn (stepped (session_of working (Some kept) settings pass) e) (Ok (Some (outcome.Done reply))) (session_of working (Some kept) settings pass) (session_of new (Some kept) settings pass)) (sym is) (refl, refl)
step_ends working new kept settings pass statement (outcome.Refused refusal) end_ is refused =
    subst (λ (e : Database × Answer). EndsTurn (stepped (session_of working kept settings pass) e) (Ok (Some (outcome.Refused refusal))) (session_of working kept settings pass) (session_of new kept settings pass)) (sym is)
    (ap (λ db. session_of db kept settings pass) (refused refusal refl), refl)

-- ---- BEGIN, COMMIT, ROLLBACK and LIST BLOCKS

module _ (working : Database) (settings : Settings) (pass : Pass) where
  pub begin_done : (kept : Option Database) (copy : Database) → is_some kept ≡ false → copy ≡ working
      → Turns stmt.Begin (Ok (Some (outcome.Done reply.Done))) (session_of working kept settings pass) (session_of working (Some copy) settings pass)
  begin_done None copy shut same = (ap (λ db. session_of working (Some db) settings pass) same, refl)
  begin_done (Some was) copy shut same = absurd (cc)

  pub begin_refused : (kept : Option Database) (refusal : Refusal) → is_some kept ≡ true → refusal ≡ refusal_of State
      → Turns stmt.Begin (Ok (Some (outcome.Refused refusal))) (session_of working kept settings pass) (session_of working kept settings pass)
  begin_refused None refusal opened says = absurd (cc)
  begin_refused (Some was) refusal opened says = (refl, ap (λ r. Some (outcome.Refused r)) says)

  pub commit_done : (kept : Option Database) → is_none kept ≡ false → Turns stmt.Commit (Ok (Some (outcome.Done reply.Done))) (session_of working kept settings pass) (session_of working None settings pass)
  commit_done None opened = absurd (cc)
  commit_done (Some was) opened = (refl, refl)

  pub commit_refused : (kept : Option Database) (refusal : Refusal) → is_none kept ≡ true → refusal ≡ refusal_of State
      → Turns stmt.Commit (Ok (Some (outcome.Refused refusal))) (session_of working kept settings pass) (session_of working kept settings pass)
  commit_refused None refusal shut says = (refl, ap (λ r. Some (outcome.Refused r)) says)
  commit_refused (Some was) refusal shut says = absurd (cc)

  pub roll_back_done : (kept : Option Database) (was : Database) → kept ≡ Some was → Turns stmt.Rollback (Ok (Some (outcome.Done reply.Done))) (session_of working kept settings pass) (session_of was None settings pass)
  roll_back_done kept was is =
      subst (λ (k : Option Database). Turns stmt.Rollback (Ok (Some (outcome.Done reply.Done))) (session_of working k settings pass) (session_of was None settings pass)) (sym is) (refl, refl)

  pub roll_back_refused : (kept : Option Database) (refusal : Refusal) → kept ≡ None → refusal ≡ refusal_of State
      → Turns stmt.Rollback (Ok (Some (outcome.Refused refusal))) (session_of working kept settings pass) (session_of working None settings pass)
  roll_back_refused kept refusal is says =
      subst (λ (k : Option Database). Turns stmt.Rollback (Ok (Some (outcome.Refused refusal))) (session_of working k settings pass) (session_of working None settings pass)) (sym is)
      (refl, ap (λ r. Some (outcome.Refused r)) says)

  -- what is answered to LIST BLOCKS, where all tables are of built forms
  listed_is : (name : Name) (found : Option TableDef) → are_built (defs_of working) ≡ true → def_named (defs_of working) name ≡ found → listed (defs_of working) name ≡ listed_of name found
  listed_is name found built named =
      ap (λ b. if b then listed_of name (def_named (defs_of working) name) else Refused (refusal_of NotBuilt)) built ∙ ap (listed_of name) named

  pub list_told : (kept : Option Database) (name : Name) (def : TableDef) → are_built (defs_of working) ≡ true → def_named (defs_of working) name ≡ Some def
      → Turns (stmt.ListBlocks name) (Ok None) (session_of working kept settings pass) (session_of working kept settings pass)
  list_told kept name def built named = (refl, ap outcome_of (sym (listed_is name (Some def) built named)))

  pub list_absent : (kept : Option Database) (name : Name) (refusal : Refusal) → are_built (defs_of working) ≡ true → def_named (defs_of working) name ≡ None → refusal ≡ refusal_of (NoTable name)
      → Turns (stmt.ListBlocks name) (Ok (Some (outcome.Refused refusal))) (session_of working kept settings pass) (session_of working kept settings pass)
  list_absent kept name refusal built named says = (refl, ap (λ r. Some (outcome.Refused r)) says ∙ ap outcome_of (sym (listed_is name None built named)))

  -- ---- settings

  -- where all tables are of built forms, a session is set
  set_is : (kept : Option Database) (other : Settings) → are_built (defs_of working) ≡ true
      → set_to (session_of working kept settings pass) other ≡ (session_of working kept other pass, Replied reply.Done)
  set_is kept other built =
      ap (λ b. if b then (session_of working kept other pass, Replied reply.Done) else (session_of working kept settings pass, Refused (refusal_of NotBuilt))) built

  set_ends : (kept : Option Database) (other : Settings) (turned : Session × Answer) → are_built (defs_of working) ≡ true → turned ≡ set_to (session_of working kept settings pass) other
      → EndsTurn turned (Ok (Some (outcome.Done reply.Done))) (session_of working kept settings pass) (session_of working kept other pass)
  set_ends kept other turned built is =
      subst (λ (t : Session × Answer). EndsTurn t (Ok (Some (outcome.Done reply.Done))) (session_of working kept settings pass) (session_of working kept other pass)) (sym (is ∙ set_is kept other built)) (refl, refl)

  pub plan_set : (kept : Option Database) (mode : PlanMode) → are_built (defs_of working) ≡ true
      → Turns (stmt.SetPlan mode) (Ok (Some (outcome.Done reply.Done))) (session_of working kept settings pass) (session_of working kept (record settings { plan = mode }) pass)
  plan_set kept mode built = set_ends kept (record settings { plan = mode }) _ built refl

  -- a rollout mode is looked at first
  rollout_is : (kept : Option Database) (mode : RolloutMode) (built : Bool) → is_built_mode mode ≡ built
      → set_rollout (session_of working kept settings pass) mode
      ≡ (if built then set_to (session_of working kept settings pass) (record settings { rollout = mode }) else (session_of working kept settings pass, Refused (refusal_of NotBuilt)))
  rollout_is kept mode built is =
      ap (λ b. if b then set_to (session_of working kept settings pass) (record settings { rollout = mode }) else (session_of working kept settings pass, Refused (refusal_of NotBuilt))) is

  pub rollout_set : (kept : Option Database) (mode : RolloutMode) → are_built (defs_of working) ≡ true → is_built_mode mode ≡ true
      → Turns (stmt.SetRollout mode) (Ok (Some (outcome.Done reply.Done))) (session_of working kept settings pass) (session_of working kept (record settings { rollout = mode }) pass)
  rollout_set kept mode built is = set_ends kept (record settings { rollout = mode }) _ built (rollout_is kept mode true is)

  pub rollout_refused : (kept : Option Database) (mode : RolloutMode) (refusal : Refusal) → is_built_mode mode ≡ false → refusal ≡ refusal_of NotBuilt
      → Turns (stmt.SetRollout mode) (Ok (Some (outcome.Refused refusal))) (session_of working kept settings pass) (session_of working kept settings pass)
  rollout_refused kept mode refusal is says =
      subst (λ (t : Session × Answer). EndsTurn t (Ok (Some (outcome.Refused refusal))) (session_of working kept settings pass) (session_of working kept settings pass)) (sym (rollout_is kept mode false is))
      (refl, ap (λ r. Some (outcome.Refused r)) says)

  -- ---- EXPLAIN

  -- what is answered to EXPLAIN, where all tables are of built forms, by definitions that are theirs
  explained_is : (statement : Stmt) (select : Select) (defs : Definitions) → statement ≡ stmt.Explain select → are_built (defs_of working) ≡ true → defs ≡ defs_of working
      → explained working select ≡ explained_for (in_order (judged_of defs statement))
  explained_is statement select defs is built same =
      ap (λ b. if b then explained_for (in_order (judged_of (defs_of working) (stmt.Query select))) else Refused (refusal_of NotBuilt)) built
      ∙ ap (λ (d : Definitions). explained_for (in_order (judged_of d (stmt.Explain select)))) (sym same)
      ∙ ap (λ (s : Stmt). explained_for (in_order (judged_of defs s))) (sym is)

  explain_ends : (kept : Option Database) (statement : Stmt) (select : Select) (said : Option Outcome) → statement ≡ stmt.Explain select → said ≡ outcome_of (explained working select)
      → Turns statement (Ok said) (session_of working kept settings pass) (session_of working kept settings pass)
  explain_ends kept statement select said is says =
      subst (λ (s : Stmt). Turns s (Ok said) (session_of working kept settings pass) (session_of working kept settings pass)) (sym is) (refl, says)

  pub explain_told : (kept : Option Database) (statement : Stmt) (defs : Definitions) (select : Select) → statement ≡ stmt.Explain select → are_built (defs_of working) ≡ true → defs ≡ defs_of working
      → in_order (judged_of defs statement) ≡ [] → Turns statement (Ok None) (session_of working kept settings pass) (session_of working kept settings pass)
  explain_told kept statement defs select is built same none =
      explain_ends kept statement select None is (ap outcome_of (sym (explained_is statement select defs is built same ∙ ap explained_for none)))

  first_refused : (causes : List Cause) (refusal : Refusal) → IsRefusedFor causes (Err (fault.Refused refusal)) → explained_for causes ≡ Refused refusal
  first_refused [] refusal says = absurd (cc)
  first_refused (cause ∷ causes) refusal says = let same : refusal_of cause ≡ refusal = cc in ap Refused same

  pub explain_refused : (kept : Option Database) (statement : Stmt) (defs : Definitions) (select : Select) (refusal : Refusal) → statement ≡ stmt.Explain select → are_built (defs_of working) ≡ true
      → defs ≡ defs_of working → IsRefusedFor (in_order (judged_of defs statement)) (Err (fault.Refused refusal))
      → Turns statement (Ok (Some (outcome.Refused refusal))) (session_of working kept settings pass) (session_of working kept settings pass)
  explain_refused kept statement defs select refusal is built same says =
      explain_ends kept statement select (Some (outcome.Refused refusal)) is
      (ap outcome_of (sym (explained_is statement select defs is built same ∙ first_refused (in_order (judged_of defs statement)) refusal says)))

-- a statement of the tables that was executed on the working ones
pub executed_steps : (working new : Database) (kept : Option Database) (settings : Settings) (pass : Pass) (statement : Stmt) (said : Outcome) → step working statement ≡ (new, answer_of said)
    → Steps statement (Ok (Some said)) (session_of working kept settings pass) (session_of new kept settings pass)
executed_steps working new kept settings pass statement said is =
    step_ends working new kept settings pass statement said (step working statement) is
    (λ refusal says. sym (ap (λ end_. end_.0) is) ∙ laws.refused_stays working statement refusal (ap (λ end_. end_.1) is ∙ ap answer_of says))
