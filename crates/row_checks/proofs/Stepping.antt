-- From a bound statement to the step of its statement.
use Rattle.std.proofs.Common.{◌≡◌, List, [], ◌∷◌, ◌++◌, ◌∙◌, sym, ap, subst}
use Rattle.std.specs.Prelude.{◌&&◌, Bool, true, not, Option, None, is_some, Result, Ok, Err, IfOk, OnErr, if◌then◌else◌}
use Rattle.mdc_ast.specs.declared.bound.Bound.{Bound}
use Rattle.mdc_ast.specs.declared.name.Name.{Name}
use Rattle.mdc_ast.specs.declared.refusal.Refusal.{Refusal}
use Rattle.mdc_ast.specs.declared.reply.Outcome.{Outcome}
use Rattle.mdc_ast.specs.declared.reply.Outcome.TheVariants as outcome
use Rattle.mdc_ast.specs.declared.statement.InsertItem.{InsertItem}
use Rattle.mdc_ast.specs.declared.statement.Stmt.{Stmt}
use Rattle.mdc_ast.specs.declared.statement.Stmt.TheVariants as stmt
use Rattle.statement_meaning.specs.Binding.{bound_of}
use Rattle.mdc_ast.specs.declared.reply.Reply.{Reply}
use Rattle.statement_meaning.specs.Cause.{Cause, NotBuilt}
use Rattle.mdc_ast.specs.Database.{Database, defs_of}
use Rattle.mdc_ast.specs.ValidDatabase.{IsValid}
use Rattle.statement_meaning.specs.Doing.{causes_of_rows, effect}
use Rattle.statement_meaning.specs.Judged.{judged_of}
use Rattle.statement_meaning.specs.Judging.{in_order}
use Rattle.statement_meaning.specs.Step.{Answer, Refused, step, step_by}
use Rattle.statement_meaning.specs.Built.{IsBuiltDatabase, are_built, is_built_step}
use Rattle.statement_meaning.specs.Laws.{refused_stays}
use Rattle.statement_meaning.proofs.KeepingLemmas.{step_keeps_built}
use Rattle.mdc_ast.specs.Definitions.{Definitions}
use Rattle.binder.proofs.WholeRowsLemmas.{IsBoundTo, none_there}
use Rattle.row_checks.proofs.Ready.{ready}
use Rattle.row_checks.specs.Executing.{MayBeDone, answer_of, done}

-- a statement that is bound is done as it is bound
pub step_is_done : (db : Database) (statement : Stmt) → is_built_step statement ≡ true → are_built (defs_of db) ≡ true → in_order (judged_of (defs_of db) statement) ≡ []
    → step db statement ≡ done db (bound_of (defs_of db) statement)
step_is_done db statement form tables said =
    let rest : List Cause = causes_of_rows db (bound_of (defs_of db) statement) in
    let does : Database × Reply = effect db (bound_of (defs_of db) statement) in
    ap (λ b. step_by db (if b && are_built (defs_of db) then in_order (judged_of (defs_of db) statement) ++ rest else NotBuilt ∷ []) does) form
    ∙ ap (λ b. step_by db (if b then in_order (judged_of (defs_of db) statement) ++ rest else NotBuilt ∷ []) does) tables
    ∙ ap (λ causes. step_by db (causes ++ rest) does) said

-- so its answer is the one of its step
pub answered : {E : Type 0} (db new : Database) (statement : Stmt) (statement_bound : Bound) (result : Result Outcome E) → is_built_step statement ≡ true → are_built (defs_of db) ≡ true → in_order (judged_of (defs_of db) statement) ≡ [] → statement_bound ≡ bound_of (defs_of db) statement →
    IfOk result (λ outcome. done db statement_bound ≡ (new, answer_of outcome)) → IfOk result (λ outcome. step db statement ≡ (new, answer_of outcome))
answered db new statement statement_bound (Err fault) form tables said is e = tt
answered db new statement statement_bound (Ok outcome) form tables said is e = step_is_done db statement form tables said ∙ sym (ap (done db) is) ∙ e

-- whatever it answers, what it leaves is valid
pub valid_after : {E : Type 0} (db new : Database) (statement : Stmt) (result : Result Outcome E) → IsBuiltDatabase db → IfOk result (λ outcome. step db statement ≡ (new, answer_of outcome)) → OnErr result (IsBuiltDatabase new) → IsBuiltDatabase new
valid_after db new statement (Ok outcome) valid e err = subst IsBuiltDatabase (ap (λ p. p.0) e) (step_keeps_built db statement valid)
valid_after db new statement (Err fault) valid e err = err

-- an INSERT whose columns turn out not to be named is bound so, on the definitions of a database
pub bound_unnamed : (db : Database) (defs : Definitions) (statement : Stmt) (table : Name) (columns : Option (List Name)) (tuples lent : List (List InsertItem)) (empty : Bool) (result : Bound)
    → defs ≡ defs_of db → statement ≡ stmt.Insert table columns tuples → is_some columns ≡ not empty → empty ≡ true → lent ≡ tuples
    → IsBoundTo defs result (stmt.Insert table None lent) → IsBoundTo (defs_of db) result statement
bound_unnamed db defs statement table columns tuples lent empty result at is named unnamed same h =
    let whole : statement ≡ stmt.Insert table None lent =
    is ∙ ap (λ listed. stmt.Insert table listed tuples) (none_there columns empty named unnamed) ∙ ap (stmt.Insert table None) (sym same) in
    subst (IsBoundTo (defs_of db) result) (sym whole) (subst (λ d. IsBoundTo d result (stmt.Insert table None lent)) at h)

-- so its bound statement may be done
pub bound_ready : (db : Database) (statement : Stmt) (result : Bound) → IsValid db → IsBoundTo (defs_of db) result statement → MayBeDone db result
bound_ready db statement result valid h = subst (MayBeDone db) (sym h.1) (ready db statement valid h.0)

-- what is refused leaves the database
pub refused_keeps : {E : Type 0} (db new : Database) (statement : Stmt) (result : Result Outcome E) → IfOk result (λ outcome. step db statement ≡ (new, answer_of outcome))
    → (refusal : Refusal) → result ≡ Ok (outcome.Refused refusal) → new ≡ db
refused_keeps db new statement result does refusal is =
    let P : Result Outcome _ → Type 0 = λ r. IfOk r (λ outcome. step db statement ≡ (new, answer_of outcome)) in
    let done : step db statement ≡ (new, Refused refusal) = subst P is does in
    sym (ap (λ p. p.0) done) ∙ refused_stays db statement refusal (ap (λ p. p.1) done)
