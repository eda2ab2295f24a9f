-- A statement's text that is done, or that nothing is said against: what it is bound to, and that its effect is that of the bound one.
use Rattle.std.proofs.Common.{◌≡◌, ℕ, Option, Some, None, List, [], ◌∷◌, ◌++◌, Bool, true, false, refl, ap, sym, ◌∙◌}
use Rattle.std.specs.Prelude.{◌&&◌, flat_map, is_none, option_and_then, if◌then◌else◌}
use Rattle.mdc_ast.specs.Database.{Database, defs_of}
use Rattle.mdc_ast.specs.Definitions.{Definitions, def_at, def_named, empty_place, place_of}
use Rattle.mdc_ast.specs.declared.bound.Bound.{Bound}
use Rattle.mdc_ast.specs.declared.definition.ColumnDef.{ColumnDef}
use Rattle.mdc_ast.specs.declared.definition.TableDef.{TableDef}
use Rattle.mdc_ast.specs.declared.name.Name.{Name}
use Rattle.mdc_ast.specs.declared.reply.Reply.{Reply}
use Rattle.mdc_ast.specs.declared.statement.ColumnText.{ColumnText}
use Rattle.mdc_ast.specs.declared.statement.Stmt.{Stmt}
use Rattle.mdc_ast.specs.declared.statement.Stmt.TheVariants as stmt
use Rattle.statement_meaning.specs.Binding.{bound_of, bound_on, columns_of, on_place}
use Rattle.statement_meaning.specs.Built.{are_built, has_no_generated, is_built_step}
use Rattle.statement_meaning.specs.Cause.{Cause, Limit, NotBuilt, cause_if, refusal_of}
use Rattle.statement_meaning.specs.Doing.{causes_of_rows, effect}
use Rattle.statement_meaning.specs.Judged.{column_limits, create_judged, dim_limits, judged_of, long_name}
use Rattle.statement_meaning.specs.Judging.{Judged, in_order, on_defined}
use Rattle.statement_meaning.specs.Step.{Answer, Refused, Replied, faults, step, step_by}
use Rattle.statement_meaning.proofs.CausesLemmas.{is_there, none_of_both}
use Rattle.statement_meaning.proofs.KeepingLemmas.{is_faultless}
use Rattle.row_checks.specs.Executing.{done}
use Rattle.script_engine.proofs.StoredDefsLemmas.{step_is_done_on, step_not_built, step_refused_on, without_roots}

-- ---- an end that is a reply

-- nothing was said against it
unsaid : (db : Database) (causes : List Cause) (does : Database × Reply) (reply : Reply) → (step_by db causes does).1 ≡ Replied reply → causes ≡ []
unsaid db [] does reply e = refl
unsaid db (cause ∷ causes) (new, said) reply e = cc

no_refusal : (end_ : Database × Answer) (db : Database) (cause : Cause) (reply : Reply) → end_.1 ≡ Replied reply → end_ ≡ (db, Refused (refusal_of cause)) → ⊥
no_refusal end_ db cause reply replied refused = (let one : Refused (refusal_of cause) ≡ Replied reply = sym (ap (λ e. e.1) refused) ∙ replied in cc)

-- and where nothing is said, there is a reply
pub faultless_replies : (db : Database) (stmt : Stmt) → faults db stmt ≡ [] → (reply : Reply) × ((step db stmt).1 ≡ Replied reply)
faultless_replies db stmt none = (
  (effect db (bound_of (defs_of db) stmt)).1,
  ap (λ causes. (step_by db causes (effect db (bound_of (defs_of db) stmt))).1) none,
)

-- ---- on the definitions of a catalog

module _ (db : Database) (defs : Definitions) (same : defs_of db ≡ without_roots defs) (built : are_built defs ≡ true) (stmt : Stmt) (reply : Reply) (replied : (step db stmt).1 ≡ Replied reply) where
  is_built : is_built_step stmt ≡ true
  is_built = go (is_built_step stmt) refl
    where
      go : (b : Bool) → is_built_step stmt ≡ b → b ≡ true
      go true e = refl
      go false e = absurd (no_refusal (step db stmt) db NotBuilt reply replied (step_not_built db stmt e))

  -- nothing is said on the catalog
  pub none_judged : in_order (judged_of defs stmt) ≡ []
  none_judged = go (in_order (judged_of defs stmt)) refl
    where
      go : (causes : List Cause) → in_order (judged_of defs stmt) ≡ causes → causes ≡ []
      go [] e = refl
      go (cause ∷ causes) e = absurd (no_refusal (step db stmt) db cause reply replied (step_refused_on db defs stmt cause same built is_built (rw e refl)))

  -- and the database after it is what the bound statement makes
  pub effect_is : (step db stmt).0 ≡ (effect db (bound_of defs stmt)).0
  effect_is =
      let is : step db stmt ≡ done db (bound_of defs stmt) = step_is_done_on db defs stmt same built is_built none_judged in
      let none = unsaid db (causes_of_rows db (bound_of defs stmt)) (effect db (bound_of defs stmt)) reply (sym (ap (λ end_. end_.1) is) ∙ replied) in
      ap (λ end_. end_.0) is ∙ ap (λ causes. (step_by db causes (effect db (bound_of defs stmt))).0) none

-- ---- what it is bound to

-- a CREATE TABLE that is done finds an empty place
pub place_found : (db : Database) (name : Name) (columns : List ColumnText) (dims : List (List Name)) (reply : Reply) → (step db (stmt.CreateTable name columns dims)).1 ≡ Replied reply
    → (place : ℕ) × (empty_place (defs_of db) ≡ Some place)
place_found db name columns dims reply replied =
    let text = stmt.CreateTable name columns dims in
    let none = unsaid db (faults db text) (effect db (bound_of (defs_of db) text)) reply replied in
    let said = of_test (has_no_generated columns && are_built (defs_of db)) none in
    let limits = (is_faultless (create_judged (defs_of db) name columns dims) said).limits in
    let all : List Name = flat_map (λ dim. dim) dims in
    let rest = none_of_both (long_name name ++ cause_if (is_none (empty_place (defs_of db))) (Limit 16) ++ column_limits 0 columns columns) (dim_limits 0 columns all dims) limits in
    let front = none_of_both (long_name name ++ cause_if (is_none (empty_place (defs_of db))) (Limit 16)) (column_limits 0 columns columns) rest.0 in
    is_there (empty_place (defs_of db)) (Limit 16) (none_of_both (long_name name) (cause_if (is_none (empty_place (defs_of db))) (Limit 16)) front.0).1
  where
    of_test : (b : Bool) → (if b then in_order (create_judged (defs_of db) name columns dims) ++ causes_of_rows db (bound_of (defs_of db) (stmt.CreateTable name columns dims)) else NotBuilt ∷ []) ≡ []
        → in_order (create_judged (defs_of db) name columns dims) ≡ []
    of_test true e = (none_of_both (in_order (create_judged (defs_of db) name columns dims)) (causes_of_rows db (bound_of (defs_of db) (stmt.CreateTable name columns dims))) e).0
    of_test false e = cc

-- a statement is bound to the table of its name
pub record IsOnTable (defs : Definitions) (name : Name) (bind : ℕ → List ColumnDef → Bound) : Type 0 where
  pub place : ℕ
  pub def : TableDef
  pub at : def_at defs place ≡ Some def
  pub bound_is : bound_on defs name bind ≡ bind place (columns_of (def_named defs name))

pub on_its_table : (defs : Definitions) (name : Name) (judge : TableDef → Judged) (bind : ℕ → List ColumnDef → Bound) → in_order (on_defined name (def_named defs name) judge) ≡ [] → IsOnTable defs name bind
on_its_table defs name judge bind said = of_place (place_of defs name) refl said
  where
    of_def : (place : ℕ) → place_of defs name ≡ Some place → (def : Option TableDef) → def_at defs place ≡ def → in_order (on_defined name def judge) ≡ [] → IsOnTable defs name bind
    of_def place is None at e = cc
    of_def place is (Some def) at e = record { place = place; def = def; at = at; bound_is = ap (λ found. on_place found (columns_of (def_named defs name)) bind) is }

    of_place : (found : Option ℕ) → place_of defs name ≡ found → in_order (on_defined name (option_and_then (def_at defs) found) judge) ≡ [] → IsOnTable defs name bind
    of_place None is e = cc
    of_place (Some place) is e = of_def place is (def_at defs place) refl e
