-- Statements on the definitions of a catalog, and on those of the plain database that its pages stand for, which have no roots.
use Rattle.std.proofs.Common.{◌≡◌, ◌+◌, ℕ, zero, suc, List, [], ◌∷◌, ◌++◌, ◌∙◌, refl, sym, ap, subst}
use Rattle.std.specs.Prelude.{◌&&◌, Option, Some, None, cond, flat_map, is_none, is_some, option_and_then, option_map, true, false, if◌then◌else◌}
use Rattle.store_api.specs.declared.shape.Shape.{Shape}
use Rattle.std.specs.List.{AllZip, position_from, range_with_len}
use Rattle.mdc_ast.specs.declared.bound.Bound.{Bound}
use Rattle.mdc_ast.specs.declared.definition.ColumnDef.{ColumnDef}
use Rattle.mdc_ast.specs.declared.definition.TableDef.{TableDef}
use Rattle.mdc_ast.specs.declared.name.Name.{Name}
use Rattle.mdc_ast.specs.declared.reply.Reply.{Reply}
use Rattle.mdc_ast.specs.declared.statement.ColumnText.{ColumnText}
use Rattle.mdc_ast.specs.declared.statement.Stmt.{Stmt}
use Rattle.mdc_ast.specs.declared.statement.Stmt.TheVariants as stmt
use Rattle.statement_meaning.specs.Binding.{bound_of, columns_of, on_place}
use Rattle.statement_meaning.specs.Cause.{Cause, Limit, NotBuilt, TableExists, cause_if, refusal_of}
use Rattle.mdc_ast.specs.Database.{Database, PlainTable, defs_of, table_at}
use Rattle.mdc_ast.specs.Definitions.{Definitions, def_at, def_named, empty_place, is_defined, no_tables, place_of}
use Rattle.statement_meaning.specs.Doing.{causes_of_rows, effect}
use Rattle.statement_meaning.specs.Judged.{column_limits, create_judged, dim_limits, judged_of, long_name}
use Rattle.statement_meaning.specs.Judging.{Judged, in_order, on_table}
use Rattle.statement_meaning.specs.Step.{Refused, faults, step, step_by}
use Rattle.statement_meaning.specs.Built.{are_built, is_built_step, is_built_place}
use Rattle.statement_meaning.proofs.DatabaseLemmas.{def_at-defs_of, def_of}
use Rattle.mdc_ast.proofs.TestsLemmas.{some_is}
use Rattle.table_page.proofs.TablePageLemmas.{no_blank_table, one_definition}
use Rattle.table_page.specs.TablePage.{IsTablePageOf}
use Rattle.table_trees.specs.ToldPages.{PageList}
use Rattle.mdc_sound.specs.StandsForDatabase.{HoldsPlace, PagesStandFor, rootless}
use Rattle.mdc_sound.specs.TablePages.{table_page_at}
use Rattle.binder.specs.Saying.{first_of}
use Rattle.row_checks.specs.Executing.{done}
use Rattle.stored_catalog.specs.StoredDefinitions.{AreStored, IsStoredPlace}
use Rattle.script_engine.proofs.RootlessIndexesLemmas.{create_index-without_roots, drop_index-without_roots}
pub use Rattle.script_engine.proofs.RootlessIndexesLemmas.{without_roots}

-- ---- place by place

one_place : (shape : Shape) (pages : PageList) (t : ℕ) (def : Option TableDef) (table : Option PlainTable) → IsStoredPlace pages t def → HoldsPlace shape pages t table → def_of table ≡ option_map rootless def
one_place shape pages t None None stored holds = refl
one_place shape pages t (Some def) None stored holds = absurd (no_blank_table t def (subst (IsTablePageOf t def) holds stored))
one_place shape pages t None (Some table) stored holds = absurd (no_blank_table t holds.def (subst (IsTablePageOf t holds.def) stored holds.defines))
one_place shape pages t (Some def) (Some table) stored holds =
    ap Some (holds.def_is ∙ ap rootless (one_definition t holds.def def (table_page_at pages t) holds.defines stored))

each_place : (shape : Shape) (pages : PageList) (places : List ℕ) (defs : Definitions) (db : Database) → AllZip (IsStoredPlace pages) places defs → AllZip (HoldsPlace shape pages) places db
    → defs_of db ≡ without_roots defs
each_place shape pages [] [] [] stored stands = refl
each_place shape pages [] [] (table ∷ db) stored stands = absurd stands
each_place shape pages [] (def ∷ defs) db stored stands = absurd stored
each_place shape pages (t ∷ places) [] db stored stands = absurd stored
each_place shape pages (t ∷ places) (def ∷ defs) [] stored stands = absurd stands
each_place shape pages (t ∷ places) (def ∷ defs) (table ∷ db) stored stands =
    ap (λ first. first ∷ defs_of db) (one_place shape pages t def table stored.0 stands.0)
    ∙ ap (λ rest. option_map rootless def ∷ rest) (each_place shape pages places defs db stored.1 stands.1)

pub stored_defs : (shape : Shape) (pages : PageList) (defs : Definitions) (db : Database) → AreStored pages defs → PagesStandFor shape pages db → defs_of db ≡ without_roots defs
stored_defs shape pages defs db stored stands = each_place shape pages (range_with_len 0 16) defs db stored stands

-- ---- looking up without roots

def_at-without_roots : (defs : Definitions) (place : ℕ) → def_at (without_roots defs) place ≡ option_map rootless (def_at defs place)
def_at-without_roots [] place = refl
def_at-without_roots (None ∷ defs) zero = refl
def_at-without_roots (Some def ∷ defs) zero = refl
def_at-without_roots (def ∷ defs) (suc place) = def_at-without_roots defs place

place_from-without_roots : (name : Name) (i : ℕ) (defs : Definitions) → position_from (is_defined name) i (without_roots defs) ≡ position_from (is_defined name) i defs
place_from-without_roots name i [] = refl
place_from-without_roots name i (None ∷ defs) = place_from-without_roots name (i + 1) defs
place_from-without_roots name i (Some def ∷ defs) = ap (cond (is_defined name (Some def)) (Some i)) (place_from-without_roots name (i + 1) defs)

empty_from-without_roots : (i : ℕ) (defs : Definitions) → position_from is_none i (without_roots defs) ≡ position_from is_none i defs
empty_from-without_roots i [] = refl
empty_from-without_roots i (None ∷ defs) = refl
empty_from-without_roots i (Some def ∷ defs) = empty_from-without_roots (i + 1) defs

place_of-without_roots : (defs : Definitions) (name : Name) → place_of (without_roots defs) name ≡ place_of defs name
place_of-without_roots defs name = place_from-without_roots name 0 defs

pub def_named-without_roots : (defs : Definitions) (name : Name) → def_named (without_roots defs) name ≡ option_map rootless (def_named defs name)
def_named-without_roots defs name = ap (option_and_then (def_at (without_roots defs))) (place_of-without_roots defs name) ∙ at (place_of defs name)
  where
    at : (place : Option ℕ) → option_and_then (def_at (without_roots defs)) place ≡ option_map rootless (option_and_then (def_at defs) place)
    at None = refl
    at (Some place) = def_at-without_roots defs place

-- ---- judging and binding without roots

on_rootless : (name : Name) (def : Option TableDef) (judge : List ColumnDef → Judged) → on_table name (option_map rootless def) judge ≡ on_table name def judge
on_rootless name None judge = refl
on_rootless name (Some def) judge = refl

columns_of-rootless : (def : Option TableDef) → columns_of (option_map rootless def) ≡ columns_of def
columns_of-rootless None = refl
columns_of-rootless (Some def) = refl

on_table-without_roots : (defs : Definitions) (name : Name) (judge : List ColumnDef → Judged) → on_table name (def_named (without_roots defs) name) judge ≡ on_table name (def_named defs name) judge
on_table-without_roots defs name judge = ap (λ def. on_table name def judge) (def_named-without_roots defs name) ∙ on_rootless name (def_named defs name) judge

-- what is said of a CREATE TABLE looks at the place of its name and at the empty place
abbrev created_with : Name → List ColumnText → List (List Name) → Option ℕ → Option ℕ → Judged
created_with name columns dims place room = record (create_judged no_tables name columns dims) {
  names = cause_if (is_some place) (TableExists name);
  limits = long_name name ++ cause_if (is_none room) (Limit 16) ++ column_limits 0 columns columns ++ dim_limits 0 columns (flat_map (λ dim. dim) dims) dims;
}

bound_on-without_roots : (defs : Definitions) (name : Name) (bind : ℕ → List ColumnDef → Bound)
    → on_place (place_of (without_roots defs) name) (columns_of (def_named (without_roots defs) name)) bind ≡ on_place (place_of defs name) (columns_of (def_named defs name)) bind
bound_on-without_roots defs name bind =
    ap (λ place. on_place place (columns_of (def_named (without_roots defs) name)) bind) (place_of-without_roots defs name)
    ∙ ap (λ columns. on_place (place_of defs name) columns bind) (ap columns_of (def_named-without_roots defs name) ∙ columns_of-rootless (def_named defs name))

-- nothing that is said of a statement, nor what it is bound to, looks at roots
same-without_roots : (defs : Definitions) (statement : Stmt) → (judged_of (without_roots defs) statement ≡ judged_of defs statement) × (bound_of (without_roots defs) statement ≡ bound_of defs statement)
same-without_roots defs (stmt.CreateTable name columns dims) = (
  ap (λ place. created_with name columns dims place (empty_place (without_roots defs))) (place_of-without_roots defs name)
      ∙ ap (created_with name columns dims (place_of defs name)) (empty_from-without_roots 0 defs),
  refl,
)
same-without_roots defs (stmt.CreateIndex name unique table parts) = (create_index-without_roots defs table name parts (def_named-without_roots defs table), bound_on-without_roots defs table _)
same-without_roots defs (stmt.DropIndex name) = drop_index-without_roots defs name
same-without_roots defs (stmt.DropTable name) = (on_table-without_roots defs name _, bound_on-without_roots defs name _)
same-without_roots defs (stmt.Insert name listed tuples) = (on_table-without_roots defs name _, bound_on-without_roots defs name _)
same-without_roots defs (stmt.Update name sets pred) = (on_table-without_roots defs name _, bound_on-without_roots defs name _)
same-without_roots defs (stmt.Delete name pred) = (on_table-without_roots defs name _, bound_on-without_roots defs name _)
same-without_roots defs (stmt.Query select) = (on_table-without_roots defs select.table _, bound_on-without_roots defs select.table _)
same-without_roots defs (stmt.Explain select) = (on_table-without_roots defs select.table _, bound_on-without_roots defs select.table _)
same-without_roots defs (stmt.Reclaim name) = (on_table-without_roots defs name _, bound_on-without_roots defs name _)
same-without_roots defs other = (refl, refl)

-- ---- the plain table at the place of a definition

pub record IsPlainOf (def : TableDef) (table : PlainTable) : Type 0 where
  pub def_is : table.def ≡ rootless def

table_of : (table : Option PlainTable) (def : TableDef) → def_of table ≡ Some (rootless def) → (plain : PlainTable) × (table ≡ Some plain) × IsPlainOf def plain
table_of None def e = cc
table_of (Some table) def e = (table, refl, record { def_is = some_is table.def (rootless def) e })

pub stored_table : (db : Database) (defs : Definitions) (place : ℕ) (def : TableDef) → defs_of db ≡ without_roots defs → def_at defs place ≡ Some def
    → (table : PlainTable) × (table_at db place ≡ Some table) × IsPlainOf def table
stored_table db defs place def same at =
    table_of (table_at db place) def (sym (def_at-defs_of db place) ∙ ap (λ d. def_at d place) same ∙ def_at-without_roots defs place ∙ ap (option_map rootless) at)

-- ---- the step of a statement

-- nothing is said on the definitions of the database either, and it is bound the same
pub same_said : (db : Database) (defs : Definitions) (statement : Stmt) → defs_of db ≡ without_roots defs → in_order (judged_of (defs_of db) statement) ≡ in_order (judged_of defs statement)
same_said db defs statement same = ap (λ d. in_order (judged_of d statement)) same ∙ ap in_order ((same-without_roots defs statement).0)

pub same_bound : (db : Database) (defs : Definitions) (statement : Stmt) → defs_of db ≡ without_roots defs → bound_of (defs_of db) statement ≡ bound_of defs statement
same_bound db defs statement same = ap (λ d. bound_of d statement) same ∙ (same-without_roots defs statement).1

-- a definition without roots is of a built form where it is with them
built-rootless : (place : Option TableDef) → is_built_place (option_map rootless place) ≡ is_built_place place
built-rootless None = refl
built-rootless (Some def) = refl

built-without_roots : (defs : Definitions) → are_built (without_roots defs) ≡ are_built defs
built-without_roots [] = refl
built-without_roots (place ∷ defs) = ap (λ b. b && are_built (without_roots defs)) (built-rootless place) ∙ ap (λ b. is_built_place place && b) (built-without_roots defs)

-- so are those of the database
pub same_built : (db : Database) (defs : Definitions) → defs_of db ≡ without_roots defs → are_built defs ≡ true → are_built (defs_of db) ≡ true
same_built db defs same built = ap are_built same ∙ (built-without_roots defs ∙ built)

-- where all tables are of built forms, so the form of the statement decides
by_form : (db : Database) (stmt : Stmt) (causes : List Cause) → are_built (defs_of db) ≡ true → is_built_step stmt ≡ true → (if is_built_step stmt && are_built (defs_of db) then causes else NotBuilt ∷ []) ≡ causes
by_form db stmt causes tables form =
    ap (λ b. if b && are_built (defs_of db) then causes else NotBuilt ∷ []) form ∙ ap (λ b. if b then causes else NotBuilt ∷ []) tables

-- a statement that nothing is said against is done as it is bound on the catalog
pub step_is_done_on : (db : Database) (defs : Definitions) (stmt : Stmt) → defs_of db ≡ without_roots defs → are_built defs ≡ true → is_built_step stmt ≡ true → in_order (judged_of defs stmt) ≡ [] → step db stmt ≡ done db (bound_of defs stmt)
step_is_done_on db defs stmt same tables built said =
    let rest : List Cause = causes_of_rows db (bound_of (defs_of db) stmt) in
    let does : Database × Reply = effect db (bound_of (defs_of db) stmt) in
    ap (λ causes. step_by db causes does) (by_form db stmt (in_order (judged_of (defs_of db) stmt) ++ rest) (same_built db defs same tables) built)
    ∙ ap (λ causes. step_by db (causes ++ rest) does) (same_said db defs stmt same ∙ said)
    ∙ ap (done db) (same_bound db defs stmt same)

-- and nothing is said against it where nothing is said by the rows
pub none_said_on : (db : Database) (defs : Definitions) (stmt : Stmt) → defs_of db ≡ without_roots defs → are_built defs ≡ true → is_built_step stmt ≡ true → in_order (judged_of defs stmt) ≡ [] → causes_of_rows db (bound_of defs stmt) ≡ []
    → faults db stmt ≡ []
none_said_on db defs stmt same tables built said unsaid =
    let rest : List Cause = causes_of_rows db (bound_of (defs_of db) stmt) in
    by_form db stmt (in_order (judged_of (defs_of db) stmt) ++ rest) (same_built db defs same tables) built
    ∙ ap (λ causes. causes ++ rest) (same_said db defs stmt same ∙ said)
    ∙ (ap (causes_of_rows db) (same_bound db defs stmt same) ∙ unsaid)

-- the first cause decides, whatever stands behind it
pub first_decides : (db : Database) (causes rest : List Cause) (does : Database × Reply) (cause : Cause) → first_of causes ≡ Some cause → step_by db (causes ++ rest) does ≡ (db, Refused (refusal_of cause))
first_decides db [] rest does cause e = cc
first_decides db (first ∷ causes) rest does cause e = ap (λ c. (db, Refused (refusal_of c))) (some_is first cause e)

-- one that something is said against is refused for what is said first
pub step_refused_on : (db : Database) (defs : Definitions) (stmt : Stmt) (cause : Cause) → defs_of db ≡ without_roots defs → are_built defs ≡ true → is_built_step stmt ≡ true → first_of (in_order (judged_of defs stmt)) ≡ Some cause
    → step db stmt ≡ (db, Refused (refusal_of cause))
step_refused_on db defs stmt cause same tables built said =
    let rest : List Cause = causes_of_rows db (bound_of (defs_of db) stmt) in
    let does : Database × Reply = effect db (bound_of (defs_of db) stmt) in
    ap (λ causes. step_by db causes does) (by_form db stmt (in_order (judged_of (defs_of db) stmt) ++ rest) (same_built db defs same tables) built)
    ∙ first_decides db (in_order (judged_of (defs_of db) stmt)) rest does cause (ap first_of (same_said db defs stmt same) ∙ said)

-- and a form that isn't built is answered so
pub step_not_built : (db : Database) (stmt : Stmt) → is_built_step stmt ≡ false → step db stmt ≡ (db, Refused (refusal_of NotBuilt))
step_not_built db stmt built =
    let rest : List Cause = causes_of_rows db (bound_of (defs_of db) stmt) in
    let does : Database × Reply = effect db (bound_of (defs_of db) stmt) in
    ap (λ b. step_by db (if b && are_built (defs_of db) then in_order (judged_of (defs_of db) stmt) ++ rest else NotBuilt ∷ []) does) built
