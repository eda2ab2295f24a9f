-- What is said against a statement by the rows, on pages and against the tuples of an INSERT alone, and what these make of a definition.
use Rattle.std.specs.Prelude.{◌≡◌, ℕ, ◌+◌, List, [], ◌++◌, length, flat_map, Option, option_map}
use Rattle.mdc_values.specs.declared.value.Value.{Value}
use Rattle.mdc_ast.specs.declared.bound.Bound.{Bound}
use Rattle.mdc_ast.specs.declared.definition.TableDef.{TableDef}
use Rattle.mdc_ast.specs.declared.refusal.Refusal.{Refusal}
use Rattle.mdc_ast.specs.Database.{Database}
use Rattle.statement_meaning.specs.Cause.{Cause, refusal_of}
use Rattle.statement_meaning.specs.Doing.{causes_of_rows, null_causes, used_up}
use Rattle.binder.specs.Saying.{first_of}
use Rattle.store_api.specs.declared.pages.Pages.{Ghosts}
use Rattle.mdc_sound.specs.StandingTable.{pages_of}
use Rattle.mdc_sound.specs.StandsForDatabase.{PagesStandFor}
use Rattle.script_engine.specs.Ready.{IsReady}
use Rattle.script_engine.specs.declared.tables.Tables.{Tables}

-- what is said of tuples that would go into a table of this definition, whatever rows it has: nulls, and then row numbers
abbrev pub tuple_causes : TableDef → List (List Value) → List Cause
tuple_causes def tuples = flat_map (null_causes def.columns) tuples ++ used_up def.next (length tuples)

-- the refusal for what is said first, if anything is
abbrev pub first_refusal : List Cause → Option Refusal
first_refusal causes = option_map refusal_of (first_of causes)

-- on ready pages this is the refusal for what the rows say first against a statement, whichever database the pages stand for
abbrev pub IsSaidFirst : {S : Type 0} → Ghosts S → S → Tables → Bound → Option Refusal → Type 0
IsSaidFirst g s tables statement refusal =
    IsReady g s tables → (db : Database) → PagesStandFor tables.shape (pages_of g s) db → first_refusal (causes_of_rows db statement) ≡ refusal

-- on ready pages the rows say nothing against it
abbrev pub SaysNothing : {S : Type 0} → Ghosts S → S → Tables → Bound → Type 0
SaysNothing g s tables statement = IsReady g s tables → (db : Database) → PagesStandFor tables.shape (pages_of g s) db → causes_of_rows db statement ≡ []

-- the definition once so many rows were numbered
abbrev pub numbered_on : TableDef → ℕ → TableDef
numbered_on def count = record def { next = def.next + count }
