-- What is answered of a table page.
use Rattle.std.specs.Prelude.{◌≡◌, ◌≢◌, ℕ, List, Option, Some, None, Result, Ok, Err}
use Rattle.mdc_ast.specs.declared.definition.TableDef.{TableDef}
use Rattle.store_api.specs.StoreState.{zero_page}
use Rattle.table_page.specs.declared.fault.DefFault.{DefFault}
use Rattle.table_page.specs.declared.fault.DefFault.TheVariants.{Form, Memory}
use Rattle.table_page.specs.TablePage.{IsTablePageOf}

-- the page is that of no definition of table t
abbrev pub IsNoTablePage : ℕ → List ℕ → Type 0
IsNoTablePage t page = (def : TableDef) → IsTablePageOf t def page → ⊥

-- What each answer says of the page: none that it has zeros alone, a definition that it is the page of that, and `Form` that it
-- is neither. Memory is wanted only where it isn't zeros alone.
abbrev pub TellsTable : ℕ → List ℕ → Result (Option TableDef) DefFault → Type 0
TellsTable t page (Ok None) = page ≡ zero_page
TellsTable t page (Ok (Some def)) = IsTablePageOf t def page
TellsTable t page (Err Form) = (page ≢ zero_page) × IsNoTablePage t page
TellsTable t page (Err Memory) = page ≢ zero_page

-- the answer is this definition, or want of memory
abbrev pub GivesTable : TableDef → Result (Option TableDef) DefFault → Type 0
GivesTable def (Ok found) = found ≡ Some def
GivesTable def (Err fault) = fault ≡ Memory
