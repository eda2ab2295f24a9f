-- The table pages of a database: page 1 + t is that of table t.
use Rattle.std.specs.Prelude.{◌≢◌, ◌<◌, ℕ, ◌+◌, List}
use Rattle.mdc_ast.specs.declared.definition.TableDef.{TableDef}
use Rattle.store_api.specs.StoreState.{page_at, zero_page}
use Rattle.table_page.specs.TablePage.{IsTablePageOf}
use Rattle.table_trees.specs.ToldPages.{PageList}

-- the page on which table t is
abbrev pub table_page_at : PageList → ℕ → List ℕ
table_page_at pages t = page_at pages (1 + t)

-- table t is defined so on these pages
abbrev pub DefinesTable : PageList → ℕ → TableDef → Type 0
DefinesTable pages t def = IsTablePageOf t def (table_page_at pages t)

-- there is a table t: there are 16 table pages, and its page has more than zeros
abbrev pub IsTableThere : PageList → ℕ → Type 0
IsTableThere pages t = (t < 16) × (table_page_at pages t ≢ zero_page)
