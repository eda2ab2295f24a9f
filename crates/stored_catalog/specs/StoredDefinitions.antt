-- The definitions of a database's tables on its table pages (docs/FORMAT.md, "Table pages"): page 1 + t has that of table t, and
-- zeros alone where there is no table.
use Rattle.std.specs.Prelude.{◌≡◌, ◌≢◌, ◌≤◌, ◌<◌, ◌⊎◌, ℕ, ◌+◌, List, [], ◌∷◌, length, Contains, Option, Some, None, slice_set}
use Rattle.std.specs.List.{AllZip, range_with_len}
use Rattle.std.specs.Option.{option_or}
use Rattle.mdc_ast.specs.declared.definition.IndexDef.{IndexDef}
use Rattle.mdc_ast.specs.declared.definition.TableDef.{TableDef}
use Rattle.mdc_ast.specs.Definitions.{Definitions, def_at, index_place_of}
use Rattle.store_api.specs.Frame.{HoldsPage}
use Rattle.store_api.specs.StoreState.{zero_page}
use Rattle.store_api.specs.declared.fault.Damage.{Damage}
use Rattle.store_api.specs.declared.fault.StoreFault.{StoreFault}
use Rattle.store_api.specs.declared.fault.StoreFault.TheVariants.{Damaged}
use Rattle.store_api.specs.declared.pages.Pages.{Ghosts}
use Rattle.table_page.specs.PageAnswers.{IsNoTablePage}
use Rattle.mdc_ast.specs.TableLimits.{IsTableDef}
use Rattle.table_page.specs.TablePage.{IsTablePageOf, table_page}
use Rattle.table_trees.specs.ToldPages.{PageList}
use Rattle.mdc_sound.specs.TablePages.{DefinesTable, table_page_at}

-- what stands in a place of a catalog is what table page t has
abbrev pub IsStoredPlace : PageList → ℕ → Option TableDef → Type 0
IsStoredPlace pages t None = table_page_at pages t ≡ zero_page
IsStoredPlace pages t (Some def) = DefinesTable pages t def

-- so it is of each of the 16 places
abbrev pub AreStored : PageList → Definitions → Type 0
AreStored pages defs = AllZip (IsStoredPlace pages) (range_with_len 0 16) defs

-- what stands in place t may be written as its page, whatever the pages are
abbrev pub IsWithinLimits : ℕ → Option TableDef → Type 0
IsWithinLimits t None = Unit {0}
IsWithinLimits t (Some def) = IsTableDef t def

-- so it is of each of the 16 places
abbrev pub AreWithinLimits : Definitions → Type 0
AreWithinLimits defs = AllZip IsWithinLimits (range_with_len 0 16) defs

-- the page that a place of a catalog is written as
abbrev pub stored_page : Option TableDef → List ℕ
stored_page None = zero_page
stored_page (Some def) = table_page def

-- the pages, with this in place t
abbrev pub with_stored : PageList → ℕ → Option TableDef → PageList
with_stored pages t def = slice_set pages (1 + t) (stored_page def)

-- one of the 16 table pages
abbrev pub IsAnyTablePage : ℕ → Type 0
IsAnyTablePage p = (1 ≤ p) × (p ≤ 16)

-- rule 1: there are so few pages that table page t isn't there
pub record LacksTablePage {S : Type 0} (g : Ghosts S) (s : S) (t : ℕ) (damage : Damage) : Type 0 where
  pub page : damage.page ≡ 0
  pub rule : damage.rule ≡ 1
  pub short : length (g.state s).work ≤ 1 + t

-- rule 3: table page t, where it is told, has neither zeros alone nor a definition
pub record IsNoDefinition {S : Type 0} (g : Ghosts S) (s : S) (t : ℕ) (damage : Damage) : Type 0 where
  pub page : damage.page ≡ 1 + t
  pub rule : damage.rule ≡ 3
  pub no_table : (bytes : List ℕ) → HoldsPage g s (1 + t) bytes → (bytes ≢ zero_page) × IsNoTablePage t bytes

-- table page t breaks one of these
abbrev pub BreaksTablePage : {S : Type 0} → Ghosts S → S → ℕ → Damage → Type 0
BreaksTablePage g s t damage = LacksTablePage g s t damage ⊎ IsNoDefinition g s t damage

-- two definitions have record indexes of one name
pub record HaveOneIndexName (a b : TableDef) : Type 0 where
  pub index : IndexDef
  pub other : IndexDef
  pub in_first : Contains a.indexes index
  pub in_second : Contains b.indexes other
  pub same : index.name ≡ other.name

-- two definitions have one name, or a record index each of one name
abbrev pub ShareAName : TableDef → TableDef → Type 0
ShareAName a b = (a.name ≡ b.name) ⊎ HaveOneIndexName a b

-- these are the pages of tables t and u, which share a name
pub record HaveOneName (t u : ℕ) (first second : List ℕ) : Type 0 where
  pub def : TableDef
  pub other : TableDef
  pub is_first : IsTablePageOf t def first
  pub is_second : IsTablePageOf u other second
  pub same : ShareAName def other

-- rule 3: table page t and a later one, where they are told, have definitions that share a name
pub record IsNameTwice {S : Type 0} (g : Ghosts S) (s : S) (t : ℕ) (damage : Damage) : Type 0 where
  pub page : damage.page ≡ 1 + t
  pub rule : damage.rule ≡ 3
  pub later : ℕ
  pub behind : t < later
  pub within : later < 16
  pub twice : (first second : List ℕ) → HoldsPage g s (1 + t) first → HoldsPage g s (1 + later) second → HaveOneName t later first second

-- one of the 16 does, or it is the lower of two that share a name
abbrev pub BreaksTablePages : {S : Type 0} → Ghosts S → S → Damage → Type 0
BreaksTablePages g s damage = (t : ℕ) × (t < 16) × (BreaksTablePage g s t damage ⊎ IsNameTwice g s t damage)

-- the fault names, by rule 3, the table page of a definition in the list that shares a name with this one
pub record IsNameTaken (defs : Definitions) (def : Option TableDef) (fault : StoreFault) : Type 0 where
  pub place : ℕ
  pub holder : TableDef
  pub mine : TableDef
  pub stands : def_at defs place ≡ Some holder
  pub is_mine : def ≡ Some mine
  pub same : ShareAName holder mine
  pub names : fault ≡ Damaged (record { page = 1 + place; rule = 3 })

-- the first of these record indexes whose name one in the list has: where that one is
abbrev pub taken_index : Definitions → List IndexDef → Option (ℕ × ℕ)
taken_index defs [] = None
taken_index defs (index ∷ indexes) = option_or (index_place_of defs index.name) (taken_index defs indexes)
