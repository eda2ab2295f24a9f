-- What judging the table pages says: which of them break their rule by themselves, and which tables share a name.
use Rattle.std.specs.Prelude.{Bool, Contains, List, MatchBool, MatchOption, None, Option, Some, [], false, if◌then◌else◌, map, ℕ, ◌++◌, ◌+◌, ◌||◌, ◌∷◌, ◌≡◌, ◌≢◌, ◌⊎◌}
use Rattle.std.specs.List.{AllByRecursion, list_any}
use Rattle.mdc_ast.specs.declared.definition.IndexDef.{IndexDef}
use Rattle.mdc_ast.specs.declared.definition.TableDef.{TableDef}
use Rattle.mdc_ast.specs.declared.name.Name.{Name}
use Rattle.mdc_ast.specs.Definitions.{Definitions, is_same}
use Rattle.store_api.specs.StoreState.{zero_page}
use Rattle.store_api.specs.declared.shape.Shape.{Shape}
use Rattle.extent_map.specs.Owners.{IsExtentPage}
use Rattle.extent_map.specs.declared.kind.Kind.{Kind}
use Rattle.stored_catalog.specs.StoredDefinitions.{AreWithinLimits, IsStoredPlace, IsWithinLimits}
use Rattle.table_page.specs.PageAnswers.{IsNoTablePage}
use Rattle.table_trees.specs.TableTrees.{TreePlace, tree_places}
use Rattle.table_trees.specs.ToldPages.{PageList}
use Rattle.mdc_sound.specs.Breaks.{BreaksRule, ShowsExtentOf}
use Rattle.mdc_sound.specs.SpaceRules.{IsIndexPage, IsMapSound, IsRootSound}
use Rattle.mdc_sound.specs.TablePages.{DefinesTable, table_page_at}
use Rattle.file_check.specs.Judging.{HoldsUnbroken, IsLowestBreak, Judges}
use Rattle.file_check.specs.Known.{AreDefinitionsSound, IsDefinitionSound}
use Rattle.file_check.specs.declared.definitions.JudgedPage.{JudgedPage}
use Rattle.file_check.specs.declared.definitions.PageForm.{PageForm}
use Rattle.file_check.specs.declared.definitions.PageForm.TheVariants.{Formed, Formless}
use Rattle.file_check.specs.declared.definitions.TablePages.{TablePages}
use Rattle.file_check.specs.declared.definitions.TablePages.TheVariants.{Sound, Broken}

-- ---- pages that break it

-- the first two rules hold
abbrev pub HasOwners : Shape → PageList → Type 0
HasOwners shape pages = IsRootSound shape pages × (owners : List Kind) × IsMapSound shape pages owners

-- ---- roots

-- a page lies in no extent, or the extent map shows that its extent isn't one of trees
abbrev pub IsNoRootPage : Shape → PageList → ℕ → Type 0
IsNoRootPage shape pages p = (IsExtentPage shape p → ⊥) ⊎ ((owners : List Kind) × ShowsExtentOf shape pages owners p × (IsIndexPage shape owners p → ⊥))

-- a page may be a root: its extent is one of trees, and the extent map shows nothing else
pub record IsRootPage (shape : Shape) (pages : PageList) (owners : List Kind) (p : ℕ) : Type 0 where
  pub page : IsIndexPage shape owners p
  pub shown : IsNoRootPage shape pages p → ⊥

-- each of these pages may be a root, or one of them may not
abbrev pub JudgesRoots : Shape → PageList → List Kind → List ℕ → Bool → Type 0
JudgesRoots shape pages owners roots good =
    MatchBool good (AllByRecursion (IsRootPage shape pages owners) roots) ((p : ℕ) × Contains roots p × IsNoRootPage shape pages p)

-- the roots of the trees of a table
abbrev pub tree_roots : TableDef → List ℕ
tree_roots def = def.roots.map ∷ def.roots.composite ∷ def.roots.dims ++ map (λ index. index.root) def.indexes

-- table t has a root that may be none
pub record HasWrongRoot (shape : Shape) (pages : PageList) (t : ℕ) : Type 0 where
  pub def : TableDef
  pub defines : DefinesTable pages t def
  pub place : TreePlace
  pub is_its : Contains (tree_places def) place
  pub wrong : IsNoRootPage shape pages place.root

-- ---- one table page

-- table page t has neither zeros alone nor a definition
abbrev pub IsFormless : PageList → ℕ → Type 0
IsFormless pages t = (table_page_at pages t ≢ zero_page) × IsNoTablePage t (table_page_at pages t)

-- this is what stands on table page t
abbrev pub HasForm : PageList → ℕ → PageForm → Type 0
HasForm pages t (Formed def) = IsStoredPlace pages t def
HasForm pages t Formless = IsFormless pages t

-- a definition that was read may be written to its page
abbrev pub IsFormWithinLimits : ℕ → PageForm → Type 0
IsFormWithinLimits t (Formed def) = IsWithinLimits t def
IsFormWithinLimits t Formless = Unit {0}

-- page p is that of table t, and breaks the rule whatever the other table pages are
abbrev pub BreaksTableAlone : Shape → PageList → ℕ → ℕ → Type 0
BreaksTableAlone shape pages t p = (p ≡ 1 + t) × (IsFormless pages t ⊎ HasWrongRoot shape pages t)

-- this is the definition of table t, if it has one
abbrev pub IsDefinitionOf : PageList → ℕ → Option TableDef → Type 0
IsDefinitionOf pages t def = MatchOption def (IsNoTablePage t (table_page_at pages t)) (DefinesTable pages t)

-- what table page t defines, and that it is sound or breaks the rule
pub record JudgesTablePage (shape : Shape) (pages : PageList) (owners : List Kind) (t : ℕ) (page : JudgedPage) : Type 0 where
  pub defines : IsDefinitionOf pages t page.def
  pub judged : Judges (IsDefinitionSound shape pages owners t page.def) (BreaksTableAlone shape pages t) page.broken

-- ---- names

-- an index has this name
abbrev pub has_index_named : List IndexDef → Name → Bool
has_index_named indexes name = list_any (λ index. is_same name index.name) indexes

-- two tables have one name, or an index of each has one
abbrev pub share_names : TableDef → TableDef → Bool
share_names a b = is_same a.name b.name || list_any (λ index. has_index_named b.indexes index.name) a.indexes

-- the same where one of them may not be there
abbrev pub shares_with : TableDef → Option TableDef → Bool
shares_with a None = false
shares_with a (Some b) = share_names a b

-- a table, if it is there, shares a name with one of the later ones
abbrev pub shares_later : Option TableDef → Definitions → Bool
shares_later None later = false
shares_later (Some def) later = list_any (shares_with def) later

-- the lowest page of a table that does, where the first of these is on page p
abbrev pub first_shared : ℕ → Definitions → Option ℕ
first_shared p [] = None
first_shared p (def ∷ later) = if shares_later def later then Some p else first_shared (p + 1) later

-- ---- what is answered

-- the definitions of all pages, and rule 3 holds of them; or the lowest page that breaks it
abbrev pub JudgesTablePages : Shape → PageList → List Kind → TablePages → Type 0
JudgesTablePages shape pages owners (Sound defs) = HoldsUnbroken (AreDefinitionsSound shape pages owners defs.items) (BreaksRule shape pages 3)
JudgesTablePages shape pages owners (Broken page) = IsLowestBreak (BreaksRule shape pages 3) page

-- the definitions may be written to their pages, told or not
abbrev pub AreDefsWithinLimits : TablePages → Type 0
AreDefsWithinLimits (Sound defs) = AreWithinLimits defs.items
AreDefsWithinLimits (Broken page) = Unit {0}
