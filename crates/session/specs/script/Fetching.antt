-- Which pages come to hand with each item of a run.
use Rattle.std.specs.Prelude.{◌≡◌, ◌∷◌, ◌++◌, [], ℕ, All, List, Option, Some}
use Rattle.mdc_ast.specs.Reading.{Item, Statement}
use Rattle.mdc_ast.specs.Reading as reading
use Rattle.statement_meaning.specs.Binding.{bound_of}
use Rattle.store_api.specs.Calls.{continued}
use Rattle.store_api.specs.declared.pages.Pages.{Ghosts}
use Rattle.store_api.specs.declared.shape.Shape.{Shape}
use Rattle.table_trees.specs.ToldPages.{PageList, telling}
use Rattle.stored_catalog.specs.StoredDefinitions.{IsAnyTablePage}
use Rattle.script_engine.specs.Fetching.{FetchesForListing, FetchesForStatement}
use Rattle.script_engine.specs.Held.{HeldPages}
use Rattle.script_engine.specs.Roles.{role_of}
use Rattle.session.specs.script.Going.{Stage, end_of}

-- ---- an item

-- pages, and those of them that came to hand
pub record Logged : Type 0 where
  pub pages : PageList
  pub fetched : List ℕ

-- these of them did
abbrev pub with_log : PageList → List ℕ → Logged
with_log pages fetched = record { pages = pages; fetched = fetched }

-- they are as a store that tells both
abbrev pub logged : Ghosts Logged
logged = record {
  state = λ s. record (telling s.pages) { fetched = Some s.fetched };
  written = λ s. 0;
  disk_faults = λ s. 0;
  say_faults = λ s. 0;
  clock = λ s. 0;
  left = λ s t reopened told. ⊥;
}

-- An item brings these pages to hand, of those that are held before it. A query, EXPLAIN, a DELETE that goes by blocks and LIST BLOCKS bring
-- those that the engine says of them, another statement any, and what can't be read none.
abbrev pub BringsForItem : Shape → HeldPages → Item → List ℕ → Type 0
BringsForItem shape held (Statement stmt) pages =
    FetchesForStatement logged shape (with_log held.work []) (with_log held.work pages) held.defs held.settings (bound_of held.defs stmt)
    × FetchesForListing logged (with_log held.work []) (with_log held.work pages) held.defs (role_of stmt)
BringsForItem shape held (reading.Refused refusal) pages = pages ≡ []

-- whatever the pages are, a statement may bring any, and what can't be read none
abbrev pub BringsOnAny : HeldPages → Item → List ℕ → Type 0
BringsOnAny held (Statement stmt) pages = Unit {0}
BringsOnAny held (reading.Refused refusal) pages = pages ≡ []

-- ---- a run

-- a log went on, by some pages at its end, where it is told
pub record FetchesMore (log now : Option (List ℕ)) : Type 0 where
  pub pages : List ℕ
  pub goes_on : now ≡ continued pages log

-- an item in hand brings to hand what it may, and where none is nothing comes
abbrev pub BringsInHand : (HeldPages → Item → List ℕ → Type 0) → HeldPages → List Item → List ℕ → Type 0
BringsInHand Brings held [] pages = pages ≡ []
BringsInHand Brings held (item ∷ items) pages = Brings held item pages

-- each item brings to hand what it may of what is held then, the one in hand too, and all of them these pages, in their order
pub data BringsByItems (Brings : HeldPages → Item → List ℕ → Type 0) (in_hand : List Item) : HeldPages → List Item → List Stage → List ℕ → Type 0 where
  hand : {held : HeldPages} {pages : List ℕ} → BringsInHand Brings held in_hand pages → BringsByItems Brings in_hand held [] [] pages
  one : {held : HeldPages} {stage : Stage} {item : Item} {items : List Item} {stages : List Stage} {pages more : List ℕ}
      → Brings held item pages → BringsByItems Brings in_hand (end_of stage) items stages more → BringsByItems Brings in_hand held (item ∷ items) (stage ∷ stages) (pages ++ more)

-- a log of the pages that come to hand, where it is told, went on with what the items bring
pub record FetchesByItems (Brings : HeldPages → Item → List ℕ → Type 0) (held : HeldPages) (items in_hand : List Item) (stages : List Stage) (log now : Option (List ℕ)) : Type 0 where
  pub pages : List ℕ
  pub brings : BringsByItems Brings in_hand held items stages pages
  pub goes_on : now ≡ continued pages log

-- A run over sound pages: the log went on with table pages, as the definitions were read, and then with what the items bring.
pub record FetchesInRun (shape : Shape) (held : HeldPages) (items in_hand : List Item) (stages : List Stage) (log now : Option (List ℕ)) : Type 0 where
  pub read : List ℕ
  pub table_pages : All IsAnyTablePage read
  pub by_items : FetchesByItems (BringsForItem shape) held items in_hand stages (continued read log) now
