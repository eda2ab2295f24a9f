-- A table page that was made that of its definition with another next row number, in the list of all pages, and what a catalog has
-- then.
use Rattle.std.proofs.Common.{◌≡◌, ◌<◌, ◌+◌, ◌∙◌, ℕ, List, [], length, set, Option, Some, Result, Ok, Err, OnOk, ap, arith, sym, subst, get_or-set_other, get_or-set_same}
use Rattle.std.specs.Prelude.{IsTrue, slice_set}
use Rattle.std.proofs.lemmas.Option.{same_Some}
use Rattle.mdc_ast.specs.declared.definition.TableDef.{TableDef}
use Rattle.mdc_ast.specs.Definitions.{Definitions, def_at}
use Rattle.store_api.specs.Calls.{Edits}
use Rattle.store_api.specs.Frame.{OnlyPage, Touches}
use Rattle.store_api.specs.StoreState.{StoreState, page_at, seen}
use Rattle.store_api.specs.declared.fault.StoreFault.{StoreFault}
use Rattle.store_api.specs.declared.pages.Pages.{Ghosts}
use Rattle.table_page.specs.TablePage.{IsTablePageOf, table_page}
use Rattle.table_page.proofs.NumberingLemmas.{numbered_from}
use Rattle.table_trees.specs.ToldPages.{PageList}
use Rattle.mdc_sound.specs.TablePages.{DefinesTable, table_page_at}
use Rattle.stored_catalog.specs.StoredDefinitions.{AreStored, with_stored}
use Rattle.stored_catalog.proofs.AroundTableLemmas.{stored_but}
use Rattle.stored_catalog.proofs.LeftDefinitionsLemmas.{stored_at}
use Rattle.stored_catalog.proofs.SavingLemmas.{written_over}

-- a page that was that of a definition is that of it with this next row number
abbrev pub NumbersPage : ℕ → List ℕ → List ℕ → Type 0
NumbersPage next was is = (t : ℕ) (def : TableDef) → IsTablePageOf t def was → IsTablePageOf t (numbered_from def next) is

-- ---- the page

-- a page that was edited is what its borrower left
edited_page : (p : ℕ) (bytes : List ℕ) (old new : StoreState) → Edits p bytes old new → p < length old.work → IsTrue old.is_told → page_at new.work p ≡ bytes
edited_page p bytes old new edits within told =
    ap (λ (s : StoreState). page_at s.work p) edits ∙ (ap (λ b. page_at (seen b (set old.work p bytes)) p) told ∙ get_or-set_same old.work p bytes [] within)

-- it has the number that its borrower gave it
pub edited_number : (p next : ℕ) (was bytes : List ℕ) (old new : StoreState) → Edits p bytes old new → p < length old.work → (IsTrue old.is_told → was ≡ page_at old.work p) → NumbersPage next was bytes
    → IsTrue old.is_told → NumbersPage next (page_at old.work p) (page_at new.work p)
edited_number p next was bytes old new edits within lent numbers told t def is =
    subst (IsTablePageOf t (numbered_from def next)) (sym (edited_page p bytes old new edits within told)) (numbers t def (subst (IsTablePageOf t def) (sym (lent told)) is))

-- where a call succeeded, the table whose page this is has the number
pub numbered_there : (result : Result (Unit {0}) StoreFault) (Told : Type 0) (old new : PageList) (p t next : ℕ) → p ≡ 1 + t → OnOk result (Told → NumbersPage next (page_at old p) (page_at new p))
    → OnOk result (Told → (def : TableDef) → DefinesTable old t def → DefinesTable new t (numbered_from def next))
numbered_there (Ok x) Told old new p t next same numbers = λ told def is. subst (λ (q : ℕ). NumbersPage next (page_at old q) (page_at new q)) same (numbers told) t def is
numbered_there (Err e) Told old new p t next same numbers = tt

-- ---- all pages

module _ {S : Type 0} (g : Ghosts S) (t : ℕ) (place : Option TableDef) (found : TableDef) (old new : S) (is_found : place ≡ Some found) (count : length (g.state new).work ≡ length (g.state old).work)
    (touched : Touches g (OnlyPage (1 + t)) old new) (stays_told : (g.state new).is_told ≡ (g.state old).is_told) where
  -- the page of table t has the number of the definition that was found
  abbrev pub HasNumber : Type 0
  HasNumber = IsTrue (g.state old).is_told → (def : TableDef) → DefinesTable (g.state old).work t def → DefinesTable (g.state new).work t (numbered_from def found.next)

  -- so it is that of this definition, if it was that of it with some number
  defined_now : HasNumber → IsTrue (g.state old).is_told → (def : TableDef) → place ≡ Some def → (n : ℕ) → DefinesTable (g.state old).work t (numbered_from def n) → DefinesTable (g.state new).work t def
  defined_now numbers told def is n was =
      let same : found ≡ def = same_Some found def (sym is_found ∙ is) in
      let named : numbered_from def found.next ≡ def = ap (λ (d : TableDef). numbered_from def d.next) same in
      subst (DefinesTable (g.state new).work t) named (numbers told (numbered_from def n) was)

  -- no other page is another one
  all_pages : 1 + t < length (g.state old).work → HasNumber → IsTrue (g.state old).is_told → (def : TableDef) → place ≡ Some def → (n : ℕ) → DefinesTable (g.state old).work t (numbered_from def n)
      → (g.state new).work ≡ with_stored (g.state old).work t (Some def)
  all_pages there numbers told def is n was =
      let now = defined_now numbers told def is n was in
      written_over g (1 + t) (table_page def) old new there count touched
      (record { there = λ bytes holds. record { is_told = stays_told ∙ holds.is_told; within = omega (arith, holds.within, count); bytes_are = now.printed } }) told

  -- where a call succeeded, its page is written so
  pub saved_next : (result : Result (Unit {0}) StoreFault) → OnOk result (1 + t < length (g.state old).work) → OnOk result HasNumber
      → OnOk result (IsTrue (g.state old).is_told → (def : TableDef) → place ≡ Some def → (n : ℕ) → DefinesTable (g.state old).work t (numbered_from def n)
      → (g.state new).work ≡ with_stored (g.state old).work t (Some def))
  saved_next (Ok x) there numbers = all_pages there numbers
  saved_next (Err e) there numbers = tt

  -- and definitions that were stored are, with this one in its place
  pub stored_next : (result : Result (Unit {0}) StoreFault) → OnOk result (1 + t < length (g.state old).work) → OnOk result HasNumber
      → OnOk result (IsTrue (g.state old).is_told → (def : TableDef) → place ≡ Some def → (n : ℕ) (defs : Definitions) → def_at defs t ≡ Some (numbered_from def n)
      → AreStored (g.state old).work defs → AreStored (g.state new).work (slice_set defs t (Some def)))
  stored_next (Ok x) there numbers = λ told def is n defs at stored.
      let was = stored_at (g.state old).work defs t (numbered_from def n) stored at in
      let same = all_pages there numbers told def is n was in
      stored_but (g.state old).work (g.state new).work defs t (Some def) stored
      (λ u low apart. ap (λ (pages : PageList). table_page_at pages u) same ∙ get_or-set_other (g.state old).work (1 + t) (1 + u) (table_page def) [] (λ e. apart (omega (arith, e))))
      (defined_now numbers told def is n was)
  stored_next (Err e) there numbers = tt
