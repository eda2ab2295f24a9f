-- A page that was written over, in the list of all pages, and what a catalog has then.
use Rattle.std.proofs.Common.{◌≡◌, ◌<◌, ◌+◌, ◌∙◌, ℕ, List, [], length, set, Option, Some, None, Result, Ok, Err, inl, inr, ap, arith, sym, subst, get_or-set_other, get_or-set_same, length-set}
use Rattle.std.specs.Prelude.{IfSome, IsTrue, OnOk, slice_set}
use Rattle.std.proofs.lemmas.Bool.{cases_eq}
use Rattle.std.proofs.lemmas.List.{ext_get_or}
use Rattle.mdc_ast.specs.declared.definition.TableDef.{TableDef}
use Rattle.mdc_ast.specs.Definitions.{Definitions}
use Rattle.store_api.specs.Frame.{OnlyPage, Touches, WritesPage}
use Rattle.store_api.specs.StoreState.{page_at}
use Rattle.store_api.specs.declared.fault.StoreFault.{StoreFault}
use Rattle.store_api.specs.declared.pages.Pages.{Ghosts}
use Rattle.store_api.proofs.FrameLemmas.{holds_here}
use Rattle.mdc_ast.specs.TableLimits.{IsTableDef}
use Rattle.table_trees.specs.ToldPages.{PageList}
use Rattle.stored_catalog.specs.StoredDefinitions.{AreStored, IsStoredPlace, stored_page, with_stored}
use Rattle.stored_catalog.proofs.AroundTableLemmas.{stored_but}

module _ {S : Type 0} (g : Ghosts S) where
  -- a store that tells its pages has these bytes there, and no other page is another one
  pub written_over : (p : ℕ) (bytes : List ℕ) (old new : S) → p < length (g.state old).work → length (g.state new).work ≡ length (g.state old).work → Touches g (OnlyPage p) old new
      → WritesPage g p bytes old new → IsTrue (g.state old).is_told → (g.state new).work ≡ slice_set (g.state old).work p bytes
  written_over p bytes old new within count touched writes told =
      let was = (g.state old).work in
      ext_get_or [] (g.state new).work (set was p bytes) (count ∙ sym (length-set was p bytes)) (λ i low. elim (cases_eq i p) [
        | inl e ↦ ap (page_at (g.state new).work) e ∙ ((writes.there (page_at was p) (holds_here p told within)).bytes_are ∙ (sym (get_or-set_same was p bytes [] within) ∙ ap (page_at (set was p bytes)) (sym e)))
        | inr apart ↦ (touched.others i (page_at was i) apart (holds_here i told (omega (arith, low, count)))).bytes_are ∙ sym (get_or-set_other was p i bytes [] apart)
      ])

  -- the same where a call succeeded, and the page has this number
  pub saved : (result : Result (Unit {0}) StoreFault) (p q : ℕ) (bytes : List ℕ) (old new : S) → p ≡ q → p < length (g.state old).work → length (g.state new).work ≡ length (g.state old).work
      → Touches g (OnlyPage p) old new → OnOk result (WritesPage g p bytes old new) → OnOk result (IsTrue (g.state old).is_told → (g.state new).work ≡ slice_set (g.state old).work q bytes)
  saved (Ok x) p q bytes old new same within count touched writes = λ told. written_over p bytes old new within count touched writes told ∙ ap (λ n. slice_set (g.state old).work n bytes) same
  saved (Err e) p q bytes old new same within count touched writes = tt

-- ---- what a catalog has

-- a page that a place was written as is what the place stores
stored_there : (pages : PageList) (t : ℕ) (def : Option TableDef) → 1 + t < length pages → IfSome def (IsTableDef t) → IsStoredPlace (with_stored pages t def) t def
stored_there pages t None there limits = get_or-set_same pages (1 + t) (stored_page None) [] there
stored_there pages t (Some def) there limits = record { limits = limits; printed = get_or-set_same pages (1 + t) (stored_page (Some def)) [] there }

-- so definitions that were stored are, with this one in its place
pub saved_stored : (result : Result (Unit {0}) StoreFault) (Told : Type 0) (old new : PageList) (t : ℕ) (def now : Option TableDef) → def ≡ now → IfSome def (IsTableDef t) → OnOk result (1 + t < length old)
    → OnOk result (Told → new ≡ with_stored old t now) → OnOk result (Told → (defs : Definitions) → AreStored old defs → AreStored new (slice_set defs t def))
saved_stored (Ok x) Told old new t def now same limits there saves = λ told defs were.
    subst (λ pages. AreStored pages (slice_set defs t def)) (sym (saves told ∙ ap (with_stored old t) (sym same)))
    (stored_but old (with_stored old t def) defs t def were (λ u low apart. get_or-set_other old (1 + t) (1 + u) (stored_page def) [] (λ e. apart (omega (arith, e)))) (stored_there old t def there limits))
saved_stored (Err e) Told old new t def now same limits there saves = tt
