-- What is read of a page, judged and printed again tells which definition it is the page of.
use Rattle.std.proofs.Common.{◌≡◌, ◌↔◌, ℕ, Bool, false, IsTrue, List, sym, ap, subst, ◌∙◌}
use Rattle.mdc_ast.specs.declared.definition.TableDef.{TableDef}
use Rattle.store_api.specs.StoreState.{zero_page}
use Rattle.table_page.specs.PageAnswers.{IsNoTablePage}
use Rattle.table_page.specs.ReadingBack.{definition_in_page}
use Rattle.mdc_ast.specs.TableLimits.{IsTableDef}
use Rattle.table_page.specs.TablePage.{IsTablePageOf, table_page}
use Rattle.table_page.proofs.TablePageLemmas.{definition_back, no_blank_table}

-- a test that failed
pub refuted : (r : Bool) (P : Type 0) → IsTrue r ↔ P → r ≡ false → P → ⊥
refuted r P tells is p = absurd (cc (is, tells.1 p))

-- zeros alone are the page of no table
pub blank_is_none : (t : ℕ) (page : List ℕ) → page ≡ zero_page → IsNoTablePage t page
blank_is_none t page is = λ def p. no_blank_table t def (subst (IsTablePageOf t def) is p)

-- what was read is within the limits, if the page is that of a definition
limits_of_read : (t : ℕ) (read : TableDef) (page : List ℕ) → read ≡ definition_in_page t page → (def : TableDef) → IsTablePageOf t def page → IsTableDef read.number read
limits_of_read t read page is def p =
    subst (λ d. IsTableDef d.number d) (sym (is ∙ definition_back t def page p)) (subst (λ n. IsTableDef n def) (sym p.limits.stands) p.limits)

pub no_table-outside : (t : ℕ) (read : TableDef) (page : List ℕ) (r : Bool) → read ≡ definition_in_page t page → IsTrue r ↔ IsTableDef read.number read → r ≡ false → IsNoTablePage t page
no_table-outside t read page r is tells failed = λ def p. refuted r (IsTableDef read.number read) tells failed (limits_of_read t read page is def p)

-- and it is printed as that page
pub no_table-unprinted : (t : ℕ) (read : TableDef) (page : List ℕ) (r : Bool) → read ≡ definition_in_page t page → IsTrue r ↔ (page ≡ table_page read) → r ≡ false → IsNoTablePage t page
no_table-unprinted t read page r is tells failed = λ def p.
    refuted r (page ≡ table_page read) tells failed (p.printed ∙ ap table_page (sym (is ∙ definition_back t def page p)))

-- what was read has the number that was asked for
number_of_read : (t : ℕ) (read : TableDef) (page : List ℕ) → read ≡ definition_in_page t page → read.number ≡ t
unfolding definition_in_page
number_of_read t read page is = ap (λ def. def.number) is

-- a page that is what was read
pub IsTablePageOf-read : (t : ℕ) (read : TableDef) (page : List ℕ) → read ≡ definition_in_page t page → IsTableDef read.number read → page ≡ table_page read → IsTablePageOf t read page
IsTablePageOf-read t read page is within printed =
    record { limits = subst (λ n. IsTableDef n read) (number_of_read t read page is) within; printed = printed }

pub read_is : (t : ℕ) (read def : TableDef) (page : List ℕ) → read ≡ definition_in_page t page → IsTablePageOf t def page → read ≡ def
read_is t read def page is p = is ∙ definition_back t def page p
