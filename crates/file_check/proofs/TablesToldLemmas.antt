-- Which tables are there, as their pages are looked at one after the other.
use Rattle.std.specs.Prelude.{◌≡◌, ◌<◌, ◌+◌, ◌↔◌, ℕ, List, length, Bool, true, false, not, IsTrue, slice_index_or}
use Rattle.std.proofs.Common.{refl, sym, ap, subst, ◌∙◌, arith, set, inl, inr, get_or-set_other, get_or-set_same}
use Rattle.std.proofs.lemmas.Bool.{cases_eq}
use Rattle.store_api.specs.StoreState.{page_at, zero_page}
use Rattle.table_trees.specs.ToldPages.{PageList}
use Rattle.mdc_sound.specs.TablePages.{IsTableThere}

-- a page that has more than zeros alone is that of a table
table_told : (pages : PageList) (t : ℕ) (page : List ℕ) (blank : Bool) → t < 16 → page_at pages (1 + t) ≡ page → IsTrue blank ↔ (page ≡ zero_page) → IsTrue (not blank) ↔ IsTableThere pages t
table_told pages t page true low at is = ((λ wrong. absurd (cc)), (λ there. absurd (there.1 (at ∙ is.0 refl))))
table_told pages t page false low at is = ((λ yes. (low, (λ zeros. let wrong : false ≡ true = is.1 (sym at ∙ zeros) in cc))), (λ there. refl))

-- one table more
pub tables_next : (pages : PageList) (tables : List Bool) (t : ℕ) (page : List ℕ) (blank : Bool) → length tables ≡ 16 → t < 16
    → ((x : ℕ) → x < t → IsTrue (slice_index_or tables x false) ↔ IsTableThere pages x) → page_at pages (1 + t) ≡ page → IsTrue blank ↔ (page ≡ zero_page)
    → (x : ℕ) → x < t + 1 → IsTrue (slice_index_or (set tables t (not blank)) x false) ↔ IsTableThere pages x
tables_next pages tables t page blank count low before at is x less = elim (cases_eq x t) [
  | inl here ↦
      let now : slice_index_or (set tables t (not blank)) x false ≡ not blank =
      ap (λ y. slice_index_or (set tables t (not blank)) y false) here ∙ get_or-set_same tables t (not blank) false (omega (arith, low, count)) in
      subst (λ b. IsTrue b ↔ IsTableThere pages x) (sym now) (subst (λ y. IsTrue (not blank) ↔ IsTableThere pages y) (sym here) (table_told pages t page blank low at is))
  | inr other ↦
      subst (λ b. IsTrue b ↔ IsTableThere pages x) (sym (get_or-set_other tables t x (not blank) false other)) (before x (omega (arith, less, other)))
]
