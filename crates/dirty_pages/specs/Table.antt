-- Pages in memory under their numbers.
pub use Rattle.store_api.specs.NumberedPages.{Numbered, AreRising, unboxed}
use Rattle.std.specs.Prelude.{◌≡◌, ℕ, zero, suc, List, [], ◌∷◌, ◌++◌, Option, Some, None, nat_eq, slice_get, Box}
use Rattle.std.specs.List.{IsDistinct}
use Rattle.std.specs.Map.{keys_of, lookup, set_value}
use Rattle.std.specs.declared.alloc.Global.{Global}

-- no number comes twice, and for each the index has the place of its page
pub record IsIndexed (places : List ℕ) (pages : Numbered) : Type 0 where
  pub distinct : IsDistinct nat_eq (keys_of pages)
  pub placed : (i : ℕ) (page : ℕ × List ℕ) → slice_get pages i ≡ Some page → slice_get places page.0 ≡ Some i

-- these bytes for the page at a place
abbrev pub with_page : Numbered → ℕ → List ℕ → Numbered
with_page [] place bytes = []
with_page (page ∷ pages) zero bytes = (page.0, bytes) ∷ pages
with_page (page ∷ pages) (suc place) bytes = page ∷ with_page pages place bytes

-- a page lies at a place, and what is put there is put under its number
pub record LiesAt (pages : Numbered) (p place : ℕ) : Type 0 where
  pub page : List ℕ
  pub there : slice_get pages place ≡ Some (p, page)
  pub found : lookup (nat_eq p) pages ≡ Some page
  pub put : (bytes : List ℕ) → with_page pages place bytes ≡ set_value (nat_eq p) pages bytes

-- the place of the page of a number, or nothing where it isn't here
abbrev pub IsPlace : Numbered → ℕ → Option ℕ → Type 0
IsPlace pages p None = lookup (nat_eq p) pages ≡ None
IsPlace pages p (Some place) = LiesAt pages p place

-- the last page was taken away, and none has its number then
abbrev pub Pops : Numbered → Option (ℕ × Box (List ℕ) Global) → Numbered → Type 0
Pops old None new = (old ≡ []) × (new ≡ [])
Pops old (Some entry) new = (old ≡ new ++ (entry.0, entry.1.value) ∷ []) × (lookup (nat_eq entry.0) new ≡ None)
