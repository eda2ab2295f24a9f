-- The pages of a cache that is ordered by their last use, as they are in their boxes.
use Rattle.std.proofs.Common.{◌≡◌, ◌<◌, ◌-◌, ℕ, true, false, nat_eq, is_some, List, [], ◌∷◌, take, Box, Global, Option, Some, None, refl, ap, sym, ◌∙◌, subst, IsTrue}
use Rattle.std.proofs.lemmas.Bool.Decides.{Decides-eqb}
use Rattle.std.proofs.lemmas.List.{take-map}
use Rattle.std.proofs.lemmas.List.Elements.{All-cons, All-head, All-tail, All-take}
use Rattle.std.proofs.lemmas.Map.Views.{All-map-remove_entry}
use Rattle.std.proofs.lemmas.Map.Made.{is_some-lookup}
use Rattle.std.specs.List.{All, list_any}
use Rattle.std.specs.Map.{lookup, lookup_entry, remove_entry, keys_of, set_value}
use Rattle.std.specs.Option.{option_map_or}
use Rattle.lru.specs.LruCache.{LruCache, promoted, put_entries}
use Rattle.lru.proofs.Pairs.{promoted_absent}
use Rattle.redo_journal.specs.Images.{Numbered}
use Rattle.page_file.specs.Layout.{home_page}
use Rattle.store_api.proofs.BoxesLemmas.{Boxed}
use Rattle.redo_journal.specs.Images.{unboxed}
use Rattle.page_store.specs.Cached.{AreHome, Leads}

-- the page under its number
abbrev seen : Boxed → ℕ × List ℕ
seen entry = (entry.0, entry.1.value)

-- what holds of each page, holds of the one that is found, and its number is the one that was looked for
entry_found : (P : ℕ × List ℕ → Type 0) (p : ℕ) (es : List Boxed) (e : Boxed) → lookup_entry (nat_eq p) es ≡ Some e → All P (unboxed es) → P (seen e) × (e.0 ≡ p)
entry_found P p [] e h all = cc
entry_found P p (f ∷ es) e h all = (elim (nat_eq p f.0) as (λ y. nat_eq p f.0 ≡ y → P (seen e) × (e.0 ≡ p)) [
  | true ↦ λ t.
      let found = rw t at h in
      let same : f ≡ e = cc in
      subst (λ (x : Boxed). P (seen x) × (x.0 ≡ p)) same (All-head P (seen f) (unboxed es) all, sym ((Decides-eqb p f.0).0 t))
  | false ↦ λ t. entry_found P p es e (rw t at h) (All-tail P (seen f) (unboxed es) all)
]) refl

all_promoted : (P : ℕ × List ℕ → Type 0) (p : ℕ) (es : List Boxed) (o : Option Boxed) → lookup_entry (nat_eq p) es ≡ o → All P (unboxed es)
    → All P (unboxed (option_map_or (λ e. e ∷ remove_entry (nat_eq p) es) o es))
all_promoted P p es None h all = all
all_promoted P p es (Some e) h all =
    All-cons P (seen e) (unboxed (remove_entry (nat_eq p) es)) (entry_found P p es e h all).0 (All-map-remove_entry (nat_eq p) seen P es all)

-- what holds of each page, still does once one has gone to the front
pub All-promoted : (P : ℕ × List ℕ → Type 0) (p : ℕ) (es : List Boxed) → All P (unboxed es) → All P (unboxed (promoted (nat_eq p) es))
All-promoted P p es all = all_promoted P p es (lookup_entry (nat_eq p) es) refl all

-- a page that is here is found with its number
here : (p : ℕ) (es : List Boxed) → is_some (lookup (nat_eq p) es) ≡ true → (e : Boxed) × (lookup_entry (nat_eq p) es ≡ Some e)
here p [] h = cc
here p (f ∷ es) h = (elim (nat_eq p f.0) as (λ y. nat_eq p f.0 ≡ y → (e : Boxed) × (lookup_entry (nat_eq p) (f ∷ es) ≡ Some e)) [
  | true ↦ λ t. (f, rw t refl)
  | false ↦ λ t. let rest = here p es (rw t at h) in (rest.0, rw t rest.1)
]) refl

-- a page that is here goes to the front, and what holds of each page holds of it
pub promoted_leads : (P : ℕ × List ℕ → Type 0) (p : ℕ) (es : List Boxed) → is_some (lookup (nat_eq p) es) ≡ true → All P (unboxed es)
    → (page : List ℕ) × P (p, page) × Leads p page (unboxed (promoted (nat_eq p) es))
promoted_leads P p es h all =
    let at = here p es h in
    let found = entry_found P p es at.0 at.1 all in (
      at.0.1.value,
      subst (λ n. P (n, at.0.1.value)) found.1 found.0,
      (unboxed (remove_entry (nat_eq p) es), rw at.1 (ap (λ n. (n, at.0.1.value) ∷ unboxed (remove_entry (nat_eq p) es)) found.1)),
    )

module _ (p : ℕ) (cache : LruCache ℕ (Box (List ℕ) Global)) (box : Box (List ℕ) Global) where
  abbrev after : Option Boxed → List Boxed
  after o = option_map_or (λ e. (e.0, box) ∷ remove_entry (nat_eq p) cache.entries) o ((p, box) ∷ take (cache.cap - 1) cache.entries)

  put_at : (o : Option Boxed) → lookup_entry (nat_eq p) cache.entries ≡ o → Leads p (box.value) (unboxed (after o))
  put_at None h = (unboxed (take (cache.cap - 1) cache.entries), refl)
  put_at (Some e) h =
      let found : Unit {0} × (e.0 ≡ p) = entry_found (λ _. Unit {0}) p cache.entries e h (λ _ _ _. tt) in
      (unboxed (remove_entry (nat_eq p) cache.entries), ap (λ n. (n, box.value) ∷ unboxed (remove_entry (nat_eq p) cache.entries)) found.1)

  -- a page that is put in comes first
  pub put_leads : Leads p (box.value) (unboxed (put_entries nat_eq cache p box))
  put_leads = put_at (lookup_entry (nat_eq p) cache.entries) refl

  all_put : (P : ℕ × List ℕ → Type 0) (o : Option Boxed) → lookup_entry (nat_eq p) cache.entries ≡ o → P (p, box.value) → All P (unboxed cache.entries) → All P (unboxed (after o))
  all_put P None h is all =
      All-cons P (p, box.value) (unboxed (take (cache.cap - 1) cache.entries)) is (subst (All P) (take-map seen (cache.cap - 1) cache.entries) (All-take P (cache.cap - 1) (unboxed cache.entries) all))
  all_put P (Some e) h is all =
      let found = entry_found P p cache.entries e h all in
      All-cons P (e.0, box.value) (unboxed (remove_entry (nat_eq p) cache.entries)) (subst (λ n. P (n, box.value)) (sym found.1) is) (All-map-remove_entry (nat_eq p) seen P cache.entries all)

  -- what holds of each page and of the one that is put in, holds of each then
  pub All-put : (P : ℕ × List ℕ → Type 0) → P (p, box.value) → All P (unboxed cache.entries) → All P (unboxed (put_entries nat_eq cache p box))
  All-put P is all = all_put P (lookup_entry (nat_eq p) cache.entries) refl is all

-- the page is the home page of its number, which is below the count
abbrev IsHome : List ℕ → ℕ → ℕ × List ℕ → Type 0
IsHome file count entry = (entry.0 < count) × (entry.1 ≡ home_page file entry.0)

-- clean pages stay clean once one has gone to the front
pub promoted_home : (file : List ℕ) (count p : ℕ) (es : List Boxed) (old : Numbered) → unboxed es ≡ old → AreHome file count old → AreHome file count (unboxed (promoted (nat_eq p) es))
promoted_home file count p es old is home = All-promoted (IsHome file count) p es (subst (AreHome file count) (sym is) home)

-- a clean page that is here goes to the front
pub promoted_leads_home : (file : List ℕ) (count p : ℕ) (es : List Boxed) (old : Numbered) → is_some (lookup (nat_eq p) es) ≡ true → unboxed es ≡ old → AreHome file count old
    → Leads p (home_page file p) (unboxed (promoted (nat_eq p) es))
promoted_leads_home file count p es old here is home =
    let led = promoted_leads (IsHome file count) p es here (subst (AreHome file count) (sym is) home) in
    subst (λ page. Leads p page (unboxed (promoted (nat_eq p) es))) led.1.1 led.2

-- clean pages stay clean once a clean page is put in
pub put_home : (file : List ℕ) (count p : ℕ) (cache : LruCache ℕ (Box (List ℕ) Global)) (box : Box (List ℕ) Global) → p < count → box.value ≡ home_page file p
    → AreHome file count (unboxed cache.entries) → AreHome file count (unboxed (put_entries nat_eq cache p box))
put_home file count p cache box lt is home = All-put p cache box (IsHome file count) (lt, is) home

-- where a page isn't here, none goes to the front
pub promoted-absent : (p : ℕ) (cache : LruCache ℕ (Box (List ℕ) Global)) (old : Numbered) → unboxed cache.entries ≡ old → is_some (lookup (nat_eq p) cache.entries) ≡ false
    → unboxed (promoted (nat_eq p) cache.entries) ≡ old
promoted-absent p cache old is absent = ap unboxed (promoted_absent nat_eq cache p absent).1 ∙ is

-- pages have the same numbers in their boxes
pub keys_of-unboxed : (es : List Boxed) → keys_of (unboxed es) ≡ keys_of es
keys_of-unboxed [] = refl
keys_of-unboxed (e ∷ es) = ap (λ ks. e.0 ∷ ks) (keys_of-unboxed es)

-- a box that is put in the place of another
pub unboxed-set_value : (p : ℕ) (es : List Boxed) (box : Box (List ℕ) Global) → unboxed (set_value (nat_eq p) es box) ≡ set_value (nat_eq p) (unboxed es) box.value
unboxed-set_value p [] box = refl
unboxed-set_value p (e ∷ es) box = (elim (nat_eq p e.0) as (λ y. nat_eq p e.0 ≡ y → unboxed (set_value (nat_eq p) (e ∷ es) box) ≡ set_value (nat_eq p) (unboxed (e ∷ es)) box.value) [
  | true ↦ λ t. rw t refl
  | false ↦ λ t. rw (t, unboxed-set_value p es box) refl
]) refl

-- a page that isn't here is put nowhere
pub set_value-absent : (p : ℕ) (es : List Boxed) (page : List ℕ) → lookup (nat_eq p) es ≡ None → set_value (nat_eq p) (unboxed es) page ≡ unboxed es
set_value-absent p [] page absent = refl
set_value-absent p (e ∷ es) page absent = (elim (nat_eq p e.0) as (λ y. nat_eq p e.0 ≡ y → set_value (nat_eq p) (unboxed (e ∷ es)) page ≡ unboxed (e ∷ es)) [
  | true ↦ λ t. let here = rw t at absent in cc
  | false ↦ λ t. rw (t, set_value-absent p es page (rw t at absent)) refl
]) refl

-- a page that isn't found isn't among the pages
pub not_among : (p : ℕ) (es : List Boxed) (old : Numbered) → unboxed es ≡ old → is_some (lookup (nat_eq p) es) ≡ false → IsTrue (list_any (nat_eq p) (keys_of old)) → ⊥
not_among p es old is absent among =
    let found : is_some (lookup (nat_eq p) es) ≡ list_any (nat_eq p) (keys_of old) =
    is_some-lookup (nat_eq p) es ∙ ap (list_any (nat_eq p)) (sym (keys_of-unboxed es) ∙ ap keys_of is) in
    cc
