-- What is told of the map: one list of owners, which stays where its pages stay, and changes extent by extent.
use Rattle.std.proofs.Common.{◌≡◌, ◌≢◌, ◌<◌, ◌≤◌, ◌+◌, ◌/◌, ℕ, List, length, set, Option, Some, inl, inr, refl, ap, sym, subst, ◌∙◌, arith, get_or-set_other, get_or-set_same, length-set}
use Rattle.std.proofs.lemmas.Bool.{cases_eq}
use Rattle.std.proofs.lemmas.Option.{same_Some}
use Rattle.store_api.specs.Extents.{map_pages, first_page_of}
use Rattle.store_api.specs.Frame.{HoldsPage, PatchesPage, Touches, OnlyPage}
use Rattle.store_api.specs.RunsOverPages.{RunsOverPages}
use Rattle.store_api.specs.StoreState.{patched}
use Rattle.store_api.specs.declared.fault.Damage.{Damage}
use Rattle.store_api.specs.declared.fault.StoreFault.{StoreFault}
use Rattle.store_api.specs.declared.pages.Pages.{Ghosts}
use Rattle.store_api.specs.declared.shape.Shape.{Shape}
use Rattle.store_api.proofs.FrameLemmas.{holds_along}
use Rattle.extent_map.specs.Kinds.{kind_bytes, IsKindOf}
use Rattle.extent_map.specs.Map.{HoldsMap, HoldsMapPage, IsMapPage, map_page, map_page_of, entry_of, entry_place}
use Rattle.extent_map.specs.Owners.{owner_of}
use Rattle.extent_map.specs.declared.kind.Kind.{Kind}
use Rattle.extent_map.specs.declared.kind.Kind.TheVariants.{Free}
use Rattle.extent_map.proofs.MapLemmas.{entry_of-map_page, patched-map_page, map_page-set_other}

-- the page of an extent is one of the map
pub on_map : (cap e : ℕ) → e < cap → e / 512 < map_pages cap
on_map cap e below = omega arith

pub is_map_page : (shape : Shape) (e p : ℕ) → e < shape.extents → p ≡ map_page_of e → IsMapPage shape p
is_map_page shape e p below is = (omega arith, omega arith)

module _ {S : Type 0} {g : Ghosts S} where
  pub map_page_at : {shape : Shape} {s : S} {owners : List Kind} (e : ℕ) → e < shape.extents → HoldsMap g shape s owners → HoldsMapPage g shape s owners (e / 512)
  map_page_at {shape = shape} e below is = is.pages (e / 512) (on_map shape.extents e below)

  -- what was read of an extent is what it is told to be
  pub owner_read : {shape : Shape} {s : S} {owners : List Kind} (e : ℕ) (page : List ℕ) (hand : Option (List ℕ)) (found : Option Kind) → HoldsMapPage g shape s owners (e / 512)
      → ((bytes : List ℕ) → HoldsPage g s (map_page_of e) bytes → hand ≡ Some bytes) → hand ≡ Some page
      → ((kind : Kind) → IsKindOf shape.extent_pages kind → entry_of page e ≡ kind_bytes kind → found ≡ Some kind) → found ≡ Some (owner_of owners e)
  owner_read {owners = owners} e page hand found is shown lent known =
      let same : map_page owners (e / 512) ≡ page = same_Some _ _ (sym (shown (map_page owners (e / 512)) is.page) ∙ lent) in
      known (owner_of owners e) (is.kinds e refl) (ap (λ bytes. entry_of bytes e) (sym same) ∙ entry_of-map_page owners (e / 512) e refl)

  -- the owners after a run that touched no page of the map
  pub holds_map_still : {shape : Shape} {owners : List Kind} {Mine : ℕ → Type 0} {old new : S} → Touches g Mine old new → ((p : ℕ) → IsMapPage shape p → Mine p → ⊥)
      → length (g.state old).work ≤ length (g.state new).work → HoldsMap g shape old owners → HoldsMap g shape new owners
  holds_map_still {shape = shape} {owners = owners} {old = old} {new = new} run apart longer is = record {
    count = is.count;
    pages = λ i within.
        let was = is.pages i within in
        record {
          page = run.others (17 + i) (map_page owners i) (apart (17 + i) (omega arith, omega (arith, within))) was.page;
          kinds = was.kinds;
          there = λ e on used. omega (arith, was.there e on used, longer);
        };
  }

  pub holds_map_run : {shape : Shape} {owners : List Kind} {Mine Kinds : ℕ → Type 0} {Breaks : Damage → Type 0} {old new : S} {fault : Option StoreFault}
      → RunsOverPages g Mine Kinds Breaks old new fault → ((p : ℕ) → IsMapPage shape p → Mine p → ⊥) → HoldsMap g shape old owners → HoldsMap g shape new owners
  holds_map_run run apart is = holds_map_still run.touches apart run.works.no_shorter is

  -- a page of the map where the work is the same
  pub map_page_same : {shape : Shape} {owners : List Kind} {i : ℕ} {old new : S} → (g.state new).is_told ≡ (g.state old).is_told → (g.state new).work ≡ (g.state old).work
      → HoldsMapPage g shape old owners i → HoldsMapPage g shape new owners i
  map_page_same told same is = record {
    page = holds_along told same is.page;
    kinds = is.kinds;
    there = λ e on used. omega (arith, is.there e on used, ap length same);
  }

  -- the owners where the work is the same
  pub holds_map_same : {shape : Shape} {owners : List Kind} {old new : S} → (g.state new).is_told ≡ (g.state old).is_told → (g.state new).work ≡ (g.state old).work
      → HoldsMap g shape old owners → HoldsMap g shape new owners
  holds_map_same told same is = record { count = is.count; pages = λ i within. map_page_same told same (is.pages i within) }

  -- one extent becomes another kind
  map_page_set : (owners : List Kind) {old new : S} (e i : ℕ) (kind : Kind) → e < length owners
      → PatchesPage g (map_page_of e) (entry_place e) (kind_bytes kind) old new → Touches g (OnlyPage (map_page_of e)) old new
      → HoldsPage g old (17 + i) (map_page owners i) → HoldsPage g new (17 + i) (map_page (set owners e kind) i)
  map_page_set owners {old = old} {new = new} e i kind within patches run holds = elim (cases_eq (e / 512) i) [
    | inl here ↦ subst (λ bytes. HoldsPage g new (17 + i) bytes) (patched-map_page owners kind i e here within)
        (subst (λ j. HoldsPage g new (17 + j) (patched (entry_place e) (kind_bytes kind) (map_page owners i))) here
        (patches.there (map_page owners i) (subst (λ j. HoldsPage g old (17 + j) (map_page owners i)) (sym here) holds)))
    | inr there ↦ subst (λ bytes. HoldsPage g new (17 + i) bytes) (sym (map_page-set_other owners kind i e there))
        (run.others (17 + i) (map_page owners i) (λ same. there (omega (arith, same))) holds)
  ]

  -- the page of the map that says so
  pub map_page_becomes : {shape : Shape} {owners : List Kind} {i : ℕ} {old new : S} (e : ℕ) (kind : Kind) → e < length owners → IsKindOf shape.extent_pages kind
      → (kind ≢ Free → first_page_of shape.extents shape.extent_pages (e + 1) ≤ length (g.state new).work) → length (g.state old).work ≤ length (g.state new).work
      → PatchesPage g (map_page_of e) (entry_place e) (kind_bytes kind) old new → Touches g (OnlyPage (map_page_of e)) old new
      → HoldsMapPage g shape old owners i → HoldsMapPage g shape new (set owners e kind) i
  map_page_becomes {shape = shape} {owners = owners} {i = i} {new = new} e kind inside is_kind lies longer patches run was = record {
    page = map_page_set owners e i kind inside patches run was.page;
    kinds = λ x on. elim (cases_eq x e) [
      | inl here ↦ subst (λ k. IsKindOf shape.extent_pages k) (sym (ap (λ y. owner_of (set owners e kind) y) here ∙ get_or-set_same owners e kind Free inside)) is_kind
      | inr other ↦ subst (λ k. IsKindOf shape.extent_pages k) (sym (get_or-set_other owners e x kind Free other)) (was.kinds x on)
    ];
    there = λ x on used. elim (cases_eq x e) [
      | inl here ↦ subst (λ y. first_page_of shape.extents shape.extent_pages (y + 1) ≤ length (g.state new).work) (sym here)
          (lies (λ free. used (ap (λ y. owner_of (set owners e kind) y) here ∙ get_or-set_same owners e kind Free inside ∙ free)))
      | inr other ↦ omega (arith, longer, was.there x on (λ free. used (get_or-set_other owners e x kind Free other ∙ free)))
    ];
  }

  pub holds_map_set : {shape : Shape} {owners : List Kind} {old new : S} (e : ℕ) (kind : Kind) → e < shape.extents → IsKindOf shape.extent_pages kind
      → (kind ≢ Free → first_page_of shape.extents shape.extent_pages (e + 1) ≤ length (g.state new).work) → length (g.state old).work ≤ length (g.state new).work
      → PatchesPage g (map_page_of e) (entry_place e) (kind_bytes kind) old new → Touches g (OnlyPage (map_page_of e)) old new
      → HoldsMap g shape old owners → HoldsMap g shape new (set owners e kind)
  holds_map_set {shape = shape} {owners = owners} e kind below is_kind lies longer patches run is =
      let inside : e < length owners = omega (arith, below, is.count) in
      record {
        count = length-set owners e kind ∙ is.count;
        pages = λ i within. map_page_becomes e kind inside is_kind lies longer patches run (is.pages i within);
      }
