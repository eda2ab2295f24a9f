-- Pages that may be roots of trees: what the extent map shows of them.
use Rattle.std.proofs.Common.{◌≡◌, ◌<◌, ◌/◌, ◌∙◌, ℕ, List, Bool, true, false, arith, sym, subst, inl, inr, map}
use Rattle.std.specs.Prelude.{IsTrue, MatchBool}
use Rattle.store_api.specs.declared.fault.Damage.{Damage}
use Rattle.store_api.specs.declared.pages.Pages.{Ghosts}
use Rattle.store_api.specs.declared.shape.Shape.{Shape}
use Rattle.extent_map.specs.Damages.{BreaksSpace}
use Rattle.extent_map.specs.Map.{HoldsMapPage}
use Rattle.extent_map.specs.Owners.{IsExtentPage, extent_of, owner_of}
use Rattle.extent_map.specs.Searches.{ShowsOwner}
use Rattle.extent_map.specs.declared.kind.Kind.{Kind}
use Rattle.extent_map.proofs.HoldsMapLemmas.{on_map}
use Rattle.table_trees.specs.ToldPages.{PageList, told_pages}
use Rattle.mdc_sound.specs.SpaceRules.{IsIndexKind, IsMapSound}
use Rattle.file_check.specs.Looking.{Unless}
use Rattle.file_check.specs.TablePagesJudged.{HasOwners, IsNoRootPage, IsRootPage}

module _ {S : Type 0} (g : Ghosts S) (shape : Shape) (s : S) where
  -- a page of the map that the list of pages holds is told to be held
  pub told_map_page : IsTrue (g.state s).is_told → (owners : List Kind) (i : ℕ) → HoldsMapPage told_pages shape (g.state s).work owners i → HoldsMapPage g shape s owners i
  told_map_page told owners i held = record {
    page = record { is_told = told; within = held.page.within; bytes_are = held.page.bytes_are };
    kinds = held.kinds;
    there = held.there;
  }

  -- where the first two rules hold, no call on extents names damage
  pub space_unbroken : (damage : Damage) → BreaksSpace g shape s damage → Unless g s (HasOwners shape) damage
  space_unbroken damage (inl short) told (root, owners, map) = omega (arith, short.short, root.count.count)
  space_unbroken damage (inr (i, breaks)) told (root, owners, map) = breaks.none_told owners (told_map_page told owners i (map.each i breaks.on_map).held) tt

  -- a page of an extent whose kind was read
  pub root_page_judged : (owners : List Kind) (p e : ℕ) (kind : Kind) (good : Bool) → IsTrue (g.state s).is_told → IsMapSound shape (g.state s).work owners → IsExtentPage shape p → e ≡ extent_of shape p → e < shape.extents
      → ShowsOwner g shape s e kind → MatchBool good (IsIndexKind kind) (IsIndexKind kind → ⊥) → MatchBool good (IsRootPage shape (g.state s).work owners p) (IsNoRootPage shape (g.state s).work p)
  root_page_judged owners p e kind good told map page is below shown judged = go good judged
    where
      at : (some : List Kind) → HoldsMapPage told_pages shape (g.state s).work some (extent_of shape p / 512) → owner_of some (extent_of shape p) ≡ kind
      at some held = subst (λ (x : ℕ). ShowsOwner g shape s x kind) is shown some (told_map_page told some (extent_of shape p / 512) held)

      within : extent_of shape p < shape.extents
      within = omega (arith, is, below)

      here : HoldsMapPage told_pages shape (g.state s).work owners (extent_of shape p / 512)
      here = (map.each (extent_of shape p / 512) (on_map shape.extents (extent_of shape p) within)).held

      go : (good : Bool) → MatchBool good (IsIndexKind kind) (IsIndexKind kind → ⊥) → MatchBool good (IsRootPage shape (g.state s).work owners p) (IsNoRootPage shape (g.state s).work p)
      go true index = record {
        page = record { page = page; index = subst IsIndexKind (sym (at owners here)) index };
        shown = λ wrong. elim wrong [
          | inl outside ↦ outside page
          | inr other ↦ other.2 (record { page = page; index = subst IsIndexKind (sym (at other.0 other.1.1)) index })
        ];
      }
      go false none = inr (owners, (page, here), λ index. none (subst IsIndexKind (at owners here) index.index))

-- what was said of the pages after some calls, which are as they were, was so before
pub said_before : {S : Type 0} (g : Ghosts S) (shape : Shape) (Says : PageList → List Kind → Type 0) (old mid : S) → (g.state mid).is_told ≡ (g.state old).is_told → (g.state mid).work ≡ (g.state old).work
    → (IsTrue (g.state mid).is_told → (owners : List Kind) → IsMapSound shape (g.state mid).work owners → Says (g.state mid).work owners)
    → IsTrue (g.state old).is_told → (owners : List Kind) → IsMapSound shape (g.state old).work owners → Says (g.state old).work owners
said_before g shape Says old mid told_same same said told owners sound =
    subst (λ pages. Says pages owners) same (said (told_same ∙ told) owners (subst (λ pages. IsMapSound shape pages owners) (sym same) sound))
