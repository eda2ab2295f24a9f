-- What a claim does, from its calls one after the other.
use Rattle.std.proofs.Common.{◌≡◌, ◌<◌, ◌≤◌, ◌+◌, ℕ, List, length, max, Some, None, Result, Ok, Err, OnErr, inl, inr, ap, sym, subst, ◌∙◌, arith}
use Rattle.store_api.specs.Causes.{NoDamage}
use Rattle.store_api.specs.Extents.{first_page_of}
use Rattle.store_api.specs.Frame.{HoldsPage, PatchesPage, Touches, OnlyPage, IsCounted}
use Rattle.store_api.specs.RunsOverPages.{RunsOverPages}
use Rattle.store_api.specs.StoreState.{patched, stated_count}
use Rattle.store_api.specs.declared.pages.Pages.{Ghosts}
use Rattle.store_api.specs.declared.shape.Shape.{Shape}
use Rattle.store_api.proofs.FrameLemmas.{holds_along, holds_still, counted_still}
use Rattle.std.specs.Int.{to_be_bytes, w32}
use Rattle.extent_map.specs.Claims.{ClaimsExtent, TakesPage}
use Rattle.extent_map.specs.Kinds.{IsKindOf, kind_bytes, lowest_unused_place, with_used_place}
use Rattle.extent_map.specs.Map.{HoldsMap, ChangesCount, StatesGrowth, map_page_of, entry_place}
use Rattle.extent_map.specs.Searches.{IsFound, FindsWanted}
use Rattle.extent_map.specs.declared.finding.Wanted.TheVariants.{FreeExtent}
use Rattle.extent_map.specs.declared.kind.Kind.{Kind}
use Rattle.extent_map.proofs.BitsLemmas.{is_free-Free, is_kind-with_place, lowest_unused_below}
use Rattle.extent_map.proofs.GrowthLemmas.{growth_same, growth_still, growth_then}
use Rattle.extent_map.proofs.HoldsMapLemmas.{holds_map_run, holds_map_same, holds_map_set}

pub on_err : {T E P : Type 0} (r : Result T E) → P → OnErr r P
on_err (Ok x) is = tt
on_err (Err e) is = is

module _ {S : Type 0} {g : Ghosts S} where
  pub counted_same : {old new : S} → (g.state new).is_told ≡ (g.state old).is_told → (g.state new).work ≡ (g.state old).work → IsCounted g old → IsCounted g new
  counted_same told same counted = record { counts = λ is. ap stated_count same ∙ (counted.counts (sym told ∙ is) ∙ sym (ap length same)) }

  -- page 0, where the work was the same before, or where it stays afterwards
  pub changes_count_after : {old middle new : S} → (g.state middle).is_told ≡ (g.state old).is_told → (g.state middle).work ≡ (g.state old).work → ChangesCount g middle new → ChangesCount g old new
  changes_count_after told same run = record { root = λ bytes holds. run.root bytes (holds_along told same holds) }

  pub changes_count_then : {Mine : ℕ → Type 0} {old middle new : S} → ChangesCount g old middle → Touches g Mine middle new → (Mine 0 → ⊥) → length (g.state new).work ≡ length (g.state middle).work → ChangesCount g old new
  changes_count_then {new = new} first run apart same = record {
    root = λ bytes holds. elim (first.root bytes holds) [
      | inl still ↦ inl (holds_still run apart still)
      | inr stated ↦ inr (subst (λ n. HoldsPage g new 0 (patched 8 (to_be_bytes w32 n) bytes)) (sym same) (holds_still run apart stated))
    ];
  }

  -- page 0 stays
  pub changes_count_still : {Mine : ℕ → Type 0} {old middle new : S} → (g.state middle).is_told ≡ (g.state old).is_told → (g.state middle).work ≡ (g.state old).work → Touches g Mine middle new → (Mine 0 → ⊥) → ChangesCount g old new
  changes_count_still told same run apart = record { root = λ bytes holds. inl (holds_still run apart (holds_along told same holds)) }

  -- the lowest free extent was found, its pages came, and it became what it is now
  pub claims_extent : {shape : Shape} {kind was : Kind} {old middle grown new : S} (from e : ℕ) → IsFound FreeExtent shape.extent_pages from shape.extents (e, was)
      → ((owners : List Kind) → HoldsMap g shape old owners → FindsWanted FreeExtent shape.extent_pages owners from shape.extents (Some (e, was)))
      → IsKindOf shape.extent_pages kind → map_page_of e < length (g.state old).work
      → (g.state middle).is_told ≡ (g.state old).is_told → (g.state middle).work ≡ (g.state old).work
      → length (g.state grown).work ≡ max (length (g.state middle).work) (first_page_of shape.extents shape.extent_pages (e + 1)) → (IsCounted g middle → IsCounted g grown) → StatesGrowth g middle grown
      → RunsOverPages g (OnlyPage 0) (OnlyPage 0) NoDamage middle grown None
      → PatchesPage g (map_page_of e) (entry_place e) (kind_bytes kind) grown new → length (g.state new).work ≡ length (g.state grown).work
      → RunsOverPages g (OnlyPage (map_page_of e)) (OnlyPage (map_page_of e)) NoDamage grown new None
      → ClaimsExtent g shape from kind old new e
  claims_extent {shape = shape} {kind = kind} {was = was} from e found finds is_kind there told same count counted stated grows sets same_count changes =
      let end = first_page_of shape.extents shape.extent_pages (e + 1) in
      record {
        within = found.within;
        count = same_count ∙ (count ∙ ap (λ pages. max (length pages) end) same);
        counted = λ before. counted_still changes.works.steady.is_told changes.touches (omega arith) (omega (arith, there, ap length same, grows.works.no_shorter)) same_count (counted (counted_same told same before));
        stated = growth_then (omega (arith, ap length same)) (omega (arith, grows.works.no_shorter, same_count)) (growth_same told same)
            (growth_then grows.works.no_shorter (omega (arith, same_count)) stated (growth_still changes.touches (omega arith) same_count));
        free = λ owners is. (finds owners is).0 ∙ is_free-Free was found.is_it;
        passed = λ owners is. (finds owners is).1;
        holds = λ owners is. holds_map_set e kind found.within is_kind (λ some. omega (arith, count, same_count)) (omega (arith, same_count)) sets changes.touches
            (holds_map_run grows (λ p on is_root. omega (arith, on.0, is_root)) (holds_map_same told same is));
      }

  -- the lowest page of an extent that isn't used was taken
  pub takes_page : {shape : Shape} {kind : Kind} {old new : S} (e p place : ℕ) → e < shape.extents → IsKindOf shape.extent_pages kind → lowest_unused_place shape.extent_pages kind ≡ Some place
      → p ≡ first_page_of shape.extents shape.extent_pages e + place → first_page_of shape.extents shape.extent_pages (e + 1) ≤ length (g.state old).work → map_page_of e < length (g.state old).work
      → PatchesPage g (map_page_of e) (entry_place e) (kind_bytes (with_used_place place kind)) old new → length (g.state new).work ≡ length (g.state old).work
      → RunsOverPages g (OnlyPage (map_page_of e)) (OnlyPage (map_page_of e)) NoDamage old new None
      → TakesPage g shape kind old new e p
  takes_page {shape = shape} {kind = kind} e p place below is_kind lowest is_page lies there sets same changes = record {
    place = place;
    lowest = lowest;
    page = is_page;
    there = lies;
    count = same;
    counted = λ before. counted_still changes.works.steady.is_told changes.touches (omega arith) (omega (arith, there)) same before;
    holds = λ owners is. holds_map_set e (with_used_place place kind) below (is_kind-with_place shape.extent_pages place kind (lowest_unused_below shape.extent_pages place kind lowest) is_kind)
        (λ some. omega (arith, lies, same)) (omega (arith, same)) sets changes.touches is;
  }
