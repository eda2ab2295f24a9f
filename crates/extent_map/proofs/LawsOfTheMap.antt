-- What a page list says of its owners, and the map of a new database.
use Rattle.std.proofs.Common.{◌≡◌, ◌<◌, ◌+◌, ◌*◌, ◌/◌, ℕ, zero, suc, List, ◌++◌, length, replicate, inl, inr, refl, ap, sym, subst, ◌∙◌, arith}
use Rattle.std.proofs.Math.ListN.{get_or-eq_default}
use Rattle.std.proofs.lemmas.Bool.{cases_lt}
use Rattle.std.proofs.lemmas.List.{same_lists, get_or_default, get_or-replicate, length-replicate, replicate-append-replicate}
use Rattle.store_api.specs.Extents.{map_pages}
use Rattle.store_api.specs.Frame.{HoldsPage}
use Rattle.store_api.specs.StoreState.{zero_page}
use Rattle.store_api.specs.declared.pages.Pages.{Ghosts}
use Rattle.store_api.specs.declared.shape.Shape.{Shape}
use Rattle.store_api.proofs.FrameLemmas.{holds_one}
use Rattle.extent_map.specs.Kinds.{kind_bytes, IsKindOf}
use Rattle.extent_map.specs.Map.{HoldsMap, map_entries, map_page, entry_of}
use Rattle.extent_map.specs.Owners.{owner_of}
use Rattle.extent_map.specs.declared.kind.Kind.{Kind}
use Rattle.extent_map.specs.declared.kind.Kind.TheVariants.{Free}
use Rattle.extent_map.proofs.ExtentsLemmas.{extent_limits}
use Rattle.extent_map.proofs.HoldsMapLemmas.{map_page_at}
use Rattle.extent_map.proofs.KindsLemmas.{same_kind}
use Rattle.extent_map.proofs.MapLemmas.{entry_of-map_page}

-- pages give at most one list of owners
pub one_map : {S : Type 0} {g : Ghosts S} {shape : Shape} {s : S} {one other : List Kind} → HoldsMap g shape s one → HoldsMap g shape s other → one ≡ other
one_map {shape = shape} {one = one} {other = other} first second =
    same_lists one other (first.count ∙ sym second.count) (λ e d within.
    let below : e < shape.extents = omega (arith, within, first.count) in
    let inside : e < length other = omega (arith, below, second.count) in
    let page = map_page_at e below first in
    let same_page = map_page_at e below second in
    let bytes : kind_bytes (owner_of one e) ≡ kind_bytes (owner_of other e) =
    sym (entry_of-map_page one (e / 512) e refl) ∙ (ap (λ all. entry_of all e) (holds_one page.page same_page.page) ∙ entry_of-map_page other (e / 512) e refl) in
    get_or_default one e d Free within
    ∙ (same_kind shape.extent_pages (owner_of one e) (owner_of other e) (extent_limits shape).1 (page.kinds e refl) (same_page.kinds e refl) bytes
    ∙ get_or_default other e Free d inside))

-- each extent of a new database is free
pub owner_of-fresh : (cap e : ℕ) → owner_of (replicate cap Free) e ≡ Free
owner_of-fresh cap e = elim (cases_lt e cap) [
  | inl below ↦ get_or-replicate cap e Free Free below
  | inr past ↦ get_or-eq_default (replicate cap Free) Free {n = e} (omega (arith, past, length-replicate cap Free))
]

free_entries : (owners : List Kind) (e n : ℕ) → ((x : ℕ) → owner_of owners x ≡ Free) → map_entries owners e n ≡ replicate (8 * n) 0
unfolding map_entries kind_bytes
free_entries owners e zero free = refl
free_entries owners e (suc n) free =
    let sum : 8 * suc n ≡ 8 + 8 * n = omega arith in
    ap (λ kind. kind_bytes kind ++ map_entries owners (suc e) n) (free e)
    ∙ (ap (λ rest. replicate 8 0 ++ rest) (free_entries owners (suc e) n free) ∙ (replicate-append-replicate 8 (8 * n) 0 ∙ ap (λ k. replicate k 0) (sym sum)))

pub map_page-fresh : (cap i : ℕ) → map_page (replicate cap Free) i ≡ zero_page
unfolding map_page zero_page
map_page-fresh cap i = free_entries (replicate cap Free) (512 * i) 512 (owner_of-fresh cap)

-- the map of a new database: pages of zeros
pub fresh_map : {S : Type 0} {g : Ghosts S} (shape : Shape) (s : S) → ((i : ℕ) → i < map_pages shape.extents → HoldsPage g s (17 + i) zero_page) → HoldsMap g shape s (replicate shape.extents Free)
fresh_map {g = g} shape s zeros = record {
  count = length-replicate shape.extents Free;
  pages = λ i within. record {
    page = subst (λ bytes. HoldsPage g s (17 + i) bytes) (sym (map_page-fresh shape.extents i)) (zeros i within);
    kinds = λ e on. subst (λ kind. IsKindOf shape.extent_pages kind) (sym (owner_of-fresh shape.extents e)) tt;
    there = λ e on owned. absurd (owned (owner_of-fresh shape.extents e));
  };
}
