-- The pages that came with claims end where a free extent did.
use Rattle.std.proofs.Common.{◌≡◌, ◌≢◌, ◌⊎◌, ◌<◌, ℕ, ◌+◌, max, List, [], ◌∷◌, length, refl, arith, ◌∙◌, inl, inr}
use Rattle.std.proofs.lemmas.Bool.{cases_lt}
use Rattle.store_api.specs.Extents.{first_page_of}
use Rattle.store_api.specs.declared.pages.Pages.{Ghosts}
use Rattle.store_api.specs.declared.shape.Shape.{Shape}
use Rattle.extent_map.specs.Map.{HoldsMap}
use Rattle.extent_map.specs.Owners.{count_with, extent_of, owner_of, place_in_extent}
use Rattle.extent_map.specs.declared.kind.Kind.{Kind}
use Rattle.extent_map.specs.declared.kind.Kind.TheVariants.{Free, Block, Index}
use Rattle.extent_map.proofs.BitsLemmas.{used_place-owned}
use Rattle.extent_map.proofs.ExtentsLemmas.{extent_below}
use Rattle.extent_map.proofs.HoldsMapLemmas.{map_page_at}
use Rattle.entry_tree.specs.Standing.{AreClaims, IsClaimed, with_pages}
use Rattle.entry_tree.proofs.UsedPagesLemmas.{claims_pages, claims_used}
use Rattle.table_trees.specs.SpaceChanges.{GrowsToExtent}
use Rattle.table_trees.specs.ToldPages.{PageList}

-- the end of the extent of one of these pages, past n
record EndsAt (shape : Shape) (n : ℕ) (claimed : List ℕ) (count : ℕ) : Type 0 where
  page : ℕ
  claim : IsClaimed page claimed
  is : count ≡ first_page_of shape.extents shape.extent_pages (extent_of shape page + 1)
  past : n < count

-- the larger of two is the second one where it isn't the first
max_of : (n end : ℕ) → (max n end ≡ n) ⊎ ((max n end ≡ end) × (n < end))
max_of n end = elim (cases_lt n end) [ inl past ↦ inr (omega (arith, past), past) | inr not ↦ inl (omega (arith, not)) ]

-- claims leave the count, or it ends where one of their extents does
count_ends : (shape : Shape) (n : ℕ) (claimed : List ℕ) → (count_with shape n claimed ≡ n) ⊎ EndsAt shape n claimed (count_with shape n claimed)
count_ends shape n [] = inl refl
count_ends shape n (p ∷ claimed) =
    let end : ℕ = first_page_of shape.extents shape.extent_pages (extent_of shape p + 1) in
    elim (count_ends shape (max n end) claimed) [
      | inl same ↦ elim (max_of n end) [
        | inl none ↦ inl (same ∙ none)
        | inr more ↦ inr (record { page = p; claim = inl refl; is = same ∙ more.0; past = omega (arith, same, more.0, more.1) })
      ]
      | inr e ↦ inr (record { page = e.page; claim = inr e.claim; is = e.is; past = omega (arith, e.past) })
    ]

-- what isn't owned is free
free_unless : (kind : Kind) → (kind ≢ Free → ⊥) → kind ≡ Free
free_unless Free not = refl
free_unless (Block table) not = absurd (not (λ is. cc))
free_unless (Index used) not = absurd (not (λ is. cc))

-- the extent at the end was free, since owned ones lie within the pages that there were
pub claims_grow : {S : Type 0} (g : Ghosts S) (shape : Shape) (old : S) (owners : List Kind) (claimed : List ℕ) (new : PageList) → HoldsMap g shape old owners → AreClaims shape owners claimed
    → length new ≡ count_with shape (length (g.state old).work) claimed
    → (length new ≡ length (g.state old).work) ⊎ GrowsToExtent shape owners (with_pages shape owners claimed) (g.state old).work new
claims_grow g shape old owners claimed new map claims count = elim (count_ends shape (length (g.state old).work) claimed) [
  | inl same ↦ inl (count ∙ same)
  | inr e ↦
      let at : ℕ = extent_of shape e.page in
      let below : at < shape.extents = extent_below shape e.page (claims_pages shape owners claimed e.page claims e.claim) in
      let used = claims_used shape owners claimed e.page map.count claims e.claim in
      inr (record {
        longer = omega (arith, e.past, count);
        extent = at;
        was_free = free_unless (owner_of owners at) (λ owned. omega (arith, e.past, e.is, (map_page_at at below map).there at refl owned));
        is_taken = used_place-owned (place_in_extent shape e.page) (owner_of (with_pages shape owners claimed) at) used.used;
        count = count ∙ e.is;
      })
]
