-- The page count after calls on trees: where none were made, one after the other, and where one tree claimed pages.
use Rattle.std.proofs.Common.{◌≡◌, ◌≤◌, ◌+◌, ℕ, List, [], ◌∷◌, length, refl, arith, ◌∙◌, inl, inr}
use Rattle.std.specs.Prelude.{max}
use Rattle.std.proofs.lemmas.Bool.{cases_lt}
use Rattle.store_api.specs.Extents.{first_page_of}
use Rattle.store_api.specs.declared.pages.Pages.{Ghosts}
use Rattle.store_api.specs.declared.shape.Shape.{Shape}
use Rattle.extent_map.specs.Owners.{count_with, extent_of, with_used_page}
use Rattle.extent_map.specs.declared.kind.Kind.{Kind}
use Rattle.extent_map.proofs.ExtentsLemmas.{extent_below}
use Rattle.extent_map.proofs.GrowthLemmas.{growth_same, growth_then}
use Rattle.entry_tree.specs.Standing.{AreClaims, GrowsWith}
use Rattle.table_trees.specs.TreesBeside.{GrowsPages}

-- so many pages as some number of whole extents make
record IsWhole (shape : Shape) (n : ℕ) : Type 0 where
  pub extents : ℕ
  pub within : extents ≤ shape.extents
  pub count : n ≡ first_page_of shape.extents shape.extent_pages extents

whole_with : (shape : Shape) (owners : List Kind) (claimed : List ℕ) (n : ℕ) → AreClaims shape owners claimed → IsWhole shape n → IsWhole shape (count_with shape n claimed)
whole_with shape owners [] n claims is = is
whole_with shape owners (p ∷ claimed) n claims is =
    let e = extent_of shape p in
    let end = first_page_of shape.extents shape.extent_pages (e + 1) in
    whole_with shape (with_used_page shape owners p) claimed (max n end) claims.1 (elim (cases_lt n end) [
      | inl grows ↦ record { extents = e + 1; within = omega (arith, extent_below shape p claims.0.page); count = omega (arith, grows) }
      | inr there ↦ record { extents = is.extents; within = is.within; count = omega (arith, there, is.count) }
    ])

module _ {S : Type 0} {g : Ghosts S} where
  pub grows_pages_none : (shape : Shape) (s : S) → GrowsPages g shape s s
  grows_pages_none shape s = record { stated = growth_same refl refl; whole = λ is. is }

  -- where pages were claimed one after the other
  pub grows_pages_with : (shape : Shape) (old new : S) (owners : List Kind) (claimed : List ℕ) → AreClaims shape owners claimed → GrowsWith g shape old new claimed → GrowsPages g shape old new
  grows_pages_with shape old new owners claimed claims grows = record {
    stated = grows.stated;
    whole = λ is.
        let now = whole_with shape owners claimed (length (g.state old).work) claims (record { extents = is.extents; within = is.within; count = is.count }) in
        record { extents = now.extents; within = now.within; count = grows.count ∙ now.count };
  }

  -- one call after another
  pub grows_pages_then : (shape : Shape) (old middle new : S) → length (g.state old).work ≤ length (g.state middle).work → length (g.state middle).work ≤ length (g.state new).work
      → GrowsPages g shape old middle → GrowsPages g shape middle new → GrowsPages g shape old new
  grows_pages_then shape old middle new longer still_longer first second = record {
    stated = growth_then longer still_longer first.stated second.stated;
    whole = λ is. second.whole (first.whole is);
  }
