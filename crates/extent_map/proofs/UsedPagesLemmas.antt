-- Which pages are used, after a page was claimed or given back, or an extent became a block or free: what a tree needs.
use Rattle.std.proofs.Common.{◌≡◌, ◌≢◌, ◌<◌, ◌+◌, ℕ, IsTrue, List, length, set, false, inl, inr, refl, ap, sym, subst, ◌∙◌, arith, get_or-set_other, get_or-set_same}
use Rattle.std.proofs.lemmas.Bool.{cases_eq}
use Rattle.store_api.specs.Extents.{first_page_of}
use Rattle.store_api.specs.declared.pages.Pages.{Ghosts}
use Rattle.store_api.specs.declared.shape.Shape.{Shape}
use Rattle.extent_map.specs.Kinds.{is_block_kind, is_used_place, with_used_place, without_place}
use Rattle.extent_map.specs.Map.{HoldsMap, IsSpacePage}
use Rattle.extent_map.specs.Owners.{owner_of, extent_of, place_in_extent, IsExtentPage, IsUsedPage, IsClaimable, with_block, without_block, with_used_page, without_page}
use Rattle.extent_map.specs.declared.kind.Kind.{Kind}
use Rattle.extent_map.specs.declared.kind.Kind.TheVariants.{Free, Block}
use Rattle.extent_map.proofs.BitsLemmas.{used_place-with_place_other, used_place-with_place_same, used_place-without_place_same, used_place-without_place_other, used_place-no_block, unused_place-no_block, used_place-owned, unused_place-not_used}
use Rattle.extent_map.proofs.ExtentsLemmas.{extent_limits, extent_below, place_below, page_of-parts}
use Rattle.extent_map.proofs.HoldsMapLemmas.{map_page_at}

-- a page of an extent is no page of the map, nor page 0
pub no_space_page : (shape : Shape) (p : ℕ) → IsExtentPage shape p → IsSpacePage shape p → ⊥
no_space_page shape p is space = elim space [ inl root ↦ omega (arith, is.behind, root) | inr map ↦ omega (arith, is.behind, map.1) ]

-- a used page is there
pub used_page_there : {S : Type 0} {g : Ghosts S} {shape : Shape} {s : S} {owners : List Kind} (p : ℕ) → HoldsMap g shape s owners → IsUsedPage shape owners p → p < length (g.state s).work
used_page_there {shape = shape} {owners = owners} p is used =
    let e = extent_of shape p in
    let lies = (map_page_at e (extent_below shape p used.page) is).there e refl (used_place-owned (place_in_extent shape p) (owner_of owners e) used.used) in
    omega (arith, lies, page_of-parts shape p used.page, place_below shape p)

module _ (shape : Shape) (owners : List Kind) where
  -- the place of a page, in an extent that became another kind or that stayed
  used_set : (e q : ℕ) (kind : Kind) → e < length owners → IsExtentPage shape q → (extent_of shape q ≡ e → IsTrue (is_used_place (place_in_extent shape q) kind))
      → (extent_of shape q ≢ e → IsTrue (is_used_place (place_in_extent shape q) (owner_of owners (extent_of shape q)))) → IsUsedPage shape (set owners e kind) q
  used_set e q kind within page here there = record {
    page = page;
    used = elim (cases_eq (extent_of shape q) e) [
      | inl same ↦ subst (λ k. IsTrue (is_used_place (place_in_extent shape q) k)) (sym (ap (owner_of (set owners e kind)) same ∙ get_or-set_same owners e kind Free within)) (here same)
      | inr other ↦ subst (λ k. IsTrue (is_used_place (place_in_extent shape q) k)) (sym (get_or-set_other owners e (extent_of shape q) kind Free other)) (there other)
    ];
  }

  used_here : (e q : ℕ) (kind : Kind) → e < length owners → IsUsedPage shape (set owners e kind) q → extent_of shape q ≡ e → IsTrue (is_used_place (place_in_extent shape q) kind)
  used_here e q kind within used same = subst (λ k. IsTrue (is_used_place (place_in_extent shape q) k)) (ap (owner_of (set owners e kind)) same ∙ get_or-set_same owners e kind Free within) used.used

  used_there : (e q : ℕ) (kind : Kind) → IsUsedPage shape (set owners e kind) q → extent_of shape q ≢ e → IsUsedPage shape owners q
  used_there e q kind used other = record { page = used.page; used = subst (λ k. IsTrue (is_used_place (place_in_extent shape q) k)) (get_or-set_other owners e (extent_of shape q) kind Free other) used.used }

  -- two pages at one place of one extent are one
  same_page : (p q : ℕ) → IsExtentPage shape p → IsExtentPage shape q → extent_of shape q ≡ extent_of shape p → place_in_extent shape q ≡ place_in_extent shape p → q ≡ p
  same_page p q first second extent place =
      sym (page_of-parts shape q second) ∙ (ap (λ e. first_page_of shape.extents shape.extent_pages e + place_in_extent shape q) extent
      ∙ (ap (λ j. first_page_of shape.extents shape.extent_pages (extent_of shape p) + j) place ∙ page_of-parts shape p first))

  below_32 : (p : ℕ) → place_in_extent shape p < 32
  below_32 p = omega (arith, place_below shape p, (extent_limits shape).1)

  -- what may be claimed is in no block
  pub claimable-no_block : (p : ℕ) → IsClaimable shape owners p → is_block_kind (owner_of owners (extent_of shape p)) ≡ false
  claimable-no_block p is = elim is.claimable [
    | inl unused ↦ unused_place-no_block (place_in_extent shape p) (owner_of owners (extent_of shape p)) unused.unused
    | inr free ↦ ap is_block_kind free.0
  ]

  -- and it isn't used
  pub claimable-not_used : (p : ℕ) → IsClaimable shape owners p → IsUsedPage shape owners p → ⊥
  claimable-not_used p is used = elim is.claimable [
    | inl unused ↦ unused_place-not_used (place_in_extent shape p) (owner_of owners (extent_of shape p)) unused.unused used.used
    | inr free ↦ used_place-owned (place_in_extent shape p) (owner_of owners (extent_of shape p)) used.used free.0
  ]

  -- a page that was claimed is used, each used one still is, and no other one is
  pub used-claimed : (p : ℕ) → length owners ≡ shape.extents → IsClaimable shape owners p → IsUsedPage shape (with_used_page shape owners p) p
  used-claimed p count is =
      used_set (extent_of shape p) p (with_used_place (place_in_extent shape p) (owner_of owners (extent_of shape p))) (omega (arith, extent_below shape p is.page, count)) is.page
      (λ same. used_place-with_place_same (place_in_extent shape p) (owner_of owners (extent_of shape p)) (claimable-no_block p is)) (λ other. absurd (other refl))

  pub used-with_page : (p q : ℕ) → length owners ≡ shape.extents → IsExtentPage shape p → IsUsedPage shape owners q → IsUsedPage shape (with_used_page shape owners p) q
  used-with_page p q count page used =
      let kind = owner_of owners (extent_of shape p) in
      used_set (extent_of shape p) q (with_used_place (place_in_extent shape p) kind) (omega (arith, extent_below shape p page, count)) used.page
      (λ same.
      let was = subst (λ x. IsTrue (is_used_place (place_in_extent shape q) (owner_of owners x))) same used.used in
      elim (cases_eq (place_in_extent shape q) (place_in_extent shape p)) [
        | inl here ↦ subst (λ j. IsTrue (is_used_place j (with_used_place (place_in_extent shape p) kind))) (sym here) (used_place-with_place_same (place_in_extent shape p) kind (used_place-no_block (place_in_extent shape q) kind was))
        | inr other ↦ used_place-with_place_other (place_in_extent shape q) (place_in_extent shape p) kind other ∙ was
      ])
      (λ other. used.used)

  pub used-before_claim : (p q : ℕ) → length owners ≡ shape.extents → IsExtentPage shape p → q ≢ p → IsUsedPage shape (with_used_page shape owners p) q → IsUsedPage shape owners q
  used-before_claim p q count page apart used =
      let e = extent_of shape p in
      let kind = owner_of owners e in
      let within : e < length owners = omega (arith, extent_below shape p page, count) in
      elim (cases_eq (extent_of shape q) e) [
        | inl same ↦ (
            let other : place_in_extent shape q ≢ place_in_extent shape p = λ place. apart (same_page p q page used.page same place) in
            let was = sym (used_place-with_place_other (place_in_extent shape q) (place_in_extent shape p) kind other) ∙ used_here e q (with_used_place (place_in_extent shape p) kind) within used same in
            record { page = used.page; used = subst (λ x. IsTrue (is_used_place (place_in_extent shape q) (owner_of owners x))) (sym same) was })
        | inr other ↦ used_there e q (with_used_place (place_in_extent shape p) kind) used other
      ]

  -- a page that was given back isn't used, each other used one still is, and no other one is
  pub used-given_back : (p : ℕ) → length owners ≡ shape.extents → IsExtentPage shape p → IsUsedPage shape (without_page shape owners p) p → ⊥
  used-given_back p count page used =
      let e = extent_of shape p in
      let kind = owner_of owners e in
      let yes = used_here e p (without_place (place_in_extent shape p) kind) (omega (arith, extent_below shape p page, count)) used refl in
      let no = used_place-without_place_same (place_in_extent shape p) kind (below_32 p) in
      cc

  pub used-without_page : (p q : ℕ) → length owners ≡ shape.extents → IsExtentPage shape p → q ≢ p → IsUsedPage shape owners q → IsUsedPage shape (without_page shape owners p) q
  used-without_page p q count page apart used =
      let kind = owner_of owners (extent_of shape p) in
      used_set (extent_of shape p) q (without_place (place_in_extent shape p) kind) (omega (arith, extent_below shape p page, count)) used.page
      (λ same.
      let other : place_in_extent shape q ≢ place_in_extent shape p = λ place. apart (same_page p q page used.page same place) in
      used_place-without_place_other (place_in_extent shape q) (place_in_extent shape p) kind (below_32 q) (below_32 p) other ∙ subst (λ x. IsTrue (is_used_place (place_in_extent shape q) (owner_of owners x))) same used.used)
      (λ other. used.used)

  pub used-before_return : (p q : ℕ) → length owners ≡ shape.extents → IsExtentPage shape p → IsUsedPage shape (without_page shape owners p) q → IsUsedPage shape owners q
  used-before_return p q count page used =
      let e = extent_of shape p in
      let kind = owner_of owners e in
      let within : e < length owners = omega (arith, extent_below shape p page, count) in
      elim (cases_eq (extent_of shape q) e) [
        | inl same ↦ (
            let now = used_here e q (without_place (place_in_extent shape p) kind) within used same in
            let other : place_in_extent shape q ≢ place_in_extent shape p = λ place. (let no = ap (λ j. is_used_place j (without_place (place_in_extent shape p) kind)) place ∙ used_place-without_place_same (place_in_extent shape p) kind (below_32 p) in cc) in
            let was = sym (used_place-without_place_other (place_in_extent shape q) (place_in_extent shape p) kind (below_32 q) (below_32 p) other) ∙ now in
            record { page = used.page; used = subst (λ x. IsTrue (is_used_place (place_in_extent shape q) (owner_of owners x))) (sym same) was })
        | inr other ↦ used_there e q (without_place (place_in_extent shape p) kind) used other
      ]

  -- a block stays one
  pub block-with_page : (p e : ℕ) → IsClaimable shape owners p → IsTrue (is_block_kind (owner_of owners e)) → owner_of (with_used_page shape owners p) e ≡ owner_of owners e
  block-with_page p e is block =
      let other : e ≢ extent_of shape p = λ same. (let no = ap (λ x. is_block_kind (owner_of owners x)) same ∙ claimable-no_block p is in cc) in
      get_or-set_other owners (extent_of shape p) e _ Free other

  pub block-without_page : (p e : ℕ) → IsUsedPage shape owners p → IsTrue (is_block_kind (owner_of owners e)) → owner_of (without_page shape owners p) e ≡ owner_of owners e
  block-without_page p e used block =
      let other : e ≢ extent_of shape p = λ same.
      (let no = ap (λ x. is_block_kind (owner_of owners x)) same ∙ used_place-no_block (place_in_extent shape p) (owner_of owners (extent_of shape p)) used.used in cc) in
      get_or-set_other owners (extent_of shape p) e _ Free other

  -- used pages where a free extent becomes a block, or a block becomes free
  pub used-with_block : (e table q : ℕ) → owner_of owners e ≡ Free → IsUsedPage shape owners q → IsUsedPage shape (with_block owners e table) q
  used-with_block e table q free used =
      let other : extent_of shape q ≢ e = λ same. used_place-owned (place_in_extent shape q) (owner_of owners (extent_of shape q)) used.used (ap (owner_of owners) same ∙ free) in
      record { page = used.page; used = subst (λ k. IsTrue (is_used_place (place_in_extent shape q) k)) (sym (get_or-set_other owners e (extent_of shape q) (Block table) Free other)) used.used }

  pub used-without_block : (e q : ℕ) → IsTrue (is_block_kind (owner_of owners e)) → IsUsedPage shape owners q → IsUsedPage shape (without_block owners e) q
  used-without_block e q block used =
      let other : extent_of shape q ≢ e = λ same.
      (let no = sym (ap (λ x. is_block_kind (owner_of owners x)) same) ∙ used_place-no_block (place_in_extent shape q) (owner_of owners (extent_of shape q)) used.used in cc) in
      record { page = used.page; used = subst (λ k. IsTrue (is_used_place (place_in_extent shape q) k)) (sym (get_or-set_other owners e (extent_of shape q) Free Free other)) used.used }
