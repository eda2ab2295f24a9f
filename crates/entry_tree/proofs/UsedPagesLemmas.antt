-- Pages of index extents that are claimed: used afterwards, and not before; other used pages stay used.
use Rattle.std.proofs.Common.{◌≡◌, ◌≢◌, ◌<◌, ◌≤◌, ◌-◌, ◌^◌, ◌/◌, ◌==◌, ◌⊎◌, ℕ, zero, suc, List, [], ◌∷◌, ◌++◌, true, max, IsTrue, length, length-set, refl, ap, arith, sym, ◌∙◌, subst, inl, inr, bit_or, get_or-set_same, get_or-set_other}
use Rattle.std.specs.Int.{bit_at}
use Rattle.std.proofs.lemmas.Bool.{cases_eq, cases_lt}
use Rattle.std.proofs.lemmas.List.{get_or_past}
use Rattle.std.proofs.lemmas.Nat.{div_below}
use Rattle.std.proofs.lemmas.Nat.Bits.{bit_at_or, bit_at-lt, bit_at-pow_same}
use Rattle.store_api.specs.Extents.{first_count, first_page_of}
use Rattle.store_api.specs.declared.shape.Shape.{Shape}
use Rattle.extent_map.specs.Kinds.{is_used_place, is_unused_place, with_used_place}
use Rattle.extent_map.specs.Owners.{owner_of, extent_of, place_in_extent, IsExtentPage, IsUsedPage, IsUnusedPage, IsClaimable, IsLowestClaimable, with_used_page}
use Rattle.extent_map.specs.declared.kind.Kind.{Kind}
use Rattle.extent_map.specs.declared.kind.Kind.TheVariants.{Free, Block, Index}
use Rattle.entry_tree.specs.Standing.{with_pages, AreClaims, AreLowestClaims, IsClaimed, IsIdlePage}

-- an extent page lies in an extent
below_cap : (cap pages p : ℕ) → first_count cap ≤ p → p < first_page_of cap pages cap → (p - first_count cap) / pages < cap
below_cap cap zero p h k = absurd (omega arith)
below_cap cap (suc pages) p h k = div_below (p - first_count cap) (suc pages) cap (omega arith) (omega arith)

pub extent_below : (shape : Shape) (p : ℕ) → IsExtentPage shape p → extent_of shape p < shape.extents
extent_below shape p h = below_cap shape.extents shape.extent_pages p h.behind h.within

-- a place that is used
one_bit : (b : ℕ) → b < 2 → (b == 1) ≡ true → b ≡ 1
one_bit zero l e = cc
one_bit (suc zero) l e = refl
one_bit (suc (suc b)) l e = absurd (omega arith)

used_bit : (n j : ℕ) → bit_at n j ≡ 1 → IsTrue (bit_at n j == 1)
used_bit n j e = rw e refl

place_used : (j : ℕ) (kind : Kind) → ((table : ℕ) → kind ≢ Block table) → IsTrue (is_used_place j (with_used_place j kind))
place_used j Free n = used_bit (2 ^ j) j (bit_at-pow_same j)
place_used j (Block table) n = absurd (n table refl)
place_used j (Index used) n =
    used_bit (bit_or used (2 ^ j)) j
    (let a = bit_at_or used (2 ^ j) j in let b = bit_at-pow_same j in let c = bit_at-lt used j in let d = bit_at-lt (bit_or used (2 ^ j)) j in
    a ∙ ap (λ (v : ℕ). max (bit_at used j) v) b ∙ max_one (bit_at used j) c)
  where
    max_one : (b : ℕ) → b < 2 → max b 1 ≡ 1
    max_one zero l = refl
    max_one (suc zero) l = refl
    max_one (suc (suc b)) l = absurd (omega arith)

place_stays : (j k : ℕ) (kind : Kind) → IsTrue (is_used_place k kind) → IsTrue (is_used_place k (with_used_place j kind))
place_stays j k Free h = cc
place_stays j k (Block table) h = cc
place_stays j k (Index used) h =
    used_bit (bit_or used (2 ^ j)) k
    (bit_at_or used (2 ^ j) k ∙ ap (λ (v : ℕ). max v (bit_at (2 ^ j) k)) (one_bit (bit_at used k) (bit_at-lt used k) h) ∙ max_one (bit_at (2 ^ j) k) (bit_at-lt (2 ^ j) k))
  where
    max_one : (b : ℕ) → b < 2 → max 1 b ≡ 1
    max_one zero l = refl
    max_one (suc zero) l = refl
    max_one (suc (suc b)) l = absurd (omega arith)

not_both : (j : ℕ) (kind : Kind) → IsTrue (is_used_place j kind) → IsTrue (is_unused_place j kind) → ⊥
not_both j Free h k = cc
not_both j (Block table) h k = cc
not_both j (Index used) h k = go (bit_at used j) (bit_at-lt used j) h k
  where
    go : (b : ℕ) → b < 2 → IsTrue (b == 1) → IsTrue (b == 0) → ⊥
    go zero l h k = cc
    go (suc zero) l h k = cc
    go (suc (suc b)) l h k = absurd (omega arith)

not_block : (j : ℕ) (kind : Kind) → IsTrue (is_unused_place j kind) → (table : ℕ) → kind ≢ Block table
not_block j Free h table e = cc
not_block j (Block t) h table e = cc
not_block j (Index used) h table e = cc

-- a page that may be claimed isn't used
pub claimable_unused : (shape : Shape) (owners : List Kind) (p : ℕ) → IsClaimable shape owners p → IsUsedPage shape owners p → ⊥
claimable_unused shape owners p c u = go c.claimable
  where
    go : IsUnusedPage shape owners p ⊎ ((owner_of owners (extent_of shape p) ≡ Free) × (place_in_extent shape p ≡ 0)) → ⊥
    go (inl unused) = not_both (place_in_extent shape p) (owner_of owners (extent_of shape p)) u.used unused.unused
    go (inr free) = let used = subst (λ (k : Kind). IsTrue (is_used_place (place_in_extent shape p) k)) free.0 u.used in cc

-- a claimed page is used
pub claimed_used : (shape : Shape) (owners : List Kind) (p : ℕ) → length owners ≡ shape.extents → IsClaimable shape owners p → IsUsedPage shape (with_used_page shape owners p) p
claimed_used shape owners p l c = record {
  page = c.page;
  used =
      let below : extent_of shape p < length owners = omega (arith, l, extent_below shape p c.page) in
      subst (λ (k : Kind). IsTrue (is_used_place (place_in_extent shape p) k)) (sym (get_or-set_same owners (extent_of shape p) (with_used_place (place_in_extent shape p) (owner_of owners (extent_of shape p))) Free below))
      (place_used (place_in_extent shape p) (owner_of owners (extent_of shape p)) (no_block c.claimable));
}
  where
    no_block : IsUnusedPage shape owners p ⊎ ((owner_of owners (extent_of shape p) ≡ Free) × (place_in_extent shape p ≡ 0)) → (table : ℕ) → owner_of owners (extent_of shape p) ≢ Block table
    no_block (inl unused) table e = not_block (place_in_extent shape p) (owner_of owners (extent_of shape p)) unused.unused table e
    no_block (inr free) table e = let both : Free ≡ Block table = sym free.0 ∙ e in cc

-- a used page stays used
pub used_stays : (shape : Shape) (owners : List Kind) (p q : ℕ) → IsUsedPage shape owners q → IsUsedPage shape (with_used_page shape owners p) q
used_stays shape owners p q u = record {
  page = u.page;
  used = elim (cases_eq (extent_of shape q) (extent_of shape p)) [
    | inl same ↦ here same
    | inr other ↦ subst (λ (k : Kind). IsTrue (is_used_place (place_in_extent shape q) k)) (sym (get_or-set_other owners (extent_of shape p) (extent_of shape q) (with_used_place (place_in_extent shape p) (owner_of owners (extent_of shape p))) Free other)) u.used
  ];
}
  where
    within : (e : ℕ) → IsTrue (is_used_place (place_in_extent shape q) (owner_of owners e)) → e < length owners
    within e h = elim (cases_lt e (length owners)) [
      | inl l ↦ l
      | inr past ↦ let used = subst (λ (k : Kind). IsTrue (is_used_place (place_in_extent shape q) k)) (get_or_past owners e Free past) h in absurd cc
    ]

    here : extent_of shape q ≡ extent_of shape p → IsTrue (is_used_place (place_in_extent shape q) (owner_of (with_used_page shape owners p) (extent_of shape q)))
    here same =
        let used = subst (λ (e : ℕ). IsTrue (is_used_place (place_in_extent shape q) (owner_of owners e))) same u.used in
        subst (λ (e : ℕ). IsTrue (is_used_place (place_in_extent shape q) (owner_of (with_used_page shape owners p) e))) (sym same)
        (subst (λ (k : Kind). IsTrue (is_used_place (place_in_extent shape q) k)) (sym (get_or-set_same owners (extent_of shape p) (with_used_place (place_in_extent shape p) (owner_of owners (extent_of shape p))) Free (within (extent_of shape p) used)))
        (place_stays (place_in_extent shape p) (place_in_extent shape q) (owner_of owners (extent_of shape p)) used))

-- ---- lists of claims

pub length-with_pages : (shape : Shape) (owners : List Kind) (claimed : List ℕ) → length (with_pages shape owners claimed) ≡ length owners
length-with_pages shape owners [] = refl
length-with_pages shape owners (p ∷ claimed) =
    length-with_pages shape (with_used_page shape owners p) claimed ∙ length-set owners (extent_of shape p) (with_used_place (place_in_extent shape p) (owner_of owners (extent_of shape p)))

pub with_pages-push : (shape : Shape) (owners : List Kind) (claimed : List ℕ) (p : ℕ) → with_pages shape owners (claimed ++ p ∷ []) ≡ with_used_page shape (with_pages shape owners claimed) p
with_pages-push shape owners [] p = refl
with_pages-push shape owners (q ∷ claimed) p = with_pages-push shape (with_used_page shape owners q) claimed p

pub AreClaims-push : (shape : Shape) (owners : List Kind) (claimed : List ℕ) (p : ℕ) → AreClaims shape owners claimed → IsClaimable shape (with_pages shape owners claimed) p → AreClaims shape owners (claimed ++ p ∷ [])
AreClaims-push shape owners [] p h c = (c, tt)
AreClaims-push shape owners (q ∷ claimed) p h c = (h.0, AreClaims-push shape (with_used_page shape owners q) claimed p h.1 c)

pub AreLowestClaims-push : (shape : Shape) (owners : List Kind) (claimed : List ℕ) (p : ℕ) → AreLowestClaims shape owners claimed → IsLowestClaimable shape (with_pages shape owners claimed) p → AreLowestClaims shape owners (claimed ++ p ∷ [])
AreLowestClaims-push shape owners [] p h c = (c, tt)
AreLowestClaims-push shape owners (q ∷ claimed) p h c = (h.0, AreLowestClaims-push shape (with_used_page shape owners q) claimed p h.1 c)

pub used_after : (shape : Shape) (owners : List Kind) (claimed : List ℕ) (q : ℕ) → IsUsedPage shape owners q → IsUsedPage shape (with_pages shape owners claimed) q
used_after shape owners [] q u = u
used_after shape owners (p ∷ claimed) q u = used_after shape (with_used_page shape owners p) claimed q (used_stays shape owners p q u)

pub claims_used : (shape : Shape) (owners : List Kind) (claimed : List ℕ) (q : ℕ) → length owners ≡ shape.extents → AreClaims shape owners claimed → IsClaimed q claimed → IsUsedPage shape (with_pages shape owners claimed) q
claims_used shape owners [] q l h i = absurd i
claims_used shape owners (p ∷ claimed) q l h (inl is) =
    subst (λ (v : ℕ). IsUsedPage shape (with_pages shape (with_used_page shape owners p) claimed) v) (sym is)
    (used_after shape (with_used_page shape owners p) claimed p (claimed_used shape owners p l h.0))
claims_used shape owners (p ∷ claimed) q l h (inr i) =
    claims_used shape (with_used_page shape owners p) claimed q (length-set owners (extent_of shape p) (with_used_place (place_in_extent shape p) (owner_of owners (extent_of shape p))) ∙ l) h.1 i

-- a page that was used isn't among those that were claimed later
pub claims_apart : (shape : Shape) (owners : List Kind) (claimed : List ℕ) (q : ℕ) → AreClaims shape owners claimed → IsUsedPage shape owners q → IsClaimed q claimed → ⊥
claims_apart shape owners [] q h u i = i
claims_apart shape owners (p ∷ claimed) q h u (inl is) = claimable_unused shape owners p h.0 (subst (IsUsedPage shape owners) is u)
claims_apart shape owners (p ∷ claimed) q h u (inr i) = claims_apart shape (with_used_page shape owners p) claimed q h.1 (used_stays shape owners p q u) i

-- ---- claimed pages were idle

unused_before : (j k : ℕ) (kind : Kind) → IsTrue (is_unused_place k (with_used_place j kind)) → IsTrue (is_unused_place k kind) ⊎ (kind ≡ Free)
unused_before j k Free h = inr refl
unused_before j k (Block table) h = cc
unused_before j k (Index used) h = inl (go (bit_at used k) (bit_at-lt used k) (bit_at (2 ^ j) k) (bit_at-lt (2 ^ j) k) (subst (λ (b : ℕ). IsTrue (b == 0)) (bit_at_or used (2 ^ j) k) h))
  where
    go : (a : ℕ) → a < 2 → (b : ℕ) → b < 2 → IsTrue (max a b == 0) → IsTrue (a == 0)
    go zero l b m h = refl
    go (suc zero) l zero m h = cc
    go (suc zero) l (suc zero) m h = cc
    go (suc zero) l (suc (suc b)) m h = absurd (omega arith)
    go (suc (suc a)) l b m h = absurd (omega arith)

free_before : (j : ℕ) (kind : Kind) → with_used_place j kind ≡ Free → kind ≡ Free
free_before j Free h = refl
free_before j (Block table) h = cc
free_before j (Index used) h = cc

-- the page at a place isn't used, or the extent is free
abbrev IdleKind : ℕ → Kind → Type 0
IdleKind j kind = IsTrue (is_unused_place j kind) ⊎ (kind ≡ Free)

idle_before : (shape : Shape) (owners : List Kind) (p q : ℕ) → IsIdlePage shape (with_used_page shape owners q) p → IsIdlePage shape owners p
idle_before shape owners p q h = record { page = h.page; idle = was }
  where
    kind_now : IdleKind (place_in_extent shape p) (owner_of (with_used_page shape owners q) (extent_of shape p))
    kind_now = go h.idle
      where
        go : IsUnusedPage shape (with_used_page shape owners q) p ⊎ (owner_of (with_used_page shape owners q) (extent_of shape p) ≡ Free) → IdleKind (place_in_extent shape p) (owner_of (with_used_page shape owners q) (extent_of shape p))
        go (inl u) = inl u.unused
        go (inr f) = inr f

    back : (kind : Kind) → IdleKind (place_in_extent shape p) (with_used_place (place_in_extent shape q) kind) → IdleKind (place_in_extent shape p) kind
    back kind (inl u) = unused_before (place_in_extent shape q) (place_in_extent shape p) kind u
    back kind (inr f) = inr (free_before (place_in_extent shape q) kind f)

    here : extent_of shape p ≡ extent_of shape q → IdleKind (place_in_extent shape p) (owner_of owners (extent_of shape p))
    here same = elim (cases_lt (extent_of shape q) (length owners)) [
      | inl l ↦
          let now = subst (λ (k : Kind). IdleKind (place_in_extent shape p) k) (ap (owner_of (with_used_page shape owners q)) same ∙ get_or-set_same owners (extent_of shape q) (with_used_place (place_in_extent shape q) (owner_of owners (extent_of shape q))) Free l) kind_now in
          subst (λ (e : ℕ). IdleKind (place_in_extent shape p) (owner_of owners e)) (sym same) (back (owner_of owners (extent_of shape q)) now)
      | inr past ↦ inr (ap (owner_of owners) same ∙ get_or_past owners (extent_of shape q) Free past)
    ]

    elsewhere : extent_of shape p ≢ extent_of shape q → IdleKind (place_in_extent shape p) (owner_of owners (extent_of shape p))
    elsewhere other = subst (λ (k : Kind). IdleKind (place_in_extent shape p) k) (get_or-set_other owners (extent_of shape q) (extent_of shape p) (with_used_place (place_in_extent shape q) (owner_of owners (extent_of shape q))) Free other) kind_now

    was : IsUnusedPage shape owners p ⊎ (owner_of owners (extent_of shape p) ≡ Free)
    was = go (elim (cases_eq (extent_of shape p) (extent_of shape q)) [ inl same ↦ here same | inr other ↦ elsewhere other ])
      where
        go : IdleKind (place_in_extent shape p) (owner_of owners (extent_of shape p)) → IsUnusedPage shape owners p ⊎ (owner_of owners (extent_of shape p) ≡ Free)
        go (inl u) = inl (record { page = h.page; unused = u })
        go (inr f) = inr f

pub claims_idle : (shape : Shape) (owners : List Kind) (claimed : List ℕ) (p : ℕ) → AreClaims shape owners claimed → IsClaimed p claimed → IsIdlePage shape owners p
claims_idle shape owners [] p h i = absurd i
claims_idle shape owners (q ∷ claimed) p h (inl is) = subst (IsIdlePage shape owners) (sym is) (record { page = h.0.page; idle = go h.0.claimable })
  where
    go : IsUnusedPage shape owners q ⊎ ((owner_of owners (extent_of shape q) ≡ Free) × (place_in_extent shape q ≡ 0)) → IsUnusedPage shape owners q ⊎ (owner_of owners (extent_of shape q) ≡ Free)
    go (inl u) = inl u
    go (inr f) = inr f.0
claims_idle shape owners (q ∷ claimed) p h (inr i) = idle_before shape owners p q (claims_idle shape (with_used_page shape owners q) claimed p h.1 i)

-- each claimed page lies in an extent
pub claims_pages : (shape : Shape) (owners : List Kind) (claimed : List ℕ) (p : ℕ) → AreClaims shape owners claimed → IsClaimed p claimed → IsExtentPage shape p
claims_pages shape owners claimed p h i = let idle = claims_idle shape owners claimed p h i in idle.page

-- a used page isn't idle
pub used_not_idle : (shape : Shape) (owners : List Kind) (p : ℕ) → IsUsedPage shape owners p → IsIdlePage shape owners p → ⊥
used_not_idle shape owners p u h = go h.idle
  where
    go : IsUnusedPage shape owners p ⊎ (owner_of owners (extent_of shape p) ≡ Free) → ⊥
    go (inl unused) = not_both (place_in_extent shape p) (owner_of owners (extent_of shape p)) u.used unused.unused
    go (inr free) = let used = subst (λ (k : Kind). IsTrue (is_used_place (place_in_extent shape p) k)) free u.used in absurd cc
