-- What claims and returns of index pages leave of the owners.
use Rattle.std.proofs.Common.{◌≡◌, ◌≢◌, ◌<◌, ◌+◌, ℕ, List, [], ◌∷◌, length, length-set, set, sum_by, refl, ap, arith, sym, ◌∙◌, subst, inl, inr, ◌⊎◌, IsTrue, get_or-set_same, get_or-set_other}
use Rattle.std.specs.Prelude.{None, Some, if◌then◌else◌}
use Rattle.std.specs.Int.{bit_at}
use Rattle.std.proofs.lemmas.Bool.{cases_eq, cases_lt, eq-eqb, ne_eqb}
use Rattle.std.proofs.lemmas.Nat.Bits.{bit_at-lt}
use Rattle.std.proofs.lemmas.List.{get_or_past}
use Rattle.extent_map.specs.Kinds.{index_or_free, is_unused_place, is_used_place, with_used_place, without_place}
use Rattle.extent_map.specs.Owners.{IsExtentPage, IsUnusedPage, IsUsedPage, extent_of, owner_of, place_in_extent, with_used_page, without_page}
use Rattle.extent_map.specs.declared.kind.Kind.{Kind}
use Rattle.extent_map.specs.declared.kind.Kind.TheVariants.{Free, Block, Index}
use Rattle.store_api.specs.declared.shape.Shape.{Shape}
use Rattle.extent_map.proofs.UsedPagesLemmas.{used-before_claim, used-before_return, used-given_back, used-without_page}
use Rattle.entry_tree.specs.Forest.{Forest, once, times}
use Rattle.entry_tree.specs.Pruning.{without_pages}
use Rattle.entry_tree.specs.Standing.{AreClaims, IsIdlePage, with_pages}
use Rattle.entry_tree.specs.TreeChanges.{times_among}
use Rattle.entry_tree.proofs.ForestLemmas.{once_same, once_other}
use Rattle.entry_tree.proofs.UsedPagesLemmas.{length-with_pages, used_after, used_not_idle}
use Rattle.table_trees.specs.TreesBeside.{KeepsOwners, table_of_block}

-- ---- blocks

-- the kind that is a block of a table
pub block_of_table : (kind : Kind) (t : ℕ) → table_of_block kind ≡ Some t → kind ≡ Block t
block_of_table Free t is = absurd cc
block_of_table (Block table) t is = cc
block_of_table (Index used) t is = absurd cc

block_set : (owners : List Kind) (e i : ℕ) (kind : Kind) → table_of_block kind ≡ table_of_block (owner_of owners e) → table_of_block (owner_of (set owners e kind) i) ≡ table_of_block (owner_of owners i)
block_set owners e i kind same = elim (cases_eq i e) [
  | inl here ↦ elim (cases_lt e (length owners)) [
    | inl within ↦ ap table_of_block (ap (owner_of (set owners e kind)) here ∙ get_or-set_same owners e kind Free within) ∙ (same ∙ ap (λ j. table_of_block (owner_of owners j)) (sym here))
    | inr past ↦ ap table_of_block (get_or_past (set owners e kind) i Free (omega (arith, length-set owners e kind, here, past))) ∙ sym (ap table_of_block (get_or_past owners i Free (omega (arith, here, past))))
  ]
  | inr other ↦ ap table_of_block (get_or-set_other owners e i kind Free other)
]

block_with_place : (j : ℕ) (kind : Kind) → table_of_block (with_used_place j kind) ≡ table_of_block kind
block_with_place j Free = refl
block_with_place j (Block table) = refl
block_with_place j (Index used) = refl

block_index_or_free : (used : ℕ) → table_of_block (index_or_free used) ≡ None
block_index_or_free used = elim (cases_eq used 0) [
  | inl none ↦ ap table_of_block (ap index_or_free none)
  | inr some ↦ ap (λ b. table_of_block (if b then Free else Index used)) (ne_eqb used 0 some)
]

block_without_place : (j : ℕ) (kind : Kind) → table_of_block (without_place j kind) ≡ table_of_block kind
block_without_place j Free = refl
block_without_place j (Block table) = refl
block_without_place j (Index used) = block_index_or_free _

module _ (shape : Shape) where
  pub blocks-with_pages : (owners : List Kind) (claimed : List ℕ) (e : ℕ) → table_of_block (owner_of (with_pages shape owners claimed) e) ≡ table_of_block (owner_of owners e)
  blocks-with_pages owners [] e = refl
  blocks-with_pages owners (p ∷ claimed) e =
      blocks-with_pages (with_used_page shape owners p) claimed e
      ∙ block_set owners (extent_of shape p) e (with_used_place (place_in_extent shape p) (owner_of owners (extent_of shape p))) (block_with_place (place_in_extent shape p) (owner_of owners (extent_of shape p)))

  blocks-without_pages : (owners : List Kind) (gone : List ℕ) (e : ℕ) → table_of_block (owner_of (without_pages shape owners gone) e) ≡ table_of_block (owner_of owners e)
  blocks-without_pages owners [] e = refl
  blocks-without_pages owners (p ∷ gone) e =
      blocks-without_pages (without_page shape owners p) gone e
      ∙ block_set owners (extent_of shape p) e (without_place (place_in_extent shape p) (owner_of owners (extent_of shape p))) (block_without_place (place_in_extent shape p) (owner_of owners (extent_of shape p)))

  -- ---- used pages

  not_it : (p q : ℕ) → once p q ≡ 0 → p ≢ q
  not_it p q none same = let one : once p q ≡ 1 = subst (λ v. once v q ≡ 1) (sym same) (once_same q) in omega arith

  claims_were : (owners : List Kind) (claimed : List ℕ) (p : ℕ) → length owners ≡ shape.extents → AreClaims shape owners claimed → times_among p claimed ≡ 0 → IsUsedPage shape (with_pages shape owners claimed) p → IsUsedPage shape owners p
  claims_were owners [] p count claims none used = used
  claims_were owners (q ∷ claimed) p count claims none used =
      used-before_claim shape owners q p count claims.0.page (not_it p q (omega (arith, none)))
      (claims_were (with_used_page shape owners q) claimed p (length-with_pages shape owners (q ∷ []) ∙ count) claims.1 (omega (arith, none)) used)

  length-without_page : (owners : List Kind) (q : ℕ) → length owners ≡ shape.extents → length (without_page shape owners q) ≡ shape.extents
  length-without_page owners q count = length-set owners (extent_of shape q) (without_place (place_in_extent shape q) (owner_of owners (extent_of shape q))) ∙ count

  -- each of these pages lies in an extent
  abbrev AreExtentPages : List ℕ → Type 0
  AreExtentPages gone = (q : ℕ) → 0 < times_among q gone → IsExtentPage shape q

  first_page : (q : ℕ) (gone : List ℕ) → AreExtentPages (q ∷ gone) → IsExtentPage shape q
  first_page q gone each = each q (omega (arith, once_same q))

  more_pages : (q : ℕ) (gone : List ℕ) → AreExtentPages (q ∷ gone) → AreExtentPages gone
  more_pages q gone each p some = each p (omega (arith, some))

  returns_stay : (owners : List Kind) (gone : List ℕ) (p : ℕ) → length owners ≡ shape.extents → AreExtentPages gone → times_among p gone ≡ 0 → IsUsedPage shape owners p → IsUsedPage shape (without_pages shape owners gone) p
  returns_stay owners [] p count each none used = used
  returns_stay owners (q ∷ gone) p count each none used =
      returns_stay (without_page shape owners q) gone p (length-without_page owners q count) (more_pages q gone each) (omega (arith, none))
      (used-without_page shape owners q p count (first_page q gone each) (not_it p q (omega (arith, none))) used)

  returns_were : (owners : List Kind) (gone : List ℕ) (p : ℕ) → length owners ≡ shape.extents → AreExtentPages gone → IsUsedPage shape (without_pages shape owners gone) p → IsUsedPage shape owners p
  returns_were owners [] p count each used = used
  returns_were owners (q ∷ gone) p count each used =
      used-before_return shape owners q p count (first_page q gone each) (returns_were (without_page shape owners q) gone p (length-without_page owners q count) (more_pages q gone each) used)

  returns_gone : (owners : List Kind) (gone : List ℕ) (p : ℕ) → length owners ≡ shape.extents → AreExtentPages gone → 0 < times_among p gone → IsUsedPage shape (without_pages shape owners gone) p → ⊥
  returns_gone owners [] p count each some used = absurd (omega arith)
  returns_gone owners (q ∷ gone) p count each some used = elim (cases_lt 0 (times_among p gone)) [
    | inl later ↦ returns_gone (without_page shape owners q) gone p (length-without_page owners q count) (more_pages q gone each) later used
    | inr none ↦ elim (cases_eq p q) [
      | inl same ↦ used-given_back shape owners q count (first_page q gone each) (subst (IsUsedPage shape (without_page shape owners q)) same (returns_were (without_page shape owners q) gone p (length-without_page owners q count) (more_pages q gone each) used))
      | inr other ↦ absurd (omega (arith, some, none, once_other p q other))
    ]
  ]

-- ---- all together

pub keeps_all : (shape : Shape) (owners : List Kind) (trees : List Forest) → KeepsOwners shape owners trees owners trees
keeps_all shape owners trees = record {
  blocks = λ e. refl;
  others = λ p used none. used;
  used = λ p used. elim (cases_lt 0 (sum_by (times p) trees)) [ inl some ↦ inl some | inr none ↦ inr (used, omega arith) ];
}

pub keeps_claims : (shape : Shape) (owners : List Kind) (claimed : List ℕ) (trees trees_now : List Forest) → length owners ≡ shape.extents → AreClaims shape owners claimed
    → ((p : ℕ) → sum_by (times p) trees_now ≡ sum_by (times p) trees + times_among p claimed) → KeepsOwners shape owners trees (with_pages shape owners claimed) trees_now
keeps_claims shape owners claimed trees trees_now count claims exact = record {
  blocks = blocks-with_pages shape owners claimed;
  others = λ p used none. used_after shape owners claimed p used;
  used = λ p used. elim (cases_lt 0 (sum_by (times p) trees_now)) [
    | inl some ↦ inl some
    | inr none ↦ inr (claims_were shape owners claimed p count claims (omega (arith, exact p, none)) used, omega (arith, exact p, none))
  ];
}

pub keeps_returns : (shape : Shape) (owners : List Kind) (gone : List ℕ) (trees trees_now : List Forest) → length owners ≡ shape.extents → ((p : ℕ) → 0 < sum_by (times p) trees → IsExtentPage shape p)
    → ((p : ℕ) → sum_by (times p) trees_now + times_among p gone ≡ sum_by (times p) trees) → KeepsOwners shape owners trees (without_pages shape owners gone) trees_now
keeps_returns shape owners gone trees trees_now count there exact =
    let each : (q : ℕ) → 0 < times_among q gone → IsExtentPage shape q = λ q some. there q (omega (arith, exact q, some)) in
    record {
      blocks = blocks-without_pages shape owners gone;
      others = λ p used none. returns_stay shape owners gone p count each (omega (arith, exact p, none)) used;
      used = λ p used. elim (cases_lt 0 (sum_by (times p) trees_now)) [
        | inl some ↦ inl some
        | inr none ↦ elim (cases_lt 0 (times_among p gone)) [
          | inl went ↦ absurd (returns_gone shape owners gone p count each went used)
          | inr stayed ↦ inr (returns_were shape owners gone p count each used, omega (arith, exact p, none, stayed))
        ]
      ];
    }

-- ---- idle pages

-- a page is idle where its extent is free or an index extent in which it isn't used
idle_if : (shape : Shape) (owners : List Kind) (p : ℕ) → IsExtentPage shape p → table_of_block (owner_of owners (extent_of shape p)) ≡ None → (IsUsedPage shape owners p → ⊥) → IsIdlePage shape owners p
idle_if shape owners p page no_block unused = record { page = page; idle = go (owner_of owners (extent_of shape p)) refl }
  where
    go : (kind : Kind) → owner_of owners (extent_of shape p) ≡ kind → IsUnusedPage shape owners p ⊎ (owner_of owners (extent_of shape p) ≡ Free)
    go Free is = inr is
    go (Block table) is = let some = sym (ap table_of_block is) ∙ no_block in absurd cc
    go (Index used) is = elim (cases_eq (bit_at used (place_in_extent shape p)) 0) [
      | inl clear ↦ inl (record { page = page; unused = subst (λ k. IsTrue (is_unused_place (place_in_extent shape p) k)) (sym is) (eq-eqb (bit_at used (place_in_extent shape p)) 0 clear) })
      | inr set_bit ↦ absurd (unused (record {
        page = page;
        used = subst (λ k. IsTrue (is_used_place (place_in_extent shape p) k)) (sym is) (eq-eqb (bit_at used (place_in_extent shape p)) 1 (omega (arith, set_bit, bit_at-lt used (place_in_extent shape p))));
      }))
    ]

pub used_no_block : (j : ℕ) (kind : Kind) → IsTrue (is_used_place j kind) → table_of_block kind ≡ None
used_no_block j Free is = refl
used_no_block j (Block table) is = absurd cc
used_no_block j (Index used) is = refl

unused_no_block : (j : ℕ) (kind : Kind) → IsTrue (is_unused_place j kind) → table_of_block kind ≡ None
unused_no_block j Free is = refl
unused_no_block j (Block table) is = absurd cc
unused_no_block j (Index used) is = refl

pub idle_no_block : (shape : Shape) (owners : List Kind) (p : ℕ) → IsIdlePage shape owners p → table_of_block (owner_of owners (extent_of shape p)) ≡ None
idle_no_block shape owners p idle = elim idle.idle [
  | inl unused ↦ unused_no_block (place_in_extent shape p) (owner_of owners (extent_of shape p)) unused.unused
  | inr free ↦ ap table_of_block free
]

-- what is idle now was one of the trees, or idle
pub idle_back : (shape : Shape) (owners owners_now : List Kind) (trees trees_now : List Forest) (p : ℕ) → KeepsOwners shape owners trees owners_now trees_now → IsIdlePage shape owners_now p
    → 0 < sum_by (times p) trees ⊎ IsIdlePage shape owners p
idle_back shape owners owners_now trees trees_now p kept idle = elim (cases_lt 0 (sum_by (times p) trees)) [
  | inl some ↦ inl some
  | inr none ↦ inr (idle_if shape owners p idle.page (sym (kept.blocks (extent_of shape p)) ∙ idle_no_block shape owners_now p idle) (λ used. used_not_idle shape owners_now p (kept.others p used (omega arith)) idle))
]
