-- The trees of some pages, as they stand while space is changed: each is half full, each used index page is in one of them, and
-- fewer are unused than an extent has. One change keeps that.
use Rattle.std.proofs.Common.{◌≡◌, ◌<◌, ◌≤◌, ◌+◌, ℕ, List, [], ◌∷◌, ◌++◌, length, map, refl, ap, arith, sym, subst, ◌∙◌, inl, inr}
use Rattle.std.specs.Prelude.{Contains, sum_by}
use Rattle.std.specs.List.{AllByRecursion}
use Rattle.std.proofs.lemmas.Bool.{cases_eq, cases_lt}
use Rattle.std.proofs.lemmas.List.{get_or-set_other, get_or-set_same, get_or_past, length-set}
use Rattle.std.proofs.lemmas.List.Sums.{sum_by-append, sum_by-cons}
use Rattle.store_api.specs.StoreState.{page_at}
use Rattle.store_api.specs.declared.shape.Shape.{Shape}
use Rattle.extent_map.specs.Kinds.{is_used_place}
use Rattle.extent_map.specs.Map.{HoldsMap}
use Rattle.extent_map.specs.Owners.{IsUsedPage, extent_of, owner_of, place_in_extent, with_block}
use Rattle.extent_map.specs.declared.kind.Kind.{Kind}
use Rattle.extent_map.specs.declared.kind.Kind.TheVariants.{Free, Block}
use Rattle.extent_map.proofs.UsedPagesLemmas.{claimable-not_used, used-before_claim, used-claimed}
use Rattle.entry_tree.specs.Forest.{Forest, once, times}
use Rattle.entry_tree.specs.Forest.Forest.{Nil, Leaf}
use Rattle.entry_tree.proofs.ForestLemmas.{once_other, once_same}
use Rattle.block_map.proofs.MapLinesLemmas.{contains_cases}
use Rattle.table_trees.specs.SpaceChanges.{ChangesSpace, TurnsTree, unused_index_pages}
use Rattle.table_trees.specs.SpaceChanges.SpaceChange.{ClaimBlock, MakeTree}
use Rattle.table_trees.specs.TableTrees.{TreePlace}
use Rattle.table_trees.specs.ToldPages.{HasTree, PageList, told_pages}
use Rattle.table_trees.proofs.ExtentCountsLemmas.{lowest-claimable}
use Rattle.mdc_sound.specs.TightPages.{IsHalfFullTree}
use Rattle.mdc_sound.proofs.SpaceRulesLemmas.{used_or_not}
use Rattle.tight_space.specs.PuttingChanges.{IsShortWidth}
use Rattle.tight_space.proofs.HalfTreesLemmas.{tree_kept}
use Rattle.tight_space.proofs.SpaceCountsLemmas.{few_unused-claim, unused-with_block}

-- ---- the trees

-- a tree in its place, and how many entries it may come to have
pub record TreeItem : Type 0 where
  pub place : TreePlace
  pub tree : Forest
  pub want : ℕ

-- how often a page stands in it
abbrev pub times_in : ℕ → TreeItem → ℕ
times_in p item = times p item.tree

-- the places of trees
abbrev pub item_places : List TreeItem → List TreePlace
item_places items = map (λ item. item.place) items

-- the pages have the tree, which is half full
pub record IsTightItem (pages : PageList) (item : TreeItem) : Type 0 where
  pub has : HasTree pages item.place item.tree
  pub half : IsHalfFullTree item.place.width item.tree
  pub short : IsShortWidth item.place.width

-- each used index page is in one of the trees, and any other page in none; fewer are unused than an extent has
pub record HoldsItems (shape : Shape) (pages : PageList) (owners : List Kind) (items : List TreeItem) : Type 0 where
  pub extents : HoldsMap told_pages shape pages owners
  pub each : AllByRecursion (IsTightItem pages) items
  pub used : (p : ℕ) → IsUsedPage shape owners p → sum_by (times_in p) items ≡ 1
  pub others : (p : ℕ) → (IsUsedPage shape owners p → ⊥) → sum_by (times_in p) items ≡ 0
  pub few : unused_index_pages shape owners < shape.extent_pages

-- ---- lists

pub each_split : {X : Type 0} (P : X → Type 0) (xs ys : List X) → AllByRecursion P (xs ++ ys) → AllByRecursion P xs × AllByRecursion P ys
each_split P [] ys all = (tt, all)
each_split P (x ∷ xs) ys all = let rest = each_split P xs ys all.1 in ((all.0, rest.0), rest.1)

pub each_joined : {X : Type 0} (P : X → Type 0) (xs ys : List X) → AllByRecursion P xs → AllByRecursion P ys → AllByRecursion P (xs ++ ys)
each_joined P [] ys front back = back
each_joined P (x ∷ xs) ys front back = (front.0, each_joined P xs ys front.1 back)

pub each_as : {X : Type 0} (P Q : X → Type 0) (xs : List X) → ((x : X) → P x → Q x) → AllByRecursion P xs → AllByRecursion Q xs
each_as P Q [] gives all = tt
each_as P Q (x ∷ xs) gives all = (gives x all.0, each_as P Q xs gives all.1)

-- items cut at the one in a place
pub record CutsItems (items : List TreeItem) (place : TreePlace) : Type 0 where
  pub front : List TreeItem
  pub item : TreeItem
  pub back : List TreeItem
  pub are : items ≡ front ++ item ∷ back
  pub place_is : item.place ≡ place

pub cut_items : (items : List TreeItem) (place : TreePlace) → Contains (item_places items) place → CutsItems items place
cut_items [] place (k, low, at) = absurd (omega (arith, low))
cut_items (item ∷ items) place there = elim (contains_cases place item.place (item_places items) there) [
  | inl is ↦ record { front = []; item = item; back = items; are = refl; place_is = is }
  | inr later ↦ (let rest = cut_items items place later in record {
    front = item ∷ rest.front;
    item = rest.item;
    back = rest.back;
    are = ap (λ more. item ∷ more) rest.are;
    place_is = rest.place_is;
  })
]

-- a number of each, where one is another
pub sum_cut : (f : TreeItem → ℕ) (front : List TreeItem) (item : TreeItem) (back : List TreeItem) → sum_by f (front ++ item ∷ back) ≡ sum_by f front + (f item + sum_by f back)
sum_cut f front item back = omega (arith, sum_by-append f front (item ∷ back), sum_by-cons f item back)

-- trees that stay
items_kept : (old new : PageList) (items : List TreeItem) → ((p : ℕ) → 0 < sum_by (times_in p) items → page_at new p ≡ page_at old p) → AllByRecursion (IsTightItem old) items → AllByRecursion (IsTightItem new) items
items_kept old new [] keeps each = tt
items_kept old new (item ∷ items) keeps each = (
  record {
    has = tree_kept old new item.place item.tree (λ p there. keeps p (omega (arith, there, sum_by-cons (times_in p) item items))) each.0.has;
    half = each.0.half;
    short = each.0.short;
  },
  items_kept old new items (λ p there. keeps p (omega (arith, there, sum_by-cons (times_in p) item items))) each.1,
)

-- ---- a tree that becomes another

-- the item with another tree
abbrev pub with_tree : TreeItem → Forest → TreeItem
with_tree item after = record item { tree = after }

module _ (shape : Shape) (old new : PageList) (olds news : List Kind) (front : List TreeItem) (item : TreeItem) (back : List TreeItem) (after : Forest)
    (h : HoldsItems shape old olds (front ++ item ∷ back)) (turns : TurnsTree shape olds news old new item.place item.tree after) where
  -- how often a page stands in the other trees
  beside : ℕ → ℕ
  beside p = sum_by (times_in p) front + sum_by (times_in p) back

  was : (p : ℕ) → sum_by (times_in p) (front ++ item ∷ back) ≡ times p item.tree + beside p
  unfolding beside
  was p = omega (arith, sum_cut (times_in p) front item back)

  is : (p : ℕ) → sum_by (times_in p) (front ++ with_tree item after ∷ back) ≡ times p after + beside p
  unfolding beside
  is p = omega (arith, sum_cut (times_in p) front (with_tree item after) back)

  -- no page is in two trees
  at_most : (p : ℕ) → times p item.tree + beside p ≤ 1
  at_most p = elim (used_or_not shape olds p) [
    | inl used ↦ omega (arith, h.used p used, was p)
    | inr unused ↦ omega (arith, h.others p unused, was p)
  ]

  used_if : (p : ℕ) → 0 < times p item.tree + beside p → IsUsedPage shape olds p
  used_if p some = elim (used_or_not shape olds p) [ inl used ↦ used | inr unused ↦ absurd (omega (arith, some, h.others p unused, was p)) ]

  other_tree : (p : ℕ) → 0 < times p after → times p item.tree ≡ 0 → beside p ≡ 0
  other_tree p there none = elim (used_or_not shape olds p) [
    | inl used ↦ absurd (turns.fresh p there none used)
    | inr unused ↦ omega (arith, h.others p unused, was p)
  ]

  used_now : (p : ℕ) → IsUsedPage shape news p → sum_by (times_in p) (front ++ with_tree item after ∷ back) ≡ 1
  used_now p used = is p ∙ elim (cases_eq (times p after) 0) [
    | inl none ↦ elim ((turns.used p).0 used) [
      | inl there ↦ absurd (omega (arith, there, none))
      | inr stays ↦ omega (arith, none, h.used p stays.0, was p, stays.1)
    ]
    | inr some ↦ elim (cases_eq (times p item.tree) 0) [
      | inl fresh ↦ omega (arith, other_tree p (omega (arith, some)) fresh, turns.has.is_tree.distinct p, some)
      | inr had ↦ omega (arith, at_most p, had, turns.has.is_tree.distinct p, some)
    ]
  ]

  unused_now : (p : ℕ) → (IsUsedPage shape news p → ⊥) → sum_by (times_in p) (front ++ with_tree item after ∷ back) ≡ 0
  unused_now p unused = is p ∙ elim (cases_eq (times p after) 0) [
    | inr some ↦ absurd (unused ((turns.used p).1 (inl (omega (arith, some)))))
    | inl none ↦ elim (cases_eq (beside p) 0) [
      | inl apart ↦ omega (arith, none, apart)
      | inr there ↦ absurd (unused ((turns.used p).1 (inr (used_if p (omega (arith, there)), omega (arith, at_most p, there)))))
    ]
  ]

  -- the others stay
  stays_beside : (p : ℕ) → 0 < beside p → page_at new p ≡ page_at old p
  stays_beside p there = turns.others.bytes p (used_if p (omega (arith, there))) (omega (arith, at_most p, there))

  pub turned_items : HoldsMap told_pages shape new news → IsHalfFullTree item.place.width after → unused_index_pages shape news < shape.extent_pages → HoldsItems shape new news (front ++ with_tree item after ∷ back)
  unfolding beside
  turned_items extents half few = record {
    extents = extents;
    each =
        let parts = each_split (IsTightItem old) front (item ∷ back) h.each in
        each_joined (IsTightItem new) front (with_tree item after ∷ back) (items_kept old new front (λ p there. stays_beside p (omega (arith, there))) parts.0)
        (record { has = turns.has; half = half; short = parts.1.0.short }, items_kept old new back (λ p there. stays_beside p (omega (arith, there))) parts.1.1);
    used = used_now;
    others = unused_now;
    few = few;
  }

-- ---- a block that is claimed

not_used_block : (shape : Shape) (owners : List Kind) (e t p : ℕ) → IsUsedPage shape (with_block owners e t) p → IsUsedPage shape owners p
not_used_block shape owners e t p used = elim (cases_eq (extent_of shape p) e) [
  | inl here ↦ elim (cases_lt e (length owners)) [
    | inl within ↦ (let is = ap (is_used_place (place_in_extent shape p)) (ap (owner_of (with_block owners e t)) here ∙ get_or-set_same owners e (Block t) Free within) in absurd (cc (is, used.used)))
    | inr past ↦ (let is = ap (is_used_place (place_in_extent shape p)) (ap (owner_of (with_block owners e t)) here ∙ get_or_past (with_block owners e t) e Free (omega (arith, past, length-set owners e (Block t)))) in absurd (cc (is, used.used)))
  ]
  | inr other ↦ record { page = used.page; used = ap (is_used_place (place_in_extent shape p)) (sym (get_or-set_other owners e (extent_of shape p) (Block t) Free other)) ∙ used.used }
]

pub claimed_items : (shape : Shape) (old new : PageList) (olds news : List Kind) (items : List TreeItem) (t block : ℕ) → HoldsItems shape old olds items → HoldsMap told_pages shape new news
    → ChangesSpace shape (ClaimBlock t block) olds news old new → HoldsItems shape new news items
claimed_items shape old new olds news items t block h extents effect = record {
  extents = extents;
  each = items_kept old new items (λ p there. effect.2.bytes p (is_used p there) refl) h.each;
  used = λ p used. h.used p (was_used p used);
  others = λ p unused. h.others p (λ used. unused (effect.2.used p used refl));
  few = omega (arith, h.few, ap (unused_index_pages shape) effect.1, unused-with_block shape olds block t effect.0.within effect.0.free);
}
  where
    is_used : (p : ℕ) → 0 < sum_by (times_in p) items → IsUsedPage shape olds p
    is_used p there = elim (used_or_not shape olds p) [ inl used ↦ used | inr unused ↦ absurd (omega (arith, there, h.others p unused)) ]

    was_used : (p : ℕ) → IsUsedPage shape news p → IsUsedPage shape olds p
    was_used p used = not_used_block shape olds block t p (subst (λ (owners : List Kind). IsUsedPage shape owners p) effect.1 used)

-- ---- a tree that is made

-- a tree of an empty leaf
abbrev pub made_item : TreePlace → ℕ → TreeItem
made_item place want = record { place = place; tree = Leaf place.root [] Nil; want = want }

pub made_items : (shape : Shape) (old new : PageList) (olds news : List Kind) (items : List TreeItem) (place : TreePlace) (want : ℕ) → HoldsItems shape old olds items → HoldsMap told_pages shape new news → IsShortWidth place.width
    → ChangesSpace shape (MakeTree place) olds news old new → HoldsItems shape new news (made_item place want ∷ items)
made_items shape old new olds news items place want h extents short effect = record {
  extents = extents;
  each = (record { has = effect.0; half = tt; short = short }, items_kept old new items (λ p there. effect.3.bytes p (is_used p there) refl) h.each);
  used = used_now;
  others = unused_now;
  few = omega (arith, few_unused-claim shape olds place.root h.extents.count effect.1 h.few, ap (unused_index_pages shape) effect.2);
}
  where
    is_used : (p : ℕ) → 0 < sum_by (times_in p) items → IsUsedPage shape olds p
    is_used p there = elim (used_or_not shape olds p) [ inl used ↦ used | inr unused ↦ absurd (omega (arith, there, h.others p unused)) ]

    used_now : (p : ℕ) → IsUsedPage shape news p → sum_by (times_in p) (made_item place want ∷ items) ≡ 1
    used_now p used = elim (cases_eq p place.root) [
      | inl here ↦
          omega (
            arith,
            sum_by-cons (times_in p) (made_item place want) items,
            once_same p,
            ap (once p) here,
            h.others p (λ was. claimable-not_used shape olds place.root (lowest-claimable shape olds place.root effect.1) (subst (IsUsedPage shape olds) here was)),
          )
      | inr other ↦
          omega (
            arith,
            sum_by-cons (times_in p) (made_item place want) items,
            once_other p place.root other,
            h.used p (used-before_claim shape olds place.root p h.extents.count (lowest-claimable shape olds place.root effect.1).page other (subst (λ (owners : List Kind). IsUsedPage shape owners p) effect.2 used)),
          )
    ]

    unused_now : (p : ℕ) → (IsUsedPage shape news p → ⊥) → sum_by (times_in p) (made_item place want ∷ items) ≡ 0
    unused_now p unused = elim (cases_eq p place.root) [
      | inl here ↦
          (let root : IsUsedPage shape news place.root = subst (λ (owners : List Kind). IsUsedPage shape owners place.root) (sym effect.2) (used-claimed shape olds place.root h.extents.count (lowest-claimable shape olds place.root effect.1)) in
          absurd (unused (subst (IsUsedPage shape news) (sym here) root)))
      | inr other ↦ omega (arith, sum_by-cons (times_in p) (made_item place want) items, once_other p place.root other, h.others p (λ used. unused (effect.3.used p used refl)))
    ]
