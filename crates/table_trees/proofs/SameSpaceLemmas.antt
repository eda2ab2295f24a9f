-- Pages that differ in rows alone: trees on used index pages stay, and so does what a change of space asks for and does.
use Rattle.std.proofs.Common.{◌≡◌, ◌⊎◌, ◌<◌, ℕ, List, [], length, inl, inr, ap, arith, sym, subst, ◌∙◌}
use Rattle.std.proofs.lemmas.Bool.{cases_eq}
use Rattle.mdc_words.specs.ByteOrder.{Entry}
use Rattle.node_page.specs.Node.{Node, is_full, node_of}
use Rattle.node_page.specs.Node.Node.{LeafNode, InnerNode, NoNode}
use Rattle.store_api.specs.StoreState.{page_at}
use Rattle.store_api.specs.declared.shape.Shape.{Shape}
use Rattle.extent_map.specs.Map.{HoldsMap}
use Rattle.extent_map.specs.Owners.{IsUsedPage}
use Rattle.extent_map.specs.declared.kind.Kind.{Kind}
use Rattle.extent_map.proofs.LawsOfTheMap.{one_map}
use Rattle.extent_map.proofs.UsedPagesLemmas.{used-claimed}
use Rattle.entry_tree.specs.Forest.{EachNode, Forest, times}
use Rattle.entry_tree.specs.HeldTrees.{nodes_in}
use Rattle.entry_tree.specs.Standing.{AsksPages}
use Rattle.entry_tree.specs.TreeChanges.{KeepsLeaf}
use Rattle.entry_tree.proofs.ForestLemmas.{EachNode-agree, HoldsForest-agree, once_other}
use Rattle.entry_tree.proofs.StandingLemmas.{asked_same}
use Rattle.entry_tree.proofs.WayLemmas.{at_place_times}
use Rattle.table_trees.specs.SpaceChanges.{AsksSpace, ChangesSpace, GrowsToExtent, IsSameSpace, KeepsIndexPages, SpaceChange, TurnsTree}
use Rattle.table_trees.specs.SpaceChanges.SpaceChange.{AddEntry, AmendEntry, ClaimBlock, GiveBlock, MakeTree, RemoveEntry}
use Rattle.table_trees.specs.TableTrees.{TreePlace}
use Rattle.table_trees.specs.ToldPages.{HasTree, PageList, telling, told_pages}
use Rattle.table_trees.proofs.ExtentCountsLemmas.{lowest-claimable}

-- ---- the same owners

-- each used index page is as it was
abbrev pub KeepsUsed : Shape → List Kind → PageList → PageList → Type 0
KeepsUsed shape owners old new = (p : ℕ) → IsUsedPage shape owners p → page_at new p ≡ page_at old p

-- what the extents have as owners afterwards they had before
pub owners_had : (shape : Shape) (old new : PageList) (owners : List Kind) → IsSameSpace shape old new → HoldsMap told_pages shape new owners → HoldsMap told_pages shape old owners
owners_had shape old new owners same map = subst (HoldsMap told_pages shape old) (one_map same.has map) same.had

-- and the other way
pub owners_have : (shape : Shape) (old new : PageList) (owners : List Kind) → IsSameSpace shape old new → HoldsMap told_pages shape old owners → HoldsMap told_pages shape new owners
owners_have shape old new owners same map = subst (HoldsMap told_pages shape new) (one_map same.had map) same.has

-- by these owners each used index page is as it was
pub used_stay : (shape : Shape) (old new : PageList) (owners : List Kind) → IsSameSpace shape old new → HoldsMap told_pages shape old owners → KeepsUsed shape owners old new
used_stay shape old new owners same map = subst (λ (kinds : List Kind). KeepsUsed shape kinds old new) (one_map same.had map) same.bytes

-- ---- trees on pages that stay

-- each page of a tree is as it was
abbrev KeepsPages : Forest → PageList → PageList → Type 0
KeepsPages t old new = (p : ℕ) → 0 < times p t → page_at new p ≡ page_at old p

-- a page that stays is the same node
node_stays : (width : ℕ) (old new : PageList) (p : ℕ) → page_at new p ≡ page_at old p → nodes_in width (telling new) p ≡ nodes_in width (telling old) p
node_stays width old new p same = ap (node_of width) same

-- a tree stays with its pages
has_along : (old new : PageList) (place : TreePlace) (t : Forest) → KeepsPages t old new → HasTree old place t → HasTree new place t
has_along old new place t keeps h = record {
  is_tree = record {
    head = h.is_tree.head;
    holds = HoldsForest-agree (nodes_in place.width (telling old)) (nodes_in place.width (telling new)) t (λ p l. node_stays place.width old new p (keeps p l)) h.is_tree.holds;
    fits = h.is_tree.fits;
    distinct = h.is_tree.distinct;
  };
  trim = h.trim;
}

-- and so does what an entry asks for in it
asks_pages_along : (old new : PageList) (width : ℕ) (t : Forest) (x : Entry) (n : ℕ) → KeepsPages t old new → AsksPages width (nodes_in width (telling old)) t x n
    → AsksPages width (nodes_in width (telling new)) t x n
asks_pages_along old new width t x n keeps a = record {
  stack = a.stack;
  page = a.page;
  items = a.items;
  place = a.place;
  leaf = node_stays width old new a.page (keeps a.page (at_place_times a.place)) ∙ a.leaf;
  asked = a.asked ∙ asked_same (is_full width) (nodes_in width (telling old)) (nodes_in width (telling new)) t x a.stack a.page a.place (λ p l. sym (node_stays width old new p (keeps p l)));
}

-- a leaf that was kept of a tree was so on pages that agree with it
keeps_leaf_along : (width : ℕ) (one other : ℕ → Node) (t : Forest) → ((p : ℕ) → 0 < times p t → other p ≡ one p) → (page : ℕ) (node : Node) → KeepsLeaf width one t page node
    → KeepsLeaf width other t page node
keeps_leaf_along width one other t agree page (LeafNode items) h =
    (h.0, elim h.1 [ inl half ↦ inl half | inr kept ↦ inr (kept.0, kept.1, agree page kept.1 ∙ kept.2, kept.3) ])
keeps_leaf_along width one other t agree page (InnerNode seps children) h = h
keeps_leaf_along width one other t agree page NoNode h = h

-- so each leaf of what the tree became
leaves_along : (old new : PageList) (width : ℕ) (before after : Forest) → KeepsPages before old new → EachNode (KeepsLeaf width (nodes_in width (telling old)) before) after
    → EachNode (KeepsLeaf width (nodes_in width (telling new)) before) after
leaves_along old new width before after keeps h =
    EachNode-agree (KeepsLeaf width (nodes_in width (telling old)) before) (KeepsLeaf width (nodes_in width (telling new)) before) after
    (λ page node l. keeps_leaf_along width (nodes_in width (telling old)) (nodes_in width (telling new)) before (λ p within. node_stays width old new p (keeps p within)) page node) h

-- ---- a change beside rows

-- what a change asks for stays
pub asks_along : (shape : Shape) (owners : List Kind) (old new : PageList) (change : SpaceChange) (blocks n : ℕ) → KeepsUsed shape owners old new → AsksSpace shape owners old change blocks n
    → AsksSpace shape owners new change blocks n
asks_along shape owners old new (ClaimBlock t block) blocks n keeps a = a
asks_along shape owners old new (GiveBlock t block) blocks n keeps a = a
asks_along shape owners old new (AddEntry place entry) blocks n keeps a =
    let stay : KeepsPages a.1.tree old new = λ p l. keeps p (a.1.used p l) in (
      a.0,
      record {
        tree = a.1.tree;
        has = has_along old new place a.1.tree stay a.1.has;
        used = a.1.used;
        absent = a.1.absent;
        asks = asks_pages_along old new place.width a.1.tree entry n stay a.1.asks;
      },
    )
asks_along shape owners old new (RemoveEntry place entry) blocks n keeps a = a
asks_along shape owners old new (AmendEntry place was is) blocks n keeps a = a
asks_along shape owners old new (MakeTree place) blocks n keeps a = a

module _ (shape : Shape) (olds news : List Kind) (old mid new : PageList) where
  -- pages stay through rows before a change
  keeps_from : (t : Forest) → KeepsUsed shape olds old mid → KeepsIndexPages shape olds news mid new t → KeepsIndexPages shape olds news old new t
  keeps_from t keeps k = record { bytes = λ p used none. k.bytes p used none ∙ keeps p used; used = k.used }

  -- and through rows after one
  keeps_to : (t : Forest) → KeepsUsed shape news mid new → KeepsIndexPages shape olds news old mid t → KeepsIndexPages shape olds news old new t
  keeps_to t keeps k = record { bytes = λ p used none. keeps p (k.used p used none) ∙ k.bytes p used none; used = k.used }

  -- so does a tree that becomes another
  turns_from : (place : TreePlace) (before after : Forest) → KeepsUsed shape olds old mid → TurnsTree shape olds news mid new place before after → TurnsTree shape olds news old new place before after
  turns_from place before after keeps t = record {
    had = has_along mid old place before (λ p l. sym (keeps p (t.was_used p l))) t.had;
    was_used = t.was_used;
    has = t.has;
    used = t.used;
    fresh = t.fresh;
    others = keeps_from before keeps t.others;
    blocks = t.blocks;
  }

  -- and what it became stays through rows after it
  turns_to : (place : TreePlace) (before after : Forest) → KeepsUsed shape news mid new → TurnsTree shape olds news old mid place before after → TurnsTree shape olds news old new place before after
  turns_to place before after keeps t = record {
    had = t.had;
    was_used = t.was_used;
    has = has_along mid new place after (λ p l. keeps p ((t.used p).1 (inl l))) t.has;
    used = t.used;
    fresh = t.fresh;
    others = keeps_to before keeps t.others;
    blocks = t.blocks;
  }

  -- what a change does it does from the pages before the rows too
  pub effect_from : length mid ≡ length old → (change : SpaceChange) → KeepsUsed shape olds old mid → ChangesSpace shape change olds news mid new → ChangesSpace shape change olds news old new
  effect_from same (ClaimBlock t block) keeps c = (c.0, c.1, keeps_from Forest.Nil keeps c.2)
  effect_from same (GiveBlock t block) keeps c = (c.0, c.1, keeps_from Forest.Nil keeps c.2, c.3 ∙ same)
  effect_from same (AddEntry place entry) keeps c =
      (c.0, c.1, c.2, turns_from place c.0 c.1 keeps c.3, c.4, c.5, leaves_along mid old place.width c.0 c.1 (λ p l. sym (keeps p (c.3.was_used p l))) c.6, c.7)
  effect_from same (RemoveEntry place entry) keeps c = (c.0, c.1, c.2, turns_from place c.0 c.1 keeps c.3, c.4, c.5, c.6)
  effect_from same (AmendEntry place was is) keeps c = (c.0, c.1, c.2, turns_from place c.0 c.1 keeps c.3, c.4, c.5, c.6, c.7)
  effect_from same (MakeTree place) keeps c = (c.0, c.1, c.2, keeps_from Forest.Nil keeps c.3, c.4)

  -- and to the pages after them
  pub effect_to : length olds ≡ shape.extents → length new ≡ length mid → (change : SpaceChange) → KeepsUsed shape news mid new → ChangesSpace shape change olds news old mid → ChangesSpace shape change olds news old new
  effect_to count same (ClaimBlock t block) keeps c = (c.0, c.1, keeps_to Forest.Nil keeps c.2)
  effect_to count same (GiveBlock t block) keeps c = (c.0, c.1, keeps_to Forest.Nil keeps c.2, same ∙ c.3)
  effect_to count same (AddEntry place entry) keeps c = (c.0, c.1, c.2, turns_to place c.0 c.1 keeps c.3, c.4, c.5, c.6, c.7)
  effect_to count same (RemoveEntry place entry) keeps c = (c.0, c.1, c.2, turns_to place c.0 c.1 keeps c.3, c.4, c.5, c.6)
  effect_to count same (AmendEntry place was is) keeps c = (c.0, c.1, c.2, turns_to place c.0 c.1 keeps c.3, c.4, c.5, c.6, c.7)
  effect_to count same (MakeTree place) keeps c =
      (has_along mid new place (Forest.Leaf place.root [] Forest.Nil) (λ p l. keeps p (root_used p l)) c.0, c.1, c.2, keeps_to Forest.Nil keeps c.3, c.4)
    where
      root_used : (p : ℕ) → 0 < times p (Forest.Leaf place.root [] Forest.Nil) → IsUsedPage shape news p
      root_used p l = elim (cases_eq p place.root) [
        | inl is ↦
            let used : IsUsedPage shape news place.root = subst (λ (owners : List Kind). IsUsedPage shape owners place.root) (sym c.2) (used-claimed shape olds place.root count (lowest-claimable shape olds place.root c.1)) in
            subst (IsUsedPage shape news) (sym is) used
        | inr other ↦ absurd (omega (arith, l, once_other p place.root other))
      ]

  -- as many pages came, since rows bring none
  pub grows_from : length mid ≡ length old → (length new ≡ length mid) ⊎ GrowsToExtent shape olds news mid new → (length new ≡ length old) ⊎ GrowsToExtent shape olds news old new
  grows_from same (inl none) = inl (none ∙ same)
  grows_from same (inr more) =
      inr (record { longer = omega (arith, same, more.longer); extent = more.extent; was_free = more.was_free; is_taken = more.is_taken; count = more.count })

  -- and so it is with rows after it
  pub grows_to : length new ≡ length mid → (length mid ≡ length old) ⊎ GrowsToExtent shape olds news old mid → (length new ≡ length old) ⊎ GrowsToExtent shape olds news old new
  grows_to same (inl none) = inl (same ∙ none)
  grows_to same (inr more) =
      inr (record { longer = omega (arith, same, more.longer); extent = more.extent; was_free = more.was_free; is_taken = more.is_taken; count = same ∙ more.count })
