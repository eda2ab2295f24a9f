-- The lowest entry from a bound on, by the leaf of the bound or by the next one.
use Rattle.std.proofs.Common.{◌≡◌, ◌<◌, ◌≤◌, ℕ, zero, suc, List, [], ◌∷◌, ◌++◌, refl, ap, arith, sym, ◌∙◌, subst, length, get_or, drop, inl}
use Rattle.std.specs.Prelude.{Bool, Option, Some, None, true, false, is_some}
use Rattle.mdc_words.specs.ByteOrder.{Entry}
use Rattle.node_page.specs.Node.{Node}
use Rattle.node_page.specs.Node.Node.{LeafNode}
use Rattle.store_api.specs.declared.pages.Pages.{Ghosts}
use Rattle.entry_tree.specs.EntryBounds.{Bound, Rises, IsEntryOf}
use Rattle.entry_tree.specs.Forest.{Forest, leaf_entries}
use Rattle.entry_tree.specs.HeldTrees.{HoldsTree}
use Rattle.entry_tree.specs.Reading.{AreAtLeast, IsFirstOr, IsFirstRead, IsLeafFrom, IsReadAt, first_entry}
use Rattle.entry_tree.specs.Spots.{IsSpot, fence_bound}
use Rattle.entry_tree.specs.declared.spot.Fence.{Fence}
use Rattle.entry_tree.specs.declared.tree.Tree.{Tree}
use Rattle.entry_tree.proofs.LeafFromLemmas.{Fits-entries, first_of_rising, first_read, second_read}
use Rattle.entry_tree.proofs.ReadLeafLemmas.{read_spot}

-- the lowest entry that a leaf gives is the lowest from its bound on
pub first_given : (all : List Entry) (bound : Entry) (given : List Entry) (next : Bound) → Rises None None all → IsLeafFrom all bound given next → IsFirstOr all bound (first_entry given)
first_given all bound [] next r l = l.whole ∙ l.some refl
first_given all bound (x ∷ xs) next r l = record {
  there = subst (IsEntryOf x) (sym l.whole) (inl refl);
  lowest = subst (AreAtLeast (Some x)) (sym l.whole) (first_of_rising bound x all (xs ++ l.rest) r l.whole);
}

-- the first from a place on is the entry at that place
pub first_entry-drop : (items : List Entry) (at : ℕ) → at < length items → first_entry (drop at items) ≡ Some (get_or items at [])
first_entry-drop [] at h = absurd (omega arith)
first_entry-drop (x ∷ xs) zero h = refl
first_entry-drop (x ∷ xs) (suc at) h = first_entry-drop xs at (omega arith)

-- and there is none from the end on
pub first_entry-drop_all : (items : List Entry) (at : ℕ) → length items ≤ at → first_entry (drop at items) ≡ None
first_entry-drop_all [] zero h = refl
first_entry-drop_all [] (suc at) h = refl
first_entry-drop_all (x ∷ xs) zero h = absurd (omega arith)
first_entry-drop_all (x ∷ xs) (suc at) h = first_entry-drop_all xs at (omega arith)

-- whether there is one
pub some_there : {X : Type 0} (o : Option X) → is_some o ≡ true → o ≡ None → ⊥
some_there None h e = cc
some_there (Some x) h e = cc

pub not_some : {X : Type 0} (o : Option X) → is_some o ≡ false → o ≡ None
not_some None h = refl
not_some (Some x) h = cc

none_first : (given : List Entry) → first_entry given ≡ None → given ≡ []
none_first [] e = refl
none_first (x ∷ xs) e = cc

-- the first entry from the place of a bound on
pub first_spot : (nodes : ℕ → Node) (t : Forest) (x : Entry) (page at : ℕ) (there : Bool) (low high : Option Fence) (first : Option Entry) → IsSpot nodes t x page at there low high
    → ((items : List Entry) → nodes page ≡ LeafNode items → first ≡ first_entry (drop at items)) → IsFirstRead t x first (fence_bound high)
first_spot nodes t x page at there low high first s d = record {
  given = drop at s.items;
  read = read_spot nodes t x page at there low high (drop at s.items) (fence_bound high) s (λ items e. let same : items ≡ s.items = leaf_is items s.items (sym e ∙ s.leaf) in ap (drop at) (sym same)) refl;
  first_is = d s.items s.leaf;
}
  where
    leaf_is : (a b : List Entry) → LeafNode a ≡ LeafNode b → a ≡ b
    leaf_is a b e = cc

module _ {S : Type 0} {g : Ghosts S} {s : S} {tree : Tree} where
  -- the leaf of the bound gives an entry, or nothing lies behind it
  pub first_here : (t : Forest) (x : Entry) (first : Option Entry) (next : Bound) → HoldsTree g s tree t → IsFirstRead t x first next → (first ≡ None → next ≡ None) → IsFirstOr (leaf_entries t) x first
  first_here t x first next h r n =
      let l = first_read t x r.given next h.is_tree.fits h.trim r.read (λ e. n (r.first_is ∙ ap first_entry e)) in
      subst (IsFirstOr (leaf_entries t) x) (sym r.first_is) (first_given (leaf_entries t) x r.given next (Fits-entries None None [] t h.is_tree.fits) l)

  -- or the next leaf does
  pub first_behind : (t : Forest) (x b : Entry) (before first : Option Entry) (middle next : Bound) → HoldsTree g s tree t → IsFirstRead t x before middle → before ≡ None → middle ≡ Some b
      → IsFirstRead t b first next → IsFirstOr (leaf_entries t) x first × (first ≡ None → ⊥)
  first_behind t x b before first middle next h r e m q =
      let empty : r.given ≡ [] = none_first r.given (sym r.first_is ∙ e) in
      let read = subst (λ (v : Bound). IsReadAt t x [] v) m (subst (λ (l : List Entry). IsReadAt t x l middle) empty r.read) in
      let l = second_read t x b q.given next h.is_tree.fits h.trim read q.read in (
        subst (IsFirstOr (leaf_entries t) x) (sym q.first_is) (first_given (leaf_entries t) x q.given next (Fits-entries None None [] t h.is_tree.fits) l.0),
        λ n. let given = none_first q.given (sym q.first_is ∙ n) in let some = l.1 in omega (arith, some, ap length given),
      )
