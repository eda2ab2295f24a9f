-- The one leaf that an entry comes into or leaves, among all that hold an entry.
use Rattle.std.proofs.Common.{◌≡◌, ℕ, List, [], ◌∷◌, ◌++◌, refl, ap, sym, ◌∙◌, append_assoc, append-nil, inl, inr}
use Rattle.std.specs.Prelude.{Bool, true, false, if◌then◌else◌}
use Rattle.mdc_words.specs.ByteOrder.{Entry, below}
use Rattle.entry_tree.specs.EntryBounds.{with_entry}
use Rattle.entry_tree.specs.Forest.{Forest, filled_leaf, filled_leaves, ◌&◌}
use Rattle.entry_tree.specs.Forest.Forest.{Leaf, Nil}
use Rattle.entry_tree.specs.TreeChanges.{GainsInLeaf}
use Rattle.entry_tree.specs.TreePlaces.{Frame, leaves_before, leaves_behind, plug}
use Rattle.entry_tree.proofs.ForestLemmas.{filled_leaves-and}
use Rattle.entry_tree.proofs.TreePlacesLemmas.{filled_leaves-plug}

-- a leaf with an entry more holds one
pub filled_with : (x : Entry) (items : List Entry) → filled_leaf (with_entry x items) ≡ with_entry x items ∷ []
filled_with x [] = refl
filled_with x (y ∷ ys) = go (below y x)
  where
    go : (b : Bool) → filled_leaf (if b then y ∷ with_entry x ys else x ∷ y ∷ ys) ≡ (if b then y ∷ with_entry x ys else x ∷ y ∷ ys) ∷ []
    go true = refl
    go false = refl

-- a leaf that is one still
pub gains_one : (x : Entry) (items : List Entry) → GainsInLeaf x (filled_leaf items) (filled_leaf (with_entry x items))
gains_one x items = record {
  front = [];
  was = items;
  are = with_entry x items ∷ [];
  back = [];
  had = sym (append-nil (filled_leaf items));
  has = filled_with x items;
  one_or_two = inl refl;
}

-- and one that was cut in two
pub gains_two : (x : Entry) (items lower upper : List Entry) → with_entry x items ≡ lower ++ upper → GainsInLeaf x (filled_leaf items) (lower ∷ upper ∷ [])
gains_two x items lower upper cut = record {
  front = [];
  was = items;
  are = lower ∷ upper ∷ [];
  back = [];
  had = sym (append-nil (filled_leaf items));
  has = refl;
  one_or_two = inr (lower, upper, cut, refl);
}

-- leaves before and behind stay
pub gains_between : (x : Entry) (front back old new : List (List Entry)) → GainsInLeaf x old new → GainsInLeaf x (front ++ (old ++ back)) (front ++ (new ++ back))
gains_between x front back old new g = record {
  front = front ++ g.front;
  was = g.was;
  are = g.are;
  back = g.back ++ back;
  had = ap (λ (l : List (List Entry)). front ++ (l ++ back)) g.had ∙ simp append_assoc;
  has = ap (λ (l : List (List Entry)). front ++ (l ++ back)) g.has ∙ simp append_assoc;
  one_or_two = g.one_or_two;
}

pub gains_as : (x : Entry) (old was new is : List (List Entry)) → old ≡ was → new ≡ is → GainsInLeaf x was is → GainsInLeaf x old new
gains_as x old was new is e d g = record { front = g.front; was = g.was; are = g.are; back = g.back; had = e ∙ g.had; has = d ∙ g.has; one_or_two = g.one_or_two }

-- the leaves of a tree, by those beside a place and the one there
pub plain_leaves : {t : Forest} (above : List Frame) (page : ℕ) (items : List Entry) → t ≡ plug above (Leaf page items Nil) → filled_leaves t ≡ leaves_before above ++ (filled_leaf items ++ leaves_behind above)
plain_leaves above page items whole = ap filled_leaves whole ∙ (filled_leaves-plug above (Leaf page items Nil) ∙ simp append-nil)

-- trees become others below these nodes
pub gains_plug : (x : Entry) (fs : List Frame) (t u : Forest) → GainsInLeaf x (filled_leaves t) (filled_leaves u) → GainsInLeaf x (filled_leaves (plug fs t)) (filled_leaves (plug fs u))
gains_plug x fs t u g =
    gains_as x _ _ _ _ (filled_leaves-plug fs t) (filled_leaves-plug fs u) (gains_between x (leaves_before fs) (leaves_behind fs) (filled_leaves t) (filled_leaves u) g)

-- and beside others in a row
pub gains_beside : (x : Entry) (left t u right : Forest) → GainsInLeaf x (filled_leaves t) (filled_leaves u) → GainsInLeaf x (filled_leaves (left & (t & right))) (filled_leaves (left & (u & right)))
gains_beside x left t u right g =
    gains_as x _ _ _ _ (simp filled_leaves-and) (simp filled_leaves-and) (gains_between x (filled_leaves left) (filled_leaves right) (filled_leaves t) (filled_leaves u) g)
