-- The spot of an entry, by what a search finds.
use Rattle.std.proofs.Common.{◌≡◌, ◌<◌, ℕ, zero, suc, List, [], ◌∷◌, ◌++◌, refl, ap, arith, sym, ◌∙◌, subst, length, get_or, reverse, inl, inr}
use Rattle.std.specs.Prelude.{All, Option, Some, None, IfSome, IsSome, Bool, true, false, IsTrue, ◌↔◌, option_to_list}
use Rattle.std.proofs.lemmas.Bool.{cases_lt}
use Rattle.entry_tree.proofs.UnderWayLemmas.{last_there}
use Rattle.std.proofs.lemmas.List.{reverse-append}
use Rattle.mdc_words.specs.ByteOrder.{Entry, below}
use Rattle.node_page.specs.Node.{Node}
use Rattle.node_page.specs.Node.Node.{InnerNode, LeafNode}
use Rattle.entry_tree.specs.EntryBounds.{Climbs, IsEntryOf, IsLeafPlace, Rises}
use Rattle.entry_tree.specs.Forest.{Forest, HasNode, HoldsForest, IsTree, heads}
use Rattle.entry_tree.specs.Forest.Forest.{Fork, Leaf, Nil}
use Rattle.entry_tree.specs.LeafSpots.{IsItemSpot, IsParent, IsSeenSpot}
use Rattle.entry_tree.specs.TreeChanges.{IsLeafFound}
use Rattle.entry_tree.specs.TreePlaces.{Frame, frame_place, places, plug}
use Rattle.entry_tree.proofs.EntryBoundsLemmas.{below_itself, below_trans}
use Rattle.entry_tree.proofs.GoingDownLemmas.{found_in}
use Rattle.entry_tree.proofs.TreePlacesLemmas.{EachNode-from_plug}

climbs_over : (last x : Entry) (xs : List Entry) → Climbs last None xs → IsEntryOf x xs → below last x ≡ true
climbs_over last x [] h i = absurd i
climbs_over last x (y ∷ ys) h (inl e) = subst (λ (v : Entry). below last v ≡ true) (sym e) h.0
climbs_over last x (y ∷ ys) h (inr i) = below_trans last y x h.0 (climbs_over y x ys h.2 i)

climbs_rise : (last : Entry) (xs : List Entry) → Climbs last None xs → Rises None None xs
climbs_rise last [] h = tt
climbs_rise last (y ∷ ys) h = (tt, tt, h.2)

not_both : (x y : Entry) → below x y ≡ true → below x y ≡ false → ⊥
not_both x y h k = cc

-- what stands at a place of a list is one of it
pub entry_at_place : (xs : List Entry) (i : ℕ) → i < length xs → IsEntryOf (get_or xs i []) xs
entry_at_place [] i l = absurd (omega arith)
entry_at_place (v ∷ vs) zero l = inl refl
entry_at_place (v ∷ vs) (suc i) l = inr (entry_at_place vs i (omega arith))

-- an entry of a leaf stands at its place
pub stands_at_place : (items : List Entry) (x : Entry) (at : ℕ) → Rises None None items → IsLeafPlace items x at → IsEntryOf x items → (at < length items) × (get_or items at [] ≡ x)
stands_at_place [] x at r p i = absurd i
stands_at_place (y ∷ ys) x zero r p (inl e) = (omega arith, sym e)
stands_at_place (y ∷ ys) x zero r p (inr i) = absurd (not_both y x (climbs_over y x ys r.2 i) (p.after (omega arith)))
stands_at_place (y ∷ ys) x (suc at) r p (inl e) =
    absurd (not_both x x (subst (λ (v : Entry). below v x ≡ true) (sym e) (p.before 0 (omega arith))) (below_itself x))
stands_at_place (y ∷ ys) x (suc at) r p (inr i) =
    let q = stands_at_place ys x at (climbs_rise y ys r.2)
    (record { within = let w = p.within in omega arith; before = λ k l. p.before (suc k) (omega arith); after = λ l. p.after (omega arith) }) i in
    (omega (arith, q.0), q.1)

-- the node above, by the last of a path
pub parent_of : (above : List Frame) (path rest : List (ℕ × ℕ)) (o : Option (ℕ × ℕ)) → places above ≡ reverse path → path ≡ rest ++ option_to_list o → (o ≡ None → path ≡ []) → IsParent above o
parent_of [] path rest None w e n = tt
parent_of [] path rest (Some q) w e n =
    let turned : [] ≡ q ∷ reverse rest = w ∙ (ap reverse e ∙ reverse-append rest (q ∷ [])) in cc
parent_of (f ∷ above) path rest None w e n = let none : frame_place f ∷ places above ≡ [] = w ∙ ap reverse (n refl) in cc
parent_of (f ∷ above) path rest (Some q) w e n =
    let turned : frame_place f ∷ places above ≡ q ∷ reverse rest = w ∙ (ap reverse e ∙ reverse-append rest (q ∷ [])) in cc

-- what a search found, where it stands
pub seen_spot : (nodes : ℕ → Node) (root : ℕ) (t : Forest) (x : Entry) (path rest : List (ℕ × ℕ)) (page at : ℕ) (there : Bool) (o : Option (ℕ × ℕ)) → IsTree nodes root t
    → IsLeafFound nodes t x (reverse path) page at there → path ≡ rest ++ option_to_list o → (o ≡ None → path ≡ []) → IsSeenSpot nodes t x page at there o
seen_spot nodes root t x path rest page at there o w f e n =
    record {
      found = λ yes.
          let is = stands_at_place f.items x at f.rises f.spot (f.says.0 yes) in
          record { spot = spot is.0; item = is.1 };
      absent = λ no i. refuted_there there ((found_in nodes root t x (reverse path) page at there w f).1 i) no;
    }
  where
    refuted_there : (b : Bool) → IsTrue b → b ≡ false → ⊥
    refuted_there true h k = cc
    refuted_there false h k = cc

    leaf_here : (here : Forest) → t ≡ plug f.place.above here → heads here ≡ page ∷ [] → HoldsForest nodes here → t ≡ plug f.place.above (Leaf page f.items Nil)
    leaf_here (Leaf p items Nil) e h k =
        let same : p ≡ page = cc in
        let both : LeafNode items ≡ LeafNode f.items = sym k.0 ∙ (ap nodes same ∙ f.leaf) in
        let items_are : items ≡ f.items = cc in
        e ∙ (ap (λ (q : ℕ). plug f.place.above (Leaf q items Nil)) same ∙ ap (λ (l : List Entry). plug f.place.above (Leaf page l Nil)) items_are)
    leaf_here (Fork p ss kids Nil) e h k =
        let same : p ≡ page = cc in let both : InnerNode ss (heads kids) ≡ LeafNode f.items = sym k.0 ∙ (ap nodes same ∙ f.leaf) in cc
    leaf_here here e h k = absurd (omega (arith, ap length h))

    spot : at < length f.items → IsItemSpot nodes t page at o
    spot l =
        let v = f.place in
        record {
          above = v.above;
          items = f.items;
          whole = leaf_here v.here v.whole v.head (EachNode-from_plug (HasNode nodes) v.above v.here (subst (HoldsForest nodes) v.whole w.holds));
          matched = v.matched;
          leaf = f.leaf;
          within = l;
          parent_is = parent_of v.above path rest o v.way e n;
        }

some_none : {A : Type 0} (o : Option A) → IsSome o → o ≡ None → ⊥
some_none None h e = cc
some_none (Some x) h e = cc

no_length : (path : List (ℕ × ℕ)) → length path ≡ 0 → path ≡ []
no_length [] e = refl
no_length (q ∷ path) e = absurd (omega arith)

-- a path of which none is left
pub none_left : (path : List (ℕ × ℕ)) (o : Option (ℕ × ℕ)) → (IsSome o ↔ (0 < length path)) → o ≡ None → path ≡ []
none_left path o variant none = elim (cases_lt 0 (length path)) [
  | inl some ↦ absurd (some_none o (variant.1 some) none)
  | inr few ↦ no_length path (omega arith)
]

-- what holds of each place of a path holds of the last
pub last_holds : (P : ℕ × ℕ → Type 0) (path rest : List (ℕ × ℕ)) (o : Option (ℕ × ℕ)) → path ≡ rest ++ option_to_list o → All P path → IfSome o P
last_holds P path rest None e all = tt
last_holds P path rest (Some q) e all = (last_there P path rest q e all).1
