-- An addition that met a full map, in words of all trees.
use Rattle.std.proofs.Common.{◌≡◌, ◌<◌, ◌+◌, ℕ, List, [], ◌∷◌, ◌++◌, length, suc, arith, ap, drop, inl, inr, refl, sum_by, take, sym, ◌∙◌, subst}
use Rattle.std.specs.Prelude.{Some, slice_get}
use Rattle.std.specs.List.{AllZip}
use Rattle.mdc_words.specs.ByteOrder.{Entry}
use Rattle.store_api.specs.Frame.{Touches}
use Rattle.store_api.specs.declared.pages.Pages.{Ghosts}
use Rattle.store_api.specs.declared.shape.Shape.{Shape}
use Rattle.extent_map.specs.Map.{KeepsRoot}
use Rattle.extent_map.specs.Owners.{IsUsedPage}
use Rattle.extent_map.specs.declared.kind.Kind.{Kind}
use Rattle.extent_map.specs.declared.space_notes.SpaceNotes.{SpaceNotes}
use Rattle.extent_map.proofs.UsedPagesLemmas.{no_space_page}
use Rattle.entry_tree.specs.Forest.{Forest, times}
use Rattle.entry_tree.specs.Standing.{FindsFull, IsTreeSpace, StandsTree, with_pages}
use Rattle.entry_tree.specs.declared.tree.Tree.{Tree}
use Rattle.entry_tree.proofs.UsedPagesLemmas.{used_after, used_not_idle}
use Rattle.table_trees.specs.TableTrees.{TreePlace, place_of_tree}
use Rattle.table_trees.specs.TreesBeside.{HoldsTreeAt, StandTrees}
use Rattle.table_trees.proofs.KeptOwnersLemmas.{blocks-with_pages}
use Rattle.table_trees.proofs.SideBySideLemmas.{tree_among, trees_still}
use Rattle.table_trees.proofs.TreeListsLemmas.{AllZip-back, AllZip-both, AllZip-front, cut_at, same_cut, times-one, times-parts}
use Rattle.record_index.specs.OneIndex.{AmongTrees, FillsExtents}

module _ {S : Type 0} {g : Ghosts S} (shape : Shape) (old new : S) (tree : Tree) where
  -- a page of another tree isn't one that the addition may change
  beside_mine : (owners : List Kind) (t : Forest) (p : ℕ) → StandsTree g shape old tree owners t → times p t ≡ 0 → IsUsedPage shape owners p → IsTreeSpace g shape old tree p → ⊥
  beside_mine owners t p st none used mine = elim (mine owners t st) [
    | inl here ↦ omega (arith, here, none)
    | inr rest ↦ elim rest [ inl space ↦ no_space_page shape p used.page space | inr idle ↦ used_not_idle shape owners p used idle ]
  ]

  -- all trees are held still where the one is
  held_still : (owners : List Kind) (front back : List TreePlace) (fronts backs : List Forest) (t : Forest) → length front ≡ length fronts
      → StandTrees g shape old owners (front ++ (place_of_tree tree ∷ [] ++ back)) (fronts ++ (t ∷ [] ++ backs)) → StandsTree g shape old tree owners t
      → Touches g (IsTreeSpace g shape old tree) old new → (g.state new).is_told ≡ (g.state old).is_told → HoldsTreeAt g new (place_of_tree tree) t
      → AllZip (HoldsTreeAt g new) (front ++ (place_of_tree tree ∷ [] ++ back)) (fronts ++ (t ∷ [] ++ backs))
  held_still owners front back fronts backs t long st one touched told now =
      let behind = AllZip-back (HoldsTreeAt g old) front (place_of_tree tree ∷ [] ++ back) fronts (t ∷ [] ++ backs) long st.held in
      AllZip-both (HoldsTreeAt g new) front (place_of_tree tree ∷ [] ++ back) fronts (t ∷ [] ++ backs)
      (trees_still (IsTreeSpace g shape old tree) old new front fronts (AllZip-front (HoldsTreeAt g old) front (place_of_tree tree ∷ [] ++ back) fronts (t ∷ [] ++ backs) long st.held) touched told (λ p l. off p (omega (arith, l))))
      (AllZip-both (HoldsTreeAt g new) (place_of_tree tree ∷ []) back (t ∷ []) backs (now, tt)
      (trees_still (IsTreeSpace g shape old tree) old new back backs (AllZip-back (HoldsTreeAt g old) (place_of_tree tree ∷ []) back (t ∷ []) backs refl behind) touched told (λ p l. off p (omega (arith, l)))))
    where
      off : (p : ℕ) → 0 < sum_by (times p) fronts + sum_by (times p) backs → IsTreeSpace g shape old tree p → ⊥
      off p some =
          let parts = times-parts p fronts (t ∷ []) backs in
          beside_mine owners t p one (omega (arith, some, parts, st.apart p, times-one p t)) (st.used p (omega (arith, some, parts)))

  trees_on : (owners owners_now : List Kind) (places : List TreePlace) (trees : List Forest) (i : ℕ) (t : Forest) → slice_get places i ≡ Some (place_of_tree tree) → slice_get trees i ≡ Some t
      → StandTrees g shape old owners places trees → StandsTree g shape old tree owners t → Touches g (IsTreeSpace g shape old tree) old new → (g.state new).is_told ≡ (g.state old).is_told
      → ((p : ℕ) → IsUsedPage shape owners p → IsUsedPage shape owners_now p) → StandsTree g shape new tree owners_now t → StandTrees g shape new owners_now places trees
  trees_on owners owners_now places trees i t at is st one touched told still now =
      let e = cut_at places i (place_of_tree tree) at in
      let f = cut_at trees i t is in
      let st_cut : StandTrees g shape old owners (take i places ++ (place_of_tree tree ∷ [] ++ drop (suc i) places)) (take i trees ++ (t ∷ [] ++ drop (suc i) trees)) =
      subst (λ (us : List Forest). StandTrees g shape old owners (take i places ++ (place_of_tree tree ∷ [] ++ drop (suc i) places)) us) f (subst (λ (ps : List TreePlace). StandTrees g shape old owners ps trees) e st) in
      let held = held_still owners (take i places) (drop (suc i) places) (take i trees) (drop (suc i) trees) t (same_cut places trees i (place_of_tree tree) t at is) st_cut one touched told
      (record { is_tree = now.held.is_tree; trim = now.held.trim }) in
      record {
        map = now.map;
        held = subst (λ (us : List Forest). AllZip (HoldsTreeAt g new) places us) (sym f) (subst (λ (ps : List TreePlace). AllZip (HoldsTreeAt g new) ps (take i trees ++ (t ∷ [] ++ drop (suc i) trees))) (sym e) held);
        used = λ p l. still p (st.used p l);
        apart = st.apart;
      }

  module _ (place : TreePlace) (at : place_of_tree tree ≡ place) (x y : Entry) (same : x ≡ y) where
    -- the trees where the addition met a full map
    pub fills_extents : (before noted : SpaceNotes) → Touches g (IsTreeSpace g shape old tree) old new → (g.state new).is_told ≡ (g.state old).is_told
        → ((owners : List Kind) (t : Forest) → StandsTree g shape old tree owners t → FindsFull g shape before noted old new tree x owners t)
        → AmongTrees g shape old place (FillsExtents g shape before noted old new place y)
    fills_extents before noted touched told full owners places trees i st here =
        let at_tree = here ∙ ap Some (sym at) in
        let one = tree_among shape old owners places trees tree i st at_tree in
        let f = full owners one.0 one.2 in
        subst (λ q. FillsExtents g shape before noted old new q y owners places trees i) at
        (subst (λ e. FillsExtents g shape before noted old new (place_of_tree tree) e owners places trees i) same
        (record {
          was = one.0;
          there = one.1;
          absent = f.absent;
          wanted = f.wanted;
          asked = f.asked;
          meets = f.meets;
          stand = trees_on owners (with_pages shape owners f.meets.claimed) places trees i one.0 at_tree one.1 st one.2 touched told (used_after shape owners f.meets.claimed) f.stands;
          blocks = blocks-with_pages shape owners f.meets.claimed;
          zeros = f.zeros;
        }))

    -- page 0
    pub root_among : ((owners : List Kind) (t : Forest) → StandsTree g shape old tree owners t → KeepsRoot g old new) → AmongTrees g shape old place (λ owners places trees i. KeepsRoot g old new)
    root_among kept owners places trees i st here =
        let one = tree_among shape old owners places trees tree i st (here ∙ ap Some (sym at)) in
        kept owners one.0 one.2
