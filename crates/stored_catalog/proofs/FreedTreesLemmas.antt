-- Trees given back one after the other: which pages that gave back, and what stands beside them still.
use Rattle.std.proofs.Common.{◌≡◌, ◌≤◌, ◌+◌, ℕ, zero, suc, List, [], ◌∷◌, ◌++◌, Some, drop, get_or-set_other, set, sum_by, refl, ap, arith, sym, ◌∙◌, subst, inl, inr, append_assoc}
use Rattle.std.specs.Prelude.{slice_get}
use Rattle.std.specs.List.{AllZip}
use Rattle.std.proofs.lemmas.Bool.{cases_eq}
use Rattle.std.proofs.lemmas.List.{append-nil}
use Rattle.std.proofs.lemmas.List.Sums.{sum_by-append, sum_by-cons}
use Rattle.std.proofs.lemmas.Option.{same_Some}
use Rattle.store_api.specs.Frame.{Touches}
use Rattle.store_api.specs.declared.pages.Pages.{Ghosts}
use Rattle.store_api.specs.declared.shape.Shape.{Shape}
use Rattle.extent_map.specs.Map.{HoldsMap, IsMapPage}
use Rattle.extent_map.specs.Kinds.{without_place}
use Rattle.extent_map.specs.Owners.{AreRightNotes, extent_of, owner_of, place_in_extent, without_block, without_page}
use Rattle.extent_map.specs.declared.kind.Kind.{Kind}
use Rattle.extent_map.specs.declared.kind.Kind.TheVariants.{Free}
use Rattle.extent_map.specs.declared.space_notes.SpaceNotes.{SpaceNotes}
use Rattle.extent_map.proofs.UsedPagesLemmas.{no_space_page}
use Rattle.entry_tree.specs.Forest.{Forest, times}
use Rattle.entry_tree.specs.Freeing.{FreesTree}
use Rattle.entry_tree.specs.Pruning.{without_pages}
use Rattle.entry_tree.specs.Standing.{StandsTree}
use Rattle.entry_tree.specs.TreeChanges.{times_among}
use Rattle.entry_tree.specs.declared.tree.Tree.{Tree}
use Rattle.table_trees.specs.TableTrees.{TreePlace, place_of_tree}
use Rattle.table_trees.specs.TreesBeside.{HoldsTreeAt, StandTrees}
use Rattle.table_trees.proofs.KeptOwnersLemmas.{keeps_returns}
use Rattle.table_trees.proofs.SideBySideLemmas.{trees_still}
use Rattle.table_trees.proofs.TreeListsLemmas.{times-one}
use Rattle.stored_catalog.specs.TreeRuns.{FreesTrees}
use Rattle.stored_catalog.proofs.GivenBlocksLemmas.{owner_here}

-- ---- pages

times-append : (p : ℕ) (first second : List ℕ) → times_among p (first ++ second) ≡ times_among p first + times_among p second
times-append p [] second = omega arith
times-append p (q ∷ first) second = omega (arith, times-append p first second)

pages_then : (shape : Shape) (owners : List Kind) (first second : List ℕ) → without_pages shape owners (first ++ second) ≡ without_pages shape (without_pages shape owners first) second
pages_then shape owners [] second = refl
pages_then shape owners (p ∷ first) second = pages_then shape (without_page shape owners p) first second

-- an extent that is free stays so
free_without_page : (shape : Shape) (owners : List Kind) (p e : ℕ) → owner_of owners e ≡ Free → owner_of (without_page shape owners p) e ≡ Free
free_without_page shape owners p e free = elim (cases_eq e (extent_of shape p)) [
  | inl here ↦
      let kind : owner_of owners (extent_of shape p) ≡ Free = ap (owner_of owners) (sym here) ∙ free in
      let same : without_page shape owners p ≡ without_block owners (extent_of shape p) = ap (λ k. set owners (extent_of shape p) (without_place (place_in_extent shape p) k)) kind in
      ap (λ now. owner_of now e) same ∙ (ap (owner_of (without_block owners (extent_of shape p))) here ∙ owner_here owners (extent_of shape p))
  | inr other ↦ get_or-set_other owners (extent_of shape p) e (without_place (place_in_extent shape p) (owner_of owners (extent_of shape p))) Free other ∙ free
]

pub free_without_pages : (shape : Shape) (owners : List Kind) (given : List ℕ) (e : ℕ) → owner_of owners e ≡ Free → owner_of (without_pages shape owners given) e ≡ Free
free_without_pages shape owners [] e free = free
free_without_pages shape owners (p ∷ given) e free = free_without_pages shape (without_page shape owners p) given e (free_without_page shape owners p e free)

-- ---- places

at_drop : (places : List TreePlace) (n : ℕ) (place : TreePlace) → slice_get places n ≡ Some place → drop n places ≡ place ∷ drop (suc n) places
at_drop [] n place at = absurd (cc)
at_drop (first ∷ places) zero place at = ap (λ p. p ∷ places) (same_Some first place at)
at_drop (first ∷ places) (suc n) place at = at_drop places n place at

module _ {S : Type 0} (g : Ghosts S) where
  -- the first of these trees were given back, and the others stand at these places
  pub record FreesSome (shape : Shape) (before noted : SpaceNotes) (new : S) (owners : List Kind) (trees : List Forest) (places : List TreePlace) : Type 0 where
    pub done : List Forest
    pub left : List Forest
    pub all : trees ≡ done ++ left
    pub frees : FreesTrees g shape before noted new owners done
    pub rest : StandTrees g shape new (without_pages shape owners frees.given) places left

  pub frees_none : (shape : Shape) (noted : SpaceNotes) (s : S) (owners : List Kind) (places : List TreePlace) (trees : List Forest) → StandTrees g shape s owners places trees → FreesSome shape noted noted s owners trees places
  frees_none shape noted s owners places trees st = record {
    done = [];
    left = trees;
    all = refl;
    frees = record { given = []; counts = λ p. refl; extents = st.map; notes = λ right. right };
    rest = st;
  }

  pub frees_all : (shape : Shape) (before noted : SpaceNotes) (new : S) (owners : List Kind) (trees : List Forest) → FreesSome shape before noted new owners trees [] → FreesTrees g shape before noted new owners trees
  frees_all shape before noted new owners trees f = go f.left f.all f.rest.held
    where
      go : (left : List Forest) → trees ≡ f.done ++ left → AllZip (HoldsTreeAt g new) [] left → FreesTrees g shape before noted new owners trees
      go [] all held = subst (FreesTrees g shape before noted new owners) (sym (all ∙ append-nil f.done)) f.frees
      go (t ∷ left) all held = absurd held

  -- one more
  abbrev frees_push : (shape : Shape) (before mid noted : SpaceNotes) (middle new : S) (owners : List Kind) (done : List Forest) (t : Forest) → (f : FreesTrees g shape before mid middle owners done)
      → FreesTree g shape mid noted new (without_pages shape owners f.given) t → FreesTrees g shape before noted new owners (done ++ t ∷ [])
  frees_push shape before mid noted middle new owners done t f freed =
      let same : without_pages shape (without_pages shape owners f.given) freed.given ≡ without_pages shape owners (f.given ++ freed.given) =
      sym (pages_then shape owners f.given freed.given) in
      record {
        given = f.given ++ freed.given;
        counts = λ p. omega (arith, times-append p f.given freed.given, f.counts p, freed.counts p, sum_by-append (times p) done (t ∷ []), times-one p t);
        extents = subst (HoldsMap g shape new) same freed.map;
        notes = λ right. subst (AreRightNotes shape noted) same (freed.notes (f.notes right));
      }

  -- the first of some trees was given back: the others stand
  first_freed : (shape : Shape) (before noted : SpaceNotes) (old new : S) (place : TreePlace) (places : List TreePlace) (tree : Forest) (trees : List Forest) (owners : List Kind)
      → StandTrees g shape old owners (place ∷ places) (tree ∷ trees) → (freed : FreesTree g shape before noted new owners tree) → (g.state new).is_told ≡ (g.state old).is_told
      → Touches g (IsMapPage shape) old new → StandTrees g shape new (without_pages shape owners freed.given) places trees
  first_freed shape before noted old new place places tree trees owners st freed told touched =
      let kept = keeps_returns shape owners freed.given (tree ∷ []) [] st.map.count
      (λ p l. (st.used p (omega (arith, l, times-one p tree, sum_by-cons (times p) tree trees))).page) (λ p. omega (arith, freed.counts p, times-one p tree)) in
      record {
        map = freed.map;
        held = trees_still (IsMapPage shape) old new places trees st.held.1 touched told
            (λ p l mine. no_space_page shape p (st.used p (omega (arith, l, sum_by-cons (times p) tree trees))).page (inr mine));
        used = λ p l.
            kept.others p (st.used p (omega (arith, l, sum_by-cons (times p) tree trees))) (omega (arith, l, st.apart p, sum_by-cons (times p) tree trees, times-one p tree));
        apart = λ p. omega (arith, st.apart p, sum_by-cons (times p) tree trees);
      }

  module _ (shape : Shape) (before mid : SpaceNotes) (middle : S) (owners : List Kind) (trees : List Forest) (places : List TreePlace) (n : ℕ) (tree : Tree) (at : slice_get places n ≡ Some (place_of_tree tree))
      (f : FreesSome shape before mid middle owners trees (drop n places)) where
    -- the next one stands
    pub next_stands : (t : Forest) × StandsTree g shape middle tree (without_pages shape owners f.frees.given) t × ((p : ℕ) → times p t ≤ sum_by (times p) trees)
    next_stands = go f.left f.all (subst (λ ps. StandTrees g shape middle (without_pages shape owners f.frees.given) ps f.left) (at_drop places n (place_of_tree tree) at) f.rest)
      where
        go : (left : List Forest) → trees ≡ f.done ++ left → StandTrees g shape middle (without_pages shape owners f.frees.given) (place_of_tree tree ∷ drop (suc n) places) left
            → (t : Forest) × StandsTree g shape middle tree (without_pages shape owners f.frees.given) t × ((p : ℕ) → times p t ≤ sum_by (times p) trees)
        go [] all st = absurd st.held
        go (t ∷ left) all st = (
          t,
          record {
            map = st.map;
            held = record { is_tree = st.held.0.is_tree; trim = st.held.0.trim };
            used = λ p l. st.used p (omega (arith, l, sum_by-cons (times p) t left));
          },
          λ p. omega (arith, ap (sum_by (times p)) all, sum_by-append (times p) f.done (t ∷ left), sum_by-cons (times p) t left),
        )

    -- and once it was given back, those behind it do
    pub frees_more : (noted : SpaceNotes) (new : S) → ((before_it : List Kind) (t : Forest) → StandsTree g shape middle tree before_it t → FreesTree g shape mid noted new before_it t)
        → (g.state new).is_told ≡ (g.state middle).is_told → Touches g (IsMapPage shape) middle new → FreesSome shape before noted new owners trees (drop (suc n) places)
    frees_more noted new freed told touched =
        go f.left f.all (subst (λ ps. StandTrees g shape middle (without_pages shape owners f.frees.given) ps f.left) (at_drop places n (place_of_tree tree) at) f.rest)
      where
        go : (left : List Forest) → trees ≡ f.done ++ left → StandTrees g shape middle (without_pages shape owners f.frees.given) (place_of_tree tree ∷ drop (suc n) places) left
            → FreesSome shape before noted new owners trees (drop (suc n) places)
        go [] all st = absurd st.held
        go (t ∷ left) all st =
            let it = freed (without_pages shape owners f.frees.given) t (record {
              map = st.map;
              held = record { is_tree = st.held.0.is_tree; trim = st.held.0.trim };
              used = λ p l. st.used p (omega (arith, l, sum_by-cons (times p) t left));
            }) in
            let same : without_pages shape (without_pages shape owners f.frees.given) it.given ≡ without_pages shape owners (f.frees.given ++ it.given) =
            sym (pages_then shape owners f.frees.given it.given) in
            record {
              done = f.done ++ t ∷ [];
              left = left;
              all = all ∙ sym (append_assoc f.done (t ∷ []) left);
              frees = frees_push shape before mid noted middle new owners f.done t f.frees it;
              rest = subst (λ now. StandTrees g shape new now (drop (suc n) places) left) same
                  (first_freed shape mid noted middle new (place_of_tree tree) (drop (suc n) places) t left (without_pages shape owners f.frees.given) st it told touched);
            }
