-- What a call on one tree is to all trees beside it.
use Rattle.std.proofs.Common.{◌≡◌, ◌<◌, ◌≤◌, ℕ, List, [], ◌∷◌, length, set, sum_by, refl, arith, sym, subst, inl, inr}
use Rattle.std.specs.Prelude.{Option, Some, slice_get}
use Rattle.std.proofs.lemmas.Bool.{cases_eq, cases_lt}
use Rattle.std.proofs.lemmas.List.Sums.{sum_by-cons}
use Rattle.mdc_words.specs.ByteOrder.{Entry}
use Rattle.store_api.specs.Frame.{NoPage, Touches}
use Rattle.store_api.specs.RunsOverPages.{RunsOverPages}
use Rattle.store_api.specs.declared.fault.StoreFault.{StoreFault}
use Rattle.store_api.specs.declared.pages.Pages.{Ghosts}
use Rattle.store_api.specs.declared.shape.Shape.{Shape}
use Rattle.store_api.proofs.FrameLemmas.{touches_wider}
use Rattle.store_api.proofs.RunsOverPagesLemmas.{runs_wider}
use Rattle.extent_map.specs.Owners.{IsUsedPage, with_used_page}
use Rattle.extent_map.specs.declared.kind.Kind.{Kind}
use Rattle.extent_map.specs.declared.space_notes.SpaceNotes.{SpaceNotes}
use Rattle.extent_map.proofs.UsedPagesLemmas.{claimable-not_used, no_space_page}
use Rattle.entry_tree.specs.Amending.{AmendsEntry}
use Rattle.entry_tree.specs.Forest.{Forest, times}
use Rattle.entry_tree.specs.Forest.Forest.{Leaf, Nil}
use Rattle.entry_tree.specs.HeldTrees.{BreaksTree, HoldsTree, IsTreePage}
use Rattle.entry_tree.specs.Pruning.{IsTreeOrMapPage, RemovesEntry, without_pages}
use Rattle.entry_tree.specs.Standing.{AddsEntry, IsClaimed, IsMapSpace, IsTreeSpace, MakesTree, StandsTree, with_pages}
use Rattle.entry_tree.specs.TreeChanges.{times_among}
use Rattle.entry_tree.specs.declared.tree.Tree.{Tree}
use Rattle.entry_tree.proofs.ForestLemmas.{once_least, once_other}
use Rattle.entry_tree.proofs.StandingLemmas.{map_stays}
use Rattle.entry_tree.proofs.UsedPagesLemmas.{claims_idle, used_after, used_not_idle}
use Rattle.table_trees.specs.TableTrees.{TreePlace, place_of_tree}
use Rattle.table_trees.specs.TreesBeside.{BreaksTreeAt, ChangesTrees, HoldsTreeAt, IsSpaceOfTrees, IsTreePageAt, IsTreesOrMapPage, KeepsOwners, StandTrees}
use Rattle.table_trees.proofs.KeptOwnersLemmas.{keeps_claims, keeps_returns}
use Rattle.table_trees.proofs.SideBySideLemmas.{changes_at, trees_still}
use Rattle.table_trees.proofs.TreeListsLemmas.{times-one}

claimed_among : (p : ℕ) (claimed : List ℕ) → 0 < times_among p claimed → IsClaimed p claimed
claimed_among p [] some = absurd (omega arith)
claimed_among p (q ∷ claimed) some = elim (cases_eq p q) [
  | inl same ↦ inl same
  | inr other ↦ inr (claimed_among p claimed (omega (arith, some, once_other p q other)))
]

module _ {S : Type 0} {g : Ghosts S} where
  -- ---- a tree alone

  pub one_stands : (shape : Shape) (s : S) (tree : Tree) (owners : List Kind) (t : Forest) → StandsTree g shape s tree owners t → StandTrees g shape s owners (place_of_tree tree ∷ []) (t ∷ [])
  one_stands shape s tree owners t st = record {
    map = st.map;
    held = (record { is_tree = st.held.is_tree; trim = st.held.trim }, tt);
    used = λ p l. st.used p (omega (arith, l, times-one p t));
    apart = λ p. omega (arith, times-one p t, st.held.is_tree.distinct p);
  }

  stands_one : (shape : Shape) (s : S) (tree : Tree) (owners : List Kind) (t : Forest) → StandTrees g shape s owners (place_of_tree tree ∷ []) (t ∷ []) → StandsTree g shape s tree owners t
  stands_one shape s tree owners t st = record {
    map = st.map;
    held = record { is_tree = st.held.0.is_tree; trim = st.held.0.trim };
    used = λ p l. st.used p (omega (arith, l, times-one p t));
  }

  -- what a fact on each tree that stands in a place gives of lists of one
  each_one : (shape : Shape) (s : S) (tree : Tree) (Claim : List Kind → List Forest → Type 0) → ((owners : List Kind) (t : Forest) → StandsTree g shape s tree owners t → Claim owners (t ∷ []))
      → (owners : List Kind) (trees : List Forest) → StandTrees g shape s owners (place_of_tree tree ∷ []) trees → Claim owners trees
  each_one shape s tree Claim each owners [] st = absurd st.held
  each_one shape s tree Claim each owners (t ∷ []) st = each owners t (stands_one shape s tree owners t st)
  each_one shape s tree Claim each owners (t ∷ u ∷ trees) st = absurd st.held.1

  -- ---- the pages that a call on one may change

  pub space_of_tree : (shape : Shape) (s : S) (tree : Tree) (p : ℕ) → IsTreeSpace g shape s tree p → IsSpaceOfTrees g shape s (place_of_tree tree ∷ []) p
  space_of_tree shape s tree p is =
      each_one shape s tree _ (λ owners t st. elim (is owners t st) [ inl here ↦ inl (omega (arith, here, times-one p t)) | inr rest ↦ inr rest ])

  pub space_of_removal : (shape : Shape) (s : S) (tree : Tree) (p : ℕ) → IsTreeOrMapPage g shape s tree p → IsSpaceOfTrees g shape s (place_of_tree tree ∷ []) p
  space_of_removal shape s tree p is =
      each_one shape s tree _ (λ owners t st. elim (is owners t st) [ inl here ↦ inl (omega (arith, here, times-one p t)) | inr map ↦ inr (inl (inr map)) ])

  pub trees_or_map_of_removal : (shape : Shape) (s : S) (tree : Tree) (p : ℕ) → IsTreeOrMapPage g shape s tree p → IsTreesOrMapPage g shape s (place_of_tree tree ∷ []) p
  trees_or_map_of_removal shape s tree p is =
      each_one shape s tree _ (λ owners t st. elim (is owners t st) [ inl here ↦ inl (omega (arith, here, times-one p t)) | inr map ↦ inr map ])

  pub space_of_amending : (shape : Shape) (s : S) (tree : Tree) (p : ℕ) → IsTreePage g s tree p → IsSpaceOfTrees g shape s (place_of_tree tree ∷ []) p
  space_of_amending shape s tree p is = each_one shape s tree _ (λ owners t st. inl (omega (arith, is t st.held, times-one p t)))

  -- ---- an entry more

  pub adds_alone : (shape : Shape) (before noted : SpaceNotes) (old new : S) (tree : Tree) (x : Entry) (owners : List Kind) (t : Forest) → StandsTree g shape old tree owners t
      → (a : AddsEntry g shape before noted old new tree x owners t)
      → ChangesTrees g shape before noted new (place_of_tree tree ∷ []) owners (t ∷ []) (with_pages shape owners a.claimed) (a.after ∷ [])
  adds_alone shape before noted old new tree x owners t st a = record {
    stand = one_stands shape new tree (with_pages shape owners a.claimed) a.after a.stands;
    pages = λ p l. elim (cases_lt 0 (times_among p a.claimed)) [
      | inl claimed ↦ inr (claims_idle shape owners a.claimed p a.claims (claimed_among p a.claimed claimed))
      | inr none ↦ inl (omega (arith, l, none, a.pages p, times-one p a.after, times-one p t))
    ];
    kept = keeps_claims shape owners a.claimed (t ∷ []) (a.after ∷ []) st.map.count a.claims (λ p. omega (arith, a.pages p, times-one p a.after, times-one p t));
    notes = a.notes;
  }

  pub adds_beside : (shape : Shape) (before noted : SpaceNotes) (old new : S) (places : List TreePlace) (trees : List Forest) (tree : Tree) (i : ℕ) (x : Entry) (owners : List Kind) (t : Forest) → slice_get places i ≡ Some (place_of_tree tree)
      → slice_get trees i ≡ Some t → StandTrees g shape old owners places trees → Touches g (IsTreeSpace g shape old tree) old new → (g.state new).is_told ≡ (g.state old).is_told
      → StandsTree g shape old tree owners t → (a : AddsEntry g shape before noted old new tree x owners t)
      → ChangesTrees g shape before noted new places owners trees (with_pages shape owners a.claimed) (set trees i a.after)
  adds_beside shape before noted old new places trees tree i x owners t at is st touched told one a =
      changes_at shape before noted old new places trees i (place_of_tree tree) t a.after owners (with_pages shape owners a.claimed) at is st (touches_wider touched (space_of_tree shape old tree)) told
      (adds_alone shape before noted old new tree x owners t one a)

  -- ---- an entry less

  pub removes_alone : (shape : Shape) (before noted : SpaceNotes) (old new : S) (tree : Tree) (x : Entry) (owners : List Kind) (t : Forest) → StandsTree g shape old tree owners t
      → (r : RemovesEntry g shape before noted new tree x owners t) → ChangesTrees g shape before noted new (place_of_tree tree ∷ []) owners (t ∷ []) (without_pages shape owners r.gone) (r.after ∷ [])
  removes_alone shape before noted old new tree x owners t st r = record {
    stand = one_stands shape new tree (without_pages shape owners r.gone) r.after r.stands;
    pages = λ p l. inl (omega (arith, l, r.pages p, times-one p r.after, times-one p t));
    kept = keeps_returns shape owners r.gone (t ∷ []) (r.after ∷ []) st.map.count (λ p l. let used = st.used p (omega (arith, l, times-one p t)) in used.page)
        (λ p. omega (arith, r.pages p, times-one p r.after, times-one p t));
    notes = r.notes;
  }

  pub removes_beside : (shape : Shape) (before noted : SpaceNotes) (old new : S) (places : List TreePlace) (trees : List Forest) (tree : Tree) (i : ℕ) (x : Entry) (owners : List Kind) (t : Forest) → slice_get places i ≡ Some (place_of_tree tree)
      → slice_get trees i ≡ Some t → StandTrees g shape old owners places trees → Touches g (IsTreeOrMapPage g shape old tree) old new → (g.state new).is_told ≡ (g.state old).is_told
      → StandsTree g shape old tree owners t → (r : RemovesEntry g shape before noted new tree x owners t)
      → ChangesTrees g shape before noted new places owners trees (without_pages shape owners r.gone) (set trees i r.after)
  removes_beside shape before noted old new places trees tree i x owners t at is st touched told one r =
      changes_at shape before noted old new places trees i (place_of_tree tree) t r.after owners (without_pages shape owners r.gone) at is st (touches_wider touched (space_of_removal shape old tree)) told
      (removes_alone shape before noted old new tree x owners t one r)

  -- ---- an entry in the place of another

  pub amends_alone : (shape : Shape) (noted : SpaceNotes) (old new : S) (tree : Tree) (x y : Entry) (owners : List Kind) (t : Forest) → StandsTree g shape old tree owners t → Touches g (IsTreePage g old tree) old new
      → length (g.state old).work ≤ length (g.state new).work → (a : AmendsEntry g new tree x y t) → ChangesTrees g shape noted noted new (place_of_tree tree ∷ []) owners (t ∷ []) owners (a.after ∷ [])
  amends_alone shape noted old new tree x y owners t st touched longer a = record {
    stand = one_stands shape new tree owners a.after (record {
      map = map_stays (IsTreePage g old tree) shape old new owners st.map touched longer (λ p on_map mine. let used = st.used p (mine t st.held) in no_space_page shape p used.page (inr on_map));
      held = a.held;
      used = λ p l. st.used p (omega (arith, l, a.pages p));
    });
    pages = λ p l. inl (omega (arith, l, a.pages p, times-one p a.after, times-one p t));
    kept = record {
      blocks = λ e. refl;
      others = λ p used none. used;
      used = λ p used. elim (cases_lt 0 (sum_by (times p) (a.after ∷ []))) [
        | inl some ↦ inl some
        | inr none ↦ inr (used, omega (arith, none, a.pages p, times-one p a.after, times-one p t))
      ];
    };
    notes = λ right. right;
  }

  pub amends_beside : (shape : Shape) (noted : SpaceNotes) (old new : S) (places : List TreePlace) (trees : List Forest) (tree : Tree) (i : ℕ) (x y : Entry) (owners : List Kind) (t : Forest) → slice_get places i ≡ Some (place_of_tree tree)
      → slice_get trees i ≡ Some t → StandTrees g shape old owners places trees → Touches g (IsTreePage g old tree) old new → (g.state new).is_told ≡ (g.state old).is_told
      → length (g.state old).work ≤ length (g.state new).work → StandsTree g shape old tree owners t → (a : AmendsEntry g new tree x y t) → ChangesTrees g shape noted noted new places owners trees owners (set trees i a.after)
  amends_beside shape noted old new places trees tree i x y owners t at is st touched told longer one a =
      changes_at shape noted noted old new places trees i (place_of_tree tree) t a.after owners owners at is st (touches_wider touched (space_of_amending shape old tree)) told
      (amends_alone shape noted old new tree x y owners t one touched longer a)

  -- ---- a tree more

  pub makes_beside : (shape : Shape) (before noted : SpaceNotes) (old new : S) (places : List TreePlace) (trees : List Forest) (tree : Tree) (owners : List Kind) → StandTrees g shape old owners places trees
      → Touches g (IsMapSpace g shape old) old new → (g.state new).is_told ≡ (g.state old).is_told → MakesTree g shape before noted old new tree owners
      → StandTrees g shape new (with_used_page shape owners tree.root) (place_of_tree tree ∷ places) (Leaf tree.root [] Nil ∷ trees)
  makes_beside shape before noted old new places trees tree owners st touched told m = record {
    map = m.stands.map;
    held = (
      record { is_tree = m.stands.held.is_tree; trim = m.stands.held.trim },
      trees_still (IsMapSpace g shape old) old new places trees st.held touched told
          (λ p l mine. elim (mine owners st.map) [ inl space ↦ (let used = st.used p l in no_space_page shape p used.page space) | inr idle ↦ used_not_idle shape owners p (st.used p l) idle ]),
    );
    used = λ p l. elim (cases_lt 0 (sum_by (times p) trees)) [
      | inl some ↦ used_after shape owners (tree.root ∷ []) p (st.used p some)
      | inr none ↦ m.stands.used p (omega (arith, l, none, sum_by-cons (times p) (Leaf tree.root [] Nil) trees))
    ];
    apart = λ p. elim (cases_eq p tree.root) [
      | inl here ↦ omega (arith, in_none p here, once_least p tree.root, sum_by-cons (times p) (Leaf tree.root [] Nil) trees)
      | inr other ↦ omega (arith, once_other p tree.root other, st.apart p, sum_by-cons (times p) (Leaf tree.root [] Nil) trees)
    ];
  }
    where
      in_none : (p : ℕ) → p ≡ tree.root → sum_by (times p) trees ≡ 0
      in_none p here = elim (cases_lt 0 (sum_by (times p) trees)) [
        | inl some ↦ absurd (claimable-not_used shape owners tree.root m.claimable (subst (IsUsedPage shape owners) here (st.used p some)))
        | inr not ↦ omega arith
      ]

  pub makes_keep : (shape : Shape) (before noted : SpaceNotes) (old new : S) (places : List TreePlace) (trees : List Forest) (tree : Tree) (owners : List Kind) → StandTrees g shape old owners places trees
      → MakesTree g shape before noted old new tree owners → KeepsOwners shape owners trees (with_used_page shape owners tree.root) (Leaf tree.root [] Nil ∷ trees)
  makes_keep shape before noted old new places trees tree owners st m =
      keeps_claims shape owners (tree.root ∷ []) trees (Leaf tree.root [] Nil ∷ trees) st.map.count (m.claimable, tt) (λ p. omega (arith, sum_by-cons (times p) (Leaf tree.root [] Nil) trees))

  -- ---- a call that reads one tree

  pub holds_at : (s : S) (tree : Tree) (place : TreePlace) (t : Forest) → place_of_tree tree ≡ place → HoldsTreeAt g s place t → HoldsTree g s tree t
  holds_at s tree place t is held = let own = subst (λ (q : TreePlace). HoldsTreeAt g s q t) (sym is) held in record { is_tree = own.is_tree; trim = own.trim }

  -- its run in words of the tree's place
  pub runs_at : {old new : S} {fault : Option StoreFault} (tree : Tree) (place : TreePlace) → place_of_tree tree ≡ place → RunsOverPages g NoPage (IsTreePage g old tree) (BreaksTree g old tree) old new fault
      → RunsOverPages g NoPage (IsTreePageAt g old place) (BreaksTreeAt g old place) old new fault
  runs_at {old = old} {new = new} {fault = fault} tree place is run =
      subst (λ (q : TreePlace). RunsOverPages g NoPage (IsTreePageAt g old q) (BreaksTreeAt g old q) old new fault) is
      (runs_wider run (λ p there none. none) (λ p mine t held. mine t (holds_at old tree (place_of_tree tree) t refl held))
      (λ damage b. record { page = b.page; rule = b.rule; broken = λ t held. b.broken t (holds_at old tree (place_of_tree tree) t refl held) }))
