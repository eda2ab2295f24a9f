-- Trees side by side: what stays where other pages are touched, and what a change of some of them is to all.
use Rattle.std.proofs.Common.{◌≡◌, ◌<◌, ◌≤◌, ◌+◌, ℕ, suc, List, [], ◌∷◌, ◌++◌, length, length-append, length-drop, length-take, set, take, drop, sum_by, refl, ap, arith, sym, ◌∙◌, subst, ◌⊎◌, inl, inr}
use Rattle.std.specs.Prelude.{Some, slice_get}
use Rattle.std.specs.List.{AllZip}
use Rattle.std.proofs.lemmas.Bool.{cases_eq, cases_lt}
use Rattle.std.proofs.lemmas.List.{take-append-drop}
use Rattle.std.proofs.lemmas.List.Sums.{sum_by-cons}
use Rattle.std.proofs.lemmas.Slice.Zip.{AllZip-long}
use Rattle.store_api.specs.Frame.{Touches}
use Rattle.store_api.specs.declared.pages.Pages.{Ghosts}
use Rattle.store_api.specs.declared.shape.Shape.{Shape}
use Rattle.store_api.proofs.FrameLemmas.{touches_same}
use Rattle.extent_map.specs.Map.{HoldsMap, IsMapPage, IsSpacePage}
use Rattle.extent_map.specs.Owners.{IsExtentPage, IsUsedPage, extent_of, owner_of, place_in_extent}
use Rattle.extent_map.specs.declared.kind.Kind.{Kind}
use Rattle.extent_map.specs.declared.kind.Kind.TheVariants.{Block}
use Rattle.extent_map.specs.declared.space_notes.SpaceNotes.{SpaceNotes}
use Rattle.extent_map.proofs.UsedPagesLemmas.{no_space_page}
use Rattle.entry_tree.specs.Forest.{EachNode, Forest, IsPageBelow, times}
use Rattle.entry_tree.specs.Forest.Forest.{Nil, Leaf, Fork}
use Rattle.entry_tree.specs.HeldTrees.{nodes_in}
use Rattle.entry_tree.specs.Standing.{IsIdlePage, StandsTree}
use Rattle.entry_tree.specs.declared.tree.Tree.{Tree}
use Rattle.entry_tree.proofs.ForestLemmas.{HoldsForest-agree, once_other}
use Rattle.entry_tree.proofs.HeldTreesLemmas.{HoldsForest-below, nodes_kept}
use Rattle.entry_tree.proofs.StandingLemmas.{map_stays}
use Rattle.entry_tree.proofs.UsedPagesLemmas.{used_not_idle}
use Rattle.table_trees.specs.TableTrees.{TreePlace, place_of_tree}
use Rattle.table_trees.specs.TreesBeside.{ChangesTrees, HoldsTreeAt, IsSpaceOfTrees, IsTreesOrMapPage, StandTrees, table_of_block}
use Rattle.table_trees.proofs.KeptOwnersLemmas.{idle_back, idle_no_block, keeps_all, used_no_block}
use Rattle.table_trees.proofs.TreeListsLemmas.{AllZip-back, AllZip-both, AllZip-front, beside_at, cut_at, same_cut, set_at_cut, times-one, times-parts}

-- what holds of each page of a tree, whatever the node
page_below : (count n : ℕ) (t : Forest) → EachNode (IsPageBelow count) t → 0 < times n t → n < count
page_below count n Nil h l = absurd (omega arith)
page_below count n (Leaf p items next) h l = elim (cases_eq n p) [
  | inl e ↦ subst (λ (v : ℕ). v < count) (sym e) h.0
  | inr d ↦ page_below count n next h.1 (omega (arith, once_other n p d))
]
page_below count n (Fork p seps kids next) h l = elim (cases_eq n p) [
  | inl e ↦ subst (λ (v : ℕ). v < count) (sym e) h.0
  | inr d ↦ elim (cases_lt 0 (times n kids)) [
    | inl more ↦ page_below count n kids h.1 more
    | inr none ↦ page_below count n next h.2 (omega (arith, once_other n p d))
  ]
]

times-at : (p : ℕ) (trees : List Forest) (i : ℕ) (t : Forest) → slice_get trees i ≡ Some t → times p t ≤ sum_by (times p) trees
times-at p trees i t is = omega (arith, ap (sum_by (times p)) (cut_at trees i t is), times-parts p (take i trees) (t ∷ []) (drop (suc i) trees), times-one p t)

-- how often a page stands in the trees where one of them is another
pub times-set : (trees : List Forest) (i : ℕ) (t t_now : Forest) → slice_get trees i ≡ Some t → (q : ℕ) → sum_by (times q) (set trees i t_now) + times q t ≡ sum_by (times q) trees + times q t_now
times-set trees i t t_now is q =
    omega (
      arith,
      ap (sum_by (times q)) (cut_at trees i t is),
      ap (sum_by (times q)) (set_at_cut trees i t t_now is),
      times-parts q (take i trees) (t ∷ []) (drop (suc i) trees),
      times-parts q (take i trees) (t_now ∷ []) (drop (suc i) trees),
      times-one q t,
      times-one q t_now,
    )

-- no page stands more often in the trees where none stands more often in one that changed
pub sum_no_more : (trees : List Forest) (i : ℕ) (t t_now : Forest) → slice_get trees i ≡ Some t → ((q : ℕ) → times q t_now ≤ times q t) → (q : ℕ) → sum_by (times q) (set trees i t_now) ≤ sum_by (times q) trees
sum_no_more trees i t t_now is fewer q = omega (arith, times-set trees i t t_now is q, fewer q)

-- and none less often where none does so in that one
pub sum_no_less : (trees : List Forest) (i : ℕ) (t t_now : Forest) → slice_get trees i ≡ Some t → ((q : ℕ) → times q t ≤ times q t_now) → (q : ℕ) → sum_by (times q) trees ≤ sum_by (times q) (set trees i t_now)
sum_no_less trees i t t_now is more q = omega (arith, times-set trees i t t_now is q, more q)

module _ {S : Type 0} {g : Ghosts S} where
  -- ---- what stays

  -- a tree of whose pages none is touched
  pub tree_still : (Mine : ℕ → Type 0) (old new : S) (place : TreePlace) (t : Forest) → HoldsTreeAt g old place t → Touches g Mine old new → (g.state new).is_told ≡ (g.state old).is_told
      → ((p : ℕ) → 0 < times p t → Mine p → ⊥) → HoldsTreeAt g new place t
  tree_still Mine old new place t h touched told apart = record {
    is_tree = record {
      head = h.is_tree.head;
      holds = HoldsForest-agree (nodes_in place.width (g.state old)) (nodes_in place.width (g.state new)) t
          (λ p l. nodes_kept g Mine old new place.width p touched told (page_below (length (g.state old).work) p t (HoldsForest-below place.width (g.state old) t h.is_tree.holds) l) (apart p l)) h.is_tree.holds;
      fits = h.is_tree.fits;
      distinct = h.is_tree.distinct;
    };
    trim = h.trim;
  }

  pub trees_still : (Mine : ℕ → Type 0) (old new : S) (places : List TreePlace) (trees : List Forest) → AllZip (HoldsTreeAt g old) places trees → Touches g Mine old new
      → (g.state new).is_told ≡ (g.state old).is_told → ((p : ℕ) → 0 < sum_by (times p) trees → Mine p → ⊥) → AllZip (HoldsTreeAt g new) places trees
  trees_still Mine old new [] [] h touched told apart = tt
  trees_still Mine old new [] (t ∷ trees) h touched told apart = absurd h
  trees_still Mine old new (place ∷ places) [] h touched told apart = absurd h
  trees_still Mine old new (place ∷ places) (t ∷ trees) h touched told apart = (
    tree_still Mine old new place t h.0 touched told (λ p l. apart p (omega (arith, l, sum_by-cons (times p) t trees))),
    trees_still Mine old new places trees h.1 touched told (λ p l. apart p (omega (arith, l, sum_by-cons (times p) t trees))),
  )

  -- trees where the extent map became another one, no page of theirs was touched, and used pages are used still
  pub stand_on : (Mine : ℕ → Type 0) (shape : Shape) (old new : S) (owners owners_now : List Kind) (places : List TreePlace) (trees : List Forest) → StandTrees g shape old owners places trees
      → HoldsMap g shape new owners_now → ((p : ℕ) → IsUsedPage shape owners p → IsUsedPage shape owners_now p) → Touches g Mine old new → (g.state new).is_told ≡ (g.state old).is_told
      → ((p : ℕ) → 0 < sum_by (times p) trees → Mine p → ⊥) → StandTrees g shape new owners_now places trees
  stand_on Mine shape old new owners owners_now places trees st map still touched told apart = record {
    map = map;
    held = trees_still Mine old new places trees st.held touched told apart;
    used = λ p l. still p (st.used p l);
    apart = st.apart;
  }

  -- trees and extent map, where no page of either is touched
  pub stand_still : (Mine : ℕ → Type 0) (shape : Shape) (old new : S) (owners : List Kind) (places : List TreePlace) (trees : List Forest) → StandTrees g shape old owners places trees → Touches g Mine old new
      → (g.state new).is_told ≡ (g.state old).is_told → length (g.state old).work ≤ length (g.state new).work → ((p : ℕ) → IsMapPage shape p → Mine p → ⊥)
      → ((p : ℕ) → 0 < sum_by (times p) trees → Mine p → ⊥) → StandTrees g shape new owners places trees
  stand_still Mine shape old new owners places trees st touched told longer off_map apart =
      stand_on Mine shape old new owners owners places trees st (map_stays Mine shape old new owners st.map touched longer off_map) (λ p used. used) touched told apart

  -- the same, where the work stays
  pub stand_same : (shape : Shape) (old new : S) (owners : List Kind) (places : List TreePlace) (trees : List Forest) → (g.state new).is_told ≡ (g.state old).is_told → (g.state new).work ≡ (g.state old).work
      → StandTrees g shape old owners places trees → StandTrees g shape new owners places trees
  stand_same shape old new owners places trees told same st =
      stand_still (λ p. ⊥) shape old new owners places trees st (touches_same told same) told (omega (arith, ap length same)) (λ p on mine. mine) (λ p l mine. mine)

  -- ---- one of them

  pub tree_among : (shape : Shape) (s : S) (owners : List Kind) (places : List TreePlace) (trees : List Forest) (tree : Tree) (i : ℕ) → StandTrees g shape s owners places trees → slice_get places i ≡ Some (place_of_tree tree)
      → (t : Forest) × (slice_get trees i ≡ Some t) × StandsTree g shape s tree owners t
  tree_among shape s owners places trees tree i st at =
      let here = beside_at (HoldsTreeAt g s) places trees i (place_of_tree tree) st.held at in (
        here.0,
        here.1,
        record {
          map = st.map;
          held = record { is_tree = here.2.is_tree; trim = here.2.trim };
          used = λ p l. st.used p (omega (arith, l, times-at p trees i here.0 here.1));
        },
      )

  -- ---- some of them

  pub part_stands : (shape : Shape) (s : S) (owners : List Kind) (front mine back : List TreePlace) (fronts trees backs : List Forest) → length front ≡ length fronts → length mine ≡ length trees
      → StandTrees g shape s owners (front ++ (mine ++ back)) (fronts ++ (trees ++ backs)) → StandTrees g shape s owners mine trees
  part_stands shape s owners front mine back fronts trees backs e f st = record {
    map = st.map;
    held = AllZip-front (HoldsTreeAt g s) mine back trees backs f (AllZip-back (HoldsTreeAt g s) front (mine ++ back) fronts (trees ++ backs) e st.held);
    used = λ p l. st.used p (omega (arith, l, times-parts p fronts trees backs));
    apart = λ p. omega (arith, st.apart p, times-parts p fronts trees backs);
  }

  -- a used page that is in none of some trees isn't one that calls on these may change
  beside_space : (shape : Shape) (s : S) (owners : List Kind) (places : List TreePlace) (trees : List Forest) (p : ℕ) → StandTrees g shape s owners places trees → sum_by (times p) trees ≡ 0
      → IsUsedPage shape owners p → IsSpaceOfTrees g shape s places p → ⊥
  beside_space shape s owners places trees p st none used mine = elim (mine owners trees st) [
    | inl here ↦ omega (arith, here, none)
    | inr rest ↦ elim rest [ inl space ↦ no_space_page shape p used.page space | inr idle ↦ used_not_idle shape owners p used idle ]
  ]

  -- a change of some trees is one of all
  module _ (shape : Shape) (old new : S) (front mine back : List TreePlace) (fronts trees trees_now backs : List Forest) (owners owners_now : List Kind) where
    beside_mine : (p : ℕ) → StandTrees g shape old owners (front ++ (mine ++ back)) (fronts ++ (trees ++ backs)) → 0 < sum_by (times p) fronts + sum_by (times p) backs
        → (sum_by (times p) trees ≡ 0) × IsUsedPage shape owners p
    beside_mine p st some = (omega (arith, st.apart p, some, times-parts p fronts trees backs), st.used p (omega (arith, some, times-parts p fronts trees backs)))

    part_stands_now : {before noted : SpaceNotes} → length front ≡ length fronts → length mine ≡ length trees → StandTrees g shape old owners (front ++ (mine ++ back)) (fronts ++ (trees ++ backs))
        → Touches g (IsSpaceOfTrees g shape old mine) old new → (g.state new).is_told ≡ (g.state old).is_told → ChangesTrees g shape before noted new mine owners trees owners_now trees_now
        → StandTrees g shape new owners_now (front ++ (mine ++ back)) (fronts ++ (trees_now ++ backs))
    part_stands_now e f st touched told c = record {
      map = c.stand.map;
      held = AllZip-both (HoldsTreeAt g new) front (mine ++ back) fronts (trees_now ++ backs)
          (trees_still Mine old new front fronts (AllZip-front (HoldsTreeAt g old) front (mine ++ back) fronts (trees ++ backs) e st.held) touched told (λ p l. off p (omega (arith, l))))
          (AllZip-both (HoldsTreeAt g new) mine back trees_now backs c.stand.held
          (trees_still Mine old new back backs (AllZip-back (HoldsTreeAt g old) mine back trees backs f (AllZip-back (HoldsTreeAt g old) front (mine ++ back) fronts (trees ++ backs) e st.held)) touched told (λ p l. off p (omega (arith, l)))));
      used = λ p l. elim (cases_lt 0 (sum_by (times p) trees_now)) [
        | inl some ↦ c.stand.used p some
        | inr none ↦
            let was = beside_mine p st (omega (arith, l, none, times-parts p fronts trees_now backs)) in
            c.kept.others p was.1 was.0
      ];
      apart = λ p. elim (cases_lt 0 (sum_by (times p) trees_now)) [
        | inl some ↦ elim (c.pages p some) [
          | inl was ↦ omega (arith, was, st.apart p, c.stand.apart p, times-parts p fronts trees backs, times-parts p fronts trees_now backs)
          | inr idle ↦ elim (cases_lt 0 (sum_by (times p) fronts + sum_by (times p) backs)) [
            | inl other ↦ absurd (used_not_idle shape owners p (beside_mine p st other).1 idle)
            | inr no_other ↦ omega (arith, no_other, c.stand.apart p, times-parts p fronts trees_now backs)
          ]
        ]
        | inr none ↦ omega (arith, none, st.apart p, times-parts p fronts trees backs, times-parts p fronts trees_now backs)
      ];
    }
      where
        Mine : ℕ → Type 0
        Mine = IsSpaceOfTrees g shape old mine

        off : (p : ℕ) → 0 < sum_by (times p) fronts + sum_by (times p) backs → Mine p → ⊥
        off p some =
            let was = beside_mine p st some in
            beside_space shape old owners mine trees p (part_stands shape old owners front mine back fronts trees backs e f st) was.0 was.1

    pub part_changes : {before noted : SpaceNotes} → length front ≡ length fronts → length mine ≡ length trees → StandTrees g shape old owners (front ++ (mine ++ back)) (fronts ++ (trees ++ backs))
        → Touches g (IsSpaceOfTrees g shape old mine) old new → (g.state new).is_told ≡ (g.state old).is_told → ChangesTrees g shape before noted new mine owners trees owners_now trees_now
        → ChangesTrees g shape before noted new (front ++ (mine ++ back)) owners (fronts ++ (trees ++ backs)) owners_now (fronts ++ (trees_now ++ backs))
    part_changes e f st touched told c = record {
      stand = part_stands_now e f st touched told c;
      pages = λ p l. elim (cases_lt 0 (sum_by (times p) trees_now)) [
        | inl some ↦ elim (c.pages p some) [ inl was ↦ inl (omega (arith, was, times-parts p fronts trees backs)) | inr idle ↦ inr idle ]
        | inr none ↦ inl (omega (arith, l, none, times-parts p fronts trees backs, times-parts p fronts trees_now backs))
      ];
      kept = record {
        blocks = c.kept.blocks;
        others = λ p used none. c.kept.others p used (omega (arith, none, times-parts p fronts trees backs));
        used = λ p used. elim (c.kept.used p used) [
          | inl now ↦ inl (omega (arith, now, times-parts p fronts trees_now backs))
          | inr was ↦ elim (cases_lt 0 (sum_by (times p) (fronts ++ (trees_now ++ backs)))) [
            | inl some ↦ inl some
            | inr none ↦ inr (was.0, omega (arith, none, was.1, times-parts p fronts trees backs, times-parts p fronts trees_now backs))
          ]
        ];
      };
      notes = c.notes;
    }

  -- a change of the tree in one place is one of all
  pub changes_at : (shape : Shape) (before noted : SpaceNotes) (old new : S) (places : List TreePlace) (trees : List Forest) (i : ℕ) (place : TreePlace) (t t_now : Forest) (owners owners_now : List Kind) → slice_get places i ≡ Some place
      → slice_get trees i ≡ Some t → StandTrees g shape old owners places trees → Touches g (IsSpaceOfTrees g shape old (place ∷ [])) old new → (g.state new).is_told ≡ (g.state old).is_told
      → ChangesTrees g shape before noted new (place ∷ []) owners (t ∷ []) owners_now (t_now ∷ []) → ChangesTrees g shape before noted new places owners trees owners_now (set trees i t_now)
  changes_at shape before noted old new places trees i place t t_now owners owners_now at is st touched told c =
      let e = cut_at places i place at in
      let f = cut_at trees i t is in
      let st_cut : StandTrees g shape old owners (take i places ++ (place ∷ [] ++ drop (suc i) places)) (take i trees ++ (t ∷ [] ++ drop (suc i) trees)) =
      subst (λ (us : List Forest). StandTrees g shape old owners (take i places ++ (place ∷ [] ++ drop (suc i) places)) us) f (subst (λ (ps : List TreePlace). StandTrees g shape old owners ps trees) e st) in
      let whole = part_changes shape old new (take i places) (place ∷ []) (drop (suc i) places) (take i trees) (t ∷ []) (t_now ∷ []) (drop (suc i) trees) owners owners_now
      (same_cut places trees i place t at is) refl st_cut touched told c in
      subst (λ (us : List Forest). ChangesTrees g shape before noted new places owners us owners_now (set trees i t_now)) (sym f)
      (subst (λ (us : List Forest). ChangesTrees g shape before noted new places owners (take i trees ++ (t ∷ [] ++ drop (suc i) trees)) owners_now us) (sym (set_at_cut trees i t t_now is))
      (subst (λ (ps : List TreePlace). ChangesTrees g shape before noted new ps owners (take i trees ++ (t ∷ [] ++ drop (suc i) trees)) owners_now (take i trees ++ (t_now ∷ [] ++ drop (suc i) trees))) (sym e) whole))

  -- ---- one change after another

  pub changes_none : (shape : Shape) (noted : SpaceNotes) (s : S) (places : List TreePlace) (owners : List Kind) (trees : List Forest) → StandTrees g shape s owners places trees → ChangesTrees g shape noted noted s places owners trees owners trees
  changes_none shape noted s places owners trees st = record {
    stand = st;
    pages = λ p l. inl l;
    kept = keeps_all shape owners trees;
    notes = λ right. right;
  }

  pub changes_then : (shape : Shape) (before mid noted : SpaceNotes) (middle new : S) (places : List TreePlace) (owners owners_mid owners_now : List Kind) (trees trees_mid trees_now : List Forest)
      → ChangesTrees g shape before mid middle places owners trees owners_mid trees_mid → ChangesTrees g shape mid noted new places owners_mid trees_mid owners_now trees_now → ChangesTrees g shape before noted new places owners trees owners_now trees_now
  changes_then shape before mid noted middle new places owners owners_mid owners_now trees trees_mid trees_now c d = record {
    stand = d.stand;
    pages = λ p l. elim (d.pages p l) [ inl was ↦ c.pages p was | inr idle ↦ idle_back shape owners owners_mid trees trees_mid p c.kept idle ];
    kept = record {
      blocks = λ e. d.kept.blocks e ∙ c.kept.blocks e;
      others = λ p used none.
          let later = c.kept.others p used none in
          d.kept.others p later (none_mid p used none);
      used = λ p used. elim (d.kept.used p used) [
        | inl now ↦ inl now
        | inr was ↦ elim (c.kept.used p was.0) [ inl some ↦ absurd (omega (arith, some, was.1)) | inr before ↦ inr before ]
      ];
    };
    notes = λ right. d.notes (c.notes right);
  }
    where
      none_mid : (p : ℕ) → IsUsedPage shape owners p → sum_by (times p) trees ≡ 0 → sum_by (times p) trees_mid ≡ 0
      none_mid p used none = elim (cases_lt 0 (sum_by (times p) trees_mid)) [
        | inl some ↦ elim (c.pages p some) [ inl was ↦ absurd (omega (arith, was, none)) | inr idle ↦ absurd (used_not_idle shape owners p used idle) ]
        | inr not ↦ omega arith
      ]

  -- the pages that a later call may change
  pub space_back : (shape : Shape) (before now : SpaceNotes) (old mid : S) (places : List TreePlace) (p : ℕ)
      → ((owners : List Kind) (trees : List Forest) → StandTrees g shape old owners places trees → (owners_mid : List Kind) × (trees_mid : List Forest) × ChangesTrees g shape before now mid places owners trees owners_mid trees_mid)
      → IsSpaceOfTrees g shape mid places p → IsSpaceOfTrees g shape old places p
  space_back shape before now old mid places p leads mine owners trees st =
      let c = leads owners trees st in
      elim (mine c.0 c.1 c.2.stand) [
        | inl here ↦ elim (c.2.pages p here) [ inl was ↦ inl was | inr idle ↦ inr (inr idle) ]
        | inr rest ↦ elim rest [
          | inl space ↦ inr (inl space)
          | inr idle ↦ elim (idle_back shape owners c.0 trees c.1 p c.2.kept idle) [ inl was ↦ inl was | inr still ↦ inr (inr still) ]
        ]
      ]

  -- ---- the pages that a later call may change, which claims nothing

  pub trees_or_map_back : (shape : Shape) (old mid : S) (places : List TreePlace) (p : ℕ)
      → ((owners : List Kind) (trees : List Forest) → StandTrees g shape old owners places trees
      → (owners_mid : List Kind) × (trees_mid : List Forest) × StandTrees g shape mid owners_mid places trees_mid × ((q : ℕ) → sum_by (times q) trees_mid ≤ sum_by (times q) trees))
      → IsTreesOrMapPage g shape mid places p → IsTreesOrMapPage g shape old places p
  trees_or_map_back shape old mid places p leads mine owners trees st =
      let c = leads owners trees st in
      elim (mine c.0 c.1 c.2) [
        | inl here ↦ inl (omega (arith, here, c.3 p))
        | inr map ↦ inr map
      ]

  -- ---- a part and all

  -- what is a page of some trees, or else something that the owners say, is a page of all, or that
  part_or_else : (Else : List Kind → Type 0) (shape : Shape) (s : S) (front mine back : List TreePlace) (p : ℕ)
      → ((owners : List Kind) (trees : List Forest) → StandTrees g shape s owners mine trees → 0 < sum_by (times p) trees ⊎ Else owners)
      → (owners : List Kind) (trees : List Forest) → StandTrees g shape s owners (front ++ (mine ++ back)) trees → 0 < sum_by (times p) trees ⊎ Else owners
  part_or_else Else shape s front mine back p is owners trees st = elim (is owners part (part_stands shape s owners front mine back fronts part backs (omega (arith, long, length-take (length front) trees)) (omega (arith, long, length-take (length mine) rest, length-drop (length front) trees)) cut)) [
    | inl here ↦ inl (omega (arith, here, ap (sum_by (times p)) whole, times-parts p fronts part backs))
    | inr other ↦ inr other
  ]
    where
      rest : List Forest
      rest = drop (length front) trees

      fronts : List Forest
      fronts = take (length front) trees

      part : List Forest
      part = take (length mine) rest

      backs : List Forest
      backs = drop (length mine) rest

      long : length trees ≡ length front + (length mine + length back)
      long = AllZip-long (HoldsTreeAt g s) (front ++ (mine ++ back)) trees st.held ∙ (length-append front (mine ++ back) ∙ ap (λ n. length front + n) (length-append mine back))

      whole : trees ≡ fronts ++ (part ++ backs)
      whole = sym (take-append-drop (length front) trees) ∙ ap (λ ts. fronts ++ ts) (sym (take-append-drop (length mine) rest))

      cut : StandTrees g shape s owners (front ++ (mine ++ back)) (fronts ++ (part ++ backs))
      cut = subst (λ (ts : List Forest). StandTrees g shape s owners (front ++ (mine ++ back)) ts) whole st

  -- the pages of some trees are pages of all
  pub part_space : (shape : Shape) (s : S) (front mine back : List TreePlace) (p : ℕ) → IsSpaceOfTrees g shape s mine p → IsSpaceOfTrees g shape s (front ++ (mine ++ back)) p
  part_space shape s front mine back p = part_or_else (λ owners. IsSpacePage shape p ⊎ IsIdlePage shape owners p) shape s front mine back p

  pub part_trees_or_map : (shape : Shape) (s : S) (front mine back : List TreePlace) (p : ℕ) → IsTreesOrMapPage g shape s mine p → IsTreesOrMapPage g shape s (front ++ (mine ++ back)) p
  part_trees_or_map shape s front mine back p = part_or_else (λ owners. IsMapPage shape p) shape s front mine back p

  -- and so are those of one
  pub place_space : (shape : Shape) (s : S) (places : List TreePlace) (i : ℕ) (place : TreePlace) (p : ℕ) → slice_get places i ≡ Some place → IsSpaceOfTrees g shape s (place ∷ []) p → IsSpaceOfTrees g shape s places p
  place_space shape s places i place p at is =
      subst (λ (ps : List TreePlace). IsSpaceOfTrees g shape s ps p) (sym (cut_at places i place at)) (part_space shape s (take i places) (place ∷ []) (drop (suc i) places) p is)

  pub place_trees_or_map : (shape : Shape) (s : S) (places : List TreePlace) (i : ℕ) (place : TreePlace) (p : ℕ) → slice_get places i ≡ Some place → IsTreesOrMapPage g shape s (place ∷ []) p → IsTreesOrMapPage g shape s places p
  place_trees_or_map shape s places i place p at is =
      subst (λ (ps : List TreePlace). IsTreesOrMapPage g shape s ps p) (sym (cut_at places i place at)) (part_trees_or_map shape s (take i places) (place ∷ []) (drop (suc i) places) p is)

  -- what may change where nothing is claimed may change where something is
  pub space_of_trees_or_map : (shape : Shape) (s : S) (places : List TreePlace) (p : ℕ) → IsTreesOrMapPage g shape s places p → IsSpaceOfTrees g shape s places p
  space_of_trees_or_map shape s places p is owners trees st = elim (is owners trees st) [ inl here ↦ inl here | inr map ↦ inr (inl (inr map)) ]

  -- ---- the pages of blocks

  -- a page of a block isn't one that calls on trees may change, or bring to hand
  pub block_page_apart : (shape : Shape) (s : S) (owners : List Kind) (places : List TreePlace) (trees : List Forest) (p table : ℕ) → StandTrees g shape s owners places trees → IsExtentPage shape p
      → owner_of owners (extent_of shape p) ≡ Block table → IsSpaceOfTrees g shape s places p → ⊥
  block_page_apart shape s owners places trees p table st page is mine =
      let has_table : table_of_block (owner_of owners (extent_of shape p)) ≡ Some table = ap table_of_block is in
      elim (mine owners trees st) [
        | inl here ↦ let none = used_no_block (place_in_extent shape p) (owner_of owners (extent_of shape p)) (let used = st.used p here in used.used) in absurd cc
        | inr rest ↦ elim rest [ inl space ↦ no_space_page shape p page space | inr idle ↦ (let none = idle_no_block shape owners p idle in absurd cc) ]
      ]
