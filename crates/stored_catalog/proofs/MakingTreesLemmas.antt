-- Trees that are made one after the other: what they make of the extent map, and around their table.
use Rattle.std.proofs.Common.{◌≡◌, ◌<◌, ◌≤◌, ◌+◌, inl, inr, ℕ, List, [], ◌∷◌, ◌++◌, Some, None, length, map, sum_by, refl, ap, arith, sym, ◌∙◌, subst}
use Rattle.std.specs.Prelude.{IsTrue, max}
use Rattle.std.specs.List.{AllZip, FoldsTo}
use Rattle.std.proofs.lemmas.Bool.{cases_eq, cases_lt}
use Rattle.std.proofs.lemmas.List.{map-append}
use Rattle.std.proofs.lemmas.List.Sums.{sum_by-cons}
use Rattle.std.proofs.lemmas.Option.{same_Some}
use Rattle.store_api.specs.Extents.{first_page_of}
use Rattle.store_api.specs.Frame.{Touches}
use Rattle.store_api.specs.declared.pages.Pages.{Ghosts}
use Rattle.store_api.specs.declared.shape.Shape.{Shape}
use Rattle.store_api.proofs.FrameLemmas.{touches_wider}
use Rattle.extent_map.specs.Map.{HoldsMap}
use Rattle.extent_map.specs.Owners.{IsUsedPage, AreRightNotes, count_with, extent_of, owner_of, with_used_page}
use Rattle.extent_map.specs.declared.kind.Kind.{Kind}
use Rattle.extent_map.specs.declared.kind.Kind.TheVariants.{Free, Block, Index}
use Rattle.extent_map.specs.declared.space_notes.SpaceNotes.{SpaceNotes}
use Rattle.extent_map.proofs.ExtentsLemmas.{some_extents}
use Rattle.extent_map.proofs.GrowthLemmas.{growth_then}
use Rattle.extent_map.proofs.HoldsMapLemmas.{on_map}
use Rattle.extent_map.proofs.UsedPagesLemmas.{no_space_page}
use Rattle.entry_tree.specs.Forest.{Forest, times}
use Rattle.entry_tree.specs.Standing.{AreClaims, IsClaimed, IsMapSpace, MakesTree, with_pages}
use Rattle.entry_tree.specs.TreeChanges.{times_among}
use Rattle.entry_tree.specs.declared.tree.Tree.{Tree}
use Rattle.entry_tree.proofs.ClaimsLemmas.{grows_none}
use Rattle.entry_tree.proofs.ForestLemmas.{once_least, once_other}
use Rattle.entry_tree.proofs.UsedPagesLemmas.{claimed_used, claims_apart, claims_idle, claims_used, length-with_pages, used_not_idle}
use Rattle.table_trees.specs.SpaceChanges.{MakesChange, SpaceChange}
use Rattle.table_trees.specs.SpaceChanges.SpaceChange.{MakeTree}
use Rattle.table_trees.specs.TableTrees.{TreePlace}
use Rattle.table_trees.specs.ToldPages.{HasTree, PageList}
use Rattle.table_trees.specs.TreesBeside.{HoldsTreeAt, KeepsOwners, table_of_block}
use Rattle.table_trees.proofs.KeptOwnersLemmas.{idle_back, keeps_claims}
use Rattle.table_trees.proofs.PageCountLemmas.{grows_pages_with}
use Rattle.table_trees.proofs.SideBySideLemmas.{trees_still}
use Rattle.table_trees.proofs.ToldPagesLemmas.{map_of_told, tree_of_told, told_of_map}
use Rattle.table_trees.proofs.TreeListsLemmas.{AllZip-both}
use Rattle.mdc_sound.specs.SpaceRules.{DatabaseView}
use Rattle.mdc_sound.specs.StandingTable.{pages_of, roots_in}
use Rattle.stored_catalog.specs.AroundTable.{HasNoBlocks, StandsBut}
use Rattle.stored_catalog.specs.NewTables.{empty_tree, empty_trees}
use Rattle.stored_catalog.specs.TreeRuns.{MakesTrees}
use Rattle.stored_catalog.proofs.AroundTableLemmas.{ChangesAround, root_grown, touched_listed}
use Rattle.table_trees.proofs.SpaceStepsLemmas.{making_makes}

-- ---- claims one after the other

-- claims after claims
with_pages-append : (shape : Shape) (owners : List Kind) (first second : List ℕ) → with_pages shape owners (first ++ second) ≡ with_pages shape (with_pages shape owners first) second
with_pages-append shape owners [] second = refl
with_pages-append shape owners (p ∷ first) second = with_pages-append shape (with_used_page shape owners p) first second

-- each of them could be made at its time
claims_then : (shape : Shape) (owners : List Kind) (first second : List ℕ) → AreClaims shape owners first → AreClaims shape (with_pages shape owners first) second
    → AreClaims shape owners (first ++ second)
claims_then shape owners [] [] claims more = tt
claims_then shape owners [] (p ∷ second) claims more = (
  more.0,
  claims_then shape (with_used_page shape owners p) [] second tt more.1,
)
claims_then shape owners (p ∷ first) second claims more = (claims.0, claims_then shape (with_used_page shape owners p) first second claims.1 more)

-- the pages that there are once all were claimed
count_then : (shape : Shape) (n : ℕ) (first second : List ℕ) → count_with shape n (first ++ second) ≡ count_with shape (count_with shape n first) second
count_then shape n [] [] = refl
count_then shape n [] (p ∷ second) = refl
count_then shape n (p ∷ first) second = count_then shape (max n (first_page_of shape.extents shape.extent_pages (extent_of shape p + 1))) first second

-- ---- empty trees

-- how often a page stands in them
times_empty : (p : ℕ) (places : List TreePlace) → sum_by (times p) (empty_trees places) ≡ times_among p (roots_in places)
times_empty p [] = refl
times_empty p (place ∷ places) = omega (arith, sum_by-cons (times p) (empty_tree place.root) (empty_trees places), times_empty p places)

-- a page that stands among them was claimed
claimed_root : (p : ℕ) (claimed : List ℕ) → 0 < times_among p claimed → IsClaimed p claimed
claimed_root p [] some = absurd (omega arith)
claimed_root p (q ∷ claimed) some = elim (cases_eq p q) [
  | inl same ↦ inl same
  | inr other ↦ inr (claimed_root p claimed (omega (arith, some, once_other p q other)))
]

-- no page was claimed twice
claimed_once : (shape : Shape) (owners : List Kind) (claimed : List ℕ) (p : ℕ) → length owners ≡ shape.extents → AreClaims shape owners claimed → times_among p claimed ≤ 1
claimed_once shape owners [] p count claims = omega arith
claimed_once shape owners (q ∷ claimed) p count claims = elim (cases_eq p q) [
  | inl same ↦ elim (cases_lt 0 (times_among p claimed)) [
    | inl later ↦ absurd (claims_apart shape (with_used_page shape owners q) claimed q claims.1 (claimed_used shape owners q count claims.0) (claimed_root q claimed (subst (λ v. 0 < times_among v claimed) same later)))
    | inr none ↦ omega (arith, once_least p q)
  ]
  | inr other ↦ omega (arith, once_other p q other, claimed_once shape (with_used_page shape owners q) claimed p (length-with_pages shape owners (q ∷ []) ∙ count) claims.1)
]

-- what they leave of the owners
made_keep : (shape : Shape) (owners : List Kind) (places : List TreePlace) → length owners ≡ shape.extents → AreClaims shape owners (roots_in places)
    → KeepsOwners shape owners [] (with_pages shape owners (roots_in places)) (empty_trees places)
made_keep shape owners places count claims = keeps_claims shape owners (roots_in places) [] (empty_trees places) count claims (λ p. omega (arith, times_empty p places))

-- two kinds that are blocks of the same tables
pub block_back : (one other : Kind) (t : ℕ) → table_of_block one ≡ table_of_block other → one ≡ Block t → other ≡ Block t
block_back one Free t same is = absurd (let e : None ≡ Some t = sym same ∙ ap table_of_block is in cc)
block_back one (Block u) t same is = let e : Some u ≡ Some t = sym same ∙ ap table_of_block is in ap Block (same_Some u t e)
block_back one (Index used) t same is = absurd (let e : None ≡ Some t = sym same ∙ ap table_of_block is in cc)

-- claims of index pages make no block
pub no_blocks_made : (shape : Shape) (owners : List Kind) (places : List TreePlace) (t : ℕ) → length owners ≡ shape.extents → AreClaims shape owners (roots_in places) → HasNoBlocks owners t
    → HasNoBlocks (with_pages shape owners (roots_in places)) t
no_blocks_made shape owners places t count claims none e is = none e (block_back _ (owner_of owners e) t ((made_keep shape owners places count claims).blocks e) is)

-- ---- changes of space

-- changes after changes
pub goes_then : (shape : Shape) (old mid new : PageList) (first second : List SpaceChange) → FoldsTo (MakesChange shape) old first mid → FoldsTo (MakesChange shape) mid second new
    → FoldsTo (MakesChange shape) old (first ++ second) new
goes_then shape old mid new [] [] goes more = goes ∙ more
goes_then shape old mid new [] (change ∷ second) goes more = (
  more.0,
  subst (λ pages. MakesChange shape pages change more.0) (sym goes) more.1,
  goes_then shape more.0 more.0 new [] second refl more.2,
)
goes_then shape old mid new (change ∷ first) second goes more = (goes.0, goes.1, goes_then shape goes.0 mid new first second goes.2 more)

-- ---- trees that are made

module _ {S : Type 0} (g : Ghosts S) where
  -- a map that is told is told by a store that tells
  pub map_tells : (shape : Shape) (s : S) (owners : List Kind) → HoldsMap g shape s owners → IsTrue (g.state s).is_told
  map_tells shape s owners held = (held.pages 0 (on_map shape.extents 0 (omega (arith, some_extents shape)))).page.is_told

  -- the trees of a store that tells its pages are those of their list
  listed_trees : (s : S) (places : List TreePlace) (trees : List Forest) → IsTrue (g.state s).is_told → AllZip (HoldsTreeAt g s) places trees → AllZip (HasTree (pages_of g s)) places trees
  listed_trees s [] [] told held = tt
  listed_trees s [] (tree ∷ trees) told held = absurd held
  listed_trees s (place ∷ places) [] told held = absurd held
  listed_trees s (place ∷ places) (tree ∷ trees) told held = (tree_of_told g s told place tree held.0, listed_trees s places trees told held.1)

  -- no tree was made
  pub made_none : (shape : Shape) (noted : SpaceNotes) (s : S) (owners : List Kind) → HoldsMap g shape s owners → MakesTrees g shape noted noted s s owners []
  made_none shape noted s owners held = record { extents = held; held = tt; claims = tt; notes = λ right. right; goes = λ right. refl; grows = grows_none shape s }

  -- one was
  pub made_one : (shape : Shape) (before noted : SpaceNotes) (old new : S) (tree : Tree) (width : ℕ) (owners : List Kind) → tree.width ≡ width → HoldsMap g shape old owners
      → Touches g (IsMapSpace g shape old) old new → MakesTree g shape before noted old new tree owners → MakesTrees g shape before noted old new owners (record { root = tree.root; width = width } ∷ [])
  made_one shape before noted old new tree width owners wide held touched made =
      let was = map_tells shape old owners held in
      let is = map_tells shape new (with_used_page shape owners tree.root) made.stands.map in
      subst (λ w. MakesTrees g shape before noted old new owners (record { root = tree.root; width = w } ∷ [])) wide (record {
        extents = made.stands.map;
        held = (record { is_tree = made.stands.held.is_tree; trim = made.stands.held.trim }, tt);
        claims = (made.claimable, tt);
        notes = made.notes;
        goes = λ right. (pages_of g new, making_makes shape before noted old new tree owners held was (is ∙ sym was) right touched made, refl);
        grows = made.grows;
      })

  -- some were, and then some more
  pub made_then : (shape : Shape) (before mid noted : SpaceNotes) (old middle new : S) (owners : List Kind) (places more : List TreePlace) → HoldsMap g shape old owners
      → length (g.state old).work ≤ length (g.state middle).work → length (g.state middle).work ≤ length (g.state new).work
      → Touches g (IsMapSpace g shape middle) middle new → MakesTrees g shape before mid old middle owners places
      → MakesTrees g shape mid noted middle new (with_pages shape owners (roots_in places)) more → MakesTrees g shape before noted old new owners (places ++ more)
  made_then shape before mid noted old middle new owners places more held longer longer_then touched made made_more =
      let now = with_pages shape owners (roots_in places) in
      let roots : roots_in (places ++ more) ≡ roots_in places ++ roots_in more = map-append (λ place. place.root) places more in
      let same : with_pages shape now (roots_in more) ≡ with_pages shape owners (roots_in (places ++ more)) =
      sym (with_pages-append shape owners (roots_in places) (roots_in more)) ∙ ap (with_pages shape owners) (sym roots) in
      record {
        extents = subst (HoldsMap g shape new) same made_more.extents;
        held = subst (AllZip (HoldsTreeAt g new) (places ++ more)) (sym (map-append (λ place. empty_tree place.root) places more))
            (AllZip-both (HoldsTreeAt g new) places more (empty_trees places) (empty_trees more) still made_more.held);
        claims = subst (AreClaims shape owners) (sym roots) (claims_then shape owners (roots_in places) (roots_in more) made.claims made_more.claims);
        notes = λ right. subst (AreRightNotes shape noted) same (made_more.notes (made.notes right));
        goes = λ right. subst (λ changes. FoldsTo (MakesChange shape) (pages_of g old) changes (pages_of g new)) (sym (map-append MakeTree places more))
            (goes_then shape (pages_of g old) (pages_of g middle) (pages_of g new) (map MakeTree places) (map MakeTree more) (made.goes right) (made_more.goes (made.notes right)));
        grows = record {
          count = made_more.grows.count ∙ (ap (λ n. count_with shape n (roots_in more)) made.grows.count
              ∙ (sym (count_then shape (length (g.state old).work) (roots_in places) (roots_in more)) ∙ ap (count_with shape (length (g.state old).work)) (sym roots)));
          counted = λ was. made_more.grows.counted (made.grows.counted was);
          stated = growth_then longer longer_then made.grows.stated made_more.grows.stated;
        };
      }
    where
      used : (p : ℕ) → 0 < sum_by (times p) (empty_trees places) → IsUsedPage shape (with_pages shape owners (roots_in places)) p
      used p some = claims_used shape owners (roots_in places) p held.count made.claims (claimed_root p (roots_in places) (omega (arith, some, times_empty p places)))

      apart : (p : ℕ) → 0 < sum_by (times p) (empty_trees places) → IsMapSpace g shape middle p → ⊥
      apart p some space = elim (space (with_pages shape owners (roots_in places)) made.extents) [
        | inl map_page ↦ no_space_page shape p (used p some).page map_page
        | inr idle ↦ used_not_idle shape (with_pages shape owners (roots_in places)) p (used p some) idle
      ]

      still : AllZip (HoldsTreeAt g new) places (empty_trees places)
      still =
          let was = map_tells shape middle (with_pages shape owners (roots_in places)) made.extents in
          let is = map_tells shape new (with_pages shape (with_pages shape owners (roots_in places)) (roots_in more)) made_more.extents in
          trees_still (IsMapSpace g shape middle) middle new places (empty_trees places) made.held touched (is ∙ sym was) apart

  -- what was idle then was idle before, and the extent map with page 0 is where it was
  pub map_space_back : (shape : Shape) (before mid : SpaceNotes) (old middle : S) (places : List TreePlace) (p : ℕ)
      → ((owners : List Kind) → HoldsMap g shape old owners → MakesTrees g shape before mid old middle owners places) → IsMapSpace g shape middle p → IsMapSpace g shape old p
  map_space_back shape before mid old middle places p made space owners held =
      let was = made owners held in
      let now = with_pages shape owners (roots_in places) in
      elim (space now was.extents) [
        | inl map_page ↦ inl map_page
        | inr idle ↦ elim (idle_back shape owners now [] (empty_trees places) p (made_keep shape owners places held.count was.claims) idle) [
          | inl none ↦ absurd (omega (arith, none))
          | inr is ↦ inr is
        ]
      ]

  -- trees that were made change nothing around their place
  pub made_around : (shape : Shape) (before noted : SpaceNotes) (old new : S) (view : DatabaseView) (t : ℕ) (places : List TreePlace) → IsTrue (g.state old).is_told → StandsBut shape (pages_of g old) view t [] []
      → length (g.state old).work ≤ length (g.state new).work → Touches g (IsMapSpace g shape old) old new → MakesTrees g shape before noted old new view.owners places
      → ChangesAround shape (pages_of g old) (pages_of g new) view.owners t [] (with_pages shape view.owners (roots_in places)) places (empty_trees places)
  made_around shape before noted old new view t places told st longer touched made =
      let now = with_pages shape view.owners (roots_in places) in
      let is = map_tells shape new now made.extents in
      let held : HoldsMap g shape old view.owners = told_of_map g old told shape view.owners st.extents in
      let keep = made_keep shape view.owners places held.count made.claims in
      record {
        root = root_grown g shape old new told st.root longer (grows_pages_with shape old new view.owners (roots_in places) made.claims made.grows);
        extents = map_of_told g new is shape now made.extents;
        held = listed_trees new places (empty_trees places) is made.held;
        others_blocks = λ e u apart block. block_back (owner_of view.owners e) (owner_of now e) u (sym (keep.blocks e)) block;
        no_others_blocks = λ e u apart block. block_back (owner_of now e) (owner_of view.owners e) u (keep.blocks e) block;
        others_pages = keep.others;
        used_pages = keep.used;
        used = λ p some. claims_used shape view.owners (roots_in places) p held.count made.claims (claimed_root p (roots_in places) (omega (arith, some, times_empty p places)));
        apart = λ p. omega (arith, times_empty p places, claimed_once shape view.owners (roots_in places) p held.count made.claims);
        pages = λ p some. inr (claims_idle shape view.owners (roots_in places) p made.claims (claimed_root p (roots_in places) (omega (arith, some, times_empty p places))));
        touched = touches_wider (touched_listed g (IsMapSpace g shape old) old new told touched)
            (λ p space. elim (space view.owners held) [ inl map_page ↦ inr (inr (inl map_page)) | inr idle ↦ inr (inr (inr (inl idle))) ]);
      }
