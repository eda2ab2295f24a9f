-- A tree that is judged page by page: what is known of it halfway, by the branches that are left and the pages that were met.
use Rattle.std.proofs.Common.{◌≡◌, ◌<◌, ◌≤◌, ◌+◌, ◌++◌, ◌∷◌, [], ℕ, List, length, reverse, refl, ap, arith, sym, ◌∙◌, subst, inl, inr, ◌⊎◌}
use Rattle.std.specs.Prelude.{Option, None, Some, IsTrue, false}
use Rattle.std.proofs.lemmas.List.{reverse-append}
use Rattle.node_page.specs.Node.{Node, node_of}
use Rattle.node_page.specs.Node.Node.{NoNode}
use Rattle.store_api.specs.Frame.{HoldsPage}
use Rattle.store_api.specs.StoreState.{page_at}
use Rattle.store_api.specs.declared.pages.Pages.{Ghosts}
use Rattle.entry_tree.specs.EntryBounds.{Bound}
use Rattle.entry_tree.specs.Forest.{Forest, once, times}
use Rattle.entry_tree.specs.Forest.Forest.{Nil}
use Rattle.entry_tree.proofs.ForestLemmas.{once_least, once_other, once_same}
use Rattle.entry_tree.proofs.HeldTreesLemmas.{nodes_in-past}
use Rattle.table_trees.specs.TableTrees.{TreePlace}
use Rattle.table_trees.specs.ToldPages.{HasTree, PageList, telling}
use Rattle.file_check.specs.Branches.{GoesOnBehind, IsFitNode, StandsAtBranches}
use Rattle.file_check.specs.TreeMarks.{AreMarks, MeetsPage, StandsCounted, last_tree, met_here, times_met}
use Rattle.file_check.specs.declared.branches.Branch.{Branch}
use Rattle.file_check.specs.declared.tree_marks.TreeMarks.{TreeMarks}
use Rattle.file_check.proofs.BranchesLemmas.{stands-before, stands-behind, stands-first, stands-fit, tree-made, tree-stands}
use Rattle.file_check.proofs.NodeChildrenLemmas.{node-children}
use Rattle.file_check.proofs.TreeMarksLemmas.{met_here-more}

-- the page at hand is the one that was brought
pub is_lent : {bytes lent : List ℕ} (hand : Option (List ℕ)) → hand ≡ Some bytes → hand ≡ Some lent → lent ≡ bytes
is_lent hand e f = cc

-- a page that is there holds its bytes, also where calls were made since that kept the pages
pub is_held : {S : Type 0} (g : Ghosts S) (old now : S) (p : ℕ) → IsTrue (g.state old).is_told → (g.state now).is_told ≡ (g.state old).is_told → (g.state now).work ≡ (g.state old).work
    → p < length (g.state old).work → HoldsPage g now p (page_at (g.state old).work p)
is_held g old now p told still same within = record {
  is_told = still ∙ told;
  within = omega (arith, within, ap length same);
  bytes_are = ap (λ (pages : List (List ℕ)). page_at pages p) same;
}

-- the node that a page is
abbrev pub node_at : PageList → TreePlace → ℕ → Node
node_at pages place p = node_of place.width (page_at pages p)

-- at a place stands a tree: its pages are those that were met and those of a row
pub record HasMet (pages : PageList) (place : TreePlace) (marks : TreeMarks) (row : Forest) : Type 0 where
  pub tree : Forest
  pub stands : HasTree pages place tree
  pub counts : (n : ℕ) → times n tree ≡ met_here marks n + times n row

-- a row stands at these branches, so that the pages of a tree are those that were met and those of the row
pub record HasLeft (pages : PageList) (place : TreePlace) (marks : TreeMarks) (low : Bound) (bs : List Branch) (t : Forest) : Type 0 where
  pub row : Forest
  pub stands : StandsAtBranches (node_at pages place) place.root low bs row
  pub counts : (n : ℕ) → times n t ≡ met_here marks n + times n row

-- Whatever stands at the branches that are left, apart from the pages that were met, completes a tree; and whatever tree stands at
-- the place, such a row stands at them.
pub record Walks (pages : PageList) (place : TreePlace) (marks : TreeMarks) (low : Bound) (left : List Branch) : Type 0 where
  pub completes : (row : Forest) → StandsAtBranches (node_at pages place) place.root low (reverse left) row → ((n : ℕ) → met_here marks n + times n row ≤ 1) → HasMet pages place marks row
  pub leaves : (t : Forest) → HasTree pages place t → HasLeft pages place marks low (reverse left) t

-- nothing was left to be taken
pub nothing_left : (left : List Branch) → (0 < length left → IsTrue false) → left ≡ []
nothing_left [] n = refl
nothing_left (b ∷ left) n = let e = n (omega arith) in cc

last_of : (left more : List Branch) (b : Branch) → more ≡ left ++ b ∷ [] → reverse more ≡ b ∷ reverse left
last_of left more b e = ap reverse e ∙ reverse-append left (b ∷ [])

module _ (pages : PageList) (place : TreePlace) where
  -- no page was met yet, and the root is left
  pub walk_begins : (marks : TreeMarks) (left : List Branch) → ((n : ℕ) → last_tree marks n < marks.tree) → left ≡ record { page = place.root; high = None } ∷ []
      → Walks pages place marks None left
  walk_begins marks left earlier e = record {
    completes = λ row stands apart.
        let m = tree-made (node_at pages place) place.root row (subst (λ (bs : List Branch). StandsAtBranches (node_at pages place) place.root None (reverse bs) row) e stands) (λ n. let a = apart n in omega (arith, a)) in
        record { tree = row; stands = record { is_tree = m.0; trim = m.1 }; counts = λ n. omega (arith, none n) };
    leaves = λ t has. record {
      row = t;
      stands = subst (λ (bs : List Branch). StandsAtBranches (node_at pages place) place.root None (reverse bs) t) (sym e) (tree-stands (node_at pages place) place.root t has.is_tree has.trim);
      counts = λ n. omega (arith, none n);
    };
  }
    where
      none : (n : ℕ) → met_here marks n ≡ 0
      none n = let low = earlier n in once_other marks.tree (last_tree marks n) (omega (arith, low))

  -- a page more is a fit node
  pub walk_goes_on : (old new : TreeMarks) (low low_now : Bound) (left more left_now : List Branch) (b : Branch) → Walks pages place old low left → left ≡ more ++ b ∷ [] → MeetsPage b.page old new
      → IsFitNode place.root low b (node_at pages place b.page) → GoesOnBehind b (node_at pages place b.page) low more low_now left_now → Walks pages place new low_now left_now
  walk_goes_on old new low low_now left more left_now b walks e meets fit goes = record {
    completes = λ row stands apart.
        let before = stands-before (node_at pages place) place.root low b more left_now low_now row (node_at pages place b.page) refl (λ seps children is. node-children place.width (page_at pages b.page) seps children is) fit goes stands in
        let made = walks.completes before.row (subst (λ (bs : List Branch). StandsAtBranches (node_at pages place) place.root low bs before.row) (sym (last_of more left b e)) before.stands)
        (λ n. omega (arith, apart n, before.counts n, met_here-more b.page old new meets n)) in
        record { tree = made.tree; stands = made.stands; counts = λ n. omega (arith, made.counts n, before.counts n, met_here-more b.page old new meets n) };
    leaves = λ t has.
        let f = walks.leaves t has in
        let behind = stands-behind (node_at pages place) place.root low b more left_now low_now f.row (subst (λ (bs : List Branch). StandsAtBranches (node_at pages place) place.root low bs f.row) (last_of more left b e) f.stands) goes in
        record { row = behind.behind; stands = behind.stands; counts = λ n. omega (arith, f.counts n, behind.counts n, met_here-more b.page old new meets n) };
  }

  -- nothing is left
  pub walk_ends : (start marks : TreeMarks) (low : Bound) (left : List Branch) → Walks pages place marks low left → left ≡ [] → ((n : ℕ) → times_met marks n ≡ times_met start n + met_here marks n)
      → StandsCounted pages place start marks
  walk_ends start marks low left walks e counted =
      let made = walks.completes Nil (subst (λ (bs : List Branch). StandsAtBranches (node_at pages place) place.root low (reverse bs) Nil) (sym e) refl) (λ n. omega (arith, once_least marks.tree (last_tree marks n))) in
      record { tree = made.tree; stands = made.stands; counted = λ n. omega (arith, counted n, made.counts n) }

  -- the page of the next branch is no fit node
  pub walk_unfit : (marks : TreeMarks) (low : Bound) (left more : List Branch) (b : Branch) → Walks pages place marks low left → left ≡ more ++ b ∷ [] → (IsFitNode place.root low b (node_at pages place b.page) → ⊥)
      → (t : Forest) → HasTree pages place t → ⊥
  walk_unfit marks low left more b walks e unfit t has =
      let f = walks.leaves t has in
      unfit (stands-fit (node_at pages place) place.root low b (reverse more) f.row (subst (λ (bs : List Branch). StandsAtBranches (node_at pages place) place.root low bs f.row) (last_of more left b e) f.stands))

  -- it isn't there, or was met before
  pub walk_refused : (marks : TreeMarks) (low : Bound) (left more : List Branch) (b : Branch) → Walks pages place marks low left → left ≡ more ++ b ∷ [] → AreMarks (length pages) marks
      → (length marks.last.items ≤ b.page) ⊎ (marks.tree ≤ last_tree marks b.page) → (t : Forest) → HasTree pages place t → ⊥
  walk_refused marks low left more b walks e are refused t has =
      let f = walks.leaves t has in
      go f.row refused (subst (λ (bs : List Branch). StandsAtBranches (node_at pages place) place.root low bs f.row) (last_of more left b e) f.stands) (f.counts b.page) (has.is_tree.distinct b.page)
    where
      go : (row : Forest) → (length marks.last.items ≤ b.page) ⊎ (marks.tree ≤ last_tree marks b.page) → StandsAtBranches (node_at pages place) place.root low (b ∷ reverse more) row
          → times b.page t ≡ met_here marks b.page + times b.page row → times b.page t ≤ 1 → ⊥
      go row (inl past) stands counts distinct =
          let none : node_at pages place b.page ≡ NoNode = nodes_in-past place.width (telling pages) b.page (omega (arith, past, are.last)) in
          subst (IsFitNode place.root low b) none (stands-fit (node_at pages place) place.root low b (reverse more) row stands)
      go row (inr met) stands counts distinct =
          let last : last_tree marks b.page ≡ marks.tree = omega (arith, met, are.earlier b.page) in
          let here : met_here marks b.page ≡ 1 = ap (once marks.tree) last ∙ once_same marks.tree in
          omega (arith, counts, distinct, here, stands-first (node_at pages place) place.root low b (reverse more) row stands)
