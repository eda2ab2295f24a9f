use Rattle.std.proofs.Common.{◌≡◌, ◌<◌, ◌≤◌, ℕ, None, length, reverse, get_or, All}
use Rattle.mdc_words.specs.ByteOrder.{Entry}
use Rattle.node_page.specs.Node.{Node}
use Rattle.store_api.specs.RunsOverPages.{RunsOverPages}
use Rattle.entry_tree.specs.Forest.{Forest}
use Rattle.entry_tree.specs.HeldTrees.{nodes_in}
use Rattle.entry_tree.specs.Writing.{IsPathPage, IsWrittenPage, IsUnderWay, BreaksWhere}
use Rattle.entry_tree.proofs.going_up.go_up.Given as goal

-- whatever the addition was halfway of when it began, it still is, and as many pages are left as it needs
abbrev pub invariant-loop-page : goal.invariant-loop-page
invariant-loop-page g l = record {
  under : (old : ℕ → Node) (t : Forest) (x : Entry) → IsUnderWay l.tree.width old (nodes_in l.tree.width (g.P.Pages.state l.fn.pages)) l.tree.root t x (reverse l.fn.path.items) l.fn.separator (get_or l.claimed 0 0) l.claimed 1
      → IsUnderWay l.tree.width old (nodes_in l.tree.width (g.P.Pages.state l.pages)) l.tree.root t x (reverse l.path.items) l.separator l.other l.claimed l.used;
  wide : length l.separator ≡ l.tree.width;
  used : l.used ≤ length l.claimed;
  count : length (g.P.Pages.state l.pages).work ≡ length (g.P.Pages.state l.fn.pages).work;
  path_there : All (λ place. place.0 < length (g.P.Pages.state l.fn.pages).work) l.path.items;
  on_path : (p : ℕ) → IsPathPage p l.path.items → IsPathPage p l.fn.path.items;
  runs : RunsOverPages g.P.Pages (IsWrittenPage l.tree.root l.fn.path.items l.claimed) (IsWrittenPage l.tree.root l.fn.path.items l.claimed)
      (BreaksWhere l.tree ((old : ℕ → Node) × (t : Forest) × (x : Entry) × IsUnderWay l.tree.width old (nodes_in l.tree.width (g.P.Pages.state l.fn.pages)) l.tree.root t x (reverse l.fn.path.items) l.fn.separator (get_or l.claimed 0 0) l.claimed 1))
      l.fn.pages l.pages None;
}

abbrev pub decreases-loop-page : goal.decreases-loop-page
decreases-loop-page g l = length l.path.items
