use Rattle.std.proofs.Common.{◌≡◌, ◌≤◌, ◌+◌, ◌<◌, None, IsTrue, reverse, All, length}
use Rattle.node_page.specs.Node.{is_full}
use Rattle.store_api.specs.Frame.{NoPage}
use Rattle.store_api.specs.RunsOverPages.{RunsOverPages}
use Rattle.entry_tree.specs.Forest.{Forest}
use Rattle.entry_tree.specs.TreePlaces.{IsAtPlace, run_up, IsOnWay}
use Rattle.entry_tree.specs.HeldTrees.{nodes_in, HoldsTree, IsTreePage, BreaksTree}
use Rattle.entry_tree.proofs.ShownLemmas.{AsksOn}
use Rattle.entry_tree.proofs.descent.find_way.Given as goal

-- in each tree that the pages hold, the page is on the way of the entry, below the nodes of the path, which ask for so many pages
abbrev pub invariant-loop-step : goal.invariant-loop-step
invariant-loop-step g l = record {
  way : (t : Forest) → HoldsTree g.P.Pages l.fn.pages l.tree t
      → IsAtPlace t l.entry (reverse l.path.items) l.page
      × (l.run ≡ run_up (is_full l.tree.width) (nodes_in l.tree.width (g.P.Pages.state l.fn.pages)) (reverse l.path.items));
  deep : (t : Forest) → HoldsTree g.P.Pages l.fn.pages l.tree t → IsOnWay t l.entry l.page l.step;
  shown : IsTrue (g.P.Pages.state l.fn.pages).is_told → AsksOn l.tree.width (g.P.Pages.state l.fn.pages).work l.tree.root l.entry l.page l.run;
  path_there : All (λ place. place.0 < length (g.P.Pages.state l.fn.pages).work) l.path.items;
  root : l.step ≡ 0 → l.page ≡ l.tree.root;
  root_there : 0 < l.step → l.tree.root < length (g.P.Pages.state l.fn.pages).work;
  few : l.run ≤ l.step + 1;
  same : (g.P.Pages.state l.pages).work ≡ (g.P.Pages.state l.fn.pages).work;
  runs : RunsOverPages g.P.Pages NoPage (IsTreePage g.P.Pages l.fn.pages l.tree) (BreaksTree g.P.Pages l.fn.pages l.tree) l.fn.pages l.pages None;
}
