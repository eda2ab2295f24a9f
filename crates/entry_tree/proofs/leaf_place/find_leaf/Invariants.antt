use Rattle.std.proofs.Common.{◌≡◌, None, IsTrue}
use Rattle.store_api.specs.Frame.{NoPage}
use Rattle.store_api.specs.RunsOverPages.{RunsOverPages}
use Rattle.entry_tree.specs.Forest.{Forest}
use Rattle.entry_tree.specs.TreePlaces.{IsOnWay}
use Rattle.entry_tree.specs.HeldTrees.{HoldsTree, IsTreePage, BreaksTree}
use Rattle.entry_tree.proofs.ShownLemmas.{GoesOnSome}
use Rattle.entry_tree.proofs.leaf_place.find_leaf.Given as goal

-- in each tree that the pages hold, the page is on the way of the entry, so many steps down
abbrev pub invariant-loop-step : goal.invariant-loop-step
invariant-loop-step g l = record {
  way : (t : Forest) → HoldsTree g.P.Pages l.fn.pages l.tree t → IsOnWay t l.entry l.page l.step;
  shown : IsTrue (g.P.Pages.state l.fn.pages).is_told → GoesOnSome l.tree.width (g.P.Pages.state l.fn.pages).work l.tree.root l.entry l.page;
  same : (g.P.Pages.state l.pages).work ≡ (g.P.Pages.state l.fn.pages).work;
  runs : RunsOverPages g.P.Pages NoPage (IsTreePage g.P.Pages l.fn.pages l.tree) (BreaksTree g.P.Pages l.fn.pages l.tree) l.fn.pages l.pages None;
}
