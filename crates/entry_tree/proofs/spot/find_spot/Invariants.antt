use Rattle.std.proofs.Common.{◌≡◌, ◌<◌, None, IfSome, IsTrue, length}
use Rattle.store_api.specs.Frame.{NoPage}
use Rattle.store_api.specs.RunsOverPages.{RunsOverPages}
use Rattle.entry_tree.specs.Forest.{Forest}
use Rattle.entry_tree.specs.HeldTrees.{HoldsTree, IsTreePage, BreaksTree}
use Rattle.entry_tree.specs.Spots.{FenceFits, fence_bound}
use Rattle.entry_tree.proofs.ShownLemmas.{GoesOn}
use Rattle.entry_tree.proofs.SpotLemmas.{IsPassed}
use Rattle.entry_tree.proofs.spot.find_spot.Given as goal

-- in each tree that the pages hold, the page is on the way of the entry, so many steps down, and these are the separators
abbrev pub invariant-loop-step : goal.invariant-loop-step
invariant-loop-step g l = record {
  way : (t : Forest) → HoldsTree g.P.Pages l.fn.pages l.tree t → IsPassed t l.entry l.page l.step l.low l.high l.parent;
  shown : IsTrue (g.P.Pages.state l.fn.pages).is_told → GoesOn l.tree.width (g.P.Pages.state l.fn.pages).work l.tree.root l.entry l.page (fence_bound l.high);
  low : FenceFits l.tree.width l.low;
  high : FenceFits l.tree.width l.high;
  parent : IfSome l.parent (λ place. place.0 < length (g.P.Pages.state l.fn.pages).work);
  same : (g.P.Pages.state l.pages).work ≡ (g.P.Pages.state l.fn.pages).work;
  runs : RunsOverPages g.P.Pages NoPage (IsTreePage g.P.Pages l.fn.pages l.tree) (BreaksTree g.P.Pages l.fn.pages l.tree) l.fn.pages l.pages None;
}
