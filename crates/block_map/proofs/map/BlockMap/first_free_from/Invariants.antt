use Rattle.std.proofs.Common.{◌≡◌, ◌-◌, ◌^◌, None, false}
use Rattle.store_api.specs.Frame.{NoPage}
use Rattle.store_api.specs.RunsOverPages.{RunsOverPages}
use Rattle.entry_tree.specs.Forest.{Forest, leaf_entries}
use Rattle.entry_tree.specs.HeldTrees.{HoldsTree, IsTreePage}
use Rattle.block_map.specs.BlockMaps.{AnyMap, BreaksMapTree}
use Rattle.block_map.specs.Walking.{WalkFits}
use Rattle.block_map.proofs.WalkingLemmas.{IsSeekingFree}
use Rattle.block_map.proofs.map.BlockMap.first_free_from.Given as goal

-- no entry that the walk passed is of a Free block
abbrev pub invariant-rows : goal.invariant-rows
invariant-rows g l = record {
  fits : WalkFits l.walk;
  same : (g.P.Pages.state l.pages).work ≡ (g.P.Pages.state l.fn.pages).work;
  going : (g.P.Pages.state l.pages).ended ≡ false;
  runs : RunsOverPages g.P.Pages NoPage (IsTreePage g.P.Pages l.fn.pages l.self.tree) (BreaksMapTree g.P.Pages l.fn.pages l.self.tree AnyMap) l.fn.pages l.pages None;
  seeking : (t : Forest) → HoldsTree g.P.Pages l.fn.pages l.self.tree t → IsSeekingFree (leaf_entries t) l.from l.walk;
}

-- how many blocks may come
abbrev pub decreases-rows : goal.decreases-rows
decreases-rows g l = 2 ^ 32 - l.walk.lowest
