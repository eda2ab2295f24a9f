use Rattle.std.proofs.Common.{◌≡◌, ◌≤◌, ◌-◌, ◌^◌, None, ℕ, false}
use Rattle.mdc_values.specs.Rising.{IsLower, IsRising, LastIsBefore}
use Rattle.store_api.specs.Frame.{NoPage}
use Rattle.store_api.specs.RunsOverPages.{RunsOverPages}
use Rattle.entry_tree.specs.Forest.{Forest, leaf_entries}
use Rattle.entry_tree.specs.HeldTrees.{HoldsTree, IsTreePage}
use Rattle.block_map.specs.BlockMaps.{AnyMap, BreaksMapTree}
use Rattle.block_map.specs.MapRows.{state_number}
use Rattle.block_map.specs.Walking.{WalkFits}
use Rattle.block_map.proofs.WalkingLemmas.{IsListing, blocks_of_rows}
use Rattle.block_map.proofs.map.BlockMap.rows.Given as goal

-- the rows so far are those of the state among the entries that the walk passed, and the walk's next block is above them
abbrev pub invariant-entries : goal.invariant-entries
invariant-entries g l = record {
  fits : WalkFits l.walk;
  same : (g.P.Pages.state l.pages).work ≡ (g.P.Pages.state l.fn.pages).work;
  going : (g.P.Pages.state l.pages).ended ≡ false;
  runs : RunsOverPages g.P.Pages NoPage (IsTreePage g.P.Pages l.fn.pages l.self.tree) (BreaksMapTree g.P.Pages l.fn.pages l.self.tree AnyMap) l.fn.pages l.pages None;
  listing : (t : Forest) → HoldsTree g.P.Pages l.fn.pages l.self.tree t → IsListing (leaf_entries t) (state_number l.state) l.walk l.rows.items;
  behind : (e : ℕ) → l.walk.lowest ≤ e → LastIsBefore IsLower e (blocks_of_rows l.rows.items);
  rising : IsRising IsLower (blocks_of_rows l.rows.items);
}

-- how many blocks may come
abbrev pub decreases-entries : goal.decreases-entries
decreases-entries g l = 2 ^ 32 - l.walk.lowest
