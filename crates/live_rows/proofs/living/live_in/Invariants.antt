use Rattle.std.proofs.Common.{◌≡◌, None, false, take}
use Rattle.store_api.specs.Frame.{NoPage}
use Rattle.store_api.specs.RunsOverPages.{RunsOverPages}
use Rattle.entry_tree.specs.Forest.{Forest}
use Rattle.entry_tree.specs.HeldTrees.{HoldsTree, IsTreePage}
use Rattle.block_map.specs.BlockMaps.{AnyMap, BreaksMapTree}
use Rattle.live_rows.specs.LiveRids.{HasMapForm, is_used_block, live_rids}
use Rattle.live_rows.proofs.LiveRidsLemmas.{KeepsOrder}
use Rattle.live_rows.proofs.living.live_in.Given as goal

-- the live ones of the places so far were kept, and what was seen last is right
abbrev pub invariant-loop-rid : goal.invariant-loop-rid
invariant-loop-rid g l = record {
  same : (g.P.Pages.state l.pages).work ≡ (g.P.Pages.state l.fn.pages).work;
  going : (g.P.Pages.state l.pages).ended ≡ false;
  runs : RunsOverPages g.P.Pages NoPage (IsTreePage g.P.Pages l.fn.pages l.map.tree) (BreaksMapTree g.P.Pages l.fn.pages l.map.tree AnyMap) l.fn.pages l.pages None;
  order : KeepsOrder (take l.rid-index l.rids) l.kept;
  kept : (t : Forest) → HoldsTree g.P.Pages l.fn.pages l.map.tree t → HasMapForm t → l.kept ≡ live_rids t (take l.rid-index l.rids);
  seen : (t : Forest) → HoldsTree g.P.Pages l.fn.pages l.map.tree t → HasMapForm t → l.seen.is_used ≡ is_used_block t l.seen.block;
}
