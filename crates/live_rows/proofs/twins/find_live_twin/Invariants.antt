use Rattle.std.proofs.Common.{◌≡◌, ◌<◌, ◌-◌, ◌^◌, None, false}
use Rattle.entry_tree.specs.Forest.{Forest, leaf_entries}
use Rattle.table_trees.specs.TableTrees.{map_place}
use Rattle.table_trees.specs.TreesBeside.{HoldsTreeAt}
use Rattle.record_index.specs.FoundRids.{rid_number}
use Rattle.record_index.specs.RecordIndexes.{key_in_record_index, place_of_record_index}
use Rattle.live_rows.specs.LiveRids.{HasMapForm}
use Rattle.live_rows.proofs.LookRunsLemmas.{Looks}
use Rattle.live_rows.proofs.TwinsLemmas.{LieFrom}
use Rattle.live_rows.proofs.twins.find_live_twin.Given as goal

-- each twin has a place from the one on from which the next is looked for
abbrev pub invariant-finding : goal.invariant-finding
invariant-finding g l = record {
  same : (g.P.Pages.state l.pages).work ≡ (g.P.Pages.state l.fn.pages).work;
  going : (g.P.Pages.state l.pages).ended ≡ false;
  small : rid_number l.from < 2 ^ 48;
  runs : Looks g.P.Pages l.def l.index l.fn.pages l.pages None;
  lie : (entries map : Forest) → HoldsTreeAt g.P.Pages l.fn.pages (place_of_record_index l.def l.index) entries → HoldsTreeAt g.P.Pages l.fn.pages (map_place l.def) map → HasMapForm map
      → LieFrom (key_in_record_index l.def l.index l.values) (leaf_entries entries) map l.but (rid_number l.from);
}

-- how many places are left
abbrev pub decreases-finding : goal.decreases-finding
decreases-finding g l = 2 ^ 48 - rid_number l.from
