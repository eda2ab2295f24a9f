use Rattle.std.proofs.Common.{◌≡◌}
use Rattle.std.proofs.lemmas.Result.{IfOk-weaker}
use Rattle.table_trees.specs.TableTrees.{map_place, place_of_tree}
use Rattle.table_trees.proofs.TableTreesLemmas.{same_tree_place}
use Rattle.table_trees.proofs.TreesBesideLemmas.{holds_at}
use Rattle.live_rows.proofs.LookRunsLemmas.{runs_map_at}
use Rattle.live_rows.proofs.living.live.Goals as goal

pub returns-clause-kept : goal.returns-clause-kept
returns-clause-kept g c =
    let map = c.at-map.result in
    let at : place_of_tree map.tree ≡ map_place c.args.def.now = same_tree_place (place_of_tree map.tree) (map_place c.args.def.now) c.at-map.ensures map.seven in
    IfOk-weaker c.live_in.result _ _ (λ kept are t held form. are t (holds_at c.args.pages.now map.tree (map_place c.args.def.now) t at held) form) c.live_in.ensures.kept

pub returns-clause-runs : goal.returns-clause-runs
returns-clause-runs g c =
    let map = c.at-map.result in
    runs_map_at map.tree (map_place c.args.def.now) (same_tree_place (place_of_tree map.tree) (map_place c.args.def.now) c.at-map.ensures map.seven) c.live_in.ensures.runs
