use Rattle.std.proofs.Common.{refl}
use Rattle.store_api.proofs.RunsOverPagesLemmas.{runs_exit, runs_wider}
use Rattle.script_engine.proofs.IndexedTablesLemmas.{has_index, no_unindexing_damage, unindexed}
use Rattle.script_engine.proofs.ServedDefsLemmas.{served_lost}
use Rattle.script_engine.proofs.indexing.drop_index.Goals as goal

pub drop_index-requires-clause-place : goal.drop_index-requires-clause-place
drop_index-requires-clause-place g c = (has_index c.args.tables.now.catalog c.args.table c.args.index c.requires.served c.requires.there).below

pub drop_index-requires-clause-there : goal.drop_index-requires-clause-there
drop_index-requires-clause-there g c = (has_index c.args.tables.now.catalog c.args.table c.args.index c.requires.served c.requires.there).some

pub drop_index-requires-clause-index : goal.drop_index-requires-clause-index
drop_index-requires-clause-index g c = (has_index c.args.tables.now.catalog c.args.table c.args.index c.requires.served c.requires.there).of_some

pub returns-in_err-drop_index-clause-runs : goal.returns-in_err-drop_index-clause-runs
returns-in_err-drop_index-clause-runs g c =
    let there = has_index c.args.tables.now.catalog c.args.table c.args.index c.requires.served c.requires.there in
    runs_exit c.from_residual.result c.from_residual.ensures.1
    (runs_wider c.in_err-drop_index.ensures.runs (λ p there mine. tt) (λ p kind. tt)
    (λ damage breaks ready. no_unindexing_damage g.P.Pages c.args.pages.now c.args.tables.now c.args.table there.def c.args.index damage c.requires.served there.at there.within breaks ready))

pub forget_table-requires : goal.forget_table-requires
forget_table-requires g c = (has_index c.args.tables.now.catalog c.args.table c.args.index c.requires.served c.requires.there).below

pub returns-clause-does : goal.returns-clause-does
returns-clause-does g c ready =
    let there = has_index c.args.tables.now.catalog c.args.table c.args.index c.requires.served c.requires.there in
    unindexed g.P.Pages c.args.pages.now c.drop_index.new.pages c.args.tables.now _ c.args.table there.def c.args.index (record {
      left = c.in_ok-drop_index.ensures.left;
      stored = c.in_ok-drop_index.ensures.stored;
      drops = c.in_ok-drop_index.ensures.drops;
      stands_for = c.in_ok-drop_index.ensures.stands_for;
      told = c.in_ok-drop_index.ensures.runs.works.steady.is_told;
      count = c.drop_index.ensures.count;
      shape = refl;
      touches = c.in_ok-drop_index.ensures.runs.touches;
      rooms = c.forget_table.ensures.forgotten;
      other_rooms = c.forget_table.ensures.others;
    }) c.requires.served there.at there.within ready

pub returns-clause-keeps : goal.returns-clause-keeps
returns-clause-keeps g c = record {
  shape = refl;
  settings = refl;
  served = served_lost c.args.tables.now.catalog c.drop_index.new.catalog c.args.table c.args.index c.requires.served c.requires.there c.in_ok-drop_index.ensures.left c.in_ok-drop_index.ensures.limits;
  kept = tt;
}

pub returns-clause-runs : goal.returns-clause-runs
returns-clause-runs g c =
    let there = has_index c.args.tables.now.catalog c.args.table c.args.index c.requires.served c.requires.there in
    runs_wider c.in_ok-drop_index.ensures.runs (λ p there mine. tt) (λ p kind. tt)
    (λ damage breaks ready. no_unindexing_damage g.P.Pages c.args.pages.now c.args.tables.now c.args.table there.def c.args.index damage c.requires.served there.at there.within breaks ready)

pub returns-in_err-drop_index-clause-touches : goal.returns-in_err-drop_index-clause-touches
returns-in_err-drop_index-clause-touches g c = c.in_err-drop_index.ensures.runs.touches

pub returns-clause-touches : goal.returns-clause-touches
returns-clause-touches g c = c.in_ok-drop_index.ensures.runs.touches
