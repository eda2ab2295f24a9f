use Rattle.std.proofs.Common.{refl}
use Rattle.store_api.proofs.RunsOverPagesLemmas.{runs_exit, runs_wider}
use Rattle.script_engine.proofs.DefinedTablesLemmas.{no_dropping_damage, removed, served_less}
use Rattle.script_engine.proofs.defining.remove.Goals as goal

pub returns-in_err-drop_table-clause-runs : goal.returns-in_err-drop_table-clause-runs
returns-in_err-drop_table-clause-runs g c =
    runs_exit c.from_residual.result c.from_residual.ensures.1
    (runs_wider c.in_err-drop_table.ensures.runs (λ p there mine. tt) (λ p kind. tt)
    (λ damage breaks ready. no_dropping_damage g.P.Pages c.args.pages.now c.args.tables.now c.args.table damage c.requires.served breaks ready))

pub returns-clause-does : goal.returns-clause-does
returns-clause-does g c ready =
    removed g.P.Pages c.args.pages.now c.drop_table.new.pages c.args.tables.now _ c.args.table (record {
      was_served = c.requires.served;
      there = c.requires.there;
      left = c.in_ok-drop_table.ensures.left;
      served = served_less c.args.tables.now.catalog c.drop_table.new.catalog c.args.table c.requires.served c.in_ok-drop_table.ensures.left c.in_ok-drop_table.ensures.limits;
      stored = c.in_ok-drop_table.ensures.stored;
      drops = c.in_ok-drop_table.ensures.drops;
      stands_for = c.in_ok-drop_table.ensures.stands_for;
      told = c.in_ok-drop_table.ensures.runs.works.steady.is_told;
      shape = refl;
      touches = c.in_ok-drop_table.ensures.runs.touches;
      rooms = refl;
    }) ready

pub returns-clause-keeps : goal.returns-clause-keeps
returns-clause-keeps g c = record {
  shape = refl;
  settings = refl;
  served = served_less c.args.tables.now.catalog c.drop_table.new.catalog c.args.table c.requires.served c.in_ok-drop_table.ensures.left c.in_ok-drop_table.ensures.limits;
  kept = tt;
}

pub returns-clause-runs : goal.returns-clause-runs
returns-clause-runs g c =
    runs_wider c.in_ok-drop_table.ensures.runs (λ p there mine. tt) (λ p kind. tt)
    (λ damage breaks ready. no_dropping_damage g.P.Pages c.args.pages.now c.args.tables.now c.args.table damage c.requires.served breaks ready)

pub returns-in_err-drop_table-clause-touches : goal.returns-in_err-drop_table-clause-touches
returns-in_err-drop_table-clause-touches g c = c.in_err-drop_table.ensures.runs.touches

pub returns-clause-touches : goal.returns-clause-touches
returns-clause-touches g c = c.in_ok-drop_table.ensures.runs.touches
