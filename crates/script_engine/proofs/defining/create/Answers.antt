use Rattle.std.proofs.Common.{refl}
use Rattle.store_api.proofs.RunsOverPagesLemmas.{runs_exit_as, runs_wider}
use Rattle.extent_map.specs.Damages.{store_part_of}
use Rattle.entry_tree.proofs.ClaimsLemmas.{if_err_by}
use Rattle.stored_catalog.proofs.EnteringLemmas.{empty_place_below}
use Rattle.script_engine.proofs.DefinedTablesLemmas.{created, full_create, no_making_damage, served_more}
use Rattle.script_engine.proofs.defining.create.Goals as goal

pub returns-in_err-place-clause-full : goal.returns-in_err-place-clause-full
returns-in_err-place-clause-full g c =
    if_err_by c.from_residual.result c.in_err-place.field-0.0 _ c.from_residual.ensures.1
    (full_create g.P.Pages c.args.pages.now c.args.tables.now c.args.def c.in_err-place.field-0.0 c.in_err-place.ensures.full)

pub returns-in_err-place-clause-runs : goal.returns-in_err-place-clause-runs
returns-in_err-place-clause-runs g c =
    runs_exit_as store_part_of c.from_residual.result c.from_residual.ensures.1
    (runs_wider c.in_err-place.ensures.runs (λ p there mine. tt) (λ p kind. tt) (λ damage breaks ready. no_making_damage g.P.Pages c.args.pages.now c.args.tables.now damage breaks ready))

pub forget_table-requires : goal.forget_table-requires
forget_table-requires g c = empty_place_below c.args.tables.now.catalog c.in_ok-place.place c.requires.served.limits c.in_ok-place.ensures.place

pub returns-clause-does : goal.returns-clause-does
returns-clause-does g c ready =
    created g.P.Pages c.args.pages.now c.add_table.new.pages c.args.tables.now _ c.in_ok-place.place c.args.def c.in_ok-place.ensures.entered.0 (record {
      served = c.requires.served;
      free = c.requires.free;
      plain = c.requires.plain;
      lowest = c.in_ok-place.ensures.place;
      is_entered = c.in_ok-place.ensures.entered.1;
      limits = c.in_ok-place.ensures.limits;
      stored = c.in_ok-place.ensures.stored;
      adds = c.in_ok-place.ensures.adds;
      stands_for = c.in_ok-place.ensures.stands_for;
      told = c.in_ok-place.ensures.runs.works.steady.is_told;
      shape = refl;
      touches = c.in_ok-place.ensures.runs.touches;
      rooms = c.forget_table.ensures.forgotten;
      other_rooms = c.forget_table.ensures.others;
    }) ready

pub returns-clause-keeps : goal.returns-clause-keeps
returns-clause-keeps g c = record {
  shape = refl;
  settings = refl;
  served = served_more c.args.tables.now.catalog c.add_table.new.catalog c.in_ok-place.place c.args.def c.in_ok-place.ensures.entered.0 c.requires.served c.requires.free c.requires.plain
      c.in_ok-place.ensures.entered.1 c.in_ok-place.ensures.limits;
  kept = tt;
}

pub returns-clause-runs : goal.returns-clause-runs
returns-clause-runs g c =
    runs_wider c.in_ok-place.ensures.runs (λ p there mine. tt) (λ p kind. tt) (λ damage breaks ready. no_making_damage g.P.Pages c.args.pages.now c.args.tables.now damage breaks ready)

pub returns-in_err-place-clause-touches : goal.returns-in_err-place-clause-touches
returns-in_err-place-clause-touches g c = c.in_err-place.ensures.runs.touches

pub returns-clause-touches : goal.returns-clause-touches
returns-clause-touches g c = c.in_ok-place.ensures.runs.touches
