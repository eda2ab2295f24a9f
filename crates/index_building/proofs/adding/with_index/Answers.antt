use Rattle.store_api.proofs.RunsOverPagesLemmas.{runs_exit_as}
use Rattle.extent_map.specs.Damages.{store_part_of}
use Rattle.index_building.proofs.DroppingIndexRunsLemmas.{memory_run}
use Rattle.index_building.proofs.adding.with_index.Goals as goal

pub returns-in_err-now-clause-runs : goal.returns-in_err-now-clause-runs
returns-in_err-now-clause-runs g c =
    runs_exit_as store_part_of c.from_residual.result c.from_residual.ensures.1 (memory_run g.P.Pages c.args.pages.now c.in_err-now.field-0.0 c.in_err-now.ensures.memory)
