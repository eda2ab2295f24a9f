use Rattle.std.proofs.Common.{Some}
use Rattle.store_api.proofs.RunsOverPagesLemmas.{runs_exit}
use Rattle.cleaner.proofs.PassesLemmas.{runs_listed}
use Rattle.cleaner.proofs.beginning.begin.Goals as goal

pub returns-in_err-blocks-clause-runs : goal.returns-in_err-blocks-clause-runs
returns-in_err-blocks-clause-runs g c shape =
    runs_exit c.from_residual.result c.from_residual.ensures.1
    (runs_listed shape c.args.def.now c.requires.defined c.args.pages.now c.list.new.pages c.at-map.result.tree c.at-map.ensures c.at-map.result.seven (Some c.in_err-blocks.field-0.0) c.in_err-blocks.ensures.runs)
