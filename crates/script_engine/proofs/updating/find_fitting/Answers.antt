use Rattle.std.proofs.Common.{false, true}
use Rattle.store_api.proofs.RunsOverPagesLemmas.{runs_damage, runs_exit, runs_wider}
use Rattle.script_engine.proofs.UpdatedRowsLemmas.{unfit_breaks}
use Rattle.script_engine.proofs.TurnedRowsLemmas.{fit_of}
use Rattle.script_engine.proofs.updating.find_fitting.Goals as goal

pub returns-in_err-found-clause-runs : goal.returns-in_err-found-clause-runs
returns-in_err-found-clause-runs g c =
    runs_exit c.from_residual.result c.from_residual.ensures.1 (runs_wider c.in_err-found.ensures.runs (λ p there none. none) (λ p of. tt) (λ damage breaks. breaks.broken))

pub returns-in-Some-clause-runs : goal.returns-in-Some-clause-runs
returns-in-Some-clause-runs g c =
    runs_damage (runs_wider c.in_ok-found.ensures.runs (λ p there none. none) (λ p of. tt) (λ damage breaks. breaks.broken))
    (unfit_breaks g.P.Pages c.args.shape c.args.pages.now c.args.def.now c.args.pred.now c.in_ok-found.found.hits.items c.unfit_row.result c.in_ok-found.ensures.lie
    (fit_of c.args.def.now.columns c.as_slice.result.now c.in_ok-found.found.hits.items c.as_slice-2.result.now false c.as_slice.ensures c.as_slice-2.ensures.value c.in-Some.ensures))

pub returns-clause-fit : goal.returns-clause-fit
returns-clause-fit g c = fit_of c.args.def.now.columns c.as_slice.result.now c.in_ok-found.found.hits.items c.as_slice-2.result.now true c.as_slice.ensures c.as_slice-2.ensures.value c.in_default.ensures

pub returns-clause-runs : goal.returns-clause-runs
returns-clause-runs g c = runs_wider c.in_ok-found.ensures.runs (λ p there none. none) (λ p of. tt) (λ damage breaks. breaks.broken)
