use Rattle.std.proofs.Common.{◌<◌, ◌+◌, ◌∙◌, None, arith, subst, sym}
use Rattle.store_api.proofs.RunsOverPagesLemmas.{runs_exit}
use Rattle.stored_catalog.specs.StoredDefinitions.{IsStoredPlace, IsWithinLimits}
use Rattle.stored_catalog.proofs.LoadingLemmas.{HoldsBefore, holds_of_more, run_to_taken, runs_over_page}
use Rattle.stored_catalog.proofs.loading.load_catalog.Goals as goal

pub returns-in_err-def-clause-runs : goal.returns-in_err-def-clause-runs
returns-in_err-def-clause-runs g c =
    runs_exit c.from_residual-in_err-def.result c.from_residual-in_err-def.ensures.1
    (runs_over_page c.loop-t.t (omega (arith, c.loop-t-test.true, c.loop-t.auto.t-end)) c.loop-t.invariant.same c.loop-t.invariant.runs c.in_err-def.ensures.runs)

pub returns-in_err-put_def-clause-runs : goal.returns-in_err-put_def-clause-runs
returns-in_err-put_def-clause-runs g c =
    let inv = c.loop-t.invariant in
    let found = c.in_ok-def.ensures in
    let t = c.loop-t.t in
    let def = c.in_ok-def.def in
    let few : t < 16 = omega (arith, c.loop-t-test.true, c.loop-t.auto.t-end) in
    runs_exit c.from_residual-in_err-put_def.result c.from_residual-in_err-put_def.ensures.1
    (run_to_taken t c.loop-t.catalog def _ few inv.limits inv.loads
    (λ told. subst (λ pages. IsStoredPlace pages t def) inv.same (found.told (inv.runs.works.steady.is_told ∙ told))) c.in_err-put_def.ensures.taken
    (runs_over_page {fault = None} t few inv.same inv.runs found.runs))

pub loop-t-preserved : goal.loop-t-preserved
loop-t-preserved g c =
    let inv = c.loop-t.invariant in
    let found = c.in_ok-def.ensures in
    let t = c.loop-t.t in
    let def = c.in_ok-def.def in
    let few : t < 16 = omega (arith, c.loop-t-test.true, c.loop-t.auto.t-end) in
    let put = c.in_ok-put_def.ensures in record {
      loads = λ told.
          let stored = IsStoredPlace (g.P.Pages.state c.args.pages.now).work in
          subst (HoldsBefore stored (t + 1)) (sym put.puts)
          (holds_of_more stored t c.loop-t.catalog def few (inv.loads told) (subst (λ pages. IsStoredPlace pages t def) inv.same (found.told (inv.runs.works.steady.is_told ∙ told))));
      limits = subst (HoldsBefore IsWithinLimits (t + 1)) (sym put.puts) (holds_of_more IsWithinLimits t c.loop-t.catalog def few inv.limits found.limits);
      names = put.names inv.names;
      index_names = put.index_names inv.index_names;
      same = c.load_def.ensures.same ∙ inv.same;
      going = found.runs.works.steady.ended ∙ inv.going;
      runs = runs_over_page {fault = None} t few inv.same inv.runs found.runs;
    }
