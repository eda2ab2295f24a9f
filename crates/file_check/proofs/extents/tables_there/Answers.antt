use Rattle.std.proofs.Common.{None, refl, sym, ap, ◌∙◌, arith, length, length-set, ◌+◌}
use Rattle.store_api.specs.StoreState.{page_at}
use Rattle.store_api.proofs.RunsOverPagesLemmas.{runs_exit, runs_more, runs_none}
use Rattle.file_check.proofs.BroughtPagesLemmas.{brought_page}
use Rattle.file_check.proofs.TablesToldLemmas.{tables_next}
use Rattle.file_check.proofs.extents.tables_there.Goals as goal

pub loop-t-init : goal.loop-t-init
loop-t-init g c = record { count = refl; each = λ told x low. absurd (omega (arith, low)); same = refl; runs = runs_none }

pub returns-in_err-bring-clause-runs : goal.returns-in_err-bring-clause-runs
returns-in_err-bring-clause-runs g c =
    runs_exit c.from_residual.result c.from_residual.ensures.1 (runs_more c.loop-t.invariant.runs c.in_err-bring.ensures.runs (λ p there mine. mine) (λ p is. tt))

pub loop-t-preserved : goal.loop-t-preserved
loop-t-preserved g c =
    let inv = c.loop-t.invariant in
    record {
      count = length-set c.loop-t.tables c.loop-t.t _ ∙ inv.count;
      each = λ told.
          tables_next (g.P.Pages.state c.args.pages.now).work c.loop-t.tables c.loop-t.t c.page.result.now c.is_blank.result inv.count (omega (arith, c.loop-t-test.true)) (inv.each told)
          (ap (λ pages. page_at pages (1 + c.loop-t.t)) (sym inv.same)
          ∙ brought_page g.P.Pages c.loop-t.pages (1 + c.loop-t.t) _ c.page.result.now (inv.runs.works.steady.is_told ∙ told) (omega (arith, c.loop-t-test.true, ap length inv.same, c.requires.there)) c.in_ok-bring.ensures.hand c.page.ensures)
          c.is_blank.ensures;
      same = c.bring.ensures.same ∙ inv.same;
      runs = runs_more {fault = None} inv.runs c.in_ok-bring.ensures.runs (λ p there mine. mine) (λ p is. tt);
    }
