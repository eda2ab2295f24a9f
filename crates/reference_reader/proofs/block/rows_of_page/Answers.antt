use Rattle.std.proofs.Common.{ap, subst, List, []}
use Rattle.std.specs.Prelude.{ℕ}
use Rattle.row_page.specs.RowPage.{IsRowPage, rows_of}
use Rattle.store_api.proofs.RunsOverPagesLemmas.{runs_exit, runs_wider}
use Rattle.reference_reader.proofs.NoPagesLemmas.{no_bytes_no_rows, page_at-past}
use Rattle.reference_reader.proofs.block.rows_of_page.Goals as goal

pub returns-in_err-bring_page-clause-runs : goal.returns-in_err-bring_page-clause-runs
returns-in_err-bring_page-clause-runs g c =
    runs_exit c.from_residual.result c.from_residual.ensures.1
    (runs_wider c.in_err-bring_page.ensures.runs (λ p there mine. mine) (λ p is. is) (λ damage b. record {
      rule = ap (λ d. d.rule) b.0;
      page = ap (λ d. d.page) b.0;
      broken = λ told sound. no_bytes_no_rows c.args.def.now.columns (rows_of c.args.def.now.columns [])
          (subst (λ (bytes : List ℕ). IsRowPage c.args.def.now.columns bytes (rows_of c.args.def.now.columns bytes)) (page_at-past (g.P.Pages.state c.args.pages.now).work c.args.p b.1) sound);
    }))
