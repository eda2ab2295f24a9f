use Rattle.std.proofs.Common.{◌+◌, ◌∙◌, [], sym, ap, subst}
use Rattle.std.specs.Prelude.{Err}
use Rattle.store_api.specs.declared.fault.Damage.{Damage}
use Rattle.store_api.specs.StoreState.{page_at}
use Rattle.store_api.proofs.RunsOverPagesLemmas.{runs_damage, runs_exit, runs_on, runs_wider}
use Rattle.table_page.specs.PageAnswers.{TellsTable}
use Rattle.table_page.specs.declared.fault.DefFault.{DefFault}
use Rattle.mdc_sound.specs.Breaks.{BreaksRule}
use Rattle.reference_reader.proofs.NoPagesLemmas.{breaks_table, no_bytes_no_table, no_bytes_no_zeros, one_at_hand, page_at-past}
use Rattle.reference_reader.proofs.definition.read_definition.Goals as goal

pub returns-in_err-bring_page-clause-runs : goal.returns-in_err-bring_page-clause-runs
returns-in_err-bring_page-clause-runs g c =
    runs_exit c.from_residual.result c.from_residual.ensures.1
    (runs_wider c.in_err-bring_page.ensures.runs (λ p there mine. mine) (λ p is. is ∙ ap (λ n. 1 + n) c.from.ensures) (λ damage b. record {
      broken = λ told. subst (λ (d : Damage). BreaksRule c.args.shape (g.P.Pages.state c.args.pages.now).work d.rule d.page) (sym b.0)
          (breaks_table c.args.shape (g.P.Pages.state c.args.pages.now).work c.args.t (1 + c.from.result) [] c.requires.place (ap (λ n. 1 + n) c.from.ensures)
          (sym (page_at-past (g.P.Pages.state c.args.pages.now).work (1 + c.from.result) b.1)) no_bytes_no_zeros (no_bytes_no_table c.args.t));
    }))

pub returns-in-Err-Form-clause-runs : goal.returns-in-Err-Form-clause-runs
returns-in-Err-Form-clause-runs g c =
    let tells = subst (λ (f : DefFault). TellsTable c.args.t c.page.result.now (Err f)) c.in-Err-Form.field-0-is c.in-Err-Form.ensures.told in
    runs_damage (runs_wider (runs_on c.in_ok-bring_page.ensures.runs) (λ p there mine. mine) (λ p is. is ∙ ap (λ n. 1 + n) c.from.ensures) (λ damage b. b)) (record {
      broken = λ told. breaks_table c.args.shape (g.P.Pages.state c.args.pages.now).work c.args.t (1 + c.from.result) c.page.result.now c.requires.place (ap (λ n. 1 + n) c.from.ensures)
          (one_at_hand (g.P.Pages.state c.bring_page.new.pages).hand c.page.result.now (page_at (g.P.Pages.state c.args.pages.now).work (1 + c.from.result)) c.page.ensures (c.in_ok-bring_page.ensures.hand told))
          tells.0 tells.1;
    })
