use Rattle.std.proofs.Common.{◌+◌, ◌∙◌, Err, ap, arith, subst, sym}
use Rattle.std.proofs.lemmas.Option.{same_Some}
use Rattle.store_api.specs.StoreState.{page_at}
use Rattle.store_api.proofs.FrameLemmas.{holds_here}
use Rattle.stored_catalog.proofs.LoadingLemmas.{found_stored}
use Rattle.table_page.specs.PageAnswers.{TellsTable}
use Rattle.table_page.specs.declared.fault.DefFault.{DefFault}
use Rattle.file_check.proofs.TablePageLemmas.{formless_past, formless_read}
use Rattle.file_check.proofs.definitions.form_of_page.Goals as goal

pub returns-then-page-count-clause-form : goal.returns-then-page-count-clause-form
returns-then-page-count-clause-form g c told = formless_past (g.P.Pages.state c.args.pages.now).work c.args.t (omega (arith, c.if-page-count.true, c.count.ensures, c.from-page.ensures))

pub returns-in-Ok-clause-form : goal.returns-in-Ok-clause-form
returns-in-Ok-clause-form g c told =
    let work = (g.P.Pages.state c.args.pages.now).work in
    let p = 1 + c.from-page.result in
    let lent = c.in_ok-bring.ensures.hand (page_at work p) (holds_here p told (omega (arith, c.if-page-count.false, c.count.ensures))) in
    found_stored work c.args.t c.page.result.now c.in-Ok.def
    (same_Some c.page.result.now (page_at work p) (sym c.page.ensures ∙ lent) ∙ ap (λ n. page_at work (1 + n)) c.from-page.ensures) c.in-Ok.ensures.told

pub returns-in-Err-Form-clause-form : goal.returns-in-Err-Form-clause-form
returns-in-Err-Form-clause-form g c told =
    let work = (g.P.Pages.state c.args.pages.now).work in
    let p = 1 + c.from-page.result in
    let lent = c.in_ok-bring.ensures.hand (page_at work p) (holds_here p told (omega (arith, c.if-page-count.false, c.count.ensures))) in
    let tells = subst (λ (f : DefFault). TellsTable c.args.t c.page.result.now (Err f)) c.in-Err-Form.field-0-is c.in-Err-Form.ensures.told in
    formless_read work c.args.t c.page.result.now
    (same_Some c.page.result.now (page_at work p) (sym c.page.ensures ∙ lent) ∙ ap (λ n. page_at work (1 + n)) c.from-page.ensures) tells
