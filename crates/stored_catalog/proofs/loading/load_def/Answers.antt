use Rattle.std.proofs.Common.{◌+◌, ◌∙◌, ap, arith, sym}
use Rattle.std.proofs.lemmas.Option.{same_Some}
use Rattle.store_api.specs.StoreState.{page_at}
use Rattle.store_api.proofs.FrameLemmas.{holds_here}
use Rattle.stored_catalog.proofs.LoadingLemmas.{found_stored}
use Rattle.stored_catalog.proofs.loading.load_def.Goals as goal

pub returns-in-Ok-clause-told : goal.returns-in-Ok-clause-told
returns-in-Ok-clause-told g c told =
    let work = (g.P.Pages.state c.args.pages.now).work in
    let p = 1 + c.from-page.result in
    let lent = c.in_ok-bring.ensures.hand (page_at work p) (holds_here p told (omega (arith, c.if-page-count.false, c.count.ensures))) in
    found_stored work c.args.t c.page.result.now c.in-Ok.def
    (same_Some c.page.result.now (page_at work p) (sym c.page.ensures ∙ lent) ∙ ap (λ n. page_at work (1 + n)) c.from-page.ensures) c.in-Ok.ensures.told
