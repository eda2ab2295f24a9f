use Rattle.std.proofs.Common.{◌≡◌, ◌≢◌, [], subst, get_or}
use Rattle.store_api.proofs.RunsOverPagesLemmas.{runs_as, runs_exit}
use Rattle.store_api_tests.proofs.linked.set_linked.Goals as goal

pub returns-in_err-write_page-clause-runs : goal.returns-in_err-write_page-clause-runs
returns-in_err-write_page-clause-runs g c = runs_exit c.from_residual-in_err-write_page.result c.from_residual-in_err-write_page.ensures.1
    (runs_as c.in_ok-first_byte.ensures.runs c.in_err-write_page.ensures.runs (λ p there none. absurd none)
    (λ p there at part is linked. let byte = c.in_ok-first_byte.ensures.value (part c.args.root) (is.each c.args.root linked.root_there) in
    let same : get_or (part c.args.root) 0 0 ≡ p = cc in subst (λ q. part q ≢ []) same linked.page_there) (λ p is. is) (λ p none. absurd none) (λ damage none. absurd none))

pub returns-clause-runs : goal.returns-clause-runs
returns-clause-runs g c = runs_as c.in_ok-first_byte.ensures.runs c.in_ok-write_page.ensures.runs (λ p there none. absurd none)
    (λ p there at part is linked. let byte = c.in_ok-first_byte.ensures.value (part c.args.root) (is.each c.args.root linked.root_there) in
    let same : get_or (part c.args.root) 0 0 ≡ p = cc in subst (λ q. part q ≢ []) same linked.page_there) (λ p is. is) (λ p none. absurd none) (λ damage none. absurd none)
