use Rattle.std.proofs.Common.{ap, length, arith, None}
use Rattle.store_api.specs.Frame.{OnlyPage}
use Rattle.store_api.specs.RunsOverPages.{RunsOverPages}
use Rattle.store_api.proofs.RunsOverPagesLemmas.{runs_more, runs_on, runs_wider, runs_exit}
use Rattle.store_api_tests.specs.Firsts.{BreaksFirst}
use Rattle.store_api_tests.proofs.ledger.append.Goals as goal

pub returns-in_err-patch_page-clause-runs : goal.returns-in_err-patch_page-clause-runs
returns-in_err-patch_page-clause-runs g c =
    let start : RunsOverPages g.P.Pages (OnlyPage 0) (OnlyPage 0) (BreaksFirst g.P.Pages c.args.pages.now) c.args.pages.now c.first_byte.new.pages None =
    runs_wider (runs_on c.in_ok-first_byte.ensures.runs) (λ p there none. absurd none) (λ p is. is) (λ damage breaks. breaks) in
    let grown = runs_more start c.in_ok-add_pages.ensures.runs (λ p there none. absurd none) (λ p none. absurd none) in
    let written = runs_more grown c.in_ok-write_page.ensures.runs (λ p there is. absurd (omega (arith, there, is, c.count-n.ensures, ap length c.first_byte.ensures.same))) (λ p none. absurd none) in
    runs_exit c.from_residual-in_err-patch_page.result c.from_residual-in_err-patch_page.ensures.1 (runs_more written c.in_err-patch_page.ensures.runs (λ p there is. is) (λ p is. is))

pub returns-clause-runs : goal.returns-clause-runs
returns-clause-runs g c =
    let start : RunsOverPages g.P.Pages (OnlyPage 0) (OnlyPage 0) (BreaksFirst g.P.Pages c.args.pages.now) c.args.pages.now c.first_byte.new.pages None =
    runs_wider (runs_on c.in_ok-first_byte.ensures.runs) (λ p there none. absurd none) (λ p is. is) (λ damage breaks. breaks) in
    let grown = runs_more start c.in_ok-add_pages.ensures.runs (λ p there none. absurd none) (λ p none. absurd none) in
    let written = runs_more grown c.in_ok-write_page.ensures.runs (λ p there is. absurd (omega (arith, there, is, c.count-n.ensures, ap length c.first_byte.ensures.same))) (λ p none. absurd none) in
    runs_more written c.in_ok-patch_page.ensures.runs (λ p there is. is) (λ p is. is)
