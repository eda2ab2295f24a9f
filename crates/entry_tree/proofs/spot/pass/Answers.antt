use Rattle.std.proofs.Common.{List, ℕ, refl, subst}
use Rattle.store_api.specs.StoreState.{page_at}
use Rattle.entry_tree.specs.Shown.{ShowsPassed}
use Rattle.entry_tree.proofs.PassedLemmas.{passes_told, same_some}
use Rattle.entry_tree.proofs.SightOfLemmas.{lends_leaf}
use Rattle.entry_tree.proofs.spot.pass.Goals as goal

pub returns-clause-passes : goal.returns-clause-passes
returns-clause-passes g c =
    passes_told c.args.tree.now.width (g.P.Pages.state c.args.pages.now) c.args.page c.args.entry.now c.page.result.now c.look_down.result
    (λ told. same_some _ c.page.result.now (page_at (g.P.Pages.state c.args.pages.now).work c.args.page) c.page.ensures
    (c.in_ok-bring.ensures.hand (page_at (g.P.Pages.state c.args.pages.now).work c.args.page) (record { is_told = told; within = c.requires.within; bytes_are = refl })))
    c.look_down.ensures.passes

pub returns-clause-shown : goal.returns-clause-shown
returns-clause-shown g c told =
    let hand = c.in_ok-bring.ensures.hand (page_at (g.P.Pages.state c.args.pages.now).work c.args.page) (record { is_told = told; within = c.requires.within; bytes_are = refl }) in
    subst (λ (b : List ℕ). ShowsPassed c.args.tree.now.width b c.args.page c.args.entry.now c.look_down.result)
    (same_some _ c.page.result.now (page_at (g.P.Pages.state c.args.pages.now).work c.args.page) c.page.ensures hand) c.look_down.ensures.shown

pub returns-clause-at_hand : goal.returns-clause-at_hand
returns-clause-at_hand g c told =
    c.in_ok-bring.ensures.hand (page_at (g.P.Pages.state c.args.pages.now).work c.args.page) (record { is_told = told; within = c.requires.within; bytes_are = refl })

pub returns-clause-lent : goal.returns-clause-lent
returns-clause-lent g c items e =
    lends_leaf c.args.tree.now.width (g.P.Pages.state c.args.pages.now) c.args.page _ items
    (λ told. c.in_ok-bring.ensures.hand (page_at (g.P.Pages.state c.args.pages.now).work c.args.page) (record { is_told = told; within = c.requires.within; bytes_are = refl })) e
