use Rattle.std.proofs.Common.{List, ℕ, refl, subst, sym, ◌∙◌}
use Rattle.store_api.specs.StoreState.{page_at}
use Rattle.entry_tree.specs.Shown.{ShowsSight}
use Rattle.entry_tree.specs.declared.sight.Sight.TheVariants.{Nothing}
use Rattle.entry_tree.proofs.ShownLemmas.{sight_shown}
use Rattle.entry_tree.proofs.SightOfLemmas.{hand_is, lends_leaf, look_misses, look_sees}
use Rattle.entry_tree.proofs.sight.see.Goals as goal

pub returns-clause-sees : goal.returns-clause-sees
returns-clause-sees g c =
    look_sees c.args.tree.now.width (g.P.Pages.state c.args.pages.now) c.args.page c.page.result.now c.in-Some.view c.args.entry.now _
    (hand_is c.args.pages.now c.bring.new.pages c.args.page c.page.result.now c.requires.within c.in_ok-bring.ensures.hand c.page.ensures)
    c.in-Some.ensures.leaf c.in-Some.ensures.inner c.sight_in.ensures.sees

pub returns-in_default-clause-sees : goal.returns-in_default-clause-sees
returns-in_default-clause-sees g c =
    look_misses c.args.tree.now.width (g.P.Pages.state c.args.pages.now) c.args.page c.page.result.now c.args.entry.now
    (hand_is c.args.pages.now c.bring.new.pages c.args.page c.page.result.now c.requires.within c.in_ok-bring.ensures.hand c.page.ensures)
    (λ entries e. sym c.in_default.is ∙ c.look.ensures.leaf entries e) (λ separators children e. sym c.in_default.is ∙ c.look.ensures.inner separators children e)

pub returns-in_default-clause-lent : goal.returns-in_default-clause-lent
returns-in_default-clause-lent g c items e =
    lends_leaf c.args.tree.now.width (g.P.Pages.state c.args.pages.now) c.args.page _ items
    (λ told. c.in_ok-bring.ensures.hand (page_at (g.P.Pages.state c.args.pages.now).work c.args.page) (record { is_told = told; within = c.requires.within; bytes_are = refl })) e

pub returns-clause-lent : goal.returns-clause-lent
returns-clause-lent g c items e =
    lends_leaf c.args.tree.now.width (g.P.Pages.state c.args.pages.now) c.args.page _ items
    (λ told. c.in_ok-bring.ensures.hand (page_at (g.P.Pages.state c.args.pages.now).work c.args.page) (record { is_told = told; within = c.requires.within; bytes_are = refl })) e

pub returns-in_default-clause-shown : goal.returns-in_default-clause-shown
returns-in_default-clause-shown g c told =
    subst (λ (b : List ℕ). ShowsSight c.args.tree.now.width b c.args.entry.now Nothing) (sym (hand_is c.args.pages.now c.bring.new.pages c.args.page c.page.result.now c.requires.within c.in_ok-bring.ensures.hand c.page.ensures told))
    (sym c.look.ensures.seen ∙ c.in_default.is)

pub returns-clause-shown : goal.returns-clause-shown
returns-clause-shown g c told =
    subst (λ (b : List ℕ). ShowsSight c.args.tree.now.width b c.args.entry.now c.sight_in.result) (sym (hand_is c.args.pages.now c.bring.new.pages c.args.page c.page.result.now c.requires.within c.in_ok-bring.ensures.hand c.page.ensures told))
    (sight_shown c.page.result.now c.args.entry.now c.sight_in.result c.in-Some.ensures.width c.sight_in.ensures.shown (sym c.in-Some.ensures.seen))

pub returns-in_default-clause-at_hand : goal.returns-in_default-clause-at_hand
returns-in_default-clause-at_hand g c told =
    c.in_ok-bring.ensures.hand (page_at (g.P.Pages.state c.args.pages.now).work c.args.page) (record { is_told = told; within = c.requires.within; bytes_are = refl })

pub returns-clause-at_hand : goal.returns-clause-at_hand
returns-clause-at_hand g c told =
    c.in_ok-bring.ensures.hand (page_at (g.P.Pages.state c.args.pages.now).work c.args.page) (record { is_told = told; within = c.requires.within; bytes_are = refl })
