-- The page wasn't there, and is zeros now.
use Rattle.std.proofs.Common.{◌≡◌, ◌++◌, ◌∷◌, [], None, false, rules, ap, ◌∙◌}
use Rattle.std.specs.Prelude.{is_some}
use Rattle.store_api.specs.StoreState.{zero_page}
use Rattle.dirty_pages.specs.ChangesView.{written_over}
use Rattle.dirty_pages.proofs.Steps.{place_none, zeros_added, zeros_apart, zeros_there}
use Rattle.dirty_pages.proofs.changes.filling.fill_one.Goals as goal

pub returns-clause-zeros : goal.returns-clause-zeros
returns-clause-zeros c =
    let unplaced : is_some c.place_of.result ≡ false = search rules in
    let none : written_over c.args.table.now c.args.p ≡ None = place_none c.args.table.now c.args.p c.place_of.result c.place_of.ensures unplaced in
    let pushed : c.push.new.self ≡ c.args.table.now ++ (c.args.p, zero_page) ∷ [] = c.in_ok-push.ensures.ok ∙ ap (λ w. c.args.table.now ++ (c.args.p, w) ∷ []) (c.in_ok-page.ensures ∙ c.blank_page.ensures) in
    λ from q le. zeros_added from c.args.p c.args.table.now c.push.new.self none pushed le q

pub returns-clause-apart : goal.returns-clause-apart
returns-clause-apart c =
    let unplaced : is_some c.place_of.result ≡ false = search rules in
    let none : written_over c.args.table.now c.args.p ≡ None = place_none c.args.table.now c.args.p c.place_of.result c.place_of.ensures unplaced in
    let pushed : c.push.new.self ≡ c.args.table.now ++ (c.args.p, zero_page) ∷ [] = c.in_ok-push.ensures.ok ∙ ap (λ w. c.args.table.now ++ (c.args.p, w) ∷ []) (c.in_ok-page.ensures ∙ c.blank_page.ensures) in
    λ q ne. zeros_apart c.args.p c.args.table.now c.push.new.self pushed q ne

pub returns-clause-there : goal.returns-clause-there
returns-clause-there c =
    let unplaced : is_some c.place_of.result ≡ false = search rules in
    let none : written_over c.args.table.now c.args.p ≡ None = place_none c.args.table.now c.args.p c.place_of.result c.place_of.ensures unplaced in
    let pushed : c.push.new.self ≡ c.args.table.now ++ (c.args.p, zero_page) ∷ [] = c.in_ok-push.ensures.ok ∙ ap (λ w. c.args.table.now ++ (c.args.p, w) ∷ []) (c.in_ok-page.ensures ∙ c.blank_page.ensures) in
    zeros_there c.args.p c.args.table.now c.push.new.self none pushed
