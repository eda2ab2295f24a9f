-- What the page is now is saved.
use Rattle.std.proofs.Common.{◌≡◌, ◌++◌, ◌∷◌, [], false, ap, sym, ◌∙◌, inr}
use Rattle.dirty_pages.specs.Table.{LiesAt}
use Rattle.dirty_pages.specs.ChangesView.{is_free_in}
use Rattle.dirty_pages.proofs.Steps.{bytes_lie, saved_free}
use Rattle.dirty_pages.proofs.changes.going_back.save.Goals as goal

pub returns-clause-free : goal.returns-clause-free
returns-clause-free c =
    let taken : is_free_in c.args.mark.now c.args.saved.now c.args.p c.args.place ≡ false = sym c.is_free.ensures ∙ c.if-is_free.false in
    let lies : LiesAt c.args.table.now c.args.p c.args.place = c.requires in
    let bytes : c.in_ok-page.page.value ≡ lies.page = c.in_ok-page.ensures ∙ (sym (c.at.ensures (c.args.p, lies.page)) ∙ bytes_lie c.args.table.now c.args.p c.args.place (c.args.p, lies.page) lies) in
    let pushed : c.push.new.self ≡ c.args.saved.now ++ (c.args.p, lies.page) ∷ [] = c.in_ok-push.ensures.ok ∙ ap (λ w. c.args.saved.now ++ (c.args.p, w) ∷ []) bytes in
    saved_free c.args.mark.now c.args.saved.now c.push.new.self c.args.p c.args.place lies.page taken pushed

pub returns-clause-saved : goal.returns-clause-saved
returns-clause-saved c =
    let taken : is_free_in c.args.mark.now c.args.saved.now c.args.p c.args.place ≡ false = sym c.is_free.ensures ∙ c.if-is_free.false in
    let lies : LiesAt c.args.table.now c.args.p c.args.place = c.requires in
    let bytes : c.in_ok-page.page.value ≡ lies.page = c.in_ok-page.ensures ∙ (sym (c.at.ensures (c.args.p, lies.page)) ∙ bytes_lie c.args.table.now c.args.p c.args.place (c.args.p, lies.page) lies) in
    let pushed : c.push.new.self ≡ c.args.saved.now ++ (c.args.p, lies.page) ∷ [] = c.in_ok-push.ensures.ok ∙ ap (λ w. c.args.saved.now ++ (c.args.p, w) ∷ []) bytes in
    inr (c.args.place, lies, taken, pushed)
