use Rattle.std.proofs.Common.{◌≡◌, ◌<◌, vec_len, ap, sym, ◌∙◌, Some, arith, rules}
use Rattle.store_api.specs.declared.mem_store.Hand.TheVariants.{History}
use Rattle.store_api.specs.History.{was_at}
use Rattle.store_api.proofs.Undone.{was_at-is}
use Rattle.store_api.proofs.mem_store.MemStorePages.page.Goals as goal

pub returns-in-Some-History : goal.returns-in-Some-History
returns-in-Some-History c =
    let s = c.args.self.now in
    let at = c.in-Some-History.at in
    let change = c.index-in-Some-History.result.now in
    let hand : s.hand ≡ Some (History at) = search rules in
    let within : at < vec_len s.history = search rules in
    let read : was_at s.history.items at ≡ change.was =
    was_at-is s.history.items at change (omega (arith, s.history.ok.0)) ∙ ap (λ x. x.was) (sym c.index-in-Some-History.ensures) in
    rw hand (ap Some read)
