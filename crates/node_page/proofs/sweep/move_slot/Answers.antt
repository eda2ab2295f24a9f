use Rattle.std.proofs.Common.{◌+◌, ◌*◌, ◌≡◌, ap, ◌∙◌, arith, add-one, suc-mul}
use Rattle.store_api.specs.StoreState.{patched}
use Rattle.node_page.specs.Node.{bytes_in}
use Rattle.node_page.proofs.SweepLemmas.{stays}
use Rattle.node_page.proofs.sweep.move_slot.Goals as goal

pub returns-else-to-i : goal.returns-else-to-i
returns-else-to-i c =
    let i = c.args.i in
    let step = c.args.step in
    let page = c.args.page.now in
    let next : (i + 1) * step ≡ i * step + step = ap (λ k. k * step) (add-one i) ∙ suc-mul i step in
    let same : i ≡ c.args.to = omega (arith, c.requires.order, c.if-to-i.false) in
    stays page (16 + i * step) step (omega (arith, c.requires.fits, c.told-page)) ∙ ap (λ k. patched (16 + k * step) (bytes_in (16 + i * step) step page) page) same
