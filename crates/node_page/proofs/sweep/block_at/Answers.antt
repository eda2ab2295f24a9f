use Rattle.std.proofs.Common.{◌+◌, ◌*◌, ◌≡◌, ap, ◌∙◌, arith, add-one, suc-mul}
use Rattle.node_page.specs.Node.{number_within}
use Rattle.node_page.proofs.SweepLemmas.{number_in_part}
use Rattle.node_page.proofs.sweep.block_at.Goals as goal

pub returns : goal.returns
returns c =
    let i = c.args.i in
    let step = c.args.step in
    let next : (i + 1) * step ≡ i * step + step = ap (λ k. k * step) (add-one i) ∙ suc-mul i step in
    c.number_at.ensures ∙ ap (λ k. number_within (k + c.args.at) 4 c.args.page.now) c.slot_at.ensures
    ∙ number_in_part (16 + i * step) step c.args.at c.args.page.now c.requires.named (omega (arith, c.requires.fits, c.told-page))
