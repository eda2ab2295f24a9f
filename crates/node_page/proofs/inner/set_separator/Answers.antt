use Rattle.std.proofs.Common.{◌≡◌, ◌+◌, ◌*◌, ◌≤◌, suc, ap, ◌∙◌, arith, mul-le-mul_right, suc-mul}
use Rattle.store_api.specs.StoreState.{patched}
use Rattle.node_page.specs.Node.{node_of, stated_entries}
use Rattle.node_page.proofs.InnerLemmas.{inner_set}
use Rattle.node_page.proofs.inner.set_separator.Goals as goal

pub put-requires : goal.put-requires
put-requires c =
    let w = c.args.width in
    let at = c.args.at in
    let start : c.slot_at.result ≡ 16 + at * (w + 4) = c.slot_at.ensures ∙ ap (λ k. 16 + at * k) c.fork_step.ensures in
    let most : suc at * (w + 4) ≤ stated_entries c.args.page.now * (w + 4) = mul-le-mul_right (w + 4) c.requires.place in
    omega (arith, suc-mul at (w + 4))

pub returns : goal.returns
returns c = λ separators children is.
    let w = c.args.width in
    let at = c.args.at in
    let start : c.slot_at.result ≡ 16 + at * (w + 4) = c.slot_at.ensures ∙ ap (λ k. 16 + at * k) c.fork_step.ensures in
    ap (node_of w) (c.put.ensures ∙ ap (λ k. patched k c.args.separator.now c.args.page.now) start)
    ∙ inner_set w at c.args.page.now separators children c.args.separator.now is c.told-page c.fits-page c.requires.place c.requires.width
