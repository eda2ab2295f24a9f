use Rattle.std.proofs.Common.{◌≡◌, ◌+◌, ◌*◌, ◌≤◌, suc, ap, ◌∙◌, arith, mul-le-mul_right, suc-mul}
use Rattle.store_api.specs.StoreState.{patched}
use Rattle.node_page.specs.Node.{node_of, stated_entries}
use Rattle.node_page.proofs.LeafLemmas.{leaf_set}
use Rattle.node_page.proofs.leaf.set_entry.Goals as goal

pub put-requires : goal.put-requires
put-requires c =
    let w = c.args.width in
    let at = c.args.at in
    let start : c.slot_at.result ≡ 16 + at * w = c.slot_at.ensures ∙ ap (λ k. 16 + at * k) c.from.ensures in
    let most : suc at * w ≤ stated_entries c.args.page.now * w = mul-le-mul_right w c.requires.place in
    omega (arith, suc-mul at w)

pub returns : goal.returns
returns c = λ entries is.
    let w = c.args.width in
    let at = c.args.at in
    let start : c.slot_at.result ≡ 16 + at * w = c.slot_at.ensures ∙ ap (λ k. 16 + at * k) c.from.ensures in
    ap (node_of w) (c.put.ensures ∙ ap (λ k. patched k c.args.entry.now c.args.page.now) start)
    ∙ leaf_set w at c.args.page.now entries c.args.entry.now is c.told-page c.fits-page c.requires.place c.requires.width
