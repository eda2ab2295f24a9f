use Rattle.std.proofs.Common.{◌≡◌, ◌+◌, ◌*◌, ◌<◌, ◌≤◌, ap, sym, subst, ◌∙◌, arith, le-mul_of_pos_right}
use Rattle.node_page.specs.Node.{node_of}
use Rattle.node_page.specs.Slots.{opened_up, with_count}
use Rattle.node_page.proofs.LeafLemmas.{leaf_put}
use Rattle.node_page.proofs.leaf.put_entry.Goals as goal

pub returns : goal.returns
returns c = λ entries is.
    let w = c.args.width in
    let at = c.args.at in
    let n = c.short_at-count.result in
    let entry = c.args.entry.now in
    let page = c.args.page.now in
    let start : c.slot_at.result ≡ 16 + at * w = c.slot_at.ensures ∙ ap (λ k. 16 + at * k) c.from-width.ensures in
    let end : c.slot_at-end.result ≡ 16 + n * w = c.slot_at-end.ensures ∙ ap (λ k. 16 + c.from.result * k) c.from-width.ensures ∙ ap (λ k. 16 + k * w) c.from.ensures in
    let fits : (n + 1) * w ≤ 4080 = subst (λ k. (k + 1) * w ≤ 4080) (sym c.short_at-count.ensures) c.requires.room in
    let few : n + 1 < 65536 = omega (arith, le-mul_of_pos_right {m = w} (n + 1) c.requires.wide) in
    ap (node_of w) (c.set_count.ensures
    ∙ ap (with_count (n + 1)) (c.insert_bytes.ensures ∙ ap (λ k. opened_up k c.slot_at-end.result entry page) start ∙ ap (λ k. opened_up (16 + at * w) k entry page) end))
    ∙ leaf_put w at n page entries entry is c.told-page c.fits-page c.short_at-count.ensures
    (subst (λ k. at ≤ k) (sym c.short_at-count.ensures) c.requires.place) c.requires.width fits few
