use Rattle.std.proofs.Common.{◌≡◌, ◌+◌, ◌-◌, ◌*◌, ◌<◌, ap, sym, subst, ◌∙◌}
use Rattle.node_page.specs.Node.{node_of}
use Rattle.node_page.specs.Slots.{closed_up, with_count}
use Rattle.node_page.proofs.LeafLemmas.{leaf_take}
use Rattle.node_page.proofs.leaf.take_entry.Goals as goal

pub returns : goal.returns
returns c = λ entries is.
    let w = c.args.width in
    let at = c.args.at in
    let n = c.short_at-count.result in
    let page = c.args.page.now in
    let start : c.slot_at.result ≡ 16 + at * w = c.slot_at.ensures ∙ ap (λ k. 16 + at * k) c.from-width.ensures in
    let end : c.slot_at-end.result ≡ 16 + n * w = c.slot_at-end.ensures ∙ ap (λ k. 16 + c.from.result * k) c.from-width.ensures ∙ ap (λ k. 16 + k * w) c.from.ensures in
    ap (node_of w) (c.set_count.ensures
    ∙ ap (with_count (n - 1)) (c.remove_bytes.ensures ∙ ap (λ k. closed_up k c.from-width.result c.slot_at-end.result page) start
    ∙ ap (λ k. closed_up (16 + at * w) k c.slot_at-end.result page) c.from-width.ensures ∙ ap (λ k. closed_up (16 + at * w) w k page) end))
    ∙ leaf_take w at n page entries is c.told-page c.fits-page c.short_at-count.ensures
    (subst (λ k. at < k) (sym c.short_at-count.ensures) c.requires.place)
