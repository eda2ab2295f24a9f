use Rattle.std.proofs.Common.{◌≡◌, ◌+◌, ◌-◌, ◌*◌, ◌<◌, ap, sym, subst, ◌∙◌}
use Rattle.node_page.specs.Node.{node_of}
use Rattle.node_page.specs.Slots.{closed_up, with_count}
use Rattle.node_page.proofs.InnerLemmas.{inner_take}
use Rattle.node_page.proofs.inner.drop_fork.Goals as goal

pub returns : goal.returns
returns c = λ separators children is.
    let w = c.args.width in
    let at = c.args.at in
    let n = c.short_at-count.result in
    let page = c.args.page.now in
    let start : c.slot_at.result ≡ 16 + at * (w + 4) = c.slot_at.ensures ∙ ap (λ k. 16 + at * k) c.fork_step-step.ensures in
    let end : c.slot_at-end.result ≡ 16 + n * (w + 4) = c.slot_at-end.ensures ∙ ap (λ k. 16 + c.from.result * k) c.fork_step-step.ensures ∙ ap (λ k. 16 + k * (w + 4)) c.from.ensures in
    ap (node_of w) (c.set_count.ensures
    ∙ ap (with_count (n - 1)) (c.remove_bytes.ensures ∙ ap (λ k. closed_up k c.fork_step-step.result c.slot_at-end.result page) start
    ∙ ap (λ k. closed_up (16 + at * (w + 4)) k c.slot_at-end.result page) c.fork_step-step.ensures ∙ ap (λ k. closed_up (16 + at * (w + 4)) (w + 4) k page) end))
    ∙ inner_take w at n page separators children is c.told-page c.fits-page c.short_at-count.ensures
    (subst (λ k. at < k) (sym c.short_at-count.ensures) c.requires.place) (subst (λ k. 1 < k) (sym c.short_at-count.ensures) c.requires.keeps)
