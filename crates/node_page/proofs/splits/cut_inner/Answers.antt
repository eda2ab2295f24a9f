use Rattle.std.proofs.Common.{◌≡◌, ◌+◌, ◌-◌, ◌*◌, ◌++◌, List, ℕ, length, take, drop, ap, ◌∙◌, arith}
use Rattle.store_api.specs.StoreState.{zero_page}
use Rattle.node_page.specs.Node.{node_of, number_within}
use Rattle.node_page.specs.Slots.{blanked, with_count}
use Rattle.node_page.specs.Laid.{laid}
use Rattle.node_page.proofs.InnerLemmas.{inner_cut, inner_middle, inner_rest}
use Rattle.node_page.proofs.splits.cut_inner.Goals as goal

pub returns-clause-middle : goal.returns-clause-middle
returns-clause-middle c = λ separators children is.
    let w = c.args.width in
    let keep = c.args.keep in
    let n = c.short_at-count.result in
    let page = c.args.page.now in
    let cut : c.slot_at-cut.result ≡ 16 + keep * (w + 4) = c.slot_at-cut.ensures ∙ ap (λ k. 16 + keep * k) c.fork_step-step.ensures in
    let wide : c.slot_at-cut.result + c.from-2.result - c.slot_at-cut.result ≡ w = omega (arith, c.from-2.ensures) in
    c.copy_from_slice.ensures.after
    ∙ ap (λ k. take k (drop c.slot_at-cut.result page)) wide ∙ ap (λ k. take w (drop k page)) cut
    ∙ inner_middle w keep n page separators children is c.told-page c.fits-page c.short_at-count.ensures (omega (arith, c.requires.upper, c.short_at-count.ensures))

pub returns-clause-lower : goal.returns-clause-lower
returns-clause-lower c = λ separators children is.
    let w = c.args.width in
    let keep = c.args.keep in
    let n = c.short_at-count.result in
    let page = c.args.page.now in
    let cut : c.slot_at-cut.result ≡ 16 + keep * (w + 4) = c.slot_at-cut.ensures ∙ ap (λ k. 16 + keep * k) c.fork_step-step.ensures in
    let end : c.slot_at-end.result ≡ 16 + n * (w + 4) = c.slot_at-end.ensures ∙ ap (λ k. 16 + c.from.result * k) c.fork_step-step.ensures ∙ ap (λ k. 16 + k * (w + 4)) c.from.ensures in
    ap (node_of w) (c.set_count.ensures ∙ ap (with_count keep) (c.blank_bytes.ensures ∙ ap (λ k. blanked k c.slot_at-end.result page) cut ∙ ap (λ k. blanked (16 + keep * (w + 4)) k page) end))
    ∙ inner_cut w keep n page separators children is c.told-page c.fits-page c.short_at-count.ensures (omega (arith, c.requires.upper, c.short_at-count.ensures)) c.requires.lower

pub returns-clause-upper : goal.returns-clause-upper
returns-clause-upper c = λ separators children is.
    let w = c.args.width in
    let keep = c.args.keep in
    let n = c.short_at-count.result in
    let page = c.args.page.now in
    let part = λ (from to : ℕ). take (to - from) (drop from page) in
    let cut : c.slot_at-cut.result ≡ 16 + keep * (w + 4) = c.slot_at-cut.ensures ∙ ap (λ k. 16 + keep * k) c.fork_step-step.ensures in
    let end : c.slot_at-end.result ≡ 16 + n * (w + 4) = c.slot_at-end.ensures ∙ ap (λ k. 16 + c.from.result * k) c.fork_step-step.ensures ∙ ap (λ k. 16 + k * (w + 4)) c.from.ensures in
    let behind : c.slot_at-cut.result + c.fork_step-step.result ≡ 16 + keep * (w + 4) + (w + 4) = ap (λ k. k + c.fork_step-step.result) cut ∙ ap (λ k. 16 + keep * (w + 4) + k) c.fork_step-step.ensures in
    let child : c.number_at-child.result ≡ number_within (16 + keep * (w + 4) + w) 4 page =
    c.number_at-child.ensures ∙ ap (λ k. number_within (k + c.from-2.result) 4 page) cut ∙ ap (λ k. number_within (16 + keep * (w + 4) + k) 4 page) c.from-2.ensures in
    let old = part (c.slot_at-cut.result + c.fork_step-step.result) c.slot_at-end.result in
    let slots : old ≡ part (16 + keep * (w + 4) + (w + 4)) (16 + n * (w + 4)) =
    ap (λ k. part k c.slot_at-end.result) behind ∙ ap (part (16 + keep * (w + 4) + (w + 4))) end in
    ap (node_of w) (c.lay_down.ensures
    ∙ ap (λ (head : List ℕ). head ++ (old ++ drop (16 + length old) zero_page)) c.head_of-head.ensures
    ∙ ap (λ k. laid 73 w (n - keep - 1) k old) child
    ∙ ap (laid 73 w (n - keep - 1) (number_within (16 + keep * (w + 4) + w) 4 page)) slots)
    ∙ inner_rest w keep n page separators children is c.told-page c.fits-page c.short_at-count.ensures (omega (arith, c.requires.upper, c.short_at-count.ensures))
