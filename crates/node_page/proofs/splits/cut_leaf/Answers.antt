use Rattle.std.proofs.Common.{◌≡◌, ◌+◌, ◌-◌, ◌*◌, ◌≤◌, ◌++◌, List, ℕ, length, take, drop, ap, sym, subst, ◌∙◌}
use Rattle.store_api.specs.StoreState.{zero_page}
use Rattle.node_page.specs.Node.{node_of}
use Rattle.node_page.specs.Slots.{blanked, with_count}
use Rattle.node_page.specs.Laid.{laid}
use Rattle.node_page.proofs.LeafLemmas.{leaf_cut, leaf_rest}
use Rattle.node_page.proofs.splits.cut_leaf.Goals as goal

pub returns-clause-lower : goal.returns-clause-lower
returns-clause-lower c = λ entries is.
    let w = c.args.width in
    let keep = c.args.keep in
    let n = c.short_at-count.result in
    let page = c.args.page.now in
    let cut : c.slot_at-cut.result ≡ 16 + keep * w = c.slot_at-cut.ensures ∙ ap (λ k. 16 + keep * k) c.from-step.ensures in
    let end : c.slot_at-end.result ≡ 16 + n * w = c.slot_at-end.ensures ∙ ap (λ k. 16 + c.from.result * k) c.from-step.ensures ∙ ap (λ k. 16 + k * w) c.from.ensures in
    ap (node_of w) (c.set_count.ensures ∙ ap (with_count keep) (c.blank_bytes.ensures ∙ ap (λ k. blanked k c.slot_at-end.result page) cut ∙ ap (λ k. blanked (16 + keep * w) k page) end))
    ∙ leaf_cut w keep n page entries is c.told-page c.fits-page c.short_at-count.ensures (subst (λ k. keep ≤ k) (sym c.short_at-count.ensures) c.requires.place)

pub returns-clause-upper : goal.returns-clause-upper
returns-clause-upper c = λ entries is.
    let w = c.args.width in
    let keep = c.args.keep in
    let n = c.short_at-count.result in
    let page = c.args.page.now in
    let part = λ (from to : ℕ). take (to - from) (drop from page) in
    let cut : c.slot_at-cut.result ≡ 16 + keep * w = c.slot_at-cut.ensures ∙ ap (λ k. 16 + keep * k) c.from-step.ensures in
    let end : c.slot_at-end.result ≡ 16 + n * w = c.slot_at-end.ensures ∙ ap (λ k. 16 + c.from.result * k) c.from-step.ensures ∙ ap (λ k. 16 + k * w) c.from.ensures in
    let slots : part c.slot_at-cut.result c.slot_at-end.result ≡ part (16 + keep * w) (16 + n * w) = ap (λ k. part k c.slot_at-end.result) cut ∙ ap (part (16 + keep * w)) end in
    ap (node_of w) (c.lay_down.ensures
    ∙ ap (λ (head : List ℕ). head ++ (part c.slot_at-cut.result c.slot_at-end.result ++ drop (16 + length (part c.slot_at-cut.result c.slot_at-end.result)) zero_page)) c.head_of-head.ensures
    ∙ ap (laid 76 w (n - keep) 0) slots)
    ∙ leaf_rest w keep n page entries is c.told-page c.fits-page c.short_at-count.ensures (subst (λ k. keep ≤ k) (sym c.short_at-count.ensures) c.requires.place)
