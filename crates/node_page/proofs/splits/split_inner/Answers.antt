use Rattle.std.proofs.Common.{◌≡◌, ◌+◌, ◌-◌, ◌/◌, ◌<◌, ◌≤◌, [], length, take, drop, get_or, ap, subst, ◌∙◌, arith}
use Rattle.std.specs.List.{insert}
use Rattle.node_page.specs.Node.Node.{InnerNode}
use Rattle.node_page.proofs.CutLemmas.{inner_states, low_middle, low_lower, low_upper, high_middle, high_lower, high_upper}
use Rattle.node_page.proofs.splits.split_inner.Goals as goal

pub returns-then-at-half-clause-middle : goal.returns-then-at-half-clause-middle
returns-then-at-half-clause-middle c = λ separators children is.
    let w = c.args.width in
    let at = c.args.at in
    let states = inner_states w c.args.page.now separators children is c.told-page c.fits-page in
    let count : c.from-half.result ≡ length separators = c.from-half.ensures ∙ c.short_at.ensures ∙ states.0 in
    let some : 3 ≤ length separators = subst (λ n. 3 ≤ n) states.0 c.requires.some in
    let half : c.from-half.result / 2 ≡ length separators / 2 = ap (λ n. n / 2) count in
    let side : at ≤ length separators / 2 = omega (arith, half, c.if-at-half.true) in
    c.cut_inner.ensures.middle separators children is ∙ ap (λ k. get_or separators k []) half
    ∙ low_middle separators children at c.args.separator.now c.args.child some states.1 side

pub returns-then-at-half-clause-lower : goal.returns-then-at-half-clause-lower
returns-then-at-half-clause-lower c = λ separators children is.
    let w = c.args.width in
    let at = c.args.at in
    let states = inner_states w c.args.page.now separators children is c.told-page c.fits-page in
    let count : c.from-half.result ≡ length separators = c.from-half.ensures ∙ c.short_at.ensures ∙ states.0 in
    let some : 3 ≤ length separators = subst (λ n. 3 ≤ n) states.0 c.requires.some in
    let half : c.from-half.result / 2 ≡ length separators / 2 = ap (λ n. n / 2) count in
    let side : at ≤ length separators / 2 = omega (arith, half, c.if-at-half.true) in
    c.put_fork.ensures (take (c.from-half.result / 2) separators) (take (c.from-half.result / 2 + 1) children) (c.cut_inner.ensures.lower separators children is)
    ∙ ap (λ k. InnerNode (insert (take k separators) at c.args.separator.now) (insert (take (k + 1) children) (at + 1) c.args.child)) half
    ∙ low_lower separators children at c.args.separator.now c.args.child some states.1 side

pub returns-then-at-half-clause-upper : goal.returns-then-at-half-clause-upper
returns-then-at-half-clause-upper c = λ separators children is.
    let w = c.args.width in
    let at = c.args.at in
    let states = inner_states w c.args.page.now separators children is c.told-page c.fits-page in
    let count : c.from-half.result ≡ length separators = c.from-half.ensures ∙ c.short_at.ensures ∙ states.0 in
    let some : 3 ≤ length separators = subst (λ n. 3 ≤ n) states.0 c.requires.some in
    let half : c.from-half.result / 2 ≡ length separators / 2 = ap (λ n. n / 2) count in
    let side : at ≤ length separators / 2 = omega (arith, half, c.if-at-half.true) in
    c.cut_inner.ensures.upper separators children is ∙ ap (λ k. InnerNode (drop (k + 1) separators) (drop (k + 1) children)) half
    ∙ low_upper separators children at c.args.separator.now c.args.child some states.1 side

pub returns-else-at-half-clause-middle : goal.returns-else-at-half-clause-middle
returns-else-at-half-clause-middle c = λ separators children is.
    let w = c.args.width in
    let at = c.args.at in
    let states = inner_states w c.args.page.now separators children is c.told-page c.fits-page in
    let count : c.from-half.result ≡ length separators = c.from-half.ensures ∙ c.short_at.ensures ∙ states.0 in
    let some : 3 ≤ length separators = subst (λ n. 3 ≤ n) states.0 c.requires.some in
    let half : c.from-half.result / 2 ≡ length separators / 2 = ap (λ n. n / 2) count in
    let side : length separators / 2 < at = omega (arith, half, c.if-at-half.false) in
    c.cut_inner.ensures.middle separators children is ∙ ap (λ k. get_or separators k []) half
    ∙ high_middle separators children at c.args.separator.now c.args.child some states.1 side (subst (λ n. at ≤ n) states.0 c.requires.place)

pub returns-else-at-half-clause-lower : goal.returns-else-at-half-clause-lower
returns-else-at-half-clause-lower c = λ separators children is.
    let w = c.args.width in
    let at = c.args.at in
    let states = inner_states w c.args.page.now separators children is c.told-page c.fits-page in
    let count : c.from-half.result ≡ length separators = c.from-half.ensures ∙ c.short_at.ensures ∙ states.0 in
    let some : 3 ≤ length separators = subst (λ n. 3 ≤ n) states.0 c.requires.some in
    let half : c.from-half.result / 2 ≡ length separators / 2 = ap (λ n. n / 2) count in
    let side : length separators / 2 < at = omega (arith, half, c.if-at-half.false) in
    c.cut_inner.ensures.lower separators children is ∙ ap (λ k. InnerNode (take k separators) (take (k + 1) children)) half
    ∙ high_lower separators children at c.args.separator.now c.args.child some states.1 side

pub returns-else-at-half-clause-upper : goal.returns-else-at-half-clause-upper
returns-else-at-half-clause-upper c = λ separators children is.
    let w = c.args.width in
    let at = c.args.at in
    let states = inner_states w c.args.page.now separators children is c.told-page c.fits-page in
    let count : c.from-half.result ≡ length separators = c.from-half.ensures ∙ c.short_at.ensures ∙ states.0 in
    let some : 3 ≤ length separators = subst (λ n. 3 ≤ n) states.0 c.requires.some in
    let half : c.from-half.result / 2 ≡ length separators / 2 = ap (λ n. n / 2) count in
    let side : length separators / 2 < at = omega (arith, half, c.if-at-half.false) in
    c.put_fork-else-at-half.ensures (drop (c.from-half.result / 2 + 1) separators) (drop (c.from-half.result / 2 + 1) children) (c.cut_inner.ensures.upper separators children is)
    ∙ ap (λ k. InnerNode (insert (drop (k + 1) separators) (at - k - 1) c.args.separator.now) (insert (drop (k + 1) children) (at - k - 1 + 1) c.args.child)) half
    ∙ high_upper separators children at c.args.separator.now c.args.child some states.1 side
