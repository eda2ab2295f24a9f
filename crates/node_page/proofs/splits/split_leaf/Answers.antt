use Rattle.std.proofs.Common.{◌≡◌, ◌+◌, ◌-◌, ◌/◌, ◌≤◌, length, take, drop, ap, sym, subst, ◌∙◌, arith}
use Rattle.std.specs.List.{insert}
use Rattle.node_page.specs.Node.Node.{LeafNode}
use Rattle.node_page.proofs.CutLemmas.{take_low, drop_low, take_high, drop_high, leaf_states}
use Rattle.node_page.proofs.splits.split_leaf.Goals as goal

pub returns-then-at-half-clause-lower : goal.returns-then-at-half-clause-lower
returns-then-at-half-clause-lower c = λ entries is.
    let at = c.args.at in
    let x = c.args.entry.now in
    let k = length entries / 2 in
    let count : c.from.result ≡ length entries = c.from.ensures ∙ c.short_at.ensures ∙ leaf_states c.args.width c.args.page.now entries is c.told-page c.fits-page in
    let half : c.from.result / 2 + 1 - 1 ≡ k = omega (arith, ap (λ n. n / 2) count) in
    c.put_entry.ensures (take (c.from.result / 2 + 1 - 1) entries) (c.cut_leaf.ensures.lower entries is)
    ∙ ap (λ j. LeafNode (insert (take j entries) at x)) half
    ∙ ap LeafNode (take_low entries at k x (omega (arith, half)) (omega arith))

pub returns-then-at-half-clause-upper : goal.returns-then-at-half-clause-upper
returns-then-at-half-clause-upper c = λ entries is.
    let at = c.args.at in
    let x = c.args.entry.now in
    let k = length entries / 2 in
    let count : c.from.result ≡ length entries = c.from.ensures ∙ c.short_at.ensures ∙ leaf_states c.args.width c.args.page.now entries is c.told-page c.fits-page in
    let half : c.from.result / 2 + 1 - 1 ≡ k = omega (arith, ap (λ n. n / 2) count) in
    c.cut_leaf.ensures.upper entries is
    ∙ ap (λ j. LeafNode (drop j entries)) half
    ∙ ap LeafNode (drop_low entries at k x (omega (arith, half)) (omega arith))

pub returns-else-at-half-clause-lower : goal.returns-else-at-half-clause-lower
returns-else-at-half-clause-lower c = λ entries is.
    let at = c.args.at in
    let x = c.args.entry.now in
    let k = length entries / 2 + 1 in
    let count : c.from.result ≡ length entries = c.from.ensures ∙ c.short_at.ensures ∙ leaf_states c.args.width c.args.page.now entries is c.told-page c.fits-page in
    let some : 1 ≤ length entries = subst (λ n. 1 ≤ n) (sym c.short_at.ensures ∙ sym c.from.ensures ∙ count) c.requires.some in
    let half : c.from.result / 2 + 1 ≡ k = ap (λ n. n / 2 + 1) count in
    c.cut_leaf-else-at-half.ensures.lower entries is
    ∙ ap (λ j. LeafNode (take j entries)) half
    ∙ ap LeafNode (take_high entries at k x (omega (arith, half, c.if-at-half.false)) (omega (arith, some)))

pub returns-else-at-half-clause-upper : goal.returns-else-at-half-clause-upper
returns-else-at-half-clause-upper c = λ entries is.
    let at = c.args.at in
    let x = c.args.entry.now in
    let k = length entries / 2 + 1 in
    let count : c.from.result ≡ length entries = c.from.ensures ∙ c.short_at.ensures ∙ leaf_states c.args.width c.args.page.now entries is c.told-page c.fits-page in
    let some : 1 ≤ length entries = subst (λ n. 1 ≤ n) (sym c.short_at.ensures ∙ sym c.from.ensures ∙ count) c.requires.some in
    let half : c.from.result / 2 + 1 ≡ k = ap (λ n. n / 2 + 1) count in
    c.put_entry-else-at-half.ensures (drop (c.from.result / 2 + 1) entries) (c.cut_leaf-else-at-half.ensures.upper entries is)
    ∙ ap (λ j. LeafNode (insert (drop j entries) (at - j) x)) half
    ∙ ap LeafNode (drop_high entries at k x (omega (arith, half, c.if-at-half.false)) (omega (arith, some)))
