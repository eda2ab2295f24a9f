use Rattle.std.proofs.Common.{◌≡◌, ◌≤◌, ◌∙◌, sym, ap, arith, length}
use Rattle.std.proofs.lemmas.Option.{same_Some}
use Rattle.entry_tree.proofs.SplitsLemmas.{splits_inner, full_three}
use Rattle.entry_tree.proofs.nodes.split_separators.Goals as goal

pub returns-clause-done : goal.returns-clause-done
returns-clause-done c is seps children inner =
    let state = same_Some _ _ (c.in-Some.ensures.known seps children inner) in
    let full = ap (λ s. s.1) (sym state) ∙ c.if-not-full.false in
    let counted : c.in-Some.count ≡ length seps = ap (λ s. s.0) state in
    let within : c.args.at ≤ length seps = omega (arith, c.if-at-count.false, counted) in
    let three = full_three c.args.width seps children c.requires.wide c.requires.narrow full in
    splits_inner seps children c.args.at c.args.separator.now c.args.child _ _ _ three within (c.copy_from_slice.ensures.after ∙ c.split_inner.ensures.middle seps children inner) (c.split_inner.ensures.lower seps children inner) (c.split_inner.ensures.upper seps children inner)
