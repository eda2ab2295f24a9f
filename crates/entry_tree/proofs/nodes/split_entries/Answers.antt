use Rattle.std.proofs.Common.{◌≡◌, ◌≤◌, ◌∙◌, sym, ap, arith, length}
use Rattle.std.proofs.lemmas.Option.{same_Some}
use Rattle.entry_tree.proofs.SplitsLemmas.{splits_leaf, full_some}
use Rattle.entry_tree.proofs.nodes.split_entries.Goals as goal

pub returns-clause-done : goal.returns-clause-done
returns-clause-done c is items leaf =
    let state = same_Some _ _ (c.in-Some.ensures.known items leaf) in
    let full = ap (λ s. s.1) (sym state) ∙ c.if-not-full.false in
    let counted : c.in-Some.count ≡ length items = ap (λ s. s.0) state in
    let within : c.args.at ≤ length items = omega (arith, c.if-at-count.false, counted) in
    let some = full_some c.args.width items c.requires.wide c.requires.narrow full in
    splits_leaf c.args.width items c.args.at c.args.entry.now _ _ _ full within some (c.split_leaf.ensures.lower items leaf) (c.split_leaf.ensures.upper items leaf) c.copy_first.ensures
