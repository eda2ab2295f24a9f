use Rattle.std.proofs.Common.{◌++◌, ◌∙◌, ap, List, ℕ}
use Rattle.entry_tree.specs.Entries.{strings_in}
use Rattle.entry_tree.proofs.entries.Entries.fill.Goals as goal

pub returns-clause-ok : goal.returns-clause-ok
returns-clause-ok c =
    ap (λ (b : List ℕ). strings_in c.args.width c.args.n b)
    (c.in_ok-extend_from_slice.ensures.items ∙ ap (λ (b : List ℕ). b ++ c.args.bytes.now) c.clear.ensures.items)
