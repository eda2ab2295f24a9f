use Rattle.std.proofs.Common.{◌≡◌, ◌++◌, get_or}
use Rattle.mdc_words.specs.Listed.{listed}
use Rattle.node_page.specs.Looked.{children_in}
use Rattle.entry_tree.proofs.freeing.push_from.Given as goal

-- the children so far were noted
abbrev pub invariant-loop-i : goal.invariant-loop-i
invariant-loop-i l = l.todo.items ≡ l.fn.todo.items ++ listed l.i (λ k. get_or (children_in l.view.node) k 0)
