use Rattle.std.proofs.Common.{◌++◌, ◌∷◌, [], sym, ◌∙◌, ap, arith, append_assoc, get_or, List, ℕ}
use Rattle.std.proofs.lemmas.List.FromFn.{map-range_with_len_more}
use Rattle.mdc_words.specs.Listed.{listed}
use Rattle.node_page.specs.Looked.{children_in}
use Rattle.entry_tree.proofs.FreedLemmas.{noted_page}
use Rattle.entry_tree.proofs.freeing.push_from.Goals as goal

pub loop-i-preserved : goal.loop-i-preserved
loop-i-preserved c =
    c.in_ok-push.ensures.items
    ∙ ap (λ (l : List ℕ). l ++ c.child.result ∷ []) c.loop-i.invariant
    ∙ append_assoc c.args.todo.now.items (listed c.loop-i.i (λ k. get_or (children_in c.in-Some.view.node) k 0)) (c.child.result ∷ [])
    ∙ ap (λ (l : List ℕ). c.args.todo.now.items ++ l)
    (ap (λ (n : ℕ). listed c.loop-i.i (λ k. get_or (children_in c.in-Some.view.node) k 0) ++ n ∷ []) c.child.ensures
    ∙ sym (map-range_with_len_more (λ k. get_or (children_in c.in-Some.view.node) k 0) 0 c.loop-i.i c.loop-i.i (omega arith)))

pub returns-clause-notes : goal.returns-clause-notes
returns-clause-notes c e =
    noted_page c.args.width c.args.page.now c.look.result c.in-Some.view c.loop-i.i c.args.todo.now.items c.loop-i.todo.items (record { leaf = c.look.ensures.leaf; inner = c.look.ensures.inner }) c.in-Some.is
    (sym c.is_leaf.ensures.leaf ∙ c.if-is_leaf.false) (omega (arith, c.loop-i-test.false, c.loop-i.auto.i-end, c.len-i-end.ensures)) c.loop-i.invariant
