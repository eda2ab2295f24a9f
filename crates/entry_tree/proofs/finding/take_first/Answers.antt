-- A leaf that the page at hand is known to be is what was looked at.
use Rattle.std.proofs.Common.{◌≡◌, arith, ap, sym, subst, ◌∙◌, length, get_or, [], Some}
use Rattle.std.proofs.lemmas.List.{drop_all}
use Rattle.node_page.specs.Node.Node.{LeafNode}
use Rattle.node_page.specs.Looked.{SeenNode, entries_in, is_leaf_node, seen_node}
use Rattle.entry_tree.specs.Reading.{BoundFits, first_entry}
use Rattle.entry_tree.proofs.FirstFromLemmas.{first_entry-drop}
use Rattle.entry_tree.proofs.PassedLemmas.{lent_look}
use Rattle.entry_tree.proofs.ShownLemmas.{shown_here}
use Rattle.entry_tree.proofs.finding.take_first.Goals.{then-not-is_leaf-via-then-not-is_leaf, then-not-is_leaf-via-else-not-is_leaf+then-at-len}
use Rattle.entry_tree.proofs.finding.take_first.Goals as goal

pub returns-in_err-view-clause-taken : goal.returns-in_err-view-clause-taken
returns-in_err-view-clause-taken g c items l = let s = lent_look _ _ c.page.result.now c.look.result items l c.page.ensures c.look.ensures.leaf in cc (s, c.in_err-view.was)

pub returns-in_err-view-clause-width : goal.returns-in_err-view-clause-width
returns-in_err-view-clause-width g c = subst (BoundFits c.args.tree.now.width) (sym c.from_residual.ensures) tt

pub returns-then-not-is_leaf-clause-taken : goal.returns-then-not-is_leaf-clause-taken
returns-then-not-is_leaf-clause-taken g c items l =
    let same : c.in_ok-view.view ≡ seen_node c.args.tree.now.width (LeafNode items) = let s = lent_look _ _ c.page.result.now c.look.result items l c.page.ensures c.look.ensures.leaf in cc (s, c.in_ok-view.was) in
    elim c.then-not-is_leaf.branch [
      | then-not-is_leaf-via-then-not-is_leaf w ↦ let leaf = c.is_leaf.ensures.leaf ∙ ap (λ (v : SeenNode). is_leaf_node v.node) same in cc (leaf, w.if-not-is_leaf.true)
      | then-not-is_leaf-via-else-not-is_leaf+then-at-len w ↦
          let count : w.len.result ≡ length items = w.len.ensures ∙ ap (λ (v : SeenNode). length (entries_in v.node)) same in
          sym (ap first_entry (drop_all c.args.at items (omega (arith, count, w.if-at-len.true))))
    ]

pub returns-then-not-is_leaf-clause-width : goal.returns-then-not-is_leaf-clause-width
returns-then-not-is_leaf-clause-width g c = tt

pub returns-clause-taken : goal.returns-clause-taken
returns-clause-taken g c items l =
    let same : c.in_ok-view.view ≡ seen_node c.args.tree.now.width (LeafNode items) = let s = lent_look _ _ c.page.result.now c.look.result items l c.page.ensures c.look.ensures.leaf in cc (s, c.in_ok-view.was) in
    let count : c.len.result ≡ length items = c.len.ensures ∙ ap (λ (v : SeenNode). length (entries_in v.node)) same in
    let entry : c.entry.result.now ≡ get_or items c.args.at [] = c.entry.ensures.bytes ∙ ap (λ (v : SeenNode). get_or (entries_in v.node) c.args.at []) same in
    ap Some (c.of.ensures ∙ entry) ∙ sym (first_entry-drop items c.args.at (omega (arith, count, c.if-at-len.false)))

pub returns-in_err-view-clause-shown : goal.returns-in_err-view-clause-shown
returns-in_err-view-clause-shown g c bytes items hand shown =
    let s = shown_here c.args.tree.now.width c.page.result.now bytes (LeafNode items) c.page.ensures hand c.look.ensures.seen shown in cc (s, c.in_err-view.was)

pub returns-then-not-is_leaf-clause-shown : goal.returns-then-not-is_leaf-clause-shown
returns-then-not-is_leaf-clause-shown g c bytes items hand shown =
    let same : c.in_ok-view.view ≡ seen_node c.args.tree.now.width (LeafNode items) =
    let s = shown_here c.args.tree.now.width c.page.result.now bytes (LeafNode items) c.page.ensures hand c.look.ensures.seen shown in cc (s, c.in_ok-view.was) in
    elim c.then-not-is_leaf.branch [
      | then-not-is_leaf-via-then-not-is_leaf w ↦ let leaf = c.is_leaf.ensures.leaf ∙ ap (λ (v : SeenNode). is_leaf_node v.node) same in cc (leaf, w.if-not-is_leaf.true)
      | then-not-is_leaf-via-else-not-is_leaf+then-at-len w ↦
          let count : w.len.result ≡ length items = w.len.ensures ∙ ap (λ (v : SeenNode). length (entries_in v.node)) same in
          sym (ap first_entry (drop_all c.args.at items (omega (arith, count, w.if-at-len.true))))
    ]

pub returns-clause-shown : goal.returns-clause-shown
returns-clause-shown g c bytes items hand shown =
    let same : c.in_ok-view.view ≡ seen_node c.args.tree.now.width (LeafNode items) =
    let s = shown_here c.args.tree.now.width c.page.result.now bytes (LeafNode items) c.page.ensures hand c.look.ensures.seen shown in cc (s, c.in_ok-view.was) in
    let count : c.len.result ≡ length items = c.len.ensures ∙ ap (λ (v : SeenNode). length (entries_in v.node)) same in
    let entry : c.entry.result.now ≡ get_or items c.args.at [] = c.entry.ensures.bytes ∙ ap (λ (v : SeenNode). get_or (entries_in v.node) c.args.at []) same in
    ap Some (c.of.ensures ∙ entry) ∙ sym (first_entry-drop items c.args.at (omega (arith, count, c.if-at-len.false)))
