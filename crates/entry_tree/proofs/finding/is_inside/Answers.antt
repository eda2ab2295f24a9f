-- A leaf that the page at hand is known to be is what was looked at, so its length is the view's.
use Rattle.std.proofs.Common.{◌≡◌, ◌<◌, arith, ap, ◌∙◌, length}
use Rattle.std.proofs.lemmas.Bool.{ltb-true}
use Rattle.node_page.specs.Node.Node.{LeafNode}
use Rattle.node_page.specs.Looked.{SeenNode, entries_in, seen_node}
use Rattle.entry_tree.proofs.PassedLemmas.{lent_look}
use Rattle.entry_tree.proofs.finding.is_inside.Goals as goal

pub returns-in_default : goal.returns-in_default
returns-in_default g c items l t = cc

pub returns-then-at-gt0 : goal.returns-then-at-gt0
returns-then-at-gt0 g c items l t =
    let same : c.in-Some.view ≡ seen_node c.args.tree.now.width (LeafNode items) = let s = lent_look _ _ c.page.result.now c.look.result items l c.page.ensures c.look.ensures.leaf in cc (s, c.in-Some.is) in
    let count : c.len.result ≡ length items = c.len.ensures ∙ ap (λ (v : SeenNode). length (entries_in v.node)) same in
    let before : c.args.at < c.saturating_sub.result = ltb-true _ _ t in (c.if-at-gt0.true, omega (arith, count, before, c.saturating_sub.ensures))

pub returns-else-at-gt0 : goal.returns-else-at-gt0
returns-else-at-gt0 g c items l t =
    let behind : 0 < c.args.at = ltb-true _ _ t in absurd (omega (arith, behind, c.if-at-gt0.false))
