use Rattle.std.proofs.Common.{◌≡◌, ◌+◌, ◌-◌, ◌*◌, arith, ap, subst, sym, ◌∙◌, length, List, ℕ}
use Rattle.std.proofs.lemmas.List.{drop_all}
use Rattle.std.proofs.lemmas.Option.{same_Some}
use Rattle.std.proofs.lemmas.Result.{on_ok_weaker}
use Rattle.node_page.specs.Node.{bytes_in, node_of}
use Rattle.node_page.specs.Node.Node.{LeafNode}
use Rattle.node_page.specs.Looked.{SeenNode, entries_in, is_leaf_node, seen_node}
use Rattle.entry_tree.specs.Entries.{AreOfWidth, strings_in}
use Rattle.entry_tree.specs.Shown.{Shows}
use Rattle.entry_tree.proofs.PassedLemmas.{lent_look, same_some}
use Rattle.entry_tree.proofs.ShownLemmas.{shown_here}
use Rattle.entry_tree.proofs.StringsLemmas.{leaf_shown, taken, taken_stated, taken_width}
use Rattle.entry_tree.proofs.reading.take_entries.Goals.{then-not-is_leaf-via-then-not-is_leaf, then-not-is_leaf-via-else-not-is_leaf+then-at-count}
use Rattle.entry_tree.proofs.reading.take_entries.Goals as goal

pub returns-clause-taken : goal.returns-clause-taken
returns-clause-taken g c = on_ok_weaker c.fill.result (λ e items l.
    let now : node_of c.args.tree.now.width c.page-page.result.now ≡ LeafNode items =
    subst (λ (b : List ℕ). node_of c.args.tree.now.width b ≡ LeafNode items) (same_some _ l.bytes c.page-page.result.now l.there c.page-page.ensures) l.leaf in
    let same : c.in-Some.view ≡ seen_node c.args.tree.now.width (LeafNode items) = let s = c.look.ensures.leaf items now in cc (s, c.in-Some.is) in
    let count : c.len-count.result ≡ length items = c.len-count.ensures ∙ ap (λ (v : SeenNode). length (entries_in v.node)) same in
    taken c.args.tree.now.width c.args.at c.len-count.result c.page-page.result.now c.part_of.result.now items c.fill.new.self
    (e ∙ ap (λ (w : ℕ). strings_in w (c.len-count.result - c.args.at) c.part_of.result.now) c.from-width.ensures)
    (subst (λ (w : ℕ). c.part_of.result.now ≡ bytes_in (16 + c.args.at * w) ((c.len-count.result - c.args.at) * w) c.page-page.result.now) c.from-width.ensures c.part_of.ensures.bytes) now count (omega (arith, c.if-at-count.false))) c.fill.ensures.ok

pub returns-clause-width : goal.returns-clause-width
returns-clause-width g c =
    subst (λ (w : ℕ). AreOfWidth w c.fill.new.self) c.from-width.ensures
    (taken_width c.fill.result c.from-width.result (c.len-count.result - c.args.at) c.part_of.result.now c.fill.new.self c.fill.ensures.ok c.fill.ensures.err c.part_of.ensures.len)

pub returns-in_default-clause-taken : goal.returns-in_default-clause-taken
returns-in_default-clause-taken g c items l = let s = lent_look _ _ c.page-page.result.now c.look.result items l c.page-page.ensures c.look.ensures.leaf in cc (s, c.in_default.is)

pub returns-then-not-is_leaf-clause-taken : goal.returns-then-not-is_leaf-clause-taken
returns-then-not-is_leaf-clause-taken g c items l =
    let same : c.in-Some.view ≡ seen_node c.args.tree.now.width (LeafNode items) =
    let s = lent_look _ _ c.page-page.result.now c.look.result items l c.page-page.ensures c.look.ensures.leaf in cc (s, c.in-Some.is) in
    elim c.then-not-is_leaf.branch [
      | then-not-is_leaf-via-then-not-is_leaf w ↦ let leaf = c.is_leaf.ensures.leaf ∙ ap (λ (v : SeenNode). is_leaf_node v.node) same in cc (leaf, w.if-not-is_leaf.true)
      | then-not-is_leaf-via-else-not-is_leaf+then-at-count w ↦
          let count : c.len-count.result ≡ length items = c.len-count.ensures ∙ ap (λ (v : SeenNode). length (entries_in v.node)) same in
          c.clear.ensures ∙ sym (drop_all c.args.at items (omega (arith, count, w.if-at-count.true)))
    ]

pub returns-clause-shown : goal.returns-clause-shown
returns-clause-shown g c = on_ok_weaker c.fill.result (λ e bytes items hand shown.
    let now : Shows c.args.tree.now.width c.page-page.result.now (LeafNode items) =
    subst (λ (b : List ℕ). Shows c.args.tree.now.width b (LeafNode items)) (same_some _ bytes c.page-page.result.now hand c.page-page.ensures) shown in
    let same : c.in-Some.view ≡ seen_node c.args.tree.now.width (LeafNode items) = same_Some _ _ (c.in-Some.ensures.seen ∙ now) in
    let count : c.len-count.result ≡ length items = c.len-count.ensures ∙ ap (λ (v : SeenNode). length (entries_in v.node)) same in
    taken_stated c.args.tree.now.width c.args.at c.len-count.result c.page-page.result.now c.part_of.result.now items c.fill.new.self
    (e ∙ ap (λ (w : ℕ). strings_in w (c.len-count.result - c.args.at) c.part_of.result.now) c.from-width.ensures)
    (subst (λ (w : ℕ). c.part_of.result.now ≡ bytes_in (16 + c.args.at * w) ((c.len-count.result - c.args.at) * w) c.page-page.result.now) c.from-width.ensures c.part_of.ensures.bytes)
    (leaf_shown c.args.tree.now.width c.page-page.result.now items now) count (omega (arith, c.if-at-count.false))) c.fill.ensures.ok

pub returns-in_default-clause-shown : goal.returns-in_default-clause-shown
returns-in_default-clause-shown g c bytes items hand shown =
    let s = shown_here c.args.tree.now.width c.page-page.result.now bytes (LeafNode items) c.page-page.ensures hand c.look.ensures.seen shown in cc (s, c.in_default.is)

pub returns-then-not-is_leaf-clause-shown : goal.returns-then-not-is_leaf-clause-shown
returns-then-not-is_leaf-clause-shown g c bytes items hand shown =
    let same : c.in-Some.view ≡ seen_node c.args.tree.now.width (LeafNode items) =
    let s = shown_here c.args.tree.now.width c.page-page.result.now bytes (LeafNode items) c.page-page.ensures hand c.look.ensures.seen shown in cc (s, c.in-Some.is) in
    elim c.then-not-is_leaf.branch [
      | then-not-is_leaf-via-then-not-is_leaf w ↦ let leaf = c.is_leaf.ensures.leaf ∙ ap (λ (v : SeenNode). is_leaf_node v.node) same in cc (leaf, w.if-not-is_leaf.true)
      | then-not-is_leaf-via-else-not-is_leaf+then-at-count w ↦
          let count : c.len-count.result ≡ length items = c.len-count.ensures ∙ ap (λ (v : SeenNode). length (entries_in v.node)) same in
          c.clear.ensures ∙ sym (drop_all c.args.at items (omega (arith, count, w.if-at-count.true)))
    ]
