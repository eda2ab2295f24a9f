use Rattle.std.proofs.Common.{◌≡◌, refl, sym, ◌∙◌}
use Rattle.node_page.specs.Node.{is_full}
use Rattle.entry_tree.proofs.ShownLemmas.{shows_child, shows_leaf}
use Rattle.entry_tree.proofs.SightOfLemmas.{leaf_seen, inner_seen}
use Rattle.entry_tree.proofs.sight.sight_in.Goals as goal

pub returns-then-is_leaf-clause-sees : goal.returns-then-is_leaf-clause-sees
returns-then-is_leaf-clause-sees c =
    leaf_seen c.args.view.now.width c.args.view.now.node c.args.entry.now _ _ _ (sym c.is_leaf.ensures.leaf ∙ c.if-is_leaf.true) (c.is_full-full.ensures.full c.requires) c.find-at.ensures.place c.find-at.ensures.here

pub returns-else-is_leaf-clause-sees : goal.returns-else-is_leaf-clause-sees
returns-else-is_leaf-clause-sees c =
    inner_seen c.args.view.now.width c.args.view.now.node c.args.entry.now _ _ _ (sym c.is_leaf.ensures.leaf ∙ c.if-is_leaf.false) (c.is_full-full.ensures.full c.requires) c.child_of-at.ensures.place c.child_of-at.ensures.child

pub returns-then-is_leaf-clause-shown : goal.returns-then-is_leaf-clause-shown
returns-then-is_leaf-clause-shown c bytes e =
    shows_leaf c.args.view.now.width bytes c.args.view.now c.args.entry.now _ _ (λ node. c.is_full-full.result ≡ is_full c.args.view.now.width node) e refl (sym c.is_leaf.ensures.leaf ∙ c.if-is_leaf.true)
    c.find-at.ensures.within c.find-at.ensures.place c.find-at.ensures.here (c.is_full-full.ensures.full c.requires)

pub returns-else-is_leaf-clause-shown : goal.returns-else-is_leaf-clause-shown
returns-else-is_leaf-clause-shown c bytes e =
    shows_child c.args.view.now.width bytes c.args.view.now c.args.entry.now _ _ (λ node. c.is_full-full.result ≡ is_full c.args.view.now.width node) e refl (sym c.is_leaf.ensures.leaf ∙ c.if-is_leaf.false)
    c.child_of-at.ensures.within c.child_of-at.ensures.place c.child_of-at.ensures.child (c.is_full-full.ensures.full c.requires)
