use Rattle.std.proofs.Common.{◌-◌, ◌∷◌, drop, get_or, ap, sym, ◌∙◌}
use Rattle.std.specs.List.{remove}
use Rattle.node_page.specs.Node.Node.{InnerNode}
use Rattle.node_page.proofs.InnerLemmas.{inner_led}
use Rattle.node_page.proofs.inner.take_fork.Goals as goal

pub returns-then-at-eq0 : goal.returns-then-at-eq0
returns-then-at-eq0 c = λ separators children is.
    c.drop_fork.ensures separators (get_or children 1 0 ∷ drop 1 children) (c.lead_with_second.ensures.node separators children is)
    ∙ ap (InnerNode (remove separators 0)) (inner_led c.args.width c.args.page.now separators children is c.told-page c.fits-page)
    ∙ ap (λ k. InnerNode (remove separators (k - 1)) (remove children k)) (sym c.if-at-eq0.true)
