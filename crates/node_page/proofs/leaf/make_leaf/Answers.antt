use Rattle.std.proofs.Common.{◌++◌, drop, ap, ◌∙◌, zero-mul, arith, []}
use Rattle.store_api.specs.StoreState.{zero_page}
use Rattle.node_page.specs.Node.{node_of}
use Rattle.node_page.proofs.NodeLemmas.{leaf_is}
use Rattle.node_page.proofs.leaf.make_leaf.Goals as goal

pub returns : goal.returns
returns c =
    ap (node_of c.args.width) (c.lay_down.ensures ∙ ap (λ head. head ++ drop 16 zero_page) c.head_of.ensures)
    ∙ leaf_is c.args.width [] (record { wide = tt; fits = omega (arith, zero-mul c.args.width); count = omega arith })
