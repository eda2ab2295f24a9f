use Rattle.std.proofs.Common.{◌+◌, ◌++◌, [], ◌∷◌, drop, refl, ap, ◌∙◌, arith, one-mul}
use Rattle.store_api.specs.StoreState.{zero_page}
use Rattle.node_page.specs.Node.{node_of}
use Rattle.node_page.specs.Slots.{opened_up, with_count}
use Rattle.node_page.proofs.LaidLemmas.{laid_in}
use Rattle.node_page.proofs.NodeLemmas.{inner_is}
use Rattle.node_page.proofs.InnerLemmas.{fork_of}
use Rattle.node_page.proofs.inner.make_inner.Goals as goal

pub returns : goal.returns
returns c =
    let w = c.args.width in
    let fork = fork_of c.args.separator.now c.args.second in
    ap (node_of w) (c.set_count.ensures
    ∙ ap (with_count 1) (c.insert_fork.ensures ∙ ap (opened_up 16 16 fork) (c.lay_down.ensures ∙ ap (λ head. head ++ drop 16 zero_page) c.head_of.ensures))
    ∙ laid_in 73 w 0 1 c.args.first [] [] fork 16 16 refl refl)
    ∙ inner_is w (c.args.separator.now ∷ []) c.args.first (c.args.second ∷ []) (record {
      wide = (c.requires.width, tt);
      many = refl;
      short = (c.ranges.first.fits, (c.ranges.second.fits, tt));
      some = omega arith;
      fits = omega (arith, one-mul (w + 4), c.requires.room);
    })
