use Rattle.std.proofs.Common.{◌∙◌}
use Rattle.node_page.proofs.SeenLemmas.{looked_leaf, looked_inner, width_shown, count_shown, fits_shown}
use Rattle.node_page.proofs.view.NodeView.look.Goals as goal

pub returns-clause-leaf : goal.returns-clause-leaf
returns-clause-leaf c = λ entries is.
    c.of_head.ensures ∙ looked_leaf c.args.width c.args.page.now entries c.ranges.width.fits c.told-page c.fits-page is

pub returns-clause-inner : goal.returns-clause-inner
returns-clause-inner c = λ separators children is.
    c.of_head.ensures ∙ looked_inner c.args.width c.args.page.now separators children c.ranges.width.fits c.told-page c.fits-page is

pub returns-clause-width : goal.returns-clause-width
returns-clause-width c = width_shown c.args.width c.args.page.now c.of_head.result c.of_head.ensures

pub returns-clause-count : goal.returns-clause-count
returns-clause-count c = count_shown c.args.width c.args.page.now c.of_head.result c.of_head.ensures

pub returns-clause-fits : goal.returns-clause-fits
returns-clause-fits c = fits_shown c.args.width c.args.page.now c.of_head.result c.of_head.ensures
