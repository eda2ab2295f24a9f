use Rattle.std.proofs.Common.{◌==◌, ap, ◌∙◌}
use Rattle.std.specs.List.{list_any}
use Rattle.node_page.proofs.SweepLemmas.{found_is}
use Rattle.node_page.proofs.sweep.has_block.Goals as goal

pub returns : goal.returns
returns c =
    c.is_ok.ensures.value
    ∙ found_is c.as_slice.result.now c.args.block c.binary_search.result c.binary_search.ensures.position c.as_slice.ensures.rising
    ∙ ap (list_any (λ b. b == c.args.block)) c.as_slice.ensures.value
