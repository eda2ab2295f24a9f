use Rattle.store_api.proofs.RunsOverPagesLemmas.{runs_wider}
use Rattle.block_map.specs.BlockMaps.{FindsBlock}
use Rattle.file_check.proofs.BlockMapsLemmas.{finds_told, map_breaks_none, map_held}
use Rattle.file_check.proofs.blocks.row_in_map.Goals as goal

pub returns-clause-found : goal.returns-clause-found
returns-clause-found g c =
    finds_told c.args.pages.now c.at.result.tree c.args.def.now (λ m row. FindsBlock m c.args.block row) c.get.result
    (map_held c.args.pages.now c.at.result.tree c.args.def.now c.at.ensures c.at.result.seven c.told_stores_hold_their_pages.ensures.trees) c.get.ensures.found

pub returns-clause-runs : goal.returns-clause-runs
returns-clause-runs g c =
    let held = map_held c.args.pages.now c.at.result.tree c.args.def.now c.at.ensures c.at.result.seven c.told_stores_hold_their_pages.ensures.trees in
    runs_wider c.get.ensures.runs (λ p there mine. mine) (λ p is. tt)
    (λ damage b told known. map_breaks_none known.0 c.args.pages.now c.at.result.tree c.args.def.now damage held b told (known.1, known.2))
