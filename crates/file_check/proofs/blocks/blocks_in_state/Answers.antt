use Rattle.std.proofs.Common.{◌∙◌, ℕ, List, get_or}
use Rattle.store_api.specs.declared.fault.Damage.{Damage}
use Rattle.store_api.proofs.RunsOverPagesLemmas.{runs_exit, runs_wider}
use Rattle.block_map.specs.MapLines.{blocks_of_state}
use Rattle.block_map.specs.MapRows.{state_number}
use Rattle.file_check.proofs.BlockMapsLemmas.{is_listed, map_breaks_none, map_held, map_past_none}
use Rattle.file_check.proofs.UnlessLemmas.{runs_to_damage}
use Rattle.file_check.proofs.blocks.blocks_in_state.Goals as goal

pub returns-in_err-blocks-clause-runs : goal.returns-in_err-blocks-clause-runs
returns-in_err-blocks-clause-runs g c =
    let held = map_held c.args.pages.now c.at.result.tree c.args.def.now c.at.ensures c.at.result.seven c.told_stores_hold_their_pages.ensures.trees in
    runs_exit c.from_residual.result c.from_residual.ensures.1
    (runs_wider c.in_err-blocks.ensures.runs (λ p there mine. mine) (λ p is. tt) (λ damage b. map_breaks_none c.args.shape c.args.pages.now c.at.result.tree c.args.def.now damage held b))

pub returns-then-block-shape-clause-runs : goal.returns-then-block-shape-clause-runs
returns-then-block-shape-clause-runs g c =
    let held = map_held c.args.pages.now c.at.result.tree c.args.def.now c.at.ensures c.at.result.seven c.told_stores_hold_their_pages.ensures.trees in
    let items : List ℕ = c.as_slice-block-items.result.now in
    let block = get_or items c.loop-block.block-index 0 in
    let damage : Damage = record { page = c.args.def.now.roots.map; rule = 6 } in
    runs_to_damage damage c.no_extent.result c.no_extent.ensures
    (runs_wider c.in_ok-blocks.ensures.runs (λ p there mine. mine) (λ p is. tt) (λ damage b. map_breaks_none c.args.shape c.args.pages.now c.at.result.tree c.args.def.now damage held b))
    (map_past_none g.P.Pages c.args.shape c.args.pages.now c.args.def.now (state_number c.args.state) block damage
    (λ told t has.
    is_listed items (blocks_of_state (state_number c.args.state) t) c.loop-block.block-index
    (c.as_slice-block-items.ensures.value ∙ c.in_ok-blocks.ensures.listed t (held told t has)) c.loop-block-test.true) c.if-block-shape.true)

pub returns-clause-listed : goal.returns-clause-listed
returns-clause-listed g c told map_tree has =
    let held = map_held c.args.pages.now c.at.result.tree c.args.def.now c.at.ensures c.at.result.seven c.told_stores_hold_their_pages.ensures.trees in
    c.in_ok-blocks.ensures.listed map_tree (held told map_tree has)

pub returns-clause-runs : goal.returns-clause-runs
returns-clause-runs g c =
    let held = map_held c.args.pages.now c.at.result.tree c.args.def.now c.at.ensures c.at.result.seven c.told_stores_hold_their_pages.ensures.trees in
    runs_wider c.in_ok-blocks.ensures.runs (λ p there mine. mine) (λ p is. tt) (λ damage b. map_breaks_none c.args.shape c.args.pages.now c.at.result.tree c.args.def.now damage held b)
