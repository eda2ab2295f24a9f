use Rattle.std.proofs.Common.{◌≡◌, ◌∙◌, None, Some, length, ap, subst}
use Rattle.std.proofs.lemmas.List.{take_all}
use Rattle.store_api.proofs.RunsOverPagesLemmas.{runs_exit}
use Rattle.extent_map.proofs.HoldsMapLemmas.{holds_map_same}
use Rattle.entry_tree.specs.Forest.{Forest}
use Rattle.entry_tree.specs.HeldTrees.{HoldsTree}
use Rattle.block_map.specs.MapLines.{blocks_of_state}
use Rattle.block_map.specs.MapRows.{state_number}
use Rattle.stored_catalog.specs.TreeRuns.{GivesBlocks}
use Rattle.stored_catalog.proofs.GivenBlocksLemmas.{gives_none}
use Rattle.stored_catalog.proofs.GivingRunsLemmas.{at_map_place, first_held, given_more, giving_run, listing_run, past_run}
use Rattle.stored_catalog.proofs.dropping.give_blocks_in.Goals as goal

pub returns-in_err-blocks-clause-runs : goal.returns-in_err-blocks-clause-runs
returns-in_err-blocks-clause-runs g c =
    runs_exit c.from_residual.result c.from_residual.ensures.1
    (listing_run g.P.Pages c.args.shape c.args.pages.now c.args.def.now c.at.result.tree (at_map_place c.at.result.tree c.args.def.now c.at.ensures c.at.result.seven)
    (state_number c.args.state) c.in_err-blocks.ensures.runs)

pub loop-block-init : goal.loop-block-init
loop-block-init g c = record {
  gives = λ owners map. gives_none g.P.Pages c.args.shape c.args.notes.now c.list.new.pages owners (holds_map_same c.in_ok-blocks.ensures.runs.works.steady.is_told c.list.ensures.same map);
  count = ap length c.list.ensures.same;
  runs = listing_run g.P.Pages c.args.shape c.args.pages.now c.args.def.now c.at.result.tree (at_map_place c.at.result.tree c.args.def.now c.at.ensures c.at.result.seven)
      (state_number c.args.state) c.in_ok-blocks.ensures.runs;
}

pub returns-then-block-shape-clause-count : goal.returns-then-block-shape-clause-count
returns-then-block-shape-clause-count g c = c.loop-block.invariant.count

pub returns-then-block-shape-clause-runs : goal.returns-then-block-shape-clause-runs
returns-then-block-shape-clause-runs g c =
    let at = at_map_place c.at.result.tree c.args.def.now c.at.ensures c.at.result.seven in
    past_run g.P.Pages c.args.shape c.args.pages.now c.args.def.now c.at.result.tree at (state_number c.args.state) c.loop-block.pages
    c.as_slice-block-items.result.now c.loop-block.block-index c.loop-block-test.true
    (λ map_tree held. c.as_slice-block-items.ensures.value ∙ c.in_ok-blocks.ensures.listed map_tree held) c.no_extent.ensures c.if-block-shape.true c.loop-block.invariant.runs

pub give_back-requires-clause-going : goal.give_back-requires-clause-going
give_back-requires-clause-going g c = c.loop-block.invariant.runs.works.steady.ended ∙ c.requires.going

pub returns-in_err-give_back-clause-count : goal.returns-in_err-give_back-clause-count
returns-in_err-give_back-clause-count g c = c.give_back.ensures.count ∙ c.loop-block.invariant.count

pub returns-in_err-give_back-clause-runs : goal.returns-in_err-give_back-clause-runs
returns-in_err-give_back-clause-runs g c =
    let at = at_map_place c.at.result.tree c.args.def.now c.at.ensures c.at.result.seven in
    runs_exit c.from_residual-in_err-give_back.result c.from_residual-in_err-give_back.ensures.1
    (giving_run g.P.Pages c.args.shape c.args.pages.now c.args.def.now c.at.result.tree at (state_number c.args.state) c.loop-block.pages
    c.as_slice-block-items.result.now c.loop-block.block-index c.loop-block-test.true
    (λ map_tree held. c.as_slice-block-items.ensures.value ∙ c.in_ok-blocks.ensures.listed map_tree held) c.args.notes.now c.loop-block.notes c.loop-block.invariant.gives {fault = Some c.in_err-give_back.field-0.0} c.if-block-shape.false
    c.loop-block.invariant.runs c.in_err-give_back.ensures.runs)

pub loop-block-preserved : goal.loop-block-preserved
loop-block-preserved g c =
    let at = at_map_place c.at.result.tree c.args.def.now c.at.ensures c.at.result.seven in
    let listed : (map_tree : Forest) → HoldsTree g.P.Pages c.args.pages.now c.at.result.tree map_tree → c.as_slice-block-items.result.now ≡ blocks_of_state (state_number c.args.state) map_tree =
    λ map_tree held. c.as_slice-block-items.ensures.value ∙ c.in_ok-blocks.ensures.listed map_tree held in
    record {
      gives = given_more g.P.Pages c.args.shape c.args.pages.now c.args.def.now c.at.result.tree at (state_number c.args.state) c.loop-block.pages
          c.as_slice-block-items.result.now c.loop-block.block-index c.loop-block-test.true listed c.args.notes.now c.loop-block.notes c.loop-block.invariant.gives
          c.give_back.new.self c.give_back.new.pages c.in_ok-give_back.ensures.block c.in_ok-give_back.ensures.gives c.in_ok-give_back.ensures.notes;
      count = c.give_back.ensures.count ∙ c.loop-block.invariant.count;
      runs = giving_run g.P.Pages c.args.shape c.args.pages.now c.args.def.now c.at.result.tree at (state_number c.args.state) c.loop-block.pages
          c.as_slice-block-items.result.now c.loop-block.block-index c.loop-block-test.true listed c.args.notes.now c.loop-block.notes c.loop-block.invariant.gives {fault = None} c.if-block-shape.false
          c.loop-block.invariant.runs c.in_ok-give_back.ensures.runs;
    }

pub returns-clause-gives : goal.returns-clause-gives
returns-clause-gives g c owners map_tree rest st =
    let at = at_map_place c.at.result.tree c.args.def.now c.at.ensures c.at.result.seven in
    subst (GivesBlocks g.P.Pages c.args.shape c.args.notes.now c.loop-block.notes c.loop-block.pages owners)
    (take_all c.loop-block.block-index c.as_slice-block-items.result.now c.loop-block-test.false
    ∙ (c.as_slice-block-items.ensures.value
    ∙ c.in_ok-blocks.ensures.listed map_tree (first_held g.P.Pages c.args.shape c.args.pages.now c.args.def.now c.at.result.tree at owners map_tree rest st)))
    (c.loop-block.invariant.gives owners st.map)

pub returns-clause-count : goal.returns-clause-count
returns-clause-count g c = c.loop-block.invariant.count

pub returns-clause-runs : goal.returns-clause-runs
returns-clause-runs g c = c.loop-block.invariant.runs
