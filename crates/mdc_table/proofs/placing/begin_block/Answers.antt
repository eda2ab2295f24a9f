use Rattle.std.proofs.Common.{◌≡◌, None, Some, subst}
use Rattle.store_api.proofs.RunsOverPagesLemmas.{runs_exit_as}
use Rattle.extent_map.specs.Damages.{store_part_of}
use Rattle.entry_tree.proofs.ClaimsLemmas.{if_err_by}
use Rattle.std.specs.Prelude.{slice_index_or}
use Rattle.block_map.specs.BlockMaps.{FindsFree}
use Rattle.mdc_sound.specs.Placing.Spot.{OtherBlock}
use Rattle.mdc_sound.specs.StandingTable.{spots_of}
use Rattle.mdc_sound.proofs.StandingTableLemmas.{stands_same}
use Rattle.table_blocks.specs.BlockSteps.{HasFreeBlock}
use Rattle.free_space.proofs.TableRunsLemmas.{holds_block_map, runs_broken}
use Rattle.mdc_table.proofs.AnyPlaceLemmas.{is_free_block, new_block_free}
use Rattle.mdc_table.proofs.KeptBlocksLemmas.{if_ok_all, keeps_in_space, keeps_in_trees, runs_of_space, runs_of_trees}
use Rattle.mdc_table.proofs.NextBlocksLemmas.{begins_free, begins_new, full_along, full_result_along, past_breaks, runs_in_space, runs_space_expecting, runs_space_then}
use Rattle.mdc_table.proofs.RowSpaceLemmas.{free_block_full, free_block_makes, new_block_full, new_block_makes, spot_of_free_block}
use Rattle.mdc_table.proofs.StandingBlocksLemmas.{runs_map}
use Rattle.mdc_table.proofs.placing.begin_block.Goals as goal

pub returns-in_err-block-clause-runs : goal.returns-in_err-block-clause-runs
returns-in_err-block-clause-runs g c =
    let map = c.at-map.result in
    runs_exit_as store_part_of c.from_residual.result c.from_residual.ensures.1
    (runs_in_space c.args.shape c.args.def.now {fault = Some c.in_err-block.field-0.0} (runs_map {fault = Some c.in_err-block.field-0.0} c.args.shape c.args.def.now map.tree c.at-map.ensures map.seven c.in_err-block.ensures.runs))

pub returns-in_default-clause-begins : goal.returns-in_default-clause-begins
returns-in_default-clause-begins g c =
    let shape = c.args.shape in
    let def = c.args.def.now in
    let s = c.args.pages.now in
    let map = c.at-map.result in
    begins_new g.P.Pages shape c.args.notes.now c.begin_new_block.new.notes s c.first_free.new.pages c.begin_new_block.new.pages def c.args.row.now c.begin_new_block.result c.in_ok-block.ensures.runs.works.steady.is_told c.first_free.ensures.same
    (λ owners forests st. subst (FindsFree forests.map 0) c.in_default.is (c.in_ok-block.ensures.found forests.map (holds_block_map shape s def map.tree owners forests c.at-map.ensures map.seven st) st.map.entries))
    c.begin_new_block.ensures.begins c.begin_new_block.ensures.lowest

pub returns-in_default-clause-free : goal.returns-in_default-clause-free
returns-in_default-clause-free g c =
    new_block_free g.P.Pages c.args.shape c.args.pages.now c.first_free.new.pages c.args.def.now c.in_ok-block.ensures.runs.works.steady.is_told c.first_free.ensures.same c.begin_new_block.result c.begin_new_block.ensures.free

pub returns-in_default-clause-full : goal.returns-in_default-clause-full
returns-in_default-clause-full g c =
    full_result_along g.P.Pages c.args.shape c.args.notes.now c.args.pages.now c.first_free.new.pages c.begin_new_block.new.pages c.args.def.now c.in_ok-block.ensures.runs.works.steady.is_told c.first_free.ensures.same
    c.begin_new_block.result c.begin_new_block.ensures.full

pub returns-in_default-clause-makes : goal.returns-in_default-clause-makes
returns-in_default-clause-makes g c =
    new_block_makes g.P.Pages c.args.shape c.args.pages.now c.first_free.new.pages c.begin_new_block.new.pages c.args.def.now c.args.row.now c.in_ok-block.ensures.runs.works.steady.is_told c.first_free.ensures.same
    c.args.notes.now c.begin_new_block.result c.begin_new_block.ensures.lowest c.begin_new_block.ensures.makes

pub returns-in_default-clause-runs_full : goal.returns-in_default-clause-runs_full
returns-in_default-clause-runs_full g c =
    let shape = c.args.shape in
    let def = c.args.def.now in
    let s = c.args.pages.now in
    let map = c.at-map.result in
    new_block_full g.P.Pages shape s c.first_free.new.pages c.begin_new_block.new.pages def c.args.row.now c.in_ok-block.ensures.runs.works.steady.is_told c.first_free.ensures.same c.args.notes.now c.begin_new_block.result
    (λ owners forests st. subst (FindsFree forests.map 0) c.in_default.is (c.in_ok-block.ensures.found forests.map (holds_block_map shape s def map.tree owners forests c.at-map.ensures map.seven st) st.map.entries))
    c.begin_new_block.ensures.runs_full

pub returns-in_default-clause-stay : goal.returns-in_default-clause-stay
returns-in_default-clause-stay g c =
    if_ok_all c.begin_new_block.result (λ block owners forests st.
    keeps_in_trees c.args.shape c.args.pages.now c.first_free.new.pages c.begin_new_block.new.pages c.args.def.now owners forests c.in_ok-block.ensures.runs.works.steady.is_told c.first_free.ensures.same st
    (λ other. other ≡ block) c.begin_new_block.ensures.runs.touches)

pub returns-in_default-clause-runs : goal.returns-in_default-clause-runs
returns-in_default-clause-runs g c =
    let map = c.at-map.result in
    let shape = c.args.shape in
    let def = c.args.def.now in
    runs_space_then shape def c.first_free.ensures.same (runs_map {fault = None} shape def map.tree c.at-map.ensures map.seven c.in_ok-block.ensures.runs)
    (runs_of_trees shape def c.begin_new_block.ensures.runs)

pub returns-then-block-shape-clause-runs : goal.returns-then-block-shape-clause-runs
returns-then-block-shape-clause-runs g c =
    let map = c.at-map.result in
    let shape = c.args.shape in
    let def = c.args.def.now in
    let s = c.args.pages.now in
    runs_broken c.unmapped.result c.unmapped.ensures (runs_in_space shape def {fault = None} (runs_map {fault = None} shape def map.tree c.at-map.ensures map.seven c.in_ok-block.ensures.runs))
    (past_breaks g.P.Pages shape s def c.in-Some.block c.if-block-shape.true
    (λ owners forests st.
    (subst (FindsFree forests.map 0) c.in-Some.is (c.in_ok-block.ensures.found forests.map (holds_block_map shape s def map.tree owners forests c.at-map.ensures map.seven st) st.map.entries)).free))

pub returns-in_err-begin_free_block-clause-full : goal.returns-in_err-begin_free_block-clause-full
returns-in_err-begin_free_block-clause-full g c =
    if_err_by c.from_residual-in_err-begin_free_block.result c.in_err-begin_free_block.field-0.0 _ c.from_residual-in_err-begin_free_block.ensures.1
    (full_along g.P.Pages c.args.shape c.args.notes.now c.args.pages.now c.first_free.new.pages c.begin_free_block.new.pages c.args.def.now c.in_ok-block.ensures.runs.works.steady.is_told c.first_free.ensures.same
    c.in_err-begin_free_block.field-0.0 c.in_err-begin_free_block.ensures.full)

pub returns-in_err-begin_free_block-clause-runs_full : goal.returns-in_err-begin_free_block-clause-runs_full
returns-in_err-begin_free_block-clause-runs_full g c =
    let shape = c.args.shape in
    let def = c.args.def.now in
    let s = c.args.pages.now in
    let map = c.at-map.result in
    if_err_by c.from_residual-in_err-begin_free_block.result c.in_err-begin_free_block.field-0.0 _ c.from_residual-in_err-begin_free_block.ensures.1
    (free_block_full g.P.Pages shape s c.first_free.new.pages c.begin_free_block.new.pages def c.args.row.now c.in_ok-block.ensures.runs.works.steady.is_told c.first_free.ensures.same c.args.notes.now c.in-Some.block
    c.in_err-begin_free_block.field-0.0
    (λ owners forests st. subst (FindsFree forests.map 0) c.in-Some.is (c.in_ok-block.ensures.found forests.map (holds_block_map shape s def map.tree owners forests c.at-map.ensures map.seven st) st.map.entries))
    c.in_err-begin_free_block.ensures.runs_full)

pub returns-in_err-begin_free_block-clause-runs : goal.returns-in_err-begin_free_block-clause-runs
returns-in_err-begin_free_block-clause-runs g c =
    let map = c.at-map.result in
    let shape = c.args.shape in
    let def = c.args.def.now in
    let s = c.args.pages.now in
    runs_exit_as store_part_of c.from_residual-in_err-begin_free_block.result c.from_residual-in_err-begin_free_block.ensures.1
    (runs_space_expecting shape def {fault = store_part_of c.in_err-begin_free_block.field-0.0} (HasFreeBlock c.in-Some.block) c.first_free.ensures.same
    (λ owners forests st. record {
      free = (subst (FindsFree forests.map 0) c.in-Some.is (c.in_ok-block.ensures.found forests.map (holds_block_map shape s def map.tree owners forests c.at-map.ensures map.seven st) st.map.entries)).free;
    })
    (runs_map {fault = None} shape def map.tree c.at-map.ensures map.seven c.in_ok-block.ensures.runs)
    (runs_of_space shape def {fault = store_part_of c.in_err-begin_free_block.field-0.0} c.in-Some.block c.in_err-begin_free_block.ensures.runs))

pub returns-clause-begins : goal.returns-clause-begins
returns-clause-begins g c owners forests st =
    let map = c.at-map.result in
    let shape = c.args.shape in
    let def = c.args.def.now in
    let s = c.args.pages.now in
    let told = c.in_ok-block.ensures.runs.works.steady.is_told in
    let same = c.first_free.ensures.same in
    let lowest = subst (FindsFree forests.map 0) c.in-Some.is (c.in_ok-block.ensures.found forests.map (holds_block_map shape s def map.tree owners forests c.at-map.ensures map.seven st) st.map.entries) in
    begins_free shape c.args.notes.now c.begin_free_block.new.notes s c.first_free.new.pages c.begin_free_block.new.pages def owners forests told same c.in-Some.block c.args.row.now lowest
    (c.in_ok-begin_free_block.ensures.begins owners forests (stands_same shape s c.first_free.new.pages def owners forests told same st) lowest.free)

pub returns-clause-free : goal.returns-clause-free
returns-clause-free g c owners forests st =
    let map = c.at-map.result in
    let shape = c.args.shape in
    let def = c.args.def.now in
    let s = c.args.pages.now in
    let lowest = subst (FindsFree forests.map 0) c.in-Some.is (c.in_ok-block.ensures.found forests.map (holds_block_map shape s def map.tree owners forests c.at-map.ensures map.seven st) st.map.entries) in
    is_free_block (slice_index_or (spots_of g.P.Pages shape s def owners forests) c.in-Some.block OtherBlock) (spot_of_free_block shape s def owners forests st c.in-Some.block lowest)

pub returns-clause-runs : goal.returns-clause-runs
returns-clause-runs g c =
    let map = c.at-map.result in
    let shape = c.args.shape in
    let def = c.args.def.now in
    let s = c.args.pages.now in
    runs_space_expecting shape def {fault = None} (HasFreeBlock c.in-Some.block) c.first_free.ensures.same
    (λ owners forests st. record {
      free = (subst (FindsFree forests.map 0) c.in-Some.is (c.in_ok-block.ensures.found forests.map (holds_block_map shape s def map.tree owners forests c.at-map.ensures map.seven st) st.map.entries)).free;
    })
    (runs_map {fault = None} shape def map.tree c.at-map.ensures map.seven c.in_ok-block.ensures.runs)
    (runs_of_space shape def {fault = None} c.in-Some.block c.in_ok-begin_free_block.ensures.runs)

pub returns-clause-makes : goal.returns-clause-makes
returns-clause-makes g c owners forests st notes =
    let map = c.at-map.result in
    let shape = c.args.shape in
    let def = c.args.def.now in
    let s = c.args.pages.now in
    let told = c.in_ok-block.ensures.runs.works.steady.is_told in
    let same = c.first_free.ensures.same in
    let lowest = subst (FindsFree forests.map 0) c.in-Some.is (c.in_ok-block.ensures.found forests.map (holds_block_map shape s def map.tree owners forests c.at-map.ensures map.seven st) st.map.entries) in
    free_block_makes g.P.Pages shape s c.first_free.new.pages c.begin_free_block.new.pages def c.args.row.now told same owners forests c.in-Some.block st lowest
    (c.in_ok-begin_free_block.ensures.makes owners forests (stands_same shape s c.first_free.new.pages def owners forests told same st) lowest.free notes)

pub returns-clause-stay : goal.returns-clause-stay
returns-clause-stay g c owners forests st =
    keeps_in_space c.args.shape c.args.pages.now c.first_free.new.pages c.begin_free_block.new.pages c.args.def.now owners forests c.in_ok-block.ensures.runs.works.steady.is_told c.first_free.ensures.same st
    c.in-Some.block c.in_ok-begin_free_block.ensures.runs.touches
