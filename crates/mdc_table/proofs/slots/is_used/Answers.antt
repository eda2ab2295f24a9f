use Rattle.std.proofs.Common.{◌≡◌, ◌<◌, ◌^◌, None, Some, arith, inl, inr, rules, subst, sym}
use Rattle.std.specs.Prelude.{false}
use Rattle.store_api.proofs.RunsOverPagesLemmas.{runs_exit}
use Rattle.block_map.specs.BlockMaps.{FindsBlock}
use Rattle.block_map.specs.declared.state.BlockState.TheVariants as state
use Rattle.free_space.proofs.FoundRoomLemmas.{used_is_mapped, used_is_used, used_within}
use Rattle.free_space.proofs.TableRunsLemmas.{holds_block_map}
use Rattle.mdc_table.specs.SeenPlaces.{IsUnusedRow}
use Rattle.mdc_table.proofs.SeenPlacesLemmas.{unused_in_map, used_in_map}
use Rattle.mdc_table.proofs.StandingBlocksLemmas.{runs_on_map}
use Rattle.mdc_table.proofs.UsedSlotsLemmas.{is_listed, is_unlisted}
use Rattle.mdc_table.proofs.slots.is_used.Goals as goal

pub returns-then-block-shape-clause-used : goal.returns-then-block-shape-clause-used
returns-then-block-shape-clause-used g c owners forests st =
    sym (is_unlisted _ c.args.block (λ used. omega (arith, c.if-block-shape.true, used_within c.args.shape c.args.pages.now c.args.def.now owners forests st c.args.block used)))

pub returns-then-block-shape-clause-seen : goal.returns-then-block-shape-clause-seen
returns-then-block-shape-clause-seen g c = inr c.if-block-shape.true

pub returns-in_err-line-clause-runs : goal.returns-in_err-line-clause-runs
returns-in_err-line-clause-runs g c =
    let map = c.at-map.result in
    runs_exit c.from_residual.result c.from_residual.ensures.1
    (runs_on_map {fault = Some c.in_err-line.field-0.0} c.args.shape c.args.def.now map.tree c.at-map.ensures map.seven c.in_err-line.ensures.runs)

pub returns-in_default-clause-used : goal.returns-in_default-clause-used
returns-in_default-clause-used g c owners forests st =
    let map = c.at-map.result in
    sym (is_unlisted _ c.args.block
    (λ used. used_is_mapped c.args.shape c.args.pages.now c.args.def.now owners forests st c.args.block used
    (subst (FindsBlock forests.map c.args.block) c.in_default.is (c.in_ok-line.ensures.found forests.map (holds_block_map c.args.shape c.args.pages.now c.args.def.now map.tree owners forests c.at-map.ensures map.seven st)))))

pub returns-in_default-clause-seen : goal.returns-in_default-clause-seen
returns-in_default-clause-seen g c =
    let map = c.at-map.result in
    inl (unused_in_map c.args.pages.now c.args.def.now map.tree c.at-map.ensures map.seven c.args.block _ c.in_ok-line.ensures.found (subst IsUnusedRow (sym c.in_default.is) tt))

pub returns-in_default-clause-runs : goal.returns-in_default-clause-runs
returns-in_default-clause-runs g c =
    let map = c.at-map.result in
    runs_on_map {fault = None} c.args.shape c.args.def.now map.tree c.at-map.ensures map.seven c.in_ok-line.ensures.runs

pub returns-then-ne-clause-used : goal.returns-then-ne-clause-used
returns-then-ne-clause-used g c owners forests st =
    let map = c.at-map.result in
    sym (is_unlisted _ c.args.block
    (λ used.
    let is = used_is_used c.args.shape c.args.pages.now c.args.def.now owners forests st c.args.block c.in-Some.line used
    (subst (FindsBlock forests.map c.args.block) c.in-Some.is (c.in_ok-line.ensures.found forests.map (holds_block_map c.args.shape c.args.pages.now c.args.def.now map.tree owners forests c.at-map.ensures map.seven st))) in
    let wrong : c.ne.result ≡ false = rw is at c.ne.ensures in
    cc (c.if-ne.true, wrong)))

pub returns-then-ne-clause-seen : goal.returns-then-ne-clause-seen
returns-then-ne-clause-seen g c =
    let map = c.at-map.result in
    inl (unused_in_map c.args.pages.now c.args.def.now map.tree c.at-map.ensures map.seven c.args.block _ c.in_ok-line.ensures.found
    (subst IsUnusedRow (sym c.in-Some.is) (λ is. let wrong : c.ne.result ≡ false = rw is at c.ne.ensures in cc (c.if-ne.true, wrong))))

pub returns-then-ne-clause-runs : goal.returns-then-ne-clause-runs
returns-then-ne-clause-runs g c =
    let map = c.at-map.result in
    runs_on_map {fault = None} c.args.shape c.args.def.now map.tree c.at-map.ensures map.seven c.in_ok-line.ensures.runs

pub returns-clause-used : goal.returns-clause-used
returns-clause-used g c owners forests st =
    let s = c.args.pages.now in
    let def = c.args.def.now in
    let map = c.at-map.result in
    let used_state : c.in-Some.line.state ≡ state.Used = search rules in
    let small : c.args.block < 2 ^ 32 = omega arith in
    sym (is_listed _ c.args.block (used_in_map s def map.tree c.at-map.ensures map.seven c.args.block _ c.in_ok-line.ensures.found c.in-Some.line small c.in-Some.is used_state forests.map st.trees.held.0))

pub returns-clause-seen : goal.returns-clause-seen
returns-clause-seen g c =
    let map = c.at-map.result in
    let used_state : c.in-Some.line.state ≡ state.Used = search rules in
    let small : c.args.block < 2 ^ 32 = omega arith in
    (used_in_map c.args.pages.now c.args.def.now map.tree c.at-map.ensures map.seven c.args.block _ c.in_ok-line.ensures.found c.in-Some.line small c.in-Some.is used_state, c.if-block-shape.false)

pub returns-clause-runs : goal.returns-clause-runs
returns-clause-runs g c =
    let map = c.at-map.result in
    runs_on_map {fault = None} c.args.shape c.args.def.now map.tree c.at-map.ensures map.seven c.in_ok-line.ensures.runs
