use Rattle.std.proofs.Common.{◌≡◌, ◌∙◌, ◌<◌, ◌^◌, None, Some, arith, inl, inr, rules, subst, sym}
use Rattle.std.specs.Prelude.{false}
use Rattle.std.proofs.lemmas.Result.{IfOk-weaker}
use Rattle.store_api.proofs.RunsOverPagesLemmas.{runs_exit}
use Rattle.block_map.specs.BlockMaps.{FindsBlock}
use Rattle.block_map.specs.declared.state.BlockState.TheVariants as state
use Rattle.free_space.proofs.FoundRoomLemmas.{used_is_mapped, used_is_used}
use Rattle.free_space.proofs.TableRunsLemmas.{holds_block_map}
use Rattle.mdc_table.specs.SeenPlaces.{IsUnusedRow}
use Rattle.mdc_table.proofs.SeenPlacesLemmas.{sees_place, unused_in_map, used_in_map}
use Rattle.mdc_table.proofs.StandingBlocksLemmas.{no_row_past, no_row_unless_used, row_found, runs_looking, runs_on_map, runs_on_rows}
use Rattle.mdc_table.proofs.reading.row_at.Goals.{then-rid-shape-via-then-rid-shape, then-rid-shape-via-else-rid-shape+then-from-block_slots}
use Rattle.mdc_table.proofs.reading.row_at.Goals as goal

pub returns-then-rid-shape-clause-found : goal.returns-then-rid-shape-clause-found
returns-then-rid-shape-clause-found g c owners forests st =
    let shape = c.args.shape in
    let def = c.args.def.now in
    sym (no_row_past shape c.args.pages.now def owners forests st c.args.rid (elim c.then-rid-shape.branch [
      | then-rid-shape-via-then-rid-shape w ↦ inl w.if-rid-shape.true
      | then-rid-shape-via-else-rid-shape+then-from-block_slots w ↦ inr (omega (arith, w.if-from-block_slots.true, w.from.ensures, w.block_slots.ensures))
    ]))

pub returns-then-rid-shape-clause-seen : goal.returns-then-rid-shape-clause-seen
returns-then-rid-shape-clause-seen g c = λ told. inr (inr (elim c.then-rid-shape.branch [
  | then-rid-shape-via-then-rid-shape w ↦ inl w.if-rid-shape.true
  | then-rid-shape-via-else-rid-shape+then-from-block_slots w ↦ inr (omega (arith, w.if-from-block_slots.true, w.from.ensures, w.block_slots.ensures))
]))

pub returns-in_err-line-clause-runs : goal.returns-in_err-line-clause-runs
returns-in_err-line-clause-runs g c =
    let map = c.at-map.result in
    runs_exit c.from_residual.result c.from_residual.ensures.1
    (runs_looking {fault = Some c.in_err-line.field-0.0} c.args.shape c.args.def.now c.args.rid.block (runs_on_map {fault = Some c.in_err-line.field-0.0} c.args.shape c.args.def.now map.tree c.at-map.ensures map.seven c.in_err-line.ensures.runs))

pub returns-in_default-clause-found : goal.returns-in_default-clause-found
returns-in_default-clause-found g c owners forests st =
    let shape = c.args.shape in
    let s = c.args.pages.now in
    let def = c.args.def.now in
    let map = c.at-map.result in
    sym (no_row_unless_used shape s def owners forests st c.args.rid
    (λ used. used_is_mapped shape s def owners forests st c.args.rid.block used
    (subst (FindsBlock forests.map c.args.rid.block) c.in_default.is (c.in_ok-line.ensures.found forests.map (holds_block_map shape s def map.tree owners forests c.at-map.ensures map.seven st)))))

pub returns-in_default-clause-seen : goal.returns-in_default-clause-seen
returns-in_default-clause-seen g c = λ told.
    let map = c.at-map.result in
    inr (inl (unused_in_map c.args.pages.now c.args.def.now map.tree c.at-map.ensures map.seven c.args.rid.block _ c.in_ok-line.ensures.found (subst IsUnusedRow (sym c.in_default.is) tt)))

pub returns-in_default-clause-runs : goal.returns-in_default-clause-runs
returns-in_default-clause-runs g c =
    let map = c.at-map.result in
    runs_looking {fault = None} c.args.shape c.args.def.now c.args.rid.block (runs_on_map {fault = None} c.args.shape c.args.def.now map.tree c.at-map.ensures map.seven c.in_ok-line.ensures.runs)

pub returns-then-ne-clause-found : goal.returns-then-ne-clause-found
returns-then-ne-clause-found g c owners forests st =
    let shape = c.args.shape in
    let s = c.args.pages.now in
    let def = c.args.def.now in
    let map = c.at-map.result in
    sym (no_row_unless_used shape s def owners forests st c.args.rid
    (λ used.
    let is = used_is_used shape s def owners forests st c.args.rid.block c.in-Some.line used
    (subst (FindsBlock forests.map c.args.rid.block) c.in-Some.is (c.in_ok-line.ensures.found forests.map (holds_block_map shape s def map.tree owners forests c.at-map.ensures map.seven st))) in
    let wrong : c.ne.result ≡ false = rw is at c.ne.ensures in
    cc (c.if-ne.true, wrong)))

pub returns-then-ne-clause-seen : goal.returns-then-ne-clause-seen
returns-then-ne-clause-seen g c = λ told.
    let map = c.at-map.result in
    inr (inl (unused_in_map c.args.pages.now c.args.def.now map.tree c.at-map.ensures map.seven c.args.rid.block _ c.in_ok-line.ensures.found
    (subst IsUnusedRow (sym c.in-Some.is) (λ is. let wrong : c.ne.result ≡ false = rw is at c.ne.ensures in cc (c.if-ne.true, wrong)))))

pub returns-then-ne-clause-runs : goal.returns-then-ne-clause-runs
returns-then-ne-clause-runs g c =
    let map = c.at-map.result in
    runs_looking {fault = None} c.args.shape c.args.def.now c.args.rid.block (runs_on_map {fault = None} c.args.shape c.args.def.now map.tree c.at-map.ensures map.seven c.in_ok-line.ensures.runs)

pub returns-clause-found : goal.returns-clause-found
returns-clause-found g c =
    let shape = c.args.shape in
    let s = c.args.pages.now in
    let def = c.args.def.now in
    let map = c.at-map.result in
    let used : c.in-Some.line.state ≡ state.Used = search rules in
    let small : c.args.rid.block < 2 ^ 32 = omega arith in
    row_found shape s c.get.new.pages def c.args.rid c.row_in_slot.result c.in_ok-line.ensures.runs.works.steady.is_told c.get.ensures.same
    (λ owners forests st. used_in_map s def map.tree c.at-map.ensures map.seven c.args.rid.block _ c.in_ok-line.ensures.found c.in-Some.line small c.in-Some.is used forests.map st.trees.held.0)
    c.row_in_slot.ensures.found

pub returns-clause-seen : goal.returns-clause-seen
returns-clause-seen g c =
    let s = c.args.pages.now in
    let def = c.args.def.now in
    let map = c.at-map.result in
    let used : c.in-Some.line.state ≡ state.Used = search rules in
    let small : c.args.rid.block < 2 ^ 32 = omega arith in
    IfOk-weaker c.row_in_slot.result _ _
    (λ row sees told. sees_place c.args.shape s c.get.new.pages def c.args.rid row c.get.ensures.same
    (used_in_map s def map.tree c.at-map.ensures map.seven c.args.rid.block _ c.in_ok-line.ensures.found c.in-Some.line small c.in-Some.is used)
    (sees (c.in_ok-line.ensures.runs.works.steady.is_told ∙ told)))
    c.row_in_slot.ensures.seen

pub returns-clause-runs : goal.returns-clause-runs
returns-clause-runs g c =
    let shape = c.args.shape in
    let s = c.args.pages.now in
    let def = c.args.def.now in
    let map = c.at-map.result in
    let used : c.in-Some.line.state ≡ state.Used = search rules in
    let small : c.args.rid.block < 2 ^ 32 = omega arith in
    runs_on_rows shape def c.args.rid.block c.get.ensures.same c.if-rid-shape.false
    (λ owners forests st. used_in_map s def map.tree c.at-map.ensures map.seven c.args.rid.block _ c.in_ok-line.ensures.found c.in-Some.line small c.in-Some.is used forests.map st.trees.held.0)
    (runs_on_map {fault = None} shape def map.tree c.at-map.ensures map.seven c.in_ok-line.ensures.runs) c.row_in_slot.ensures.runs
