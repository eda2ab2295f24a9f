use Rattle.std.proofs.Common.{◌≡◌, ◌<◌, ◌≤◌, ◌*◌, ◌^◌, ℕ, Some, None, ap, arith, sym, ◌∙◌, refl, subst, length}
use Rattle.std.specs.Prelude.{IfSome, Option}
use Rattle.store_api.proofs.RunsOverPagesLemmas.{runs_exit, runs_none}
use Rattle.row_page.specs.RowPage.{slot_count}
use Rattle.key_codec.specs.Keys.{width_of_parts}
use Rattle.key_codec.proofs.KeyLemmas.{length-key_bytes}
use Rattle.table_trees.specs.TableTrees.{cell_parts}
use Rattle.mdc_sound.proofs.DefinitionTreesLemmas.{has_block_indexes}
use Rattle.free_space.proofs.FoundRoomLemmas.{first_room, found_under, listed_of_key, none_left, none_passed}
use Rattle.mdc_sound.proofs.StandingTableLemmas.{stands_same}
use Rattle.free_space.proofs.TableRunsLemmas.{runs_on_index, runs_on_used}
use Rattle.free_space.proofs.finding.find_room.Goals as goal

pub cell_width-requires : goal.cell_width-requires
cell_width-requires g c = (has_block_indexes c.args.def.now.number c.args.def.now c.requires.defined).composite.key

pub returns-then-key-from-clause-finds : goal.returns-then-key-from-clause-finds
returns-then-key-from-clause-finds g c owners forests row st fits is =
    let def = c.args.def.now in
    let wide = ap length is ∙ length-key_bytes def.columns (cell_parts def) row.values (has_block_indexes def.number def c.requires.defined).composite.key.there fits in
    absurd (c.if-key-from.true (wide ∙ sym c.cell_width.ensures ∙ sym c.from.ensures))

pub walk-init : goal.walk-init
walk-init g c = record {
  reached = omega arith;
  same = refl;
  going = c.requires.going;
  runs = runs_none;
  passed = λ owners forests row st fits is block reached low. absurd (omega (arith, reached, low));
}

pub first_block_from-requires-clause-parts : goal.first_block_from-requires-clause-parts
first_block_from-requires-clause-parts g c = (has_block_indexes c.args.def.now.number c.args.def.now c.requires.defined).composite

pub returns-in_err-block-clause-runs : goal.returns-in_err-block-clause-runs
returns-in_err-block-clause-runs g c =
    let inv = c.walk.invariant in
    runs_exit c.from_residual.result c.from_residual.ensures.1 (runs_on_index {fault = Some c.in_err-block.field-0.0} c.args.shape c.args.def.now inv.runs inv.same c.in_err-block.ensures.runs)

pub returns-in_default-clause-finds : goal.returns-in_default-clause-finds
returns-in_default-clause-finds g c owners forests row st fits is =
    let inv = c.walk.invariant in
    let shape = c.args.shape in
    let def = c.args.def.now in
    let s = c.args.pages.now in
    let key = c.args.key.now in
    none_left shape s def owners forests st row key c.args.from c.walk.next (has_block_indexes def.number def c.requires.defined).composite.key fits is (inv.passed owners forests row st fits is)
    (found_under shape s def owners forests st c.walk.pages key c.walk.next c.in_ok-block.field-0 None inv.runs.works.steady.is_told inv.same c.in_ok-block.ensures.found c.in_default.is)

pub returns-in_default-clause-runs : goal.returns-in_default-clause-runs
returns-in_default-clause-runs g c =
    let inv = c.walk.invariant in
    runs_on_index {fault = None} c.args.shape c.args.def.now inv.runs inv.same c.in_ok-block.ensures.runs

pub returns-in_err-row-clause-runs : goal.returns-in_err-row-clause-runs
returns-in_err-row-clause-runs g c =
    let inv = c.walk.invariant in
    let shape = c.args.shape in
    let def = c.args.def.now in
    let s = c.args.pages.now in
    let key = c.args.key.now in
    let wide : length key ≡ width_of_parts def.columns (cell_parts def) = c.if-key-from.false ∙ c.from.ensures ∙ c.cell_width.ensures in
    let small : c.in-Some.block < 2 ^ 32 = omega arith in
    let parts = (has_block_indexes def.number def c.requires.defined).composite.key in
    runs_exit c.from_residual-in_err-row.result c.from_residual-in_err-row.ensures.1
    (runs_on_used {fault = Some c.in_err-row.field-0.0} shape def c.in-Some.block (runs_on_index {fault = None} shape def inv.runs inv.same c.in_ok-block.ensures.runs) (c.first_block_from.ensures.same ∙ inv.same)
    (λ owners forests st.
    let first = found_under shape s def owners forests st c.walk.pages key c.walk.next c.in_ok-block.field-0 (Some c.in-Some.block) inv.runs.works.steady.is_told inv.same c.in_ok-block.ensures.found c.in-Some.is in
    (listed_of_key shape s def owners forests st key c.in-Some.block parts wide small first.there).used)
    c.in_err-row.ensures.runs)

pub returns-then-from-slots-clause-finds : goal.returns-then-from-slots-clause-finds
returns-then-from-slots-clause-finds g c owners forests row st fits is =
    let inv = c.walk.invariant in
    let shape = c.args.shape in
    let def = c.args.def.now in
    let s = c.args.pages.now in
    let key = c.args.key.now in
    let block = c.in-Some.block in
    let wide : length key ≡ width_of_parts def.columns (cell_parts def) = c.if-key-from.false ∙ c.from.ensures ∙ c.cell_width.ensures in
    let small : block < 2 ^ 32 = omega arith in
    let parts = (has_block_indexes def.number def c.requires.defined).composite.key in
    let slots : c.from-2.result ≡ slot_count def.columns = c.from-2.ensures ∙ c.capacity.ensures.value in
    let first = found_under shape s def owners forests st c.walk.pages key c.walk.next c.in_ok-block.field-0 (Some block) inv.runs.works.steady.is_told inv.same c.in_ok-block.ensures.found c.in-Some.is in
    let cell = listed_of_key shape s def owners forests st key block parts wide small first.there in
    let then = stands_same shape s c.first_block_from.new.pages def owners forests (c.in_ok-block.ensures.runs.works.steady.is_told ∙ inv.runs.works.steady.is_told) (c.first_block_from.ensures.same ∙ inv.same) st in
    let room : c.in_ok-row.row.rows < shape.extent_pages * slot_count def.columns = subst (λ (n : ℕ). c.in_ok-row.row.rows < shape.extent_pages * n) slots (omega (arith, c.if-from-slots.true, c.from-in-walk.ensures)) in
    first_room shape s def owners forests st row key c.args.from c.walk.next parts fits is (inv.passed owners forests row st fits is)
    block c.in_ok-row.row inv.reached first cell c.in_ok-row.ensures.named c.in_ok-row.ensures.few c.in_ok-row.ensures.used (c.in_ok-row.ensures.mapped owners forests then) room

pub returns-then-from-slots-clause-runs : goal.returns-then-from-slots-clause-runs
returns-then-from-slots-clause-runs g c =
    let inv = c.walk.invariant in
    let shape = c.args.shape in
    let def = c.args.def.now in
    let s = c.args.pages.now in
    let key = c.args.key.now in
    let block = c.in-Some.block in
    let wide : length key ≡ width_of_parts def.columns (cell_parts def) = c.if-key-from.false ∙ c.from.ensures ∙ c.cell_width.ensures in
    let small : block < 2 ^ 32 = omega arith in
    let parts = (has_block_indexes def.number def c.requires.defined).composite.key in
    runs_on_used {fault = None} shape def block (runs_on_index {fault = None} shape def inv.runs inv.same c.in_ok-block.ensures.runs) (c.first_block_from.ensures.same ∙ inv.same)
    (λ owners forests st.
    let first = found_under shape s def owners forests st c.walk.pages key c.walk.next c.in_ok-block.field-0 (Some block) inv.runs.works.steady.is_told inv.same c.in_ok-block.ensures.found c.in-Some.is in
    (listed_of_key shape s def owners forests st key block parts wide small first.there).used)
    c.in_ok-row.ensures.runs

pub walk-preserved : goal.walk-preserved
walk-preserved g c =
    let inv = c.walk.invariant in
    let shape = c.args.shape in
    let def = c.args.def.now in
    let s = c.args.pages.now in
    let key = c.args.key.now in
    let block = c.in-Some.block in
    let wide : length key ≡ width_of_parts def.columns (cell_parts def) = c.if-key-from.false ∙ c.from.ensures ∙ c.cell_width.ensures in
    let small : block < 2 ^ 32 = omega arith in
    let parts = (has_block_indexes def.number def c.requires.defined).composite.key in
    let slots : c.from-2.result ≡ slot_count def.columns = c.from-2.ensures ∙ c.capacity.ensures.value in
    let reached : c.walk.next ≤ block = subst (λ (o : Option ℕ). IfSome o (λ (b : ℕ). c.walk.next ≤ b)) c.in-Some.is c.in_ok-block.ensures.reached in
    record {
      reached = omega (arith, inv.reached, reached);
      same = c.used_row.ensures.same ∙ c.first_block_from.ensures.same ∙ inv.same;
      going = c.in_ok-row.ensures.runs.works.steady.ended ∙ c.in_ok-block.ensures.runs.works.steady.ended ∙ inv.going;
      runs =
          runs_on_used {fault = None} shape def block (runs_on_index {fault = None} shape def inv.runs inv.same c.in_ok-block.ensures.runs) (c.first_block_from.ensures.same ∙ inv.same)
          (λ owners forests st.
          let first = found_under shape s def owners forests st c.walk.pages key c.walk.next c.in_ok-block.field-0 (Some block) inv.runs.works.steady.is_told inv.same c.in_ok-block.ensures.found c.in-Some.is in
          (listed_of_key shape s def owners forests st key block parts wide small first.there).used)
          c.in_ok-row.ensures.runs;
      passed = λ owners forests row st fits is.
          let first = found_under shape s def owners forests st c.walk.pages key c.walk.next c.in_ok-block.field-0 (Some block) inv.runs.works.steady.is_told inv.same c.in_ok-block.ensures.found c.in-Some.is in
          let cell = listed_of_key shape s def owners forests st key block parts wide small first.there in
          let then = stands_same shape s c.first_block_from.new.pages def owners forests (c.in_ok-block.ensures.runs.works.steady.is_told ∙ inv.runs.works.steady.is_told) (c.first_block_from.ensures.same ∙ inv.same) st in
          let full : shape.extent_pages * slot_count def.columns ≤ c.in_ok-row.row.rows = subst (λ (n : ℕ). shape.extent_pages * n ≤ c.in_ok-row.row.rows) slots (omega (arith, c.if-from-slots.false, c.from-in-walk.ensures)) in
          none_passed shape s def owners forests st row key c.args.from c.walk.next parts fits is (inv.passed owners forests row st fits is)
          block c.in_ok-row.row first cell c.in_ok-row.ensures.named c.in_ok-row.ensures.few (c.in_ok-row.ensures.mapped owners forests then) full;
    }
