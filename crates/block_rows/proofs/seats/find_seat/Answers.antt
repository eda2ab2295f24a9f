use Rattle.std.proofs.Common.{◌≡◌, ◌+◌, ◌<◌, ◌≤◌, ◌∙◌, IsTrue, arith, ap, refl, rules}
use Rattle.store_api.specs.Extents.{first_page_of}
use Rattle.store_api.proofs.RunsOverPagesLemmas.{runs_exit}
use Rattle.extent_map.proofs.ExtentsLemmas.{extent_limits}
use Rattle.row_page.specs.RowPage.{slot_count}
use Rattle.row_page.proofs.RowPageLemmas.{slot_count-ge}
use Rattle.mdc_sound.specs.Placing.{IsEmptySlot}
use Rattle.block_rows.proofs.HeldRowsLemmas.{breaks_extent, none_before, runs_page}
use Rattle.block_rows.proofs.SeatsLemmas.{begins_block, full_next, lowest_there}
use Rattle.block_rows.proofs.seats.find_seat.Given.{Over}
use Rattle.block_rows.proofs.seats.find_seat.Goals.{In_ok-first}
use Rattle.block_rows.proofs.seats.find_seat.Goals as goal

-- the number of the first page
first_at : (g : Over) (c : In_ok-first g) → c.in_ok-first.first ≡ first_page_of c.args.shape.extents c.args.shape.extent_pages c.args.block + 0
first_at g c = omega (arith, c.in_ok-first.ensures.first)

-- there is one
some_page : (g : Over) (c : In_ok-first g) → 0 < c.args.shape.extent_pages
some_page g c = omega (arith, (extent_limits c.args.shape).0)

-- it has a slot
some_slot : (g : Over) (c : In_ok-first g) → 0 < slot_count c.args.def.now.columns
some_slot g c = let least : 4 ≤ slot_count c.args.def.now.columns = slot_count-ge c.args.def.now.columns c.requires.columns in omega (arith, least)

pub returns-in_err-first-clause-runs : goal.returns-in_err-first-clause-runs
returns-in_err-first-clause-runs g c = runs_exit c.from_residual.result c.from_residual.ensures.1 (breaks_extent c.in_err-first.ensures.runs)

pub returns-in_err-lead-clause-runs : goal.returns-in_err-lead-clause-runs
returns-in_err-lead-clause-runs g c =
    let is = (goal.at.returns-in_err-lead-clause-runs g c).In_ok-first in
    runs_exit c.from_residual-in_err-lead.result c.from_residual-in_err-lead.ensures.1
    (runs_page g.P.Pages c.args.shape c.args.def.now c.args.block c.in_ok-first.first 0 c.of-row_shape.ensures (first_at g is) c.requires.below (some_page g is) (λ q none. none)
    (breaks_extent c.in_ok-first.ensures.runs) refl c.in_err-lead.ensures.runs)

pub returns-in-Some-clause-seat : goal.returns-in-Some-clause-seat
returns-in-Some-clause-seat g c slots holds =
    let is = (goal.at.returns-in-Some-clause-seat g c).In_ok-first in
    let yes : IsTrue c.in_ok-lead.lead.of_cell = search rules in
    let s = c.args.pages.now in
    record {
      begins = begins_block {g = g.P.Pages} c.args.shape c.args.def.now c.args.block s s c.in_ok-first.first 0 c.of-row_shape.ensures (first_at g is) (some_page g is) refl refl refl (some_slot g is) c.args.row.now
          (c.in_ok-lead.ensures.of_cell yes) slots holds;
      lowest = lowest_there {g = g.P.Pages} c.args.shape c.args.def.now c.args.block s s c.in_ok-first.first 0 c.of-row_shape.ensures (first_at g is) (some_page g is) refl refl
          (λ all held. none_before IsEmptySlot (slot_count c.args.def.now.columns) all) c.in_ok-lead.lead.empty c.in_ok-lead.ensures.lowest c.in-Some.slot c.in-Some.slot c.in-Some.is (omega arith) slots holds;
    }

pub loop-j-init : goal.loop-j-init
loop-j-init g c =
    let is = (goal.at.loop-j-init g c).In_ok-first in
    let s = c.args.pages.now in
    record {
      same = c.in_ok-lead.ensures.same;
      full = full_next {g = g.P.Pages} c.args.shape c.args.def.now c.args.block s s c.in_ok-first.first 0 c.of-row_shape.ensures (first_at g is) (some_page g is) refl refl
          (λ all held. none_before IsEmptySlot (slot_count c.args.def.now.columns) all) c.in_ok-lead.lead.empty c.in_ok-lead.ensures.lowest c.in_default.is;
      runs = runs_page g.P.Pages c.args.shape c.args.def.now c.args.block c.in_ok-first.first 0 c.of-row_shape.ensures (first_at g is) c.requires.below (some_page g is) (λ q none. none)
          (breaks_extent c.in_ok-first.ensures.runs) refl c.in_ok-lead.ensures.runs;
    }

pub returns-in_err-slot-clause-runs : goal.returns-in_err-slot-clause-runs
returns-in_err-slot-clause-runs g c =
    let so = c.loop-j.invariant in
    let at = ap (λ n. n + c.loop-j.j) c.in_ok-first.ensures.first in
    runs_exit c.from_residual-in_err-slot.result c.from_residual-in_err-slot.ensures.1
    (runs_page g.P.Pages c.args.shape c.args.def.now c.args.block (c.in_ok-first.first + c.loop-j.j) c.loop-j.j c.of-row_shape.ensures at c.requires.below c.loop-j-test.true (λ q none. none) so.runs so.same c.in_err-slot.ensures.runs)

pub returns-in-Some-2-clause-seat : goal.returns-in-Some-2-clause-seat
returns-in-Some-2-clause-seat g c slots holds =
    let is = (goal.at.returns-in-Some-2-clause-seat g c).In_ok-first in
    let yes : IsTrue c.in_ok-lead.lead.of_cell = search rules in
    let s = c.args.pages.now in
    let so = c.loop-j.invariant in
    record {
      begins = begins_block {g = g.P.Pages} c.args.shape c.args.def.now c.args.block s s c.in_ok-first.first 0 c.of-row_shape.ensures (first_at g is) (some_page g is) refl refl refl (some_slot g is) c.args.row.now
          (c.in_ok-lead.ensures.of_cell yes) slots holds;
      lowest = lowest_there {g = g.P.Pages} c.args.shape c.args.def.now c.args.block s c.loop-j.pages (c.in_ok-first.first + c.loop-j.j) c.loop-j.j c.of-row_shape.ensures (ap (λ n. n + c.loop-j.j) c.in_ok-first.ensures.first)
          c.loop-j-test.true so.runs.works.steady.is_told so.same so.full c.in_ok-slot.field-0 c.in_ok-slot.ensures.lowest c.in-Some-2.slot (c.first_slot.result + c.in-Some-2.slot) c.in-Some-2.is
          (ap (λ n. n + c.in-Some-2.slot) c.first_slot.ensures.slot) slots holds;
    }

pub returns-in-Some-2-clause-runs : goal.returns-in-Some-2-clause-runs
returns-in-Some-2-clause-runs g c =
    let so = c.loop-j.invariant in
    let at = ap (λ n. n + c.loop-j.j) c.in_ok-first.ensures.first in
    runs_page g.P.Pages c.args.shape c.args.def.now c.args.block (c.in_ok-first.first + c.loop-j.j) c.loop-j.j c.of-row_shape.ensures at c.requires.below c.loop-j-test.true (λ q none. none) so.runs so.same c.in_ok-slot.ensures.runs

pub loop-j-preserved : goal.loop-j-preserved
loop-j-preserved g c =
    let so = c.loop-j.invariant in
    let at = ap (λ n. n + c.loop-j.j) c.in_ok-first.ensures.first in
    record {
      same = c.in_ok-slot.ensures.same ∙ so.same;
      full = full_next {g = g.P.Pages} c.args.shape c.args.def.now c.args.block c.args.pages.now c.loop-j.pages (c.in_ok-first.first + c.loop-j.j) c.loop-j.j c.of-row_shape.ensures at c.loop-j-test.true
          so.runs.works.steady.is_told so.same so.full c.in_ok-slot.field-0 c.in_ok-slot.ensures.lowest c.in_default-2.is;
      runs = runs_page g.P.Pages c.args.shape c.args.def.now c.args.block (c.in_ok-first.first + c.loop-j.j) c.loop-j.j c.of-row_shape.ensures at c.requires.below c.loop-j-test.true (λ q none. none) so.runs so.same
          c.in_ok-slot.ensures.runs;
    }
