use Rattle.std.proofs.Common.{◌+◌, ◌<◌, ◌∙◌, IfSome, ap, refl, subst}
use Rattle.store_api.proofs.RunsOverPagesLemmas.{runs_exit}
use Rattle.row_page.specs.RowPage.{slot_count}
use Rattle.mdc_sound.specs.Placing.{IsEmptySlot}
use Rattle.block_rows.proofs.HeldRowsLemmas.{breaks_extent, full_block, full_more, none_before, only_page_of_block, puts_in_block, runs_page}
use Rattle.block_rows.proofs.changing.put_first.Goals as goal

pub returns-in_err-first-clause-runs : goal.returns-in_err-first-clause-runs
returns-in_err-first-clause-runs g c = runs_exit c.from_residual.result c.from_residual.ensures.1 (breaks_extent c.in_err-first.ensures.runs)

pub loop-j-init : goal.loop-j-init
loop-j-init g c = record { same = refl; full = λ slots holds. none_before IsEmptySlot (slot_count c.args.def.now.columns) slots; runs = breaks_extent c.in_ok-first.ensures.runs }

pub loop-j-preserved : goal.loop-j-preserved
loop-j-preserved g c =
    let so = c.loop-j.invariant in
    let at = ap (λ n. n + c.loop-j.j) c.in_ok-first.ensures.first in
    record {
      same = c.in_ok-slot.ensures.none c.in_default.is ∙ so.same;
      full = full_more g.P.Pages c.args.shape c.args.def.now c.args.block c.args.pages.now c.loop-j.pages c.put_first_in_page.new.pages (c.in_ok-first.first + c.loop-j.j) c.loop-j.j c.args.row.now
          c.of-row_shape.ensures at c.loop-j-test.true so.runs.works.steady.is_told so.same so.full c.in_ok-slot.field-0 c.in_default.is c.in_ok-slot.ensures.puts;
      runs = runs_page g.P.Pages c.args.shape c.args.def.now c.args.block (c.in_ok-first.first + c.loop-j.j) c.loop-j.j c.of-row_shape.ensures at c.requires.below c.loop-j-test.true
          (λ q is. only_page_of_block c.args.shape c.args.block q c.loop-j.j c.requires.below c.loop-j-test.true (is ∙ at)) so.runs so.same c.in_ok-slot.ensures.runs;
    }

pub returns-in_err-slot-clause-runs : goal.returns-in_err-slot-clause-runs
returns-in_err-slot-clause-runs g c =
    let so = c.loop-j.invariant in
    let at = ap (λ n. n + c.loop-j.j) c.in_ok-first.ensures.first in
    runs_exit c.from_residual-in_err-slot.result c.from_residual-in_err-slot.ensures.1
    (runs_page g.P.Pages c.args.shape c.args.def.now c.args.block (c.in_ok-first.first + c.loop-j.j) c.loop-j.j c.of-row_shape.ensures at c.requires.below c.loop-j-test.true
    (λ q is. only_page_of_block c.args.shape c.args.block q c.loop-j.j c.requires.below c.loop-j-test.true (is ∙ at)) so.runs so.same c.in_err-slot.ensures.runs)

pub returns-in-Some-clause-puts : goal.returns-in-Some-clause-puts
returns-in-Some-clause-puts g c =
    let so = c.loop-j.invariant in
    let at = ap (λ n. n + c.loop-j.j) c.in_ok-first.ensures.first in
    puts_in_block g.P.Pages c.args.shape c.args.def.now c.args.block c.args.pages.now c.loop-j.pages c.put_first_in_page.new.pages (c.in_ok-first.first + c.loop-j.j) c.loop-j.j c.args.row.now
    c.of-row_shape.ensures at c.loop-j-test.true so.runs.works.steady.is_told so.same so.full c.in_ok-slot.field-0 c.in-Some.slot (c.first_slot.result + c.in-Some.slot) c.in-Some.is
    (ap (λ n. n + c.in-Some.slot) c.first_slot.ensures.slot)
    (subst (λ found. IfSome found (λ slot. slot < slot_count c.of-row_shape.result.columns.now)) c.in-Some.is c.in_ok-slot.ensures.below) c.in_ok-slot.ensures.runs c.in_ok-slot.ensures.count c.in_ok-slot.ensures.puts

pub returns-in-Some-clause-runs : goal.returns-in-Some-clause-runs
returns-in-Some-clause-runs g c =
    let so = c.loop-j.invariant in
    let at = ap (λ n. n + c.loop-j.j) c.in_ok-first.ensures.first in
    runs_page g.P.Pages c.args.shape c.args.def.now c.args.block (c.in_ok-first.first + c.loop-j.j) c.loop-j.j c.of-row_shape.ensures at c.requires.below c.loop-j-test.true
    (λ q is. only_page_of_block c.args.shape c.args.block q c.loop-j.j c.requires.below c.loop-j-test.true (is ∙ at)) so.runs so.same c.in_ok-slot.ensures.runs

pub returns-clause-puts : goal.returns-clause-puts
returns-clause-puts g c = λ slots holds.
    let so = c.loop-j.invariant in
    (full_block g.P.Pages c.args.shape c.args.def.now c.args.block c.loop-j.j slots c.loop-j-test.false holds (so.full slots holds), so.same)
