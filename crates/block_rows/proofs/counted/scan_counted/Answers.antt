use Rattle.std.proofs.Common.{◌≤◌, ◌+◌, ◌*◌, ◌∙◌, IsTrue, ap, arith, inl, inr, refl, subst, sym}
use Rattle.std.specs.Prelude.{◌⊎◌}
use Rattle.store_api.proofs.FetchingLemmas.{once_none, once_wider}
use Rattle.store_api.proofs.RunsOverPagesLemmas.{runs_exit}
use Rattle.store_api.specs.StoreState.{page_at}
use Rattle.row_page.specs.RowPage.{slot_count}
use Rattle.row_filter.specs.Filtering.{may_filter}
use Rattle.mdc_sound.specs.StandingTable.{pages_of}
use Rattle.block_rows.specs.CellColumns.{AreCellColumns, places_of}
use Rattle.block_rows.specs.HeldRows.{HasReadValues}
use Rattle.block_rows.specs.SeenRows.{SeesPage}
use Rattle.block_rows.proofs.CountedRowsLemmas.{AreFewBefore, counted_between, counted_page, counted_whole, few_more, few_none, given_counted, in_cell_counted, seen_counted}
use Rattle.block_rows.proofs.HeldRowsLemmas.{breaks_extent, once_more, runs_on_page}
use Rattle.block_rows.proofs.MetRowsLemmas.{met_none}
use Rattle.block_rows.proofs.SeenPagesLemmas.{sees_more, sees_none}
use Rattle.block_rows.proofs.counted.scan_counted.Given.{Over}
use Rattle.block_rows.proofs.counted.scan_counted.Goals.{else-loop-j-test, then-loop-j-test+then-met-from}
use Rattle.block_rows.proofs.counted.scan_counted.Goals as goal

-- the loop ended where so many rows were met, or behind the last page
enough : (g : Over) (c : goal.Joined-met-2 g) → (c.args.rows ≤ c.loop-j.met.rows) ⊎ (c.args.shape.extent_pages ≤ c.loop-j.j)
enough g c = elim c.loop-j-test.branch [ else-loop-j-test w ↦ inr w.loop-j-test.false | then-loop-j-test+then-met-from w ↦ inl (omega (arith, w.if-met-from.true, w.from.ensures)) ]

pub returns-in_err-first-clause-whole : goal.returns-in_err-first-clause-whole
returns-in_err-first-clause-whole g c = counted_whole c.args.shape (pages_of g.P.Pages c.args.pages.now) c.args.def.now c.args.block c.args.rows

pub returns-in_err-scan_page-clause-whole : goal.returns-in_err-scan_page-clause-whole
returns-in_err-scan_page-clause-whole g c = counted_whole c.args.shape (pages_of g.P.Pages c.args.pages.now) c.args.def.now c.args.block c.args.rows

pub returns-clause-whole : goal.returns-clause-whole
returns-clause-whole g c = counted_whole c.args.shape (pages_of g.P.Pages c.args.pages.now) c.args.def.now c.args.block c.args.rows

pub returns-in_err-first-clause-runs : goal.returns-in_err-first-clause-runs
returns-in_err-first-clause-runs g c = runs_exit c.from_residual.result c.from_residual.ensures.1 (breaks_extent c.in_err-first.ensures.runs)

pub loop-j-init : goal.loop-j-init
loop-j-init g c =
    let none = c.none-met.ensures in
    record {
      same = refl;
      sees = λ told. sees_none c.args.shape (pages_of g.P.Pages c.args.pages.now) c.args.def.now c.args.block g.K.RowSink (places_of c.args.cells.now.columns.items) c.args.cell.now c.args.filter.now.pred.now c.args.sink.now c.none-met.result
          (met_none (places_of c.args.cells.now.columns.items) c.args.cell.now c.none-met.result none.rows none.first none.in_cell);
      before = λ told. few_none c.args.shape (pages_of g.P.Pages c.args.pages.now) c.args.def.now c.args.block c.args.rows;
      few = omega (arith, none.rows);
      fits = c.requires.fits;
      pred = refl;
      width = refl;
      once = once_none;
      runs = breaks_extent c.in_ok-first.ensures.runs;
    }

pub scan_page-requires-clause-few : goal.scan_page-requires-clause-few
scan_page-requires-clause-few g c = omega (arith, c.loop-j.invariant.few, c.first_slot-slot.ensures.slot, ap (λ k. c.loop-j.j * slot_count k) c.of-row_shape.ensures)

pub scan_page-requires-clause-are : goal.scan_page-requires-clause-are
scan_page-requires-clause-are g c = subst (λ columns. AreCellColumns columns c.args.cells.now) (sym c.of-row_shape.ensures) c.requires.are

pub scan_page-requires-clause-fits : goal.scan_page-requires-clause-fits
scan_page-requires-clause-fits g c = subst (λ columns. g.K.RowSink.is_for columns c.loop-j.sink) (sym c.of-row_shape.ensures) c.loop-j.invariant.fits

pub scan_page-requires-clause-judged : goal.scan_page-requires-clause-judged
scan_page-requires-clause-judged g c = λ row read.
    subst (λ pred. IsTrue (may_filter pred row.values)) (sym c.loop-j.invariant.pred) (c.requires.judged row (subst (λ columns. HasReadValues columns row) c.of-row_shape.ensures read))

pub loop-j-preserved : goal.loop-j-preserved
loop-j-preserved g c =
    let so = c.loop-j.invariant in
    let scanned = c.in_ok-scan_page.ensures in
    let at = ap (λ n. n + c.loop-j.j) c.in_ok-first.ensures.first in
    let places : _ = places_of c.args.cells.now.columns.items in
    let pages : _ = pages_of g.P.Pages c.args.pages.now in
    let before : IsTrue (g.P.Pages.state c.args.pages.now).is_told → AreFewBefore c.args.shape pages c.args.def.now c.args.block c.args.rows (c.loop-j.j + 1) =
    λ told. few_more c.args.shape pages c.args.def.now c.args.block c.args.rows c.loop-j.j c.loop-j.met.rows (so.before told) (so.sees told).met.counted (omega (arith, c.if-met-from.false, c.from.ensures)) in
    record {
      same = scanned.same ∙ so.same;
      sees = λ told.
          sees_more c.args.shape pages c.args.def.now c.args.block g.K.RowSink places c.args.cell.now c.args.filter.now.pred.now c.of-row_shape.result.columns.now
          (c.in_ok-first.first + c.loop-j.j) c.loop-j.j c.first_slot-slot.result c.args.sink.now c.loop-j.sink c.scan_page.new.sink c.loop-j.met c.scan_page.new.met
          c.of-row_shape.ensures at c.loop-j-test.true c.first_slot-slot.ensures.slot (so.sees told)
          (subst (λ pred. SeesPage g.K.RowSink c.of-row_shape.result.columns.now places c.args.cell.now (page_at pages (c.in_ok-first.first + c.loop-j.j)) c.args.block c.first_slot-slot.result pred
          c.loop-j.sink c.scan_page.new.sink c.loop-j.met c.scan_page.new.met) so.pred
          (subst (λ work. SeesPage g.K.RowSink c.of-row_shape.result.columns.now places c.args.cell.now (page_at work (c.in_ok-first.first + c.loop-j.j)) c.args.block c.first_slot-slot.result c.loop-j.filter.pred.now
          c.loop-j.sink c.scan_page.new.sink c.loop-j.met c.scan_page.new.met) so.same
          (scanned.sees (so.runs.works.steady.is_told ∙ told))));
      before = before;
      few = omega (arith, scanned.few, c.first_slot-slot.ensures.slot, ap (λ k. (c.loop-j.j + 1) * slot_count k) c.of-row_shape.ensures);
      fits = subst (λ columns. g.K.RowSink.is_for columns c.scan_page.new.sink) c.of-row_shape.ensures scanned.fits;
      pred = scanned.pred ∙ so.pred;
      width = scanned.width ∙ so.width;
      once = once_more g.P.Pages c.args.shape c.args.def.now c.args.block (c.in_ok-first.first + c.loop-j.j) c.loop-j.j at so.once scanned.once (λ q between. between);
      runs = runs_on_page g.P.Pages c.args.shape c.args.def.now c.args.block (c.in_ok-first.first + c.loop-j.j) c.loop-j.j c.of-row_shape.ensures at c.requires.below c.loop-j-test.true (λ q none. none)
          (counted_page g.P.Pages c.args.shape c.args.pages.now c.args.def.now c.args.block c.args.rows c.loop-j.j c.requires.below (c.in_ok-first.first + c.loop-j.j) at c.loop-j-test.true before) so.runs so.same scanned.runs;
    }

pub returns-in_err-scan_page-clause-once : goal.returns-in_err-scan_page-clause-once
returns-in_err-scan_page-clause-once g c =
    let so = c.loop-j.invariant in
    let at = ap (λ n. n + c.loop-j.j) c.in_ok-first.ensures.first in
    let pages : _ = pages_of g.P.Pages c.args.pages.now in
    once_more g.P.Pages c.args.shape c.args.def.now c.args.block (c.in_ok-first.first + c.loop-j.j) c.loop-j.j at so.once c.in_err-scan_page.ensures.once
    (counted_between g.P.Pages c.args.shape c.args.pages.now c.args.def.now c.args.block c.args.rows (c.loop-j.j + 1) c.requires.below (omega (arith, c.loop-j-test.true))
    (λ told. few_more c.args.shape pages c.args.def.now c.args.block c.args.rows c.loop-j.j c.loop-j.met.rows (so.before told) (so.sees told).met.counted (omega (arith, c.if-met-from.false, c.from.ensures))))

pub returns-in_err-scan_page-clause-runs : goal.returns-in_err-scan_page-clause-runs
returns-in_err-scan_page-clause-runs g c =
    let so = c.loop-j.invariant in
    let at = ap (λ n. n + c.loop-j.j) c.in_ok-first.ensures.first in
    let pages : _ = pages_of g.P.Pages c.args.pages.now in
    runs_exit c.from_residual-in_err-scan_page.result c.from_residual-in_err-scan_page.ensures.1
    (runs_on_page g.P.Pages c.args.shape c.args.def.now c.args.block (c.in_ok-first.first + c.loop-j.j) c.loop-j.j c.of-row_shape.ensures at c.requires.below c.loop-j-test.true (λ q none. none)
    (counted_page g.P.Pages c.args.shape c.args.pages.now c.args.def.now c.args.block c.args.rows c.loop-j.j c.requires.below (c.in_ok-first.first + c.loop-j.j) at c.loop-j-test.true
    (λ told. few_more c.args.shape pages c.args.def.now c.args.block c.args.rows c.loop-j.j c.loop-j.met.rows (so.before told) (so.sees told).met.counted (omega (arith, c.if-met-from.false, c.from.ensures)))) so.runs so.same c.in_err-scan_page.ensures.runs)

pub returns-clause-given : goal.returns-clause-given
returns-clause-given g c told =
    given_counted c.args.shape (pages_of g.P.Pages c.args.pages.now) c.args.def.now c.args.block g.K.RowSink (places_of c.args.cells.now.columns.items) c.args.cell.now c.args.filter.now.pred.now c.args.rows c.loop-j.j
    c.args.sink.now c.loop-j.sink c.loop-j.met c.loop-j.auto.j-end (c.loop-j.invariant.before told) (enough g c) (c.loop-j.invariant.sees told)

pub returns-clause-seen : goal.returns-clause-seen
returns-clause-seen g c told =
    seen_counted c.args.shape (pages_of g.P.Pages c.args.pages.now) c.args.def.now c.args.block g.K.RowSink (places_of c.args.cells.now.columns.items) c.args.cell.now c.args.filter.now.pred.now c.args.rows c.loop-j.j
    c.args.sink.now c.loop-j.sink c.loop-j.met c.loop-j.auto.j-end (c.loop-j.invariant.before told) (enough g c) (c.loop-j.invariant.sees told) c.in_ok-first.ensures.there

pub returns-clause-in_cell : goal.returns-clause-in_cell
returns-clause-in_cell g c told =
    in_cell_counted c.args.shape (pages_of g.P.Pages c.args.pages.now) c.args.def.now c.args.block g.K.RowSink (places_of c.args.cells.now.columns.items) c.args.cell.now c.args.filter.now.pred.now c.args.rows c.loop-j.j
    c.args.sink.now c.loop-j.sink c.loop-j.met c.loop-j.auto.j-end (c.loop-j.invariant.before told) (enough g c) (c.loop-j.invariant.sees told)

pub returns-clause-once : goal.returns-clause-once
returns-clause-once g c =
    once_wider c.loop-j.invariant.once
    (counted_between g.P.Pages c.args.shape c.args.pages.now c.args.def.now c.args.block c.args.rows c.loop-j.j c.requires.below c.loop-j.auto.j-end c.loop-j.invariant.before)
