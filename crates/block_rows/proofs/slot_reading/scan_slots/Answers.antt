use Rattle.std.proofs.Common.{◌≡◌, ◌+◌, ◌*◌, ◌∙◌, ap, arith, length, length-append, refl, subst, sym}
use Rattle.store_api.proofs.FetchingLemmas.{once_none, once_wider}
use Rattle.store_api.proofs.RunsOverPagesLemmas.{runs_exit}
use Rattle.store_api.specs.StoreState.{page_at}
use Rattle.row_page.specs.RowPage.{slot_count}
use Rattle.mdc_sound.specs.StandingTable.{pages_of}
use Rattle.block_rows.specs.ListedSlots.{AreOnPage, SeesSlotsOfPage}
use Rattle.block_rows.proofs.HeldRowsLemmas.{breaks_extent, runs_page}
use Rattle.block_rows.proofs.ListedSlotsLemmas.{all_left, cut_back, cut_front, front_on_page, next_left}
use Rattle.block_rows.proofs.ScannedSlotsLemmas.{counted_to_end, given_to_end, once_passed, passed_all, passes_more, passes_none}
use Rattle.block_rows.proofs.slot_reading.scan_slots.Goals as goal

pub returns-in_err-first-clause-runs : goal.returns-in_err-first-clause-runs
returns-in_err-first-clause-runs g c = runs_exit c.from_residual.result c.from_residual.ensures.1 (breaks_extent c.in_err-first.ensures.runs)

pub loop-j-init : goal.loop-j-init
loop-j-init g c = record {
  left = all_left c.args.slots.now _ (omega arith) c.requires.rise;
  passes = λ told. passes_none c.args.shape c.args.def.now c.args.block c.args.slots.now g.K.RowSink (pages_of g.P.Pages c.args.pages.now) c.args.filter.now.pred.now c.args.sink.now;
  within = omega arith;
  fits = c.requires.fits;
  pred = refl;
  width = refl;
  same = refl;
  once = once_none;
  runs = breaks_extent c.in_ok-first.ensures.runs;
}

pub scan_slots_of_page-requires-clause-on_page : goal.scan_slots_of_page-requires-clause-on_page
scan_slots_of_page-requires-clause-on_page g c =
    let so = c.loop-j.invariant in
    let j = c.loop-j.j in
    let of = c.of-row_shape.ensures in
    let here = c.split_at.result.0.now in
    let behind = c.split_at.result.1.now in
    let width = slot_count c.args.def.now.columns in
    let bound : c.first_slot-slot.result + c.slots.result ≡ j * width + width = omega (arith, c.first_slot-slot.ensures.slot, c.slots.ensures.value, ap (λ k. j * slot_count k) of, ap slot_count of) in
    let below = cut_front c.loop-j.left.now here c.count_below.result _ _ c.split_at.ensures.front bound c.count_below.ensures.below in
    let first_is : c.first_slot-slot.result ≡ j * width = c.first_slot-slot.ensures.slot ∙ ap (λ k. j * slot_count k) of in
    subst (λ k. AreOnPage c.first_slot-slot.result (slot_count k) here) (sym of)
    (subst (λ n. AreOnPage n width here) (sym first_is) (front_on_page so.left width here behind c.split_at.ensures.by_index.0 below))

pub loop-j-preserved : goal.loop-j-preserved
loop-j-preserved g c =
    let so = c.loop-j.invariant in
    let j = c.loop-j.j in
    let of = c.of-row_shape.ensures in
    let here = c.split_at.result.0.now in
    let behind = c.split_at.result.1.now in
    let width = slot_count c.args.def.now.columns in
    let bound : c.first_slot-slot.result + c.slots.result ≡ j * width + width = omega (arith, c.first_slot-slot.ensures.slot, c.slots.ensures.value, ap (λ k. j * slot_count k) of, ap slot_count of) in
    let below = cut_front c.loop-j.left.now here c.count_below.result _ _ c.split_at.ensures.front bound c.count_below.ensures.below in
    let rest = cut_back c.loop-j.left.now behind c.count_below.result _ _ c.split_at.ensures.back bound c.count_below.ensures.behind in
    let at = ap (λ n. n + j) c.in_ok-first.ensures.first in
    let p = c.in_ok-first.first + j in
    let first = c.first_slot-slot.result in
    let columns = c.of-row_shape.result.columns.now in
    let scanned = c.in_ok-more.ensures in
    let Sees : _ → _ → _ = λ work pred. SeesSlotsOfPage g.K.RowSink columns (page_at work p) c.args.block first here pred c.loop-j.sink c.scan_slots_of_page.new.sink c.in_ok-more.more in
    record {
      left = next_left so.left width here behind c.split_at.ensures.by_index.0 below rest _ (omega arith);
      passes = λ told.
          passes_more c.args.shape c.args.def.now c.args.block c.args.slots.now j c.loop-j-test.true so.left here behind c.split_at.ensures.by_index.0 below rest g.K.RowSink (pages_of g.P.Pages c.args.pages.now)
          c.args.filter.now.pred.now columns p first c.args.sink.now c.loop-j.sink c.scan_slots_of_page.new.sink c.loop-j.count c.in_ok-more.more (c.loop-j.count + c.in_ok-more.more) of at c.first_slot-slot.ensures.slot refl (so.passes told)
          (subst (Sees (g.P.Pages.state c.args.pages.now).work) so.pred
          (subst (λ work. Sees work c.loop-j.filter.pred.now) so.same (scanned.sees (so.runs.works.steady.is_told ∙ told))));
      within = omega (arith, so.within, scanned.within, ap length c.split_at.ensures.by_index.0, length-append here behind);
      fits = subst (λ columns. g.K.RowSink.is_for columns c.scan_slots_of_page.new.sink) of scanned.fits;
      pred = scanned.pred ∙ so.pred;
      width = scanned.width ∙ so.width;
      same = scanned.same ∙ so.same;
      once = once_passed c.args.shape c.args.def.now c.args.block c.args.slots.now j c.loop-j-test.true so.left here behind c.split_at.ensures.by_index.0 below rest p at so.once scanned.once;
      runs = runs_page g.P.Pages c.args.shape c.args.def.now c.args.block p j of at c.requires.below c.loop-j-test.true (λ q none. none) so.runs so.same scanned.runs;
    }

pub returns-in_err-more-clause-once : goal.returns-in_err-more-clause-once
returns-in_err-more-clause-once g c =
    let so = c.loop-j.invariant in
    let j = c.loop-j.j in
    let of = c.of-row_shape.ensures in
    let here = c.split_at.result.0.now in
    let behind = c.split_at.result.1.now in
    let width = slot_count c.args.def.now.columns in
    let bound : c.first_slot-slot.result + c.slots.result ≡ j * width + width = omega (arith, c.first_slot-slot.ensures.slot, c.slots.ensures.value, ap (λ k. j * slot_count k) of, ap slot_count of) in
    let below = cut_front c.loop-j.left.now here c.count_below.result _ _ c.split_at.ensures.front bound c.count_below.ensures.below in
    let rest = cut_back c.loop-j.left.now behind c.count_below.result _ _ c.split_at.ensures.back bound c.count_below.ensures.behind in
    let at = ap (λ n. n + j) c.in_ok-first.ensures.first in
    once_wider
    (once_passed c.args.shape c.args.def.now c.args.block c.args.slots.now j c.loop-j-test.true so.left here behind c.split_at.ensures.by_index.0 below rest (c.in_ok-first.first + j) at so.once c.in_err-more.ensures.once)
    (λ q is. is.0)

pub returns-in_err-more-clause-runs : goal.returns-in_err-more-clause-runs
returns-in_err-more-clause-runs g c =
    let so = c.loop-j.invariant in
    let at = ap (λ n. n + c.loop-j.j) c.in_ok-first.ensures.first in
    runs_exit c.from_residual-in_err-more.result c.from_residual-in_err-more.ensures.1
    (runs_page g.P.Pages c.args.shape c.args.def.now c.args.block (c.in_ok-first.first + c.loop-j.j) c.loop-j.j c.of-row_shape.ensures at c.requires.below c.loop-j-test.true (λ q none. none) so.runs so.same c.in_err-more.ensures.runs)

pub returns-clause-given : goal.returns-clause-given
returns-clause-given g c = λ told.
    given_to_end c.args.shape c.args.def.now c.args.block c.args.slots.now g.K.RowSink (pages_of g.P.Pages c.args.pages.now) c.args.filter.now.pred.now c.loop-j.j c.args.sink.now c.loop-j.sink c.loop-j.count
    c.loop-j-test.false (c.loop-j.invariant.passes told)

pub returns-clause-counted : goal.returns-clause-counted
returns-clause-counted g c = λ told.
    counted_to_end c.args.shape c.args.def.now c.args.block c.args.slots.now g.K.RowSink (pages_of g.P.Pages c.args.pages.now) c.args.filter.now.pred.now c.loop-j.j c.args.sink.now c.loop-j.sink c.loop-j.count
    c.loop-j-test.false (c.loop-j.invariant.passes told)

pub returns-clause-seen : goal.returns-clause-seen
returns-clause-seen g c = λ told.
    passed_all c.args.shape c.args.def.now c.args.block c.args.slots.now g.K.RowSink (pages_of g.P.Pages c.args.pages.now) c.args.filter.now.pred.now c.loop-j.j c.args.sink.now c.loop-j.sink c.loop-j.count
    c.loop-j-test.false (c.loop-j.invariant.passes told) c.in_ok-first.ensures.there

pub returns-clause-once : goal.returns-clause-once
returns-clause-once g c = once_wider c.loop-j.invariant.once (λ q is. is.0)
