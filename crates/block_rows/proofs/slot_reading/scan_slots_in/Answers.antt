use Rattle.std.proofs.Common.{◌<◌, ◌≤◌, ◌+◌, ◌-◌, ◌∷◌, [], ◌∙◌, ℕ, IsTrue, None, Some, arith, get_or, refl, subst, sym}
use Rattle.std.proofs.lemmas.List.{get_or_default}
use Rattle.row_page.specs.Row.{row_in}
use Rattle.row_page.specs.RowPage.{rows_of, slot_count}
use Rattle.row_filter.specs.Filtering.{may_filter}
use Rattle.block_rows.specs.Giving.{WasGiven}
use Rattle.block_rows.specs.HeldRows.{HasReadValues, qualifying}
use Rattle.block_rows.proofs.GivingLemmas.{given_none}
use Rattle.block_rows.proofs.MetRowsLemmas.{each_at}
use Rattle.block_rows.proofs.PageRowsLemmas.{empty-view, filled-view}
use Rattle.block_rows.proofs.ReadValuesLemmas.{read-slot}
use Rattle.block_rows.proofs.ScannedSlotsLemmas.{seen_more, seen_none}
use Rattle.block_rows.proofs.slot_reading.scan_slots_in.Goals as goal

pub loop-slot-init : goal.loop-slot-init
loop-slot-init g c = record {
  sees = seen_none g.K.RowSink c.args.shape.now.columns.now c.args.page.now c.args.first.block c.args.first.slot c.args.filter.now.pred.now c.args.sink.now (λ some. absurd (omega (arith, some)));
  within = omega arith;
  fits = c.requires.fits;
  pred = refl;
  width = refl;
}

pub loop-slot-preserved-in_default-row : goal.loop-slot-preserved-in_default-row
loop-slot-preserved-in_default-row g c =
    let columns = c.args.shape.now.columns.now in
    let page = c.args.page.now in
    let seen = c.in-Some.ensures.seen in
    let so = c.loop-slot.invariant in
    let slots = c.args.slots.now in
    let i = c.loop-slot.slot-index in
    let low = c.loop-slot-test.true in
    let first = c.args.first.slot in
    let slot : ℕ = get_or slots i 0 in
    let k : ℕ = slot - first in
    let behind : first ≤ slot = each_at (λ s. first ≤ s) slots i 0 c.requires.on_page.behind low in
    let before : slot < first + slot_count columns = each_at (λ s. s < first + slot_count columns) slots i 0 c.requires.on_page.before low in
    record {
      sees = seen_more g.K.RowSink columns page c.args.first.block first c.args.filter.now.pred.now slots i slot k None c.args.sink.now c.loop-slot.sink c.loop-slot.sink c.loop-slot.count c.loop-slot.count
          (c.in-Some.ensures.starts.0 refl) c.requires.on_page.rise low (get_or_default slots i 0 slot low) (omega (arith, behind))
          (empty-view columns c.in-Some.view.columns.now page c.in-Some.view.page.now seen.0 seen.1 k (omega (arith, behind, before)) c.in_default-row.ensures (rows_of columns page) refl)
          (given_none g.K.RowSink c.loop-slot.sink) (omega arith) so.sees;
      within = omega (arith, so.within);
      fits = so.fits;
      pred = so.pred;
      width = so.width;
    }

pub give_if_taken-requires-clause-read : goal.give_if_taken-requires-clause-read
give_if_taken-requires-clause-read g c =
    let seen = c.in-Some.ensures.seen in
    let row = c.in-Some-row.ensures in
    let is = row_in c.in-Some-row.row.columns.now c.in-Some-row.row.bytes.now in
    subst (λ columns. HasReadValues columns is) (sym (row.1 ∙ seen.1))
    (read-slot c.args.shape.now.columns.now c.in-Some.view.columns.now c.in-Some-row.row.columns.now c.args.page.now c.in-Some.view.page.now c.in-Some-row.row.bytes.now
    (get_or c.args.slots.now c.loop-slot.slot-index 0 - c.args.first.slot) is seen.0 seen.1 row.1 row.2 refl c.fits-page)

pub give_if_taken-requires-clause-judged : goal.give_if_taken-requires-clause-judged
give_if_taken-requires-clause-judged g c =
    let seen = c.in-Some.ensures.seen in
    let row = c.in-Some-row.ensures in
    let is = row_in c.in-Some-row.row.columns.now c.in-Some-row.row.bytes.now in
    subst (λ pred. IsTrue (may_filter pred is.values)) (sym c.loop-slot.invariant.pred)
    (c.requires.judged is
    (read-slot c.args.shape.now.columns.now c.in-Some.view.columns.now c.in-Some-row.row.columns.now c.args.page.now c.in-Some.view.page.now c.in-Some-row.row.bytes.now
    (get_or c.args.slots.now c.loop-slot.slot-index 0 - c.args.first.slot) is seen.0 seen.1 row.1 row.2 refl c.fits-page))

pub loop-slot-preserved : goal.loop-slot-preserved
loop-slot-preserved g c =
    let columns = c.args.shape.now.columns.now in
    let page = c.args.page.now in
    let seen = c.in-Some.ensures.seen in
    let row = c.in-Some-row.ensures in
    let is = row_in c.in-Some-row.row.columns.now c.in-Some-row.row.bytes.now in
    let so = c.loop-slot.invariant in
    let taken = c.in_ok-give_if_taken.ensures in
    let slots = c.args.slots.now in
    let i = c.loop-slot.slot-index in
    let low = c.loop-slot-test.true in
    let first = c.args.first.slot in
    let slot : ℕ = get_or slots i 0 in
    let k : ℕ = slot - first in
    let behind : first ≤ slot = each_at (λ s. first ≤ s) slots i 0 c.requires.on_page.behind low in
    let before : slot < first + slot_count columns = each_at (λ s. s < first + slot_count columns) slots i 0 c.requires.on_page.before low in
    record {
      sees = seen_more g.K.RowSink columns page c.args.first.block first c.args.filter.now.pred.now slots i slot k (Some is) c.args.sink.now c.loop-slot.sink c.give_if_taken.new.sink c.loop-slot.count (c.loop-slot.count + 1)
          (c.in-Some.ensures.starts.0 refl) c.requires.on_page.rise low (get_or_default slots i 0 slot low) (omega (arith, behind))
          (filled-view columns c.in-Some.view.columns.now page c.in-Some.view.page.now seen.0 seen.1 k is c.in-Some-row.row.columns.now c.in-Some-row.row.bytes.now (omega (arith, behind, before)) row.0 row.1 row.2 refl
          (rows_of columns page) refl)
          (subst (λ pred. WasGiven g.K.RowSink c.loop-slot.sink c.give_if_taken.new.sink (qualifying pred (record { rid = record { block = c.args.first.block; slot = slot }; row = is } ∷ []))) so.pred taken.given)
          (omega arith) so.sees;
      within = omega (arith, so.within);
      fits = subst (λ columns. g.K.RowSink.is_for columns c.give_if_taken.new.sink) (row.1 ∙ seen.1) taken.fits;
      pred = taken.pred ∙ so.pred;
      width = taken.width ∙ so.width;
    }
