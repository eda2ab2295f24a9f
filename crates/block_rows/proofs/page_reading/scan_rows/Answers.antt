use Rattle.std.proofs.Common.{◌≡◌, ◌+◌, ◌++◌, ◌∷◌, [], ◌∙◌, List, IsTrue, ap, append-nil, append_assoc, arith, length, length-append, refl, subst, sym, take}
use Rattle.std.specs.List.{AllByRecursion}
use Rattle.row_page.specs.Row.{row_in}
use Rattle.row_page.specs.RowPage.{rows_of, slot_bytes, slot_count}
use Rattle.row_filter.specs.Filtering.{may_filter}
use Rattle.mdc_sound.specs.TableRows.{PlacedRow, rows_from_slot}
use Rattle.mdc_sound.proofs.SlotRowsLemmas.{length-rows_from_slot}
use Rattle.block_rows.specs.CellColumns.{places_of}
use Rattle.block_rows.specs.Giving.{WasGiven}
use Rattle.block_rows.specs.HeldRows.{HasReadValues, qualifying}
use Rattle.block_rows.specs.PageRows.{IsFaultOfBytes}
use Rattle.block_rows.specs.SeenRows.{HasMet}
use Rattle.block_rows.proofs.GivingLemmas.{given_more_qualifying, given_none}
use Rattle.block_rows.proofs.MetRowsLemmas.{each_append, last_met, last_none, met_more}
use Rattle.block_rows.proofs.PageRowsLemmas.{ends-view, next-view, seen-view, unheaded-view}
use Rattle.block_rows.proofs.ReadValuesLemmas.{read-slot}
use Rattle.block_rows.proofs.page_reading.scan_rows.Goals as goal

pub slots-init : goal.slots-init
slots-init g c = record {
  within = omega arith;
  given_rows = given_none g.K.RowSink c.args.sink.now;
  read = tt;
  counted = omega arith;
  few = omega (arith, c.requires.few);
  meets = λ rows has. subst (HasMet (places_of c.args.cells.now.columns.items) c.args.given.now c.args.met.now) (sym (append-nil rows)) has;
  last = last_none (places_of c.args.cells.now.columns.items) c.args.shape.now.columns.now c.args.given.now c.args.met.now.first c.args.met.now.in_cell _ (omega arith);
  fits = c.requires.fits;
  pred = refl;
  width = refl;
}

pub give_if_taken-requires-clause-read : goal.give_if_taken-requires-clause-read
give_if_taken-requires-clause-read g c =
    let seen = c.in-Some.ensures.seen in
    let row = c.filled_row-row.ensures in
    let is = row_in c.filled_row-row.result.columns.now c.filled_row-row.result.bytes.now in
    subst (λ columns. HasReadValues columns is) (sym (row.columns ∙ seen.1))
    (read-slot c.args.shape.now.columns.now c.in-Some.view.columns.now c.filled_row-row.result.columns.now c.args.page.now c.in-Some.view.page.now c.filled_row-row.result.bytes.now c.in-Some-next_filled.slot is
    seen.0 seen.1 row.columns row.bytes refl c.fits-page)

pub give_if_taken-requires-clause-judged : goal.give_if_taken-requires-clause-judged
give_if_taken-requires-clause-judged g c =
    let seen = c.in-Some.ensures.seen in
    let row = c.filled_row-row.ensures in
    let is = row_in c.filled_row-row.result.columns.now c.filled_row-row.result.bytes.now in
    subst (λ pred. IsTrue (may_filter pred is.values)) (sym c.slots.invariant.pred)
    (c.requires.judged is
    (read-slot c.args.shape.now.columns.now c.in-Some.view.columns.now c.filled_row-row.result.columns.now c.args.page.now c.in-Some.view.page.now c.filled_row-row.result.bytes.now c.in-Some-next_filled.slot is
    seen.0 seen.1 row.columns row.bytes refl c.fits-page))

pub give_if_taken-requires-clause-fits : goal.give_if_taken-requires-clause-fits
give_if_taken-requires-clause-fits g c =
    subst (λ columns. g.K.RowSink.is_for columns c.slots.sink) (sym (c.filled_row-row.ensures.columns ∙ c.in-Some.ensures.seen.1)) c.slots.invariant.fits

pub slots-preserved : goal.slots-preserved
slots-preserved g c =
    let columns = c.args.shape.now.columns.now in
    let seen = c.in-Some.ensures.seen in
    let row = c.filled_row-row.ensures in
    let so = c.slots.invariant in
    let taken = c.in_ok-give_if_taken.ensures in
    let places : List _ = places_of c.args.cells.now.columns.items in
    let is = row_in c.filled_row-row.result.columns.now c.filled_row-row.result.bytes.now in
    let next : PlacedRow = record { rid = record { block = c.args.first.block; slot = c.args.first.slot + c.in-Some-next_filled.slot }; row = is } in
    let so_far = rows_from_slot c.args.first.block c.args.first.slot (take c.slots.from (rows_of columns c.args.page.now)) in
    let more : rows_from_slot c.args.first.block c.args.first.slot (take (c.in-Some-next_filled.slot + 1) (rows_of columns c.args.page.now)) ≡ so_far ++ next ∷ [] =
    next-view columns c.in-Some.view.columns.now c.args.page.now c.in-Some.view.page.now seen.0 seen.1
    c.args.first.block c.args.first.slot c.slots.from c.in-Some-next_filled.slot c.filled_row-row.result.columns.now c.filled_row-row.result.bytes.now so.within
    c.in-Some-next_filled.ensures row.columns row.bytes in
    let read : HasReadValues columns is =
    read-slot columns c.in-Some.view.columns.now c.filled_row-row.result.columns.now c.args.page.now c.in-Some.view.page.now c.filled_row-row.result.bytes.now c.in-Some-next_filled.slot is
    seen.0 seen.1 row.columns row.bytes refl c.fits-page in
    record {
      within = omega (arith, c.in-Some-next_filled.ensures.1, ap slot_count seen.1);
      given_rows = subst (λ rows. WasGiven g.K.RowSink c.args.sink.now c.give_if_taken.new.sink (qualifying c.args.filter.now.pred.now rows)) (sym more)
          (given_more_qualifying g.K.RowSink c.args.filter.now.pred.now c.args.sink.now c.slots.sink c.give_if_taken.new.sink so_far (next ∷ []) so.given_rows
          (subst (λ pred. WasGiven g.K.RowSink c.slots.sink c.give_if_taken.new.sink (qualifying pred (next ∷ []))) so.pred taken.given));
      read = subst (AllByRecursion (λ placed. HasReadValues columns placed.row)) (sym more) (each_append (λ placed. HasReadValues columns placed.row) so_far (next ∷ []) so.read (read, tt));
      counted = omega (arith, c.in_ok-meet.ensures.counted, so.counted, ap length more, length-append so_far (next ∷ []));
      few = omega (arith, c.in_ok-meet.ensures.counted, so.few, c.in-Some-next_filled.ensures.0);
      meets = λ rows has.
          subst (HasMet places c.args.given.now c.meet.new.self) (append_assoc rows so_far (next ∷ []) ∙ ap (λ l. rows ++ l) (sym more))
          (met_more places c.args.given.now c.slots.met c.meet.new.self (rows ++ so_far) next c.in_ok-meet.ensures.counted c.in_ok-meet.ensures.meets (so.meets rows has));
      last = last_met places columns c.filled_row-row.result.columns.now c.args.given.now c.slots.met.first c.meet.new.self.first c.slots.met.in_cell c.meet.new.self.in_cell
          c.bytes_of_slot-bytes.result.now c.filled_row-row.result.bytes.now (row.columns ∙ seen.1)
          (c.bytes_of_slot-bytes.ensures.bytes ∙ (ap (λ page. slot_bytes columns page c.in-Some-next_filled.slot) (sym seen.0) ∙ (ap (λ cs. slot_bytes cs c.in-Some.view.page.now c.in-Some-next_filled.slot) (sym seen.1) ∙ sym row.bytes)))
          c.in_ok-meet.ensures.meets;
      fits = subst (λ columns. g.K.RowSink.is_for columns c.give_if_taken.new.sink) (row.columns ∙ seen.1) taken.fits;
      pred = taken.pred ∙ so.pred;
      width = taken.width ∙ so.width;
    }

pub returns-then-met-rows_before-clause-refuses : goal.returns-then-met-rows_before-clause-refuses
returns-then-met-rows_before-clause-refuses g c =
    let columns = c.args.shape.now.columns.now in
    let seen = c.in-Some.ensures.seen in
    let so = c.slots.invariant in
    let all = ends-view columns c.in-Some.view.columns.now c.args.page.now c.in-Some.view.page.now seen.0 seen.1
    c.args.first.block c.args.first.slot c.slots.from so.within c.in_default-next_filled.ensures in
    let rows = rows_from_slot c.args.first.block c.args.first.slot (rows_of columns c.args.page.now) in
    subst (IsFaultOfBytes columns c.args.page.now c.args.p) (sym c.no_row_page-then-met-rows_before.ensures) (record {
      page = refl;
      rule = refl;
      no_rows = unheaded-view columns c.in-Some.view.columns.now c.args.page.now c.in-Some.view.page.now seen.0 seen.1 c.rows.result (length rows) c.rows.ensures.counted
          (length-rows_from_slot c.args.first.block c.args.first.slot (rows_of columns c.args.page.now))
          (λ equal. c.if-met-rows_before.true (omega (arith, equal, c.from.ensures, so.counted, ap length all)));
    })

pub returns-clause-sees : goal.returns-clause-sees
returns-clause-sees g c =
    let columns = c.args.shape.now.columns.now in
    let seen = c.in-Some.ensures.seen in
    let so = c.slots.invariant in
    let all = ends-view columns c.in-Some.view.columns.now c.args.page.now c.in-Some.view.page.now seen.0 seen.1
    c.args.first.block c.args.first.slot c.slots.from so.within c.in_default-next_filled.ensures in
    let rows = rows_from_slot c.args.first.block c.args.first.slot (rows_of columns c.args.page.now) in
    record {
      form = seen-view columns c.in-Some.view.columns.now c.args.page.now c.in-Some.view.page.now seen.0 seen.1 c.rows.result (length rows) (c.in-Some.ensures.starts.0 refl) c.rows.ensures.stated
          (length-rows_from_slot c.args.first.block c.args.first.slot (rows_of columns c.args.page.now)) (omega (arith, c.if-met-rows_before.false, c.from.ensures, so.counted, ap length all));
      read = subst (AllByRecursion (λ placed. HasReadValues columns placed.row)) all so.read;
      given_rows = subst (λ rows. WasGiven g.K.RowSink c.args.sink.now c.slots.sink (qualifying c.args.filter.now.pred.now rows)) all so.given_rows;
      meets = λ before has. subst (λ l. HasMet (places_of c.args.cells.now.columns.items) c.args.given.now c.slots.met (before ++ l)) all (so.meets before has);
    }
