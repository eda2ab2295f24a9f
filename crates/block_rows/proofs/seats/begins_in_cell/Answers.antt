use Rattle.std.proofs.Common.{◌<◌, ◌≤◌, arith, ap, refl, sym}
use Rattle.row_page.specs.Row.{row_in}
use Rattle.row_page.specs.RowPage.{slot_count}
use Rattle.row_page.proofs.RowPageLemmas.{slot_count-ge}
use Rattle.block_rows.proofs.PageRowsLemmas.{filled-view}
use Rattle.block_rows.proofs.seats.begins_in_cell.Goals as goal

pub returns : goal.returns
returns c = λ yes slots is.
    let row = c.in-Some-row.ensures in
    let columns = c.args.shape.now.columns.now in
    let least : 4 ≤ slot_count c.args.def.now.columns = slot_count-ge c.args.def.now.columns (record { few = c.requires.defined.columns.few; narrow = c.requires.defined.columns.narrow }) in
    let below : 0 < slot_count columns = omega (arith, least, ap slot_count c.requires.columns) in
    record {
      first = row_in c.in-Some-row.first.columns.now c.in-Some-row.first.bytes.now;
      there = sym (filled-view columns c.in-Some.view.columns.now c.args.page.now c.in-Some.view.page.now c.in-Some.ensures.seen.0 c.in-Some.ensures.seen.1 0 _ c.in-Some-row.first.columns.now
          c.in-Some-row.first.bytes.now below row.0 row.1 row.2 refl slots is.has);
      one_cell = c.is_of_cell.ensures yes;
    }
