use Rattle.std.proofs.Common.{refl}
use Rattle.row_page.specs.RowPage.{rows_of}
use Rattle.block_rows.proofs.PageRowsLemmas.{empty-view, filled-view}
use Rattle.block_rows.proofs.ReadValuesLemmas.{read-slot}
use Rattle.block_rows.proofs.page_reading.copy_row.Goals as goal

pub returns-in_default-row-clause-seen : goal.returns-in_default-row-clause-seen
returns-in_default-row-clause-seen c = record {
  starts = c.in-Some.ensures.starts.0 refl;
  row_is = empty-view c.args.shape.now.columns.now c.in-Some.view.columns.now c.args.page.now c.in-Some.view.page.now c.in-Some.ensures.seen.0 c.in-Some.ensures.seen.1
      c.args.slot c.requires.slot c.in_default-row.ensures (rows_of c.args.shape.now.columns.now c.args.page.now) refl;
}

pub returns-clause-seen : goal.returns-clause-seen
returns-clause-seen c =
    let row = c.in-Some-row.ensures in
    record {
      starts = c.in-Some.ensures.starts.0 refl;
      row_is = filled-view c.args.shape.now.columns.now c.in-Some.view.columns.now c.args.page.now c.in-Some.view.page.now c.in-Some.ensures.seen.0 c.in-Some.ensures.seen.1
          c.args.slot c.in_ok-copy_of.field-0 c.in-Some-row.row.columns.now c.in-Some-row.row.bytes.now c.requires.slot row.0 row.1 row.2 c.in_ok-copy_of.ensures.row
          (rows_of c.args.shape.now.columns.now c.args.page.now) refl;
    }

pub returns-clause-keyed : goal.returns-clause-keyed
returns-clause-keyed c =
    let row = c.in-Some-row.ensures in
    read-slot c.args.shape.now.columns.now c.in-Some.view.columns.now c.in-Some-row.row.columns.now c.args.page.now c.in-Some.view.page.now c.in-Some-row.row.bytes.now c.args.slot c.in_ok-copy_of.field-0
    c.in-Some.ensures.seen.0 c.in-Some.ensures.seen.1 row.1 row.2 c.in_ok-copy_of.ensures.row c.fits-page
