use Rattle.std.proofs.Common.{List, ap, ◌∙◌, arith}
use Rattle.mdc_ast.specs.declared.definition.ColumnDef.{ColumnDef}
use Rattle.row_fitting.proofs.MadeValuesLemmas.{defined_divisors}
use Rattle.row_page.specs.Row.{row_in}
use Rattle.row_page.specs.RowPage.{slot_bytes}
use Rattle.file_check.proofs.FittingRowsLemmas.{fits_empty, fits_filled}
use Rattle.file_check.proofs.row_pages.do_rows_fit.Goals as goal

pub loop-slot-preserved-in_default : goal.loop-slot-preserved-in_default
loop-slot-preserved-in_default c = fits_empty c.args.def.now c.args.view.now.page.now c.loop-slot.slot c.loop-slot.invariant c.in_default.ensures

-- what divides in a definition is at least 1
pub does_row_fit-requires : goal.does_row_fit-requires
does_row_fit-requires c = record { divisors = defined_divisors c.args.def.now c.requires.defined }

pub loop-slot-preserved : goal.loop-slot-preserved
loop-slot-preserved c =
    fits_filled c.args.def.now c.args.view.now.page.now c.loop-slot.slot c.loop-slot.invariant c.in_ok-to_row.field-0
    (c.in_ok-to_row.ensures ∙ (ap (λ (cs : List ColumnDef). row_in cs c.in-Some.row.bytes.now) (c.in-Some.ensures.1 ∙ c.requires.columns)
    ∙ ap (row_in c.args.def.now.columns) (c.in-Some.ensures.2 ∙ ap (λ (cs : List ColumnDef). slot_bytes cs c.args.view.now.page.now c.loop-slot.slot) c.requires.columns)))
    (c.does_row_fit.ensures.0 c.if-not-does_row_fit.false)

pub returns : goal.returns
returns c slot row low is = c.loop-slot.invariant slot row (omega (arith, low, c.loop-slot-test.false, c.capacity-slots.ensures.value)) is
