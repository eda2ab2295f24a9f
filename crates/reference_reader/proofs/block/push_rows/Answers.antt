use Rattle.std.proofs.Common.{◌∷◌, [], sym, ap, ◌∙◌, List, append-nil}
use Rattle.mdc_ast.specs.declared.definition.ColumnDef.{ColumnDef}
use Rattle.row_page.specs.Row.{row_in}
use Rattle.row_page.specs.RowPage.{is_slot_filled, slot_bytes, slot_row}
use Rattle.reference_reader.proofs.ReadRowsLemmas.{empty_slot, filled_slot, rows_pushed}
use Rattle.reference_reader.proofs.block.push_rows.Goals as goal

pub loop-slot-preserved : goal.loop-slot-preserved
loop-slot-preserved c =
    rows_pushed c.loop-slot.slot (slot_row c.args.view.now.columns.now c.args.view.now.page.now) c.args.rows.now.items c.loop-slot.rows.items c.push.new.self.items
    (c.in_ok-to_row.field-0 ∷ []) c.loop-slot.invariant c.in_ok-push.ensures.items
    (filled_slot (is_slot_filled c.args.view.now.page.now c.loop-slot.slot) c.in_ok-to_row.field-0
    (row_in c.args.view.now.columns.now (slot_bytes c.args.view.now.columns.now c.args.view.now.page.now c.loop-slot.slot)) c.in-Some.ensures.0
    (c.in_ok-to_row.ensures ∙ (ap (λ (cs : List ColumnDef). row_in cs c.in-Some.row.bytes.now) c.in-Some.ensures.1 ∙ ap (row_in c.args.view.now.columns.now) c.in-Some.ensures.2)))

pub loop-slot-preserved-in_default : goal.loop-slot-preserved-in_default
loop-slot-preserved-in_default c =
    rows_pushed c.loop-slot.slot (slot_row c.args.view.now.columns.now c.args.view.now.page.now) c.args.rows.now.items c.loop-slot.rows.items c.loop-slot.rows.items
    [] c.loop-slot.invariant (sym (append-nil c.loop-slot.rows.items))
    (empty_slot (is_slot_filled c.args.view.now.page.now c.loop-slot.slot)
    (row_in c.args.view.now.columns.now (slot_bytes c.args.view.now.columns.now c.args.view.now.page.now c.loop-slot.slot)) c.in_default.ensures)
