-- No slot has a row.
use Rattle.std.proofs.Common.{◌∙◌, sym, subst, replicate, None}
use Rattle.row_page.specs.RowPage.{IsRowPage, slot_count}
use Rattle.row_page.proofs.ChangingLemmas.{IsRowPage-empty, wiped}
use Rattle.row_page.proofs.shape.RowShape.wipe.Goals as goal

pub returns-clause-bytes : goal.returns-clause-bytes
returns-clause-bytes c =
    wiped c.args.self.now.columns.now c.copy_from_slice.new.self c.head_of.result c.put.new.page c.args.self.now.layout.slots
    (c.copy_from_slice.ensures.after ∙ c.blank_page.ensures) c.args.self.now.laid_out.slots c.head_of.ensures c.put.ensures

pub returns-clause-empty : goal.returns-clause-empty
returns-clause-empty c =
    let columns = c.args.self.now.columns.now in
    subst (λ p. IsRowPage columns p (replicate (slot_count columns) None)) (sym (returns-clause-bytes c)) (IsRowPage-empty columns)
