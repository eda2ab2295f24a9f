-- Zeros behind the slots are those of a page of zeros.
use Rattle.std.proofs.Common.{◌≡◌, ◌+◌, ◌*◌, ◌∙◌, ap, arith, refl}
use Rattle.row_page.specs.RowPage.{slot_count, slots_end, slots_start}
use Rattle.row_page.proofs.RowPageLemmas.{spare_blank}
use Rattle.row_page.proofs.page_view.RowPageView.are_spare_bytes_blank.Goals as goal

pub returns : goal.returns
returns c =
    let laid = c.args.self.now.laid_out in
    let end : c.args.self.now.layout.start + c.args.self.now.layout.slots * c.args.self.now.layout.width ≡ slots_end c.args.self.now.columns.now =
    ap (λ n. n + c.args.self.now.layout.slots * c.args.self.now.layout.width) laid.start
    ∙ (ap (λ n. slots_start c.args.self.now.columns.now + n * c.args.self.now.layout.width) laid.slots
    ∙ ap (λ n. slots_start c.args.self.now.columns.now + slot_count c.args.self.now.columns.now * n) laid.width) in
    let told = spare_blank c.args.self.now.page.now _ _ (slots_end c.args.self.now.columns.now) (omega arith) end refl in
    ((λ h. told.0 (c.are_zeros.ensures.0 h)), (λ h. c.are_zeros.ensures.1 (told.1 h)))
