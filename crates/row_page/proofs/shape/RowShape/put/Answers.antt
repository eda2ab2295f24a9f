-- One slot gets the row's bytes.
use Rattle.std.proofs.Common.{◌≡◌, ◌+◌, ◌-◌, ◌*◌, ◌∙◌, ap, arith}
use Rattle.row_page.specs.Row.{row_width_of}
use Rattle.row_page.specs.RowPage.{slot_start, slots_start}
use Rattle.row_page.proofs.ChangingLemmas.{IsRowPage-with}
use Rattle.row_page.proofs.shape.RowShape.put.Goals as goal

pub returns : goal.returns
returns c = λ slots is.
    let columns = c.args.self.now.columns.now in
    let layout = c.args.self.now.layout in
    let laid = c.args.self.now.laid_out in
    let start : layout.start + c.args.slot * layout.width ≡ slot_start columns c.args.slot =
    ap (λ n. n + c.args.slot * layout.width) laid.start ∙ ap (λ n. slots_start columns + c.args.slot * n) laid.width in
    let size : layout.start + c.args.slot * layout.width + layout.width - (layout.start + c.args.slot * layout.width) ≡ row_width_of columns = omega (arith, laid.width) in
    IsRowPage-with columns c.args.page.now c.fill.new.page c.write_row.new.out _ _ slots c.args.slot c.args.row.now
    c.fill.array_long laid.within.few c.write_row.ensures.number c.requires.fits c.requires.slot c.fill.ensures start size c.write_row.ensures.bytes is
