-- A row page begins as one.
use Rattle.std.proofs.Common.{◌≡◌, ◌∙◌, Bool, false, IsTrue, ap, sym, take}
use Rattle.row_page.specs.RowPage.{row_page_head}
use Rattle.row_page.proofs.RowPageLemmas.{StartsAsRowPage-IsRowPage}
use Rattle.row_page.proofs.shape.RowShape.look.Goals as goal

refused : (r : Bool) (P : Type 0) → r ≡ false → (P → IsTrue r) → P → IsTrue false
refused r P is tells p = sym is ∙ tells p

pub returns-then-not-starts_with-clause-there : goal.returns-then-not-starts_with-clause-there
returns-then-not-starts_with-clause-there c = λ slots is.
    refused c.starts_with.result _ c.if-not-starts_with.true c.starts_with.ensures.1
    (StartsAsRowPage-IsRowPage c.args.self.now.columns.now c.args.page.now slots is ∙ ap (λ n. take 4 (row_page_head n 0)) (sym c.args.self.now.laid_out.slots))
