use Rattle.std.proofs.Common.{◌∙◌, refl}
use Rattle.block_rows.proofs.PageRowsLemmas.{seen-slot, some_as_bit}
use Rattle.block_rows.proofs.page_changing.put_row.Goals as goal

pub returns-clause-seen : goal.returns-clause-seen
returns-clause-seen c =
    seen-slot c.args.shape.now.columns.now c.in-Some.view.columns.now c.args.page.now c.in-Some.view.page.now c.in-Some.ensures.seen.0 c.in-Some.ensures.seen.1 c.args.slot c.is_some-had_row.result c.requires.slot
    (c.in-Some.ensures.starts.0 refl) (c.is_some-had_row.ensures ∙ some_as_bit c.row.result _ _ c.row.ensures (λ row said. said.0))
