use Rattle.std.proofs.Common.{◌∙◌, refl}
use Rattle.block_rows.proofs.PageRowsLemmas.{seen-slot, some_as_bit, taken-view}
use Rattle.block_rows.proofs.page_changing.clear_row.Goals as goal

pub returns-clause-clears : goal.returns-clause-clears
returns-clause-clears c slots is = (
  c.is_some-filled.ensures
      ∙ (some_as_bit c.row.result _ _ c.row.ensures (λ row said. said.0)
      ∙ taken-view c.args.shape.now.columns.now c.in-Some.view.columns.now c.args.page.now c.in-Some.view.page.now c.in-Some.ensures.seen.0 c.in-Some.ensures.seen.1 c.args.slot c.requires.slot slots is.has),
  c.clear.ensures slots is,
)

pub returns-clause-seen : goal.returns-clause-seen
returns-clause-seen c =
    seen-slot c.args.shape.now.columns.now c.in-Some.view.columns.now c.args.page.now c.in-Some.view.page.now c.in-Some.ensures.seen.0 c.in-Some.ensures.seen.1 c.args.slot c.is_some-filled.result c.requires.slot
    (c.in-Some.ensures.starts.0 refl) (c.is_some-filled.ensures ∙ some_as_bit c.row.result _ _ c.row.ensures (λ row said. said.0))
