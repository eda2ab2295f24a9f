use Rattle.std.proofs.Common.{◌∙◌, ap, refl, sym}
use Rattle.std.specs.Option.{option_copied}
use Rattle.std.specs.Prelude.{slice_get}
use Rattle.mdc_table.specs.UsedSlots.NamesLackingRow.{of_block, of_index}
use Rattle.mdc_table.proofs.faults.rowless.Goals as goal

pub returns-in_default : goal.returns-in_default
returns-in_default c = of_block (ap (λ those. slice_get those 0) (sym c.as_slice.ensures) ∙ (sym c.first.ensures.value ∙ ap option_copied c.in_default.is)) c.miscounted.ensures

pub returns : goal.returns
returns c = of_index c.in-Some.index.now (ap (λ those. slice_get those 0) (sym c.as_slice.ensures) ∙ (sym c.first.ensures.value ∙ ap option_copied c.in-Some.is)) refl
