use Rattle.std.proofs.Common.{ap, sym, ◌∙◌}
use Rattle.statement_meaning.specs.Judged.{judged_of}
use Rattle.statement_meaning.specs.Judging.{in_order}
use Rattle.binder.proofs.CreateLemmas.{bounded}
use Rattle.binder.proofs.statement_binding.bound.Goals as goal

pub bound_table-requires-clause-few : goal.bound_table-requires-clause-few
bound_table-requires-clause-few c =
    let faultless = ap (λ stmt. in_order (judged_of c.args.catalog.now stmt)) (sym c.in-CreateTable.is) ∙ c.requires.faultless in
    rw c.as_slice.ensures (bounded c.args.catalog.now c.in-CreateTable.name c.in-CreateTable.columns c.in-CreateTable.dims faultless).0

pub bound_table-requires-clause-short : goal.bound_table-requires-clause-short
bound_table-requires-clause-short c =
    let faultless = ap (λ stmt. in_order (judged_of c.args.catalog.now stmt)) (sym c.in-CreateTable.is) ∙ c.requires.faultless in
    rw c.as_slice.ensures (bounded c.args.catalog.now c.in-CreateTable.name c.in-CreateTable.columns c.in-CreateTable.dims faultless).1
