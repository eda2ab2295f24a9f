use Rattle.std.proofs.Common.{◌∙◌, sym, subst, IfSome, List}
use Rattle.std.specs.List.{AllByRecursion}
use Rattle.mdc_ast.specs.declared.definition.ColumnDef.{ColumnDef}
use Rattle.mdc_ast.proofs.FitsLemmas.{length-fits_all}
use Rattle.mdc_ast.specs.Divisors.{HasDivisor}
use Rattle.row_fitting.proofs.rows.does_row_fit.Goals as goal

pub are_made_from-requires-clause-one_each : goal.are_made_from-requires-clause-one_each
are_made_from-requires-clause-one_each c =
    sym (length-fits_all c.as_slice-columns.result.now c.as_slice-values.result.now (sym c.do_fit.ensures ∙ c.if-do_fit.true))

pub are_made_from-requires-clause-divisors : goal.are_made_from-requires-clause-divisors
are_made_from-requires-clause-divisors c =
    subst (λ (columns : List ColumnDef). AllByRecursion (λ column. IfSome column.made HasDivisor) columns) (sym c.as_slice-columns.ensures) c.requires.divisors
