use Rattle.std.proofs.Common.{◌∙◌, subst, sym}
use Rattle.std.specs.Prelude.{IfSome, Option}
use Rattle.mdc_ast.specs.declared.row.Row.{Row}
use Rattle.rollout.specs.CellRows.{IsRowOfCell}
use Rattle.rollout.proofs.RollingCellLemmas.{cell_qualifies}
use Rattle.rollout.proofs.choosing.does_cell_go.Goals as goal

pub returns-clause-judges : goal.returns-clause-judges
returns-clause-judges c =
    let of = subst (λ (made : Option Row). IfSome made (IsRowOfCell c.args.def.now c.args.one.now.cell)) c.in-Some.is c.in_ok-row.ensures.row in
    (of.fits, λ values cell. cell_qualifies c.args.def.now c.args.pred.now c.args.one.now c.in-Some.row c.requires.applies of values cell ∙ sym c.qualifies.ensures)
