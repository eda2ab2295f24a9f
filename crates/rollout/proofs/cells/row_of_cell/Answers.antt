use Rattle.std.proofs.Common.{◌∙◌, ◌<◌, arith, ap, length, subst, sym}
use Rattle.std.specs.List.{AllByRecursion}
use Rattle.block_index.specs.Cells.{FitPlaces}
use Rattle.rollout.specs.CellRows.{HasCellValues}
use Rattle.rollout.proofs.CellRowsLemmas.{places_there, row_is_of_cell}
use Rattle.rollout.proofs.cells.row_of_cell.Goals as goal

pub fit_places-requires-clause-there : goal.fit_places-requires-clause-there
fit_places-requires-clause-there c = subst (AllByRecursion (λ place. place < length c.args.def.now.columns)) (sym c.requires.places) (places_there c.args.def.now c.requires.defined)

pub values_in-requires-clause-there : goal.values_in-requires-clause-there
values_in-requires-clause-there c = subst (AllByRecursion (λ place. place < length c.args.def.now.columns)) (sym c.requires.places) (places_there c.args.def.now c.requires.defined)

pub returns-clause-row : goal.returns-clause-row
returns-clause-row c =
    row_is_of_cell c.args.def.now c.args.places.now c.args.cell.now c.in_ok-values.values 0 c.requires.places (ap length (sym c.as_slice-values.ensures) ∙ omega (arith, c.if-values-places.false))
    (subst (FitPlaces c.args.def.now.columns c.args.places.now) c.as_slice-values.ensures (c.fit_places.ensures.fit c.if-not-fit_places.false))
    (subst (λ vs. HasCellValues c.args.def.now.columns c.args.places.now vs c.in_ok-values.values) c.as_slice-values.ensures c.in_ok-values.ensures)
