use Rattle.std.specs.Prelude.{not}
use Rattle.std.proofs.lemmas.List.Filters.{FiltersInPlace}
use Rattle.mdc_ast.specs.Truth.{qualifies}
use Rattle.reference_engine.proofs.deleting.delete_rows.Given as goal

abbrev pub invariant-loop-i : goal.invariant-loop-i
invariant-loop-i l = FiltersInPlace (λ row. not (qualifies l.pred row.values)) l.initial.rows.items l.rows.items l.kept l.i
