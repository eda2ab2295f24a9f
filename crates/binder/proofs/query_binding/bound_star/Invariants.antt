use Rattle.std.proofs.Common.{◌≡◌, map, take}
use Rattle.mdc_ast.specs.declared.bound.BoundOut.TheVariants as out
use Rattle.statement_meaning.specs.Binding.{the_place}
use Rattle.binder.proofs.query_binding.bound_star.Given as goal

abbrev pub invariant-loop-column : goal.invariant-loop-column
invariant-loop-column l = l.shown ≡ map (λ column. out.Column (the_place l.columns column.name)) (take l.column-index l.columns)
