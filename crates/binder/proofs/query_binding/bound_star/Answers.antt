use Rattle.std.proofs.Common.{ap, map, sym, ◌∙◌}
use Rattle.std.proofs.lemmas.List.{take_all}
use Rattle.mdc_ast.specs.declared.bound.BoundOut.TheVariants as out
use Rattle.statement_meaning.specs.Binding.{the_place}
use Rattle.binder.proofs.ColumnLemmas.{map-column_names}
use Rattle.binder.proofs.query_binding.bound_star.Goals as goal

pub returns : goal.returns
returns c =
    c.loop-column.invariant
    ∙ ap (λ columns. map (λ column. out.Column (the_place c.args.columns.now column.name)) columns) (take_all c.loop-column.column-index c.args.columns.now c.loop-column-test.false)
    ∙ sym (map-column_names (λ name. out.Column (the_place c.args.columns.now name)) c.args.columns.now)
