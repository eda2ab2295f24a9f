use Rattle.std.proofs.Common.{◌≡◌, ◌++◌, map}
use Rattle.std.specs.Vec.Iter.{into_iter_items}
use Rattle.mdc_ast.specs.declared.span.Span.{Span}
use Rattle.plan_chooser.specs.declared.cover.Cover.{Cover}
use Rattle.plan_chooser.specs.Covers.{span_cover}
use Rattle.plan_chooser.proofs.testing.spans_cover.Given as goal

abbrev pub invariant-loop-span : goal.invariant-loop-span
invariant-loop-span l =
    let one : Span → Cover = λ span. span_cover (record { source = l.source; column = l.column; span = span }) in
    l.covers ++ map one (into_iter_items l.span-iterator) ≡ map one l.fn.spans
