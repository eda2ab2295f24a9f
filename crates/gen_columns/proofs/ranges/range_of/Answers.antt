use Rattle.std.proofs.Common.{◌≡◌, false, rules, subst, sym}
use Rattle.mdc_ast.specs.declared.span.Span.{Span}
use Rattle.gen_columns.specs.DerivedSpans.{CoversValues, high_number, is_month, low_number, span_of_numbers}
use Rattle.gen_columns.proofs.DerivedSpansLemmas.{derived_covers}
use Rattle.gen_columns.proofs.ranges.range_of.Goals as goal

pub returns-clause-covers : goal.returns-clause-covers
returns-clause-covers c =
    let e = c.args.e.now in
    let base = c.args.base in
    let span = c.args.span.now in
    let rising : is_month e.kind ≡ false = search rules in
    let is : c.span_of_numbers.result ≡ span_of_numbers e base (low_number base span.low) (high_number base span.high) = search rules in
    subst (λ (range : Span). CoversValues e base span range) (sym is) (derived_covers e rising span base)
