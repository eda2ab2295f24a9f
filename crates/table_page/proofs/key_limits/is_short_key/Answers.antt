-- A place that has no room left, or one that has.
use Rattle.std.proofs.Common.{◌<◌, arith}
use Rattle.std.proofs.lemmas.Bool.Decides.{nat_tests}
use Rattle.mdc_ast.specs.Definitions.{key_width, types_at}
use Rattle.table_page.proofs.WidthLemmas.{key_at-step}
use Rattle.table_page.proofs.key_limits.is_short_key.Goals as goal

pub returns-in-None : goal.returns-in-None
returns-in-None c =
    let none = c.in-None.ensures in
    let step = key_at-step c.args.columns.now c.args.places.now c.loop-place.place-index c.loop-place-test.true in
    let over : 128 < key_width (types_at c.args.columns.now c.args.places.now) = omega (arith, step, none, c.loop-place.invariant, c.part_width.ensures.value) in
    grind (arith, nat_tests, over)

pub loop-place-preserved : goal.loop-place-preserved
loop-place-preserved c =
    let step = key_at-step c.args.columns.now c.args.places.now c.loop-place.place-index c.loop-place-test.true in
    omega (arith, step, c.in-Some.ensures, c.loop-place.invariant, c.part_width.ensures.value)
