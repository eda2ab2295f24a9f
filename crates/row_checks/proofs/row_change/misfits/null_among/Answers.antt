use Rattle.std.proofs.Common.{◌∙◌, ◌<◌, sym, length, arith}
use Rattle.statement_meaning.specs.Doing.{set_on}
use Rattle.row_checks.proofs.Causes.{null_there, no_null_there}
use Rattle.row_checks.proofs.SetLemmas.{length-set_on}
use Rattle.row_checks.proofs.row_change.misfits.null_among.Goals as goal

pub returns-then-has_no_value : goal.returns-then-has_no_value
returns-then-has_no_value c =
    let after = set_on c.args.values.now c.args.sets.now c.args.values.now in
    let within : c.loop-place.place < length after = omega (arith, length-set_on c.args.values.now c.args.sets.now c.args.values.now) in
    c.loop-place.invariant ∙ null_there c.args.columns.now after c.loop-place.place c.index-columns-place.result c.loop-place-test.true within c.index-columns-place.is (sym c.has_no_value.ensures ∙ c.if-has_no_value.true)

pub loop-place-preserved : goal.loop-place-preserved
loop-place-preserved c =
    let after = set_on c.args.values.now c.args.sets.now c.args.values.now in
    let within : c.loop-place.place < length after = omega (arith, length-set_on c.args.values.now c.args.sets.now c.args.values.now) in
    c.loop-place.invariant ∙ no_null_there c.args.columns.now after c.loop-place.place c.index-columns-place.result c.loop-place-test.true within c.index-columns-place.is (sym c.has_no_value.ensures ∙ c.if-has_no_value.false)
