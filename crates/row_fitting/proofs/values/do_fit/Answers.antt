use Rattle.std.proofs.Common.{◌<◌, ◌∙◌, length, sym, arith}
use Rattle.row_fitting.proofs.FittingLemmas.{fits_behind, no_fit, one_fits, one_unfit}
use Rattle.row_fitting.proofs.values.do_fit.Goals as goal

pub returns-then-columns-values : goal.returns-then-columns-values
returns-then-columns-values c = sym (no_fit c.args.columns.now c.args.values.now c.if-columns-values.true)

pub returns-then-not-fits : goal.returns-then-not-fits
returns-then-not-fits c =
    let within : c.loop-place.place < length c.args.values.now = omega (arith, c.if-columns-values.false) in
    sym (c.loop-place.invariant ∙ one_unfit c.args.columns.now c.args.values.now c.loop-place.place c.index-columns-place.result c.index-values-place.result c.loop-place-test.true within
    c.index-columns-place.is c.index-values-place.is (sym c.fits.ensures ∙ c.if-not-fits.true))

pub loop-place-preserved : goal.loop-place-preserved
loop-place-preserved c =
    let within : c.loop-place.place < length c.args.values.now = omega (arith, c.if-columns-values.false) in
    c.loop-place.invariant ∙ one_fits c.args.columns.now c.args.values.now c.loop-place.place c.index-columns-place.result c.index-values-place.result c.loop-place-test.true within
    c.index-columns-place.is c.index-values-place.is (sym c.fits.ensures ∙ c.if-not-fits.false)

pub returns : goal.returns
returns c = sym (c.loop-place.invariant ∙ fits_behind c.args.columns.now c.args.values.now c.loop-place.place c.if-columns-values.false c.loop-place-test.false)
