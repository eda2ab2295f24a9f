use Rattle.std.proofs.Common.{arith}
use Rattle.script_engine.proofs.CatalogLemmas.{all_built, built_so_far, not_built_here}
use Rattle.script_engine.proofs.opening.are_served.Goals as goal

pub returns-then-not-is_served : goal.returns-then-not-is_served
returns-then-not-is_served c =
    not_built_here c.args.catalog.now c.loop-place.place c.requires.limits c.loop-place-test.true c.def.result c.is_served.result c.def.ensures c.is_served.ensures c.loop-place.invariant c.if-not-is_served.true

pub loop-place-preserved : goal.loop-place-preserved
loop-place-preserved c =
    built_so_far c.args.catalog.now c.loop-place.place c.requires.limits c.loop-place-test.true c.def.result c.is_served.result c.def.ensures c.is_served.ensures c.loop-place.invariant c.if-not-is_served.false

pub returns : goal.returns
returns c = all_built c.args.catalog.now c.loop-place.place c.requires.limits (omega (arith, c.loop-place-test.false)) c.loop-place.invariant
