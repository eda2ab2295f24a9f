use Rattle.std.proofs.Common.{◌∙◌, ap, length, sym}
use Rattle.script_engine.proofs.TurnedRowsLemmas.{first_found, width_at}
use Rattle.script_engine.proofs.updating.first_misfit_of_hits.Goals as goal

pub first_misfit-found-requires-clause-width : goal.first_misfit-found-requires-clause-width
first_misfit-found-requires-clause-width c =
    ap length c.as_slice.ensures ∙ width_at c.args.columns.now c.args.hits.now c.loop-hit.hit-index c.hit-item.result c.loop-hit-test.true c.hit-item.is c.requires.fit

pub returns-then-is_some : goal.returns-then-is_some
returns-then-is_some c =
    c.loop-hit.invariant
    ∙ first_found c.args.columns.now c.args.sets.now c.args.hits.now c.loop-hit.hit-index c.hit-item.result c.as_slice.result.now c.first_misfit-found.result c.loop-hit-test.true c.hit-item.is c.as_slice.ensures
    c.first_misfit-found.ensures (sym c.if-is_some.ensures)
