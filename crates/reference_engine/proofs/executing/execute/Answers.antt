use Rattle.std.proofs.Common.{ap}
use Rattle.mdc_ast.specs.declared.bound.Bound.TheVariants as bound
use Rattle.statement_meaning.specs.Built.{is_built_step}
use Rattle.row_checks.proofs.Stepping.{answered, bound_ready, bound_unnamed, valid_after}
use Rattle.reference_engine.proofs.ChangedTables.{still_built}
use Rattle.reference_engine.proofs.executing.execute.Goals as goal

pub insert-requires-clause-ready : goal.insert-requires-clause-ready
insert-requires-clause-ready c =
    let h = bound_unnamed c.args.tables.now c.catalog.result.now c.args.stmt.now c.in-Insert.table c.in-Insert.columns c.in-Insert.rows c.as_slice.result.now c.is_none.result
    (bound.Insert c.in-Some.whole.table c.in-Some.whole.rows) c.catalog.ensures c.in-Insert.is c.is_none.ensures c.if-is_none.true c.as_slice.ensures (rw c.in-Some.is at c.in_ok-whole.ensures) in
    bound_ready c.args.tables.now c.args.stmt.now (bound.Insert c.in-Some.whole.table c.in-Some.whole.rows) c.requires.valid h

pub returns-clause-done : goal.returns-clause-done
returns-clause-done c =
    let h = bound_unnamed c.args.tables.now c.catalog.result.now c.args.stmt.now c.in-Insert.table c.in-Insert.columns c.in-Insert.rows c.as_slice.result.now c.is_none.result
    (bound.Insert c.in-Some.whole.table c.in-Some.whole.rows) c.catalog.ensures c.in-Insert.is c.is_none.ensures c.if-is_none.true c.as_slice.ensures (rw c.in-Some.is at c.in_ok-whole.ensures) in
    answered c.args.tables.now c.insert.new.tables c.args.stmt.now (bound.Insert c.in-Some.whole.table c.in-Some.whole.rows) c.insert.result (ap is_built_step c.in-Insert.is) c.requires.built h.0 h.1 c.insert.ensures.done

pub returns-clause-valid : goal.returns-clause-valid
returns-clause-valid c =
    let h = bound_unnamed c.args.tables.now c.catalog.result.now c.args.stmt.now c.in-Insert.table c.in-Insert.columns c.in-Insert.rows c.as_slice.result.now c.is_none.result
    (bound.Insert c.in-Some.whole.table c.in-Some.whole.rows) c.catalog.ensures c.in-Insert.is c.is_none.ensures c.if-is_none.true c.as_slice.ensures (rw c.in-Some.is at c.in_ok-whole.ensures) in
    valid_after c.args.tables.now c.insert.new.tables c.args.stmt.now c.insert.result c.requires
    (answered c.args.tables.now c.insert.new.tables c.args.stmt.now (bound.Insert c.in-Some.whole.table c.in-Some.whole.rows) c.insert.result (ap is_built_step c.in-Insert.is) c.requires.built h.0 h.1 c.insert.ensures.done)
    (still_built c.insert.result c.args.tables.now c.insert.new.tables c.insert.ensures.memory c.requires)
