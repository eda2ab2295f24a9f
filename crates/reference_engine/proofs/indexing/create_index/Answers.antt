use Rattle.mdc_ast.specs.Database.{PlainTable}
use Rattle.reference_engine.proofs.ChangedTables.{valid_number}
use Rattle.reference_engine.proofs.Effects.{create_index_clashes, create_index_is}
use Rattle.reference_engine.proofs.indexing.create_index.Goals as goal

pub add_index-requires-clause-numbered : goal.add_index-requires-clause-numbered
add_index-requires-clause-numbered c = valid_number c.args.tables.now c.args.table c.requires.valid

pub returns-then-branch-clause-done : goal.returns-then-branch-clause-done
returns-then-branch-clause-done c =
    let table : PlainTable = record { def = c.table.result.def.now; rows = c.table.result.rows.now } in
    create_index_clashes c.args.tables.now c.args.table table c.args.index c.in_ok-clashes.field-0 c.in_ok-duplicate_key.field-0 c.requires.valid c.table.ensures c.in_ok-clashes.ensures c.if-branch.true c.in_ok-duplicate_key.ensures

pub returns-clause-done : goal.returns-clause-done
returns-clause-done c =
    let table : PlainTable = record { def = c.table.result.def.now; rows = c.table.result.rows.now } in
    create_index_is c.args.tables.now c.add_index.new.self c.args.table table c.args.index c.in_ok-clashes.field-0 c.requires.valid c.table.ensures c.in_ok-clashes.ensures c.if-branch.false c.in_ok-add_index.ensures.ok
