use Rattle.std.proofs.Common.{◌+◌, ◌<◌, arith}
use Rattle.stored_catalog_tests.proofs.RowsLemmas.{inserted_def}
use Rattle.stored_catalog_tests.proofs.rows.try_insert.Goals as goal

pub returns-clause-defined : goal.returns-clause-defined
returns-clause-defined g c =
    let more : c.args.def.now.next + 1 < 18446744073709551616 = omega (arith, c.if-def.false, c.requires.defined.next) in
    inserted_def c.insert_row.result c.args.def.now c.insert_row.new.def c.requires.defined more c.insert_row.ensures.next c.insert_row.ensures.kept
