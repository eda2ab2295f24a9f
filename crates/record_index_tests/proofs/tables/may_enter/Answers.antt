use Rattle.std.proofs.Common.{◌<◌, IsTrue, arith, length, subst, ◌∙◌, ap}
use Rattle.mdc_ast.specs.Database.{fits_all}
use Rattle.record_index.specs.RecordIndexes.{parts_of_record_index}
use Rattle.record_index.proofs.IndexesLemmas.{parts_there}
use Rattle.record_index.proofs.KeysLemmas.{keys_of_fitting}
use Rattle.record_index_tests.proofs.tables.may_enter.Goals as goal

pub returns-clause-keys : goal.returns-clause-keys
returns-clause-keys c = λ yes.
    let there : c.args.index < length c.args.def.now.indexes = omega (arith, c.if-from-len.false, c.from.ensures, c.len.ensures) in
    let are = parts_there c.args.def.now c.args.index c.requires there in
    let fits : IsTrue (fits_all c.args.def.now.columns c.args.row.now.values) =
    subst IsTrue (c.do_fit.ensures ∙ (ap (λ cs. fits_all cs c.as_slice-2.result.now) c.as_slice.ensures ∙ ap (fits_all c.args.def.now.columns) c.as_slice-2.ensures)) yes in
    keys_of_fitting c.args.def.now.columns (parts_of_record_index c.args.def.now c.args.index) c.args.row.now.values are.key.there fits
