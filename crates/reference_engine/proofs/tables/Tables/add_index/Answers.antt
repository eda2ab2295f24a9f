use Rattle.std.proofs.Common.{List, ap, sym}
use Rattle.std.proofs.lemmas.Result.{on_err_weaker, on_ok_weaker}
use Rattle.mdc_ast.specs.declared.definition.IndexDef.{IndexDef}
use Rattle.statement_meaning.specs.Doing.{indexed_table}
use Rattle.reference_engine.specs.Tables.{rows_in, table_with}
use Rattle.reference_engine.proofs.TablesLemmas.{are_tables-number, is_placed, not_empty, number_known, redefined_is, redefined_same}
use Rattle.reference_engine.proofs.tables.Tables.add_index.Goals as goal

pub take-requires : goal.take-requires
take-requires c = (is_placed c.self.inside.catalog c.self.inside.rows.items c.args.self.now c.args.place c.self.view_is c.self.invariant c.requires.there).within

pub unreachable-requires : goal.unreachable-requires
unreachable-requires c = not_empty c.self.inside.catalog c.self.inside.rows.items c.args.place (is_placed c.self.inside.catalog c.self.inside.rows.items c.args.self.now c.args.place c.self.view_is c.self.invariant c.requires.there) (sym c.in_default.ensures.taken)

pub put-requires : goal.put-requires
put-requires c =
    let placed = is_placed c.self.inside.catalog c.self.inside.rows.items c.args.self.now c.args.place c.self.view_is c.self.invariant c.requires.there in
    (placed.within, number_known c.self.inside.catalog c.self.inside.rows.items c.args.self.now c.args.place c.in-Some.def c.self.view_is (sym c.in-Some.ensures.taken) c.requires.numbered)

pub invariant_of-self : goal.invariant_of-self
invariant_of-self c =
    let placed = is_placed c.self.inside.catalog c.self.inside.rows.items c.args.self.now c.args.place c.self.view_is c.self.invariant c.requires.there in
    are_tables-number c.self.inside.catalog c.take.new.self c.put.new.self c.self.inside.rows.items c.args.place (record c.in-Some.def { indexes = c.push-added.new.self }) c.self.invariant placed.within c.take.ensures.left c.put.ensures

pub returns-clause-ok : goal.returns-clause-ok
returns-clause-ok c =
    on_ok_weaker c.push-added.result
    (λ more. redefined_is c.self.inside.catalog c.take.new.self c.put.new.self c.self.inside.rows.items c.args.self.now c.args.place c.in-Some.def (record c.in-Some.def { indexes = c.push-added.new.self }) (indexed_table c.args.index) c.self.view_is c.self.invariant
    (sym c.in-Some.ensures.taken) (number_known c.self.inside.catalog c.self.inside.rows.items c.args.self.now c.args.place c.in-Some.def c.self.view_is (sym c.in-Some.ensures.taken) c.requires.numbered)
    (ap (λ (indexes : List IndexDef). table_with (rows_in c.self.inside.rows.items c.args.place) (record c.in-Some.def { indexes = indexes })) (sym more)) c.take.ensures.left c.put.ensures)
    c.push-added.ensures.ok

pub returns-clause-err : goal.returns-clause-err
returns-clause-err c =
    on_err_weaker c.push-added.result
    (λ same. redefined_same c.self.inside.catalog c.take.new.self c.put.new.self c.self.inside.rows.items c.args.self.now c.args.place c.in-Some.def (record c.in-Some.def { indexes = c.push-added.new.self }) c.self.view_is c.self.invariant
    (sym c.in-Some.ensures.taken) (number_known c.self.inside.catalog c.self.inside.rows.items c.args.self.now c.args.place c.in-Some.def c.self.view_is (sym c.in-Some.ensures.taken) c.requires.numbered)
    (ap (λ (indexes : List IndexDef). record c.in-Some.def { indexes = indexes }) (sym same)) c.take.ensures.left c.put.ensures)
    c.push-added.ensures.err
