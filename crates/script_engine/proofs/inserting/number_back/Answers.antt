use Rattle.std.proofs.Common.{◌∙◌, ◌-◌, ap, sym}
use Rattle.std.proofs.lemmas.Option.{same_Some}
use Rattle.mdc_ast.specs.declared.definition.TableDef.{TableDef}
use Rattle.mdc_ast.specs.Definitions.{with_def}
use Rattle.script_engine.proofs.PuttingTuplesLemmas.{emptied_and_put}
use Rattle.script_engine.proofs.ReadyTablesLemmas.{served_def}
use Rattle.script_engine.proofs.inserting.number_back.Goals as goal

pub put-requires : goal.put-requires
put-requires c =
    let served = served_def c.args.tables.now.catalog c.args.table c.in-Some.def c.requires.served (sym c.in-Some.ensures.taken) in
    (served.below, served.number)

pub returns-clause-numbers : goal.returns-clause-numbers
returns-clause-numbers c def at =
    c.put.ensures
    ∙ (ap (λ defs. with_def defs c.args.table (record c.in-Some.def { next = c.in-Some.def.next - c.args.count })) c.take.ensures.left
    ∙ (emptied_and_put c.args.tables.now.catalog c.args.table (record c.in-Some.def { next = c.in-Some.def.next - c.args.count })
    ∙ ap (λ (d : TableDef). with_def c.args.tables.now.catalog c.args.table (record d { next = d.next - c.args.count })) (same_Some c.in-Some.def def (c.in-Some.ensures.taken ∙ at))))
