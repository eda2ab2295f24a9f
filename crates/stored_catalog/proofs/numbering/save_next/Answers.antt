use Rattle.mdc_ast.specs.Definitions.{def_at}
use Rattle.stored_catalog.proofs.NumberingLemmas.{saved_next, stored_next}
use Rattle.stored_catalog.proofs.numbering.save_next.Goals as goal

pub returns-clause-saves : goal.returns-clause-saves
returns-clause-saves g c =
    saved_next g.P.Pages c.args.table (def_at c.args.catalog.now c.args.table) c.in-Some.def.now c.args.pages.now c.write_next.new.pages c.in-Some.ensures c.write_next.ensures.count
    c.write_next.ensures.runs.touches c.write_next.ensures.runs.works.steady.is_told c.write_next.result c.write_next.ensures.there c.write_next.ensures.numbers

pub returns-clause-stored : goal.returns-clause-stored
returns-clause-stored g c =
    stored_next g.P.Pages c.args.table (def_at c.args.catalog.now c.args.table) c.in-Some.def.now c.args.pages.now c.write_next.new.pages c.in-Some.ensures c.write_next.ensures.count
    c.write_next.ensures.runs.touches c.write_next.ensures.runs.works.steady.is_told c.write_next.result c.write_next.ensures.there c.write_next.ensures.numbers
