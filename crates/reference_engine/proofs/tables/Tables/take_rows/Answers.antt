use Rattle.std.proofs.Common.{◌∙◌, [], Some, sym, ap, arith}
use Rattle.reference_engine.proofs.TablesLemmas.{is_placed, are_tables-set_rows, put_is, rows_taken}
use Rattle.reference_engine.proofs.tables.Tables.take_rows.Goals as goal

pub index_mut-requires : goal.index_mut-requires
index_mut-requires c =
    let placed = is_placed c.self.inside.catalog c.self.inside.rows.items c.args.self.now c.args.place c.self.view_is c.self.invariant c.requires in
    omega (arith, c.self.inside.rows.ok.0, placed.has_rows)

pub invariant_of-self : goal.invariant_of-self
invariant_of-self c =
    let placed = is_placed c.self.inside.catalog c.self.inside.rows.items c.args.self.now c.args.place c.self.view_is c.self.invariant c.requires in
    are_tables-set_rows c.self.inside.catalog c.self.inside.rows.items c.args.place c.replace.new.dest c.self.invariant placed

pub returns-clause-taken : goal.returns-clause-taken
returns-clause-taken c =
    let placed = is_placed c.self.inside.catalog c.self.inside.rows.items c.args.self.now c.args.place c.self.view_is c.self.invariant c.requires in
    rows_taken c.self.inside.catalog c.self.inside.rows.items c.args.self.now c.args.place c.index_mut.result.now c.self.view_is placed c.index_mut.ensures.value
    ∙ ap Some (sym (c.into_vec.ensures ∙ c.replace.ensures.value))

pub returns-clause-left : goal.returns-clause-left
returns-clause-left c =
    put_is c.self.inside.catalog c.self.inside.rows.items c.args.self.now c.args.place c.replace.new.dest [] c.self.view_is c.self.invariant (c.replace.ensures.after ∙ c.new.ensures)
