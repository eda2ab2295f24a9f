use Rattle.std.proofs.Common.{◌∙◌, sym, ap, arith, Some}
use Rattle.reference_engine.proofs.TablesLemmas.{is_placed, not_empty, table_is}
use Rattle.reference_engine.proofs.tables.Tables.table.Goals as goal

pub def-requires : goal.def-requires
def-requires c = (is_placed c.self.inside.catalog c.self.inside.rows.items c.args.self.now c.args.place c.self.view_is c.self.invariant c.requires).within

pub unreachable-requires : goal.unreachable-requires
unreachable-requires c = not_empty c.self.inside.catalog c.self.inside.rows.items c.args.place (is_placed c.self.inside.catalog c.self.inside.rows.items c.args.self.now c.args.place c.self.view_is c.self.invariant c.requires) c.in_default.ensures

pub index-requires : goal.index-requires
index-requires c =
    let placed = is_placed c.self.inside.catalog c.self.inside.rows.items c.args.self.now c.args.place c.self.view_is c.self.invariant c.requires in
    omega (arith, c.self.inside.rows.ok.0, placed.has_rows)

pub returns : goal.returns
returns c =
    let placed = is_placed c.self.inside.catalog c.self.inside.rows.items c.args.self.now c.args.place c.self.view_is c.self.invariant c.requires in
    table_is c.self.inside.catalog c.self.inside.rows.items c.args.self.now c.args.place c.in-Some.def.now c.index.result.now c.self.view_is c.in-Some.ensures placed.has_rows c.index.ensures
    ∙ ap (λ rows. Some (record { def = c.in-Some.def.now; rows = rows })) (sym c.as_slice.ensures)
