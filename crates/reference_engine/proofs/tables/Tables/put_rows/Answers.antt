use Rattle.std.proofs.Common.{arith}
use Rattle.reference_engine.proofs.TablesLemmas.{is_placed, are_tables-set_rows, put_is}
use Rattle.reference_engine.proofs.tables.Tables.put_rows.Goals as goal

pub index_mut-requires : goal.index_mut-requires
index_mut-requires c =
    let placed = is_placed c.self.inside.catalog c.self.inside.rows.items c.args.self.now c.args.place c.self.view_is c.self.invariant c.requires in
    omega (arith, c.self.inside.rows.ok.0, placed.has_rows)

pub invariant_of-self : goal.invariant_of-self
invariant_of-self c =
    let placed = is_placed c.self.inside.catalog c.self.inside.rows.items c.args.self.now c.args.place c.self.view_is c.self.invariant c.requires in
    are_tables-set_rows c.self.inside.catalog c.self.inside.rows.items c.args.place c.from_vec.result c.self.invariant placed

pub returns : goal.returns
returns c = put_is c.self.inside.catalog c.self.inside.rows.items c.args.self.now c.args.place c.from_vec.result c.args.rows.items c.self.view_is c.self.invariant c.from_vec.ensures
