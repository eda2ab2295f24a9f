use Rattle.std.proofs.Common.{arith}
use Rattle.reference_engine.proofs.TablesLemmas.{is_placed, are_tables-leave, leave_is}
use Rattle.reference_engine.proofs.tables.Tables.leave.Goals as goal

pub leave-requires : goal.leave-requires
leave-requires c = (is_placed c.self.inside.catalog c.self.inside.rows.items c.args.self.now c.args.place c.self.view_is c.self.invariant c.requires).within

pub index_mut-requires : goal.index_mut-requires
index_mut-requires c =
    let placed = is_placed c.self.inside.catalog c.self.inside.rows.items c.args.self.now c.args.place c.self.view_is c.self.invariant c.requires in
    omega (arith, c.self.inside.rows.ok.0, placed.has_rows)

pub invariant_of-self : goal.invariant_of-self
invariant_of-self c =
    let placed = is_placed c.self.inside.catalog c.self.inside.rows.items c.args.self.now c.args.place c.self.view_is c.self.invariant c.requires in
    rw (c.leave.ensures, c.new.ensures) (are_tables-leave c.self.inside.catalog c.self.inside.rows.items c.args.place c.self.invariant placed.within)

pub returns : goal.returns
returns c = leave_is c.self.inside.catalog c.leave.new.self c.self.inside.rows.items c.new.result c.args.self.now c.args.place c.self.view_is c.self.invariant c.leave.ensures c.new.ensures
