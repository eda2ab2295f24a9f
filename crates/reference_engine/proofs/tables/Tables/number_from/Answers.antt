use Rattle.std.proofs.Common.{refl, sym}
use Rattle.reference_engine.proofs.TablesLemmas.{are_tables-number, is_placed, not_empty, number_known, redefined_is}
use Rattle.reference_engine.specs.Tables.{with_next}
use Rattle.reference_engine.proofs.tables.Tables.number_from.Goals as goal

pub take-requires : goal.take-requires
take-requires c = (is_placed c.self.inside.catalog c.self.inside.rows.items c.args.self.now c.args.place c.self.view_is c.self.invariant c.requires.there).within

pub unreachable-requires : goal.unreachable-requires
unreachable-requires c = not_empty c.self.inside.catalog c.self.inside.rows.items c.args.place (is_placed c.self.inside.catalog c.self.inside.rows.items c.args.self.now c.args.place c.self.view_is c.self.invariant c.requires.there) (sym c.in_default.ensures.taken)

pub put-requires : goal.put-requires
put-requires c =
    let placed = is_placed c.self.inside.catalog c.self.inside.rows.items c.args.self.now c.args.place c.self.view_is c.self.invariant c.requires.there in
    (placed.within, number_known c.self.inside.catalog c.self.inside.rows.items c.args.self.now c.args.place c.in-Some.def c.self.view_is (sym c.in-Some.ensures.taken) c.requires.numbered)

pub invariant_of-self : goal.invariant_of-self
invariant_of-self c =
    let placed = is_placed c.self.inside.catalog c.self.inside.rows.items c.args.self.now c.args.place c.self.view_is c.self.invariant c.requires.there in
    are_tables-number c.self.inside.catalog c.take.new.self c.put.new.self c.self.inside.rows.items c.args.place (record c.in-Some.def { next = c.args.next }) c.self.invariant placed.within c.take.ensures.left c.put.ensures

pub returns : goal.returns
returns c =
    redefined_is c.self.inside.catalog c.take.new.self c.put.new.self c.self.inside.rows.items c.args.self.now c.args.place c.in-Some.def (record c.in-Some.def { next = c.args.next }) (with_next c.args.next) c.self.view_is c.self.invariant
    (sym c.in-Some.ensures.taken) (number_known c.self.inside.catalog c.self.inside.rows.items c.args.self.now c.args.place c.in-Some.def c.self.view_is (sym c.in-Some.ensures.taken) c.requires.numbered) refl
    c.take.ensures.left c.put.ensures
