use Rattle.std.proofs.Common.{◌≡◌, ◌∙◌, ◌<◌, ap, sym, length, arith}
use Rattle.mdc_ast.specs.Database.{table_at}
use Rattle.reference_engine.proofs.CopiedTables.{filled_all, filled_more, filled_next, filled_none, length-tables_of}
use Rattle.reference_engine.proofs.tables.Tables.copied.Goals as goal

pub loop-place-init : goal.loop-place-init
loop-place-init c =
    let long : length c.args.self.now ≡ 16 = ap length (sym c.self.view_is) ∙ (length-tables_of c.self.inside.catalog c.self.inside.rows.items ∙ c.self.invariant.places) in
    c.in_ok-copy.ensures ∙ filled_none c.args.self.now long

pub copy_place-requires-clause-empty : goal.copy_place-requires-clause-empty
copy_place-requires-clause-empty c =
    let long : length c.args.self.now ≡ 16 = ap length (sym c.self.view_is) ∙ (length-tables_of c.self.inside.catalog c.self.inside.rows.items ∙ c.self.invariant.places) in
    let lt : c.loop-place.place < length c.args.self.now = omega (arith, long, c.loop-place-test.true) in
    ap (λ db. table_at db c.loop-place.place) c.loop-place.invariant ∙ filled_next c.args.self.now c.loop-place.place lt

pub loop-place-preserved : goal.loop-place-preserved
loop-place-preserved c =
    let long : length c.args.self.now ≡ 16 = ap length (sym c.self.view_is) ∙ (length-tables_of c.self.inside.catalog c.self.inside.rows.items ∙ c.self.invariant.places) in
    let lt : c.loop-place.place < length c.args.self.now = omega (arith, long, c.loop-place-test.true) in
    filled_more c.args.self.now c.loop-place.copy c.copy_place.new.into c.loop-place.place lt c.loop-place.invariant c.in_ok-copy_place.ensures

pub returns : goal.returns
returns c =
    let long : length c.args.self.now ≡ 16 = ap length (sym c.self.view_is) ∙ (length-tables_of c.self.inside.catalog c.self.inside.rows.items ∙ c.self.invariant.places) in
    filled_all c.args.self.now c.loop-place.copy c.loop-place.place long (omega (arith, c.loop-place-test.false, c.loop-place.auto.place-end)) c.loop-place.invariant
