use Rattle.std.proofs.Common.{◌≡◌, ◌∙◌, ap, subst}
use Rattle.std.specs.Prelude.{IfSome}
use Rattle.mdc_ast.specs.Database.{PlainTable, with_place}
use Rattle.reference_engine.proofs.ChangedTables.{valid_number}
use Rattle.reference_engine.proofs.CopiedTables.{has_table, is_copied, nothing_put}
use Rattle.reference_engine.proofs.tables.Tables.copy_place.Goals as goal

pub returns-then-is_none : goal.returns-then-is_none
returns-then-is_none c =
    nothing_put c.self.inside.catalog c.self.inside.rows.items c.args.self.now c.args.place c.self.view_is (λ def. def.now) c.def.result c.args.into.now c.def.ensures c.if-is_none.ensures c.requires.empty

pub table-lent-requires : goal.table-lent-requires
table-lent-requires c = has_table c.self.inside.catalog c.self.inside.rows.items c.args.self.now c.args.place c.self.view_is (λ def. def.now) c.def.result c.def.ensures c.if-is_none.ensures

pub put_table-requires : goal.put_table-requires
put_table-requires c = (
  c.requires.within,
  ap (λ def. def.number) c.in_ok-def.ensures
      ∙ subst (λ o. IfSome o (λ (table : PlainTable). table.def.number ≡ c.args.place)) c.table-lent.ensures (valid_number c.args.self.now c.args.place c.requires.valid),
)

pub returns : goal.returns
returns c =
    c.put_table.ensures
    ∙ ap (with_place c.args.into.now c.args.place)
    (is_copied c.self.inside.catalog c.self.inside.rows.items c.args.self.now c.args.place c.self.view_is c.table-lent.result.def.now c.in_ok-def.def c.table-lent.result.rows.now c.index.result.now c.in_ok-rows.rows
    c.self.invariant c.table-lent.ensures c.index.ensures c.in_ok-def.ensures c.in_ok-rows.ensures)
