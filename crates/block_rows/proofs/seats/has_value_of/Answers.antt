use Rattle.std.proofs.Common.{◌≡◌, ◌∙◌, ap, length, subst, sym}
use Rattle.std.specs.Prelude.{slice_get, Some}
use Rattle.std.proofs.lemmas.Option.{get_or_from_slice_get}
use Rattle.mdc_ast.specs.Definitions.{width}
use Rattle.mdc_ast.specs.declared.definition.ColumnDef.{ColumnDef}
use Rattle.row_page.specs.Row.{column_value}
use Rattle.row_page.proofs.RowLemmas.{length-stored_bytes}
use Rattle.block_rows.proofs.SeatsLemmas.{same_tested, stored_null, stored_value, value_there}
use Rattle.block_rows.proofs.seats.has_value_of.Goals.{In-Some}
use Rattle.block_rows.proofs.seats.has_value_of.Goals as goal

-- the column, among those of the row
column : (c : In-Some) → (at : ColumnDef) (i : _) → i ≡ c.args.place → slice_get c.args.def.now.columns i ≡ Some at → slice_get c.args.first.now.columns.now c.args.place ≡ Some at
column c at i is found =
    subst (λ columns. slice_get columns c.args.place ≡ Some at) (sym c.requires.columns) (subst (λ n. slice_get c.args.def.now.columns n ≡ Some at) is found)

pub returns-in_default : goal.returns-in_default
returns-in_default c =
    let value = value_there c.args.row.now.values c.args.place c.at-value.result.now (subst (λ n. slice_get c.args.row.now.values n ≡ Some c.at-value.result.now) c.from.ensures c.at-value.ensures) in
    let null = stored_null c.args.first.now.columns.now c.args.place c.args.first.now.bytes.now c.requires.there c.in_default.ensures in
    same_tested value null c.is_null.ensures

pub is_value-requires : goal.is_value-requires
is_value-requires c =
    ap length c.in-Some.ensures.1
    ∙ (length-stored_bytes c.args.first.now.columns.now c.args.place c.at.result.now c.args.first.now.bytes.now c.requires.there c.args.first.now.wide
    ∙ ap (λ (k : ColumnDef). width k.ty) (get_or_from_slice_get c.args.first.now.columns.now c.args.place c.at.result.now c.at.result.now (column (goal.at.is_value-requires c).In-Some c.at.result.now c.from-2.result c.from-2.ensures c.at.ensures)))

pub returns : goal.returns
returns c =
    let value = value_there c.args.row.now.values c.args.place c.at-value.result.now (subst (λ n. slice_get c.args.row.now.values n ≡ Some c.at-value.result.now) c.from.ensures c.at-value.ensures) in
    let stored =
    stored_value c.args.first.now.columns.now c.args.place c.args.first.now.bytes.now c.requires.there c.at.result.now (column (goal.at.returns c).In-Some c.at.result.now c.from-2.result c.from-2.ensures c.at.ensures) c.in-Some.ensures.0 in
    same_tested value (stored ∙ ap (column_value c.at.result.now.ty) (sym c.in-Some.ensures.1)) c.is_value.ensures
