-- The value is read from the bytes of its column.
use Rattle.std.proofs.Common.{◌≡◌, ◌∙◌, ℕ, Bool, false, List, length, get_or, Option, Some, Result, Ok, Err, ap, sym, subst}
use Rattle.std.specs.Prelude.{IfOk}
use Rattle.std.proofs.lemmas.Option.{same_Some}
use Rattle.mdc_values.specs.declared.memory.Memory.{Memory}
use Rattle.mdc_values.specs.declared.value.ColType.{ColType}
use Rattle.mdc_values.specs.declared.value.Value.{Value}
use Rattle.mdc_values.specs.Value.{IsText}
use Rattle.row_page.specs.Row.{column_value, stored_bytes, value_or_null}
use Rattle.row_page.proofs.RowLemmas.{get-row_in, length-stored_bytes}
use Rattle.row_page.proofs.row_view.RowView.value.Goals as goal

pub read_value-requires : goal.read_value-requires
read_value-requires c =
    ap length c.in-Some.ensures.1 ∙ length-stored_bytes c.args.self.now.columns.now c.args.column c.index-self-column.result c.args.self.now.bytes.now c.requires c.args.self.now.wide

pub returns-in-None-clause-ok : goal.returns-in-None-clause-ok
returns-in-None-clause-ok c =
    get-row_in c.args.self.now.columns.now c.args.column c.index-self-column.result c.args.self.now.bytes.now c.requires
    ∙ ap (λ b. Some (value_or_null b (get_or c.args.self.now.columns.now c.args.column c.index-self-column.result).ty (stored_bytes c.args.self.now.columns.now c.args.column c.args.self.now.bytes.now))) c.in-None.ensures

read : (ty : ColType) (found : Option Value) (null : Bool) (bytes stored : List ℕ) (result : Result Value Memory) → found ≡ Some (value_or_null null ty stored) → null ≡ false → bytes ≡ stored
    → IfOk result (λ value. value ≡ column_value ty bytes) → IfOk result (λ value. found ≡ Some value)
read ty found null bytes stored (Ok value) is not_null same read_so =
    is ∙ (ap (λ b. Some (value_or_null b ty stored)) not_null ∙ (ap (λ bs. Some (column_value ty bs)) (sym same) ∙ ap Some (sym read_so)))
read ty found null bytes stored (Err memory) is not_null same read_so = tt

pub returns-in-Some-clause-ok : goal.returns-in-Some-clause-ok
returns-in-Some-clause-ok c =
    read (get_or c.args.self.now.columns.now c.args.column c.index-self-column.result).ty _ _ c.in-Some.bytes.now _ c.read_value.result
    (get-row_in c.args.self.now.columns.now c.args.column c.index-self-column.result c.args.self.now.bytes.now c.requires) c.in-Some.ensures.0 c.in-Some.ensures.1 c.read_value.ensures.ok

unread : (ty : ColType) (found : Option Value) (null : Bool) (bytes stored : List ℕ) (value : Value) → found ≡ Some (value_or_null null ty stored) → null ≡ false → bytes ≡ stored
    → IsText (column_value ty bytes) → found ≡ Some value → IsText value
unread ty found null bytes stored value is not_null same text here =
    subst IsText (ap (column_value ty) same ∙ (ap (λ b. value_or_null b ty stored) (sym not_null) ∙ same_Some _ _ (sym is ∙ here))) text

pub returns-in-Some-clause-memory : goal.returns-in-Some-clause-memory
returns-in-Some-clause-memory c = λ err value here.
    unread (get_or c.args.self.now.columns.now c.args.column c.index-self-column.result).ty _ _ c.in-Some.bytes.now _ value
    (get-row_in c.args.self.now.columns.now c.args.column c.index-self-column.result c.args.self.now.bytes.now c.requires) c.in-Some.ensures.0 c.in-Some.ensures.1 (c.read_value.ensures.memory err) here
