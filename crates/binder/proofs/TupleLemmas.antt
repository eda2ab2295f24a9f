-- What is said of the items of a tuple, from a place on.
use Rattle.std.proofs.Common.{◌≡◌, ℕ, ◌+◌, ◌<◌, ◌≤◌, inl, inr, true, false, List, [], ◌∷◌, ◌++◌, Some, None, add-one, arith, drop, drop-cons, get_or, length, min, refl, sym, ◌∙◌}
use Rattle.std.specs.Prelude.{if◌then◌else◌, slice_get}
use Rattle.std.proofs.lemmas.Bool.{cases_lt}
use Rattle.std.proofs.lemmas.List.{drop_all}
use Rattle.std.proofs.lemmas.Option.{same_Some, slice_get-get_or}
use Rattle.mdc_ast.specs.declared.definition.ColumnDef.{ColumnDef}
use Rattle.mdc_ast.specs.declared.name.Name.{Name}
use Rattle.mdc_ast.specs.declared.statement.InsertItem.{InsertItem}
use Rattle.mdc_ast.specs.declared.statement.InsertItem.TheVariants.{Default}
use Rattle.statement_meaning.specs.Cause.{Cause}
use Rattle.mdc_ast.specs.Definitions.{column_named, is_same}
use Rattle.statement_meaning.specs.Binding.{given_for, item_value}
use Rattle.mdc_values.specs.declared.value.Value.TheVariants.{Null}
use Rattle.statement_meaning.specs.Judged.{each_item}
use Rattle.statement_meaning.specs.Judging.{of_some}
use Rattle.binder.specs.Saying.{first_of}
use Rattle.binder.proofs.FirstLemmas.{first_of-behind, first_of-front}

each_item-step : (columns : List ColumnDef) (judge : ColumnDef → InsertItem → List Cause) (names : List Name) (items : List InsertItem) (i : ℕ) (name : Name) (item : InsertItem)
    → i < length names → i < length items → slice_get names i ≡ Some name → item ≡ get_or items i item
    → each_item columns judge (drop i names) (drop i items) ≡ of_some (column_named columns name) (λ column. judge column item) ++ each_item columns judge (drop (i + 1) names) (drop (i + 1) items)
each_item-step columns judge names items i name item named given at is =
    let here : get_or names i name ≡ name = same_Some (get_or names i name) name (sym (slice_get-get_or names i name named) ∙ at) in
    rw (drop-cons names i name, drop-cons items i item, add-one, here, ← is) refl

pub each_item-here : (columns : List ColumnDef) (judge : ColumnDef → InsertItem → List Cause) (names : List Name) (items : List InsertItem) (i : ℕ) (name : Name) (item : InsertItem) (cause : Cause)
    → i < length names → i < length items → slice_get names i ≡ Some name → item ≡ get_or items i item
    → first_of (of_some (column_named columns name) (λ column. judge column item)) ≡ Some cause
    → first_of (each_item columns judge (drop i names) (drop i items)) ≡ Some cause
each_item-here columns judge names items i name item cause named given at is e = rw (each_item-step columns judge names items i name item named given at is) (first_of-front _ _ cause e)

pub each_item-next : (columns : List ColumnDef) (judge : ColumnDef → InsertItem → List Cause) (names : List Name) (items : List InsertItem) (i : ℕ) (name : Name) (item : InsertItem)
    → i < length names → i < length items → slice_get names i ≡ Some name → item ≡ get_or items i item
    → first_of (of_some (column_named columns name) (λ column. judge column item)) ≡ None
    → first_of (each_item columns judge (drop i names) (drop i items)) ≡ first_of (each_item columns judge (drop (i + 1) names) (drop (i + 1) items))
each_item-next columns judge names items i name item named given at is e = rw (each_item-step columns judge names items i name item named given at is) (first_of-behind _ _ e)

each_item-no_items : (columns : List ColumnDef) (judge : ColumnDef → InsertItem → List Cause) (names : List Name) → each_item columns judge names [] ≡ []
each_item-no_items columns judge [] = refl
each_item-no_items columns judge (name ∷ names) = refl

pub each_item-end : (columns : List ColumnDef) (judge : ColumnDef → InsertItem → List Cause) (names : List Name) (items : List InsertItem) (i : ℕ)
    → min (length items) (length names) ≤ i → first_of (each_item columns judge (drop i names) (drop i items)) ≡ None
each_item-end columns judge names items i le =
    elim (cases_lt i (length names)) [
      | inr short ↦ rw (drop_all i names) refl
      | inl long ↦ (let few : length items ≤ i = omega (arith, le, long) in rw (drop_all i items, each_item-no_items columns judge (drop i names)) refl)
    ]

-- ---- the value that a tuple gives a column

given_for-step : (column : ColumnDef) (names : List Name) (items : List InsertItem) (i : ℕ) (name : Name) (item : InsertItem)
    → i < length names → i < length items → slice_get names i ≡ Some name → item ≡ get_or items i item
    → given_for column (drop i names) (drop i items) ≡ (if is_same name column.name then item_value column.ty item else given_for column (drop (i + 1) names) (drop (i + 1) items))
given_for-step column names items i name item named given at is =
    let here : get_or names i name ≡ name = same_Some (get_or names i name) name (sym (slice_get-get_or names i name named) ∙ at) in
    rw (drop-cons names i name, drop-cons items i item, add-one, here, ← is) refl

pub given_for-here : (column : ColumnDef) (names : List Name) (items : List InsertItem) (i : ℕ) (name : Name) (item : InsertItem)
    → i < length names → i < length items → slice_get names i ≡ Some name → item ≡ get_or items i item → is_same name column.name ≡ true
    → given_for column (drop i names) (drop i items) ≡ item_value column.ty item
given_for-here column names items i name item named given at is same = rw (given_for-step column names items i name item named given at is, same) refl

pub given_for-next : (column : ColumnDef) (names : List Name) (items : List InsertItem) (i : ℕ) (name : Name)
    → i < length names → i < length items → slice_get names i ≡ Some name → is_same name column.name ≡ false
    → given_for column (drop i names) (drop i items) ≡ given_for column (drop (i + 1) names) (drop (i + 1) items)
given_for-next column names items i name named given at other =
    let here : get_or names i name ≡ name = same_Some (get_or names i name) name (sym (slice_get-get_or names i name named) ∙ at) in
    rw (drop-cons names i name, drop-cons items i Default, add-one, here, other) refl

given_for-no_items : (column : ColumnDef) (names : List Name) → given_for column names [] ≡ Null
given_for-no_items column [] = refl
given_for-no_items column (name ∷ names) = refl

pub given_for-end : (column : ColumnDef) (names : List Name) (items : List InsertItem) (i : ℕ)
    → min (length items) (length names) ≤ i → given_for column (drop i names) (drop i items) ≡ Null
given_for-end column names items i le =
    elim (cases_lt i (length names)) [
      | inr short ↦ rw (drop_all i names) refl
      | inl long ↦ (let few : length items ≤ i = omega (arith, le, long) in rw (drop_all i items, given_for-no_items column (drop i names)) refl)
    ]
