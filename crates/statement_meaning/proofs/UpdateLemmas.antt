-- Rows that an UPDATE changes fit their columns, where nothing is said against them.
use Rattle.std.proofs.Common.{◌≡◌, ℕ, zero, suc, List, [], ◌∷◌, ◌++◌, length, map, Bool, true, false, refl, sym, ap, subst, ℤ, arith}
use Rattle.std.specs.Prelude.{IsTrue, ◌≤◌, not, nat_lt, flat_map, if◌then◌else◌, Option, Some, slice_get, slice_set, option_map, unwrap_or}
use Rattle.std.specs.List.{AllByRecursion}
use Rattle.std.proofs.lemmas.Bool.Decides.{nat_tests}
use Rattle.mdc_values.specs.declared.value.ColType.{ColType}
use Rattle.mdc_values.specs.declared.value.ColType.TheVariants.{Integer, Bigint, Char, Date}
use Rattle.mdc_values.specs.declared.value.Value.{Value}
use Rattle.mdc_values.specs.declared.value.Value.TheVariants.{Null, Int, Text, Day}
use Rattle.mdc_ast.specs.declared.bound.BoundSet.{BoundSet}
use Rattle.mdc_ast.specs.declared.definition.ColumnDef.{ColumnDef}
use Rattle.mdc_ast.specs.declared.name.Name.{Name}
use Rattle.mdc_ast.specs.declared.predicate.Pred.{Pred}
use Rattle.mdc_ast.specs.declared.row.Row.{Row}
use Rattle.mdc_ast.specs.declared.statement.Operand.TheVariants as operand
use Rattle.mdc_ast.specs.declared.statement.SetItem.{SetItem}
use Rattle.mdc_ast.specs.declared.statement.SetItem.TheVariants.{One, Two}
use Rattle.mdc_ast.specs.declared.statement.SetText.{SetText}
use Rattle.mdc_ast.specs.declared.statement.Sign.{Sign}
use Rattle.mdc_ast.specs.Truth.{value_at, qualifies}
use Rattle.statement_meaning.specs.Binding.{bound_set, bound_set_item, the_place, the_type}
use Rattle.statement_meaning.specs.Cause.{ColumnTwice, cause_if, Overflow, TextTooLong}
use Rattle.mdc_ast.specs.Database.{fits, fits_all, is_of_type}
use Rattle.mdc_ast.specs.Definitions.{column_named, column_place, is_among}
use Rattle.statement_meaning.specs.Doing.{holds_number, is_longer, changed_causes, changed_row, computed, computed_number, item_on, null_causes, outgrows, set_causes, set_on}
use Rattle.statement_meaning.specs.Judged.{counts, item_columns, item_types, set_columns, set_types}
use Rattle.mdc_ast.specs.Kinds.{kind_of, is_number, same_kind}
use Rattle.statement_meaning.specs.Judging.{kinds_meet, used_name}
use Rattle.statement_meaning.proofs.BindingLemmas.{place_there}
use Rattle.statement_meaning.proofs.CausesLemmas.{is_there, none_if, none_if_not, none_of_both, none_of_each, none_of_some}
use Rattle.mdc_ast.proofs.FitsLemmas.{fits_all-at, is_of_type-text, text_of_type}
use Rattle.statement_meaning.proofs.LiteralsLemmas.{is_of_type-fit_of}
use Rattle.statement_meaning.proofs.RowsLemmas.{null_type, are_of_types, fits_all-are_of_types}
use Rattle.mdc_ast.proofs.TestsLemmas.{and_true, both, some_is}

-- ---- one item

int_type : (name : Name) (ty : ColType) (n : ℤ) → IsTrue (is_number ty) → cause_if (not (holds_number ty n)) (Overflow name) ≡ [] → IsTrue (is_of_type ty (Int n))
int_type name Integer n number e = none_if_not _ _ e
int_type name Bigint n number e = none_if_not _ _ e
int_type name (Char c) n number e = cc
int_type name Date n number e = cc

copied_int : (name : Name) (ty other : ColType) (n : ℤ) → IsTrue (same_kind (kind_of ty) (kind_of other)) → IsTrue (is_of_type other (Int n)) → cause_if (not (holds_number ty n)) (Overflow name) ≡ [] → IsTrue (is_of_type ty (Int n))
copied_int name ty Integer n kinds h e = int_type name ty n kinds e
copied_int name ty Bigint n kinds h e = int_type name ty n kinds e
copied_int name ty (Char c) n kinds h e = cc
copied_int name ty Date n kinds h e = cc

not_longer : (n m : ℕ) → nat_lt n m ≡ false → m ≤ n
not_longer n m e = grind (arith, nat_tests, e)

copied_text : (name : Name) (ty other : ColType) (text : List ℕ) → IsTrue (same_kind (kind_of ty) (kind_of other)) → IsTrue (is_of_type other (Text text)) → cause_if (is_longer ty text) (TextTooLong name) ≡ [] → IsTrue (is_of_type ty (Text text))
copied_text name (Char n) (Char m) text kinds h e =
    let is = text_of_type m text h in
    is_of_type-text n text (record { short = not_longer n (length text) (none_if _ _ e); ends = is.ends; bytes = is.bytes })
copied_text name Integer (Char m) text kinds h e = cc
copied_text name Bigint (Char m) text kinds h e = cc
copied_text name Date (Char m) text kinds h e = cc
copied_text name ty Integer text kinds h e = cc
copied_text name ty Bigint text kinds h e = cc
copied_text name ty Date text kinds h e = cc

copied_day : (ty other : ColType) (day : ℕ) → IsTrue (same_kind (kind_of ty) (kind_of other)) → IsTrue (is_of_type other (Day day)) → IsTrue (is_of_type ty (Day day))
copied_day Date Date day kinds h = h
copied_day Integer Date day kinds h = cc
copied_day Bigint Date day kinds h = cc
copied_day (Char n) Date day kinds h = cc
copied_day ty Integer day kinds h = cc
copied_day ty Bigint day kinds h = cc
copied_day ty (Char m) day kinds h = cc

-- a value of a column of the same kind, which isn't too large for the column set
copied_type : (a b : ColumnDef) (value : Value) → IsTrue (same_kind (kind_of a.ty) (kind_of b.ty)) → IsTrue (is_of_type b.ty value) → outgrows a value ≡ [] → IsTrue (is_of_type a.ty value)
copied_type a b Null kinds h e = null_type a.ty
copied_type a b (Int n) kinds h e = copied_int a.name a.ty b.ty n kinds h e
copied_type a b (Text text) kinds h e = copied_text a.name a.ty b.ty text kinds h e
copied_type a b (Day day) kinds h e = copied_day a.ty b.ty day kinds h

-- a computed number, or null
computed_type : (a : ColumnDef) (sign : Sign) (x y : Value) → IsTrue (is_number a.ty) → outgrows a (computed sign x y) ≡ [] → IsTrue (is_of_type a.ty (computed sign x y))
computed_type a sign (Int n) (Int m) number e = int_type a.name a.ty (computed_number sign n m) number e
computed_type a sign (Int n) Null number e = null_type a.ty
computed_type a sign (Int n) (Text t) number e = null_type a.ty
computed_type a sign (Int n) (Day d) number e = null_type a.ty
computed_type a sign Null y number e = null_type a.ty
computed_type a sign (Text t) y number e = null_type a.ty
computed_type a sign (Day d) y number e = null_type a.ty

-- what an item makes of a row that fits is of the type of the column set
item_type : (columns : List ColumnDef) (was : List Value) (target : ColumnDef) (item : SetItem) → IsTrue (fits_all columns was) → item_columns columns item ≡ [] → item_types columns target item ≡ [] → outgrows target (item_on was (bound_set_item columns target.ty item)) ≡ [] → IsTrue (is_of_type target.ty (item_on was (bound_set_item columns target.ty item)))
item_type columns was target (One (operand.Literal literal)) fit there typed e = is_of_type-fit_of target.ty literal
item_type columns was target (One (operand.Column name)) fit there typed e =
    let found : (column : ColumnDef) × (column_named columns name ≡ Some column) = is_there (column_named columns name) _ there in
    let at : slice_get columns (the_place columns name) ≡ Some found.0 = place_there columns name found.0 (column_place columns name) refl found.1 in
    let kinds : IsTrue (same_kind (kind_of target.ty) (kind_of found.0.ty)) = none_if_not _ _ (none_of_some (column_named columns name) found.0 (kinds_meet target.name target) found.1 typed) in
    copied_type target found.0 (value_at was (the_place columns name)) kinds (fits_all-at columns was (the_place columns name) found.0 at fit) e
item_type columns was target (Two a sign b) fit there typed e =
    computed_type target sign _ _ (both (is_number target.ty) _ (both _ (counts columns b) (none_if_not _ _ typed)).0).0 e

-- ---- a row

types_put : (columns : List ColumnDef) (values : List Value) (i : ℕ) (column : ColumnDef) (value : Value) → slice_get columns i ≡ Some column → IsTrue (is_of_type column.ty value) → IsTrue (are_of_types columns values) → IsTrue (are_of_types columns (slice_set values i value))
types_put [] values i column value at h types = cc
types_put (first ∷ columns) [] i column value at h types = cc
types_put (first ∷ columns) (old ∷ values) zero column value at h types = and_true _ _ (subst (λ c. IsTrue (is_of_type c.ty value)) (sym (some_is first column at)) h) (both (is_of_type first.ty old) _ types).1
types_put (first ∷ columns) (old ∷ values) (suc i) column value at h types = and_true _ _ (both (is_of_type first.ty old) _ types).0 (types_put columns values i column value at h (both (is_of_type first.ty old) _ types).1)

pub are_of_types-fits_all : (columns : List ColumnDef) (values : List Value) → IsTrue (fits_all columns values) → IsTrue (are_of_types columns values)
are_of_types-fits_all [] [] h = refl
are_of_types-fits_all [] (value ∷ values) h = cc
are_of_types-fits_all (column ∷ columns) [] h = cc
are_of_types-fits_all (column ∷ columns) (value ∷ values) h =
    let parts : IsTrue (fits column value) × IsTrue (fits_all columns values) = both _ _ h in
    and_true _ _ (both (is_of_type column.ty value) _ parts.0).0 (are_of_types-fits_all columns values parts.1)

-- nothing is said against the columns and types of what an UPDATE sets
pub record AreSettable (columns : List ColumnDef) (earlier : List Name) (sets : List SetText) : Type 0 where
  pub there : set_columns columns earlier sets ≡ []
  pub typed : flat_map (set_types columns) sets ≡ []

-- what is said against one column set, and against the others
pub record SetParts (columns : List ColumnDef) (earlier : List Name) (set : SetText) (sets : List SetText) : Type 0 where
  pub column : ColumnDef
  pub named : column_named columns set.column ≡ Some column
  pub items : item_columns columns set.item ≡ []
  pub types : item_types columns column set.item ≡ []
  pub others : AreSettable columns (set.column ∷ earlier) sets

set_parts : (columns : List ColumnDef) (earlier : List Name) (set : SetText) (sets : List SetText) → AreSettable columns earlier (set ∷ sets) → SetParts columns earlier set sets
set_parts columns earlier set sets settable =
    let rest = none_of_both (used_name columns set.column ++ cause_if (is_among set.column earlier) (ColumnTwice set.column) ++ item_columns columns set.item) (set_columns columns (set.column ∷ earlier) sets) settable.there in
    let items = none_of_both (used_name columns set.column ++ cause_if (is_among set.column earlier) (ColumnTwice set.column)) (item_columns columns set.item) rest.0 in
    let used = none_of_both (used_name columns set.column) (cause_if (is_among set.column earlier) (ColumnTwice set.column)) items.0 in
    let found : (column : ColumnDef) × (column_named columns set.column ≡ Some column) = is_there (column_named columns set.column) _ used.0 in
    let types = none_of_each (set_types columns) set sets settable.typed in
    record {
      column = found.0;
      named = found.1;
      items = items.1;
      types = (none_of_both _ _ (none_of_some (column_named columns set.column) found.0 _ found.1 types.0)).1;
      others = record { there = rest.1; typed = types.1 };
    }

set_types_kept : (columns : List ColumnDef) (earlier : List Name) (sets : List SetText) (was values : List Value) → IsTrue (fits_all columns was) → AreSettable columns earlier sets → flat_map (set_causes columns was) (map (bound_set columns) sets) ≡ [] → IsTrue (are_of_types columns values) → IsTrue (are_of_types columns (set_on was (map (bound_set columns) sets) values))
set_types_kept columns earlier [] was values fit settable e types = types
set_types_kept columns earlier (set ∷ sets) was values fit settable e types =
    let parts : SetParts columns earlier set sets = set_parts columns earlier set sets settable in
    let at : slice_get columns (the_place columns set.column) ≡ Some parts.column = place_there columns set.column parts.column (column_place columns set.column) refl parts.named in
    let causes = none_of_each (set_causes columns was) (bound_set columns set) (map (bound_set columns) sets) e in
    let small : outgrows parts.column (item_on was (bound_set_item columns (the_type columns set.column) set.item)) ≡ [] = none_of_some (slice_get columns (the_place columns set.column)) parts.column _ at causes.0 in
    let type : the_type columns set.column ≡ parts.column.ty = ap (λ found. unwrap_or (option_map (λ column. column.ty) found) Bigint) parts.named in
    let is : IsTrue (is_of_type parts.column.ty (item_on was (bound_set_item columns (the_type columns set.column) set.item))) =
    subst (λ ty. IsTrue (is_of_type parts.column.ty (item_on was (bound_set_item columns ty set.item)))) (sym type)
    (item_type columns was parts.column set.item fit parts.items parts.types (subst (λ ty. outgrows parts.column (item_on was (bound_set_item columns ty set.item)) ≡ []) type small)) in
    set_types_kept columns (set.column ∷ earlier) sets was _ fit parts.others causes.1 (types_put columns values (the_place columns set.column) parts.column _ at is types)

-- a row that qualifies fits once it is changed, and another stays
changed_fits : (columns : List ColumnDef) (sets : List SetText) (pred : Option Pred) (row : Row) → AreSettable columns [] sets → changed_causes columns (map (bound_set columns) sets) pred row ≡ [] → IsTrue (fits_all columns row.values) → IsTrue (fits_all columns (changed_row (map (bound_set columns) sets) pred row).values)
changed_fits columns sets pred row settable e fit = by_cases (qualifies pred row.values) refl
  where
    by_cases : (b : Bool) → qualifies pred row.values ≡ b → IsTrue (fits_all columns (changed_row (map (bound_set columns) sets) pred row).values)
    by_cases false is = rw is fit
    by_cases true is =
        let causes = none_of_both (flat_map (set_causes columns row.values) (map (bound_set columns) sets)) _ (subst (λ b. (if b then flat_map (set_causes columns row.values) (map (bound_set columns) sets) ++ null_causes columns (set_on row.values (map (bound_set columns) sets) row.values) else []) ≡ []) is e) in
        rw is (fits_all-are_of_types columns _ (set_types_kept columns [] sets row.values row.values fit settable causes.0 (are_of_types-fits_all columns row.values fit)) causes.1)

-- the rows of an UPDATE
pub all_changed_fit : (columns : List ColumnDef) (sets : List SetText) (pred : Option Pred) (rows : List Row) → AreSettable columns [] sets → flat_map (changed_causes columns (map (bound_set columns) sets) pred) rows ≡ [] → AllByRecursion (λ row. IsTrue (fits_all columns row.values)) rows → AllByRecursion (λ row. IsTrue (fits_all columns row.values)) (map (changed_row (map (bound_set columns) sets) pred) rows)
all_changed_fit columns sets pred [] settable e fit = tt
all_changed_fit columns sets pred (row ∷ rows) settable e fit =
    let causes = none_of_each (changed_causes columns (map (bound_set columns) sets) pred) row rows e in
    (changed_fits columns sets pred row settable causes.0 fit.0, all_changed_fit columns sets pred rows settable causes.1 fit.1)

-- and keep their numbers
pub number-changed_row : (sets : List BoundSet) (pred : Option Pred) (row : Row) → (changed_row sets pred row).number ≡ row.number
number-changed_row sets pred row = by_cases (qualifies pred row.values)
  where
    by_cases : (b : Bool) → (if b then record row { values = set_on row.values sets row.values } else row).number ≡ row.number
    by_cases true = refl
    by_cases false = refl
