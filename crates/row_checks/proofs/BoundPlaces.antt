-- Names that nothing is said against have places among the columns, once they are bound.
use Rattle.std.proofs.Common.{◌≡◌, ◌+◌, ◌<◌, ℕ, suc, List, [], ◌∷◌, ◌++◌, refl, length, map, arith}
use Rattle.std.specs.Prelude.{Bool, true, false, Option, Some, None, IsTrue, flat_map, nat_lt, cond, unwrap_or}
use Rattle.std.specs.List.{position_from}
use Rattle.mdc_values.specs.declared.value.ColType.{ColType}
use Rattle.mdc_values.specs.declared.value.ColType.TheVariants.{Bigint}
use Rattle.mdc_ast.specs.declared.bound.BoundOut.TheVariants as bound_out
use Rattle.mdc_ast.specs.declared.definition.ColumnDef.{ColumnDef}
use Rattle.mdc_ast.specs.declared.name.Name.{Name}
use Rattle.mdc_ast.specs.declared.statement.Operand.{Operand}
use Rattle.mdc_ast.specs.declared.statement.Operand.TheVariants as operand
use Rattle.mdc_ast.specs.declared.statement.Out.{Out}
use Rattle.mdc_ast.specs.declared.statement.Out.TheVariants as out
use Rattle.mdc_ast.specs.declared.statement.OutList.{OutList}
use Rattle.mdc_ast.specs.declared.statement.OutList.TheVariants.{Star, Outs}
use Rattle.mdc_ast.specs.declared.statement.SetItem.{SetItem}
use Rattle.mdc_ast.specs.declared.statement.SetItem.TheVariants.{One, Two}
use Rattle.mdc_ast.specs.declared.statement.SetText.{SetText}
use Rattle.statement_meaning.specs.Binding.{bound_out_of, bound_set, bound_set_item, bound_side, shown, the_place, the_type}
use Rattle.statement_meaning.specs.Cause.{cause_if}
use Rattle.mdc_ast.specs.Definitions.{column_names, column_place, is_among, is_same}
use Rattle.statement_meaning.specs.Judged.{item_columns, names_in, set_columns, shown_columns}
use Rattle.statement_meaning.specs.Judging.{operand_columns, used_name}
use Rattle.statement_meaning.proofs.CausesLemmas.{none_of_both, none_of_each}
use Rattle.mdc_ast.proofs.TestsLemmas.{and_true, lt_is_true, some_is}
use Rattle.answer_text.specs.Lines.{are_outs_within, is_out_within}
use Rattle.row_checks.specs.RowChange.{are_within, is_within, item_is_within, operand_is_within}

-- ---- places of columns

position_below : {K : Type 0} (test : K → Bool) (from : ℕ) (xs : List K) (k : ℕ) → position_from test from xs ≡ Some k → k < from + length xs
position_below test from [] k e = cc
position_below test from (first ∷ xs) k e = by_cases (test first) (position_below test (from + 1) xs k) e
  where
    by_cases : (b : Bool) → (position_from test (from + 1) xs ≡ Some k → k < from + 1 + length xs) → cond b (Some from) (position_from test (from + 1) xs) ≡ Some k → k < from + suc (length xs)
    by_cases true below e =
        let same : from ≡ k = some_is from k e in
        omega arith
    by_cases false below e = omega (arith, below e)

-- a place of a column is one of them, where there are any
place_within : (columns : List ColumnDef) (name : Name) → 0 < length columns → IsTrue (nat_lt (the_place columns name) (length columns))
place_within columns name lt = lt_is_true (the_place columns name) (length columns) (by_found (column_place columns name) refl)
  where
    by_found : (found : Option ℕ) → column_place columns name ≡ found → unwrap_or found 0 < length columns
    by_found None e = lt
    by_found (Some k) e = omega (arith, position_below (λ (column : ColumnDef). is_same column.name name) 0 columns k e)

any_columns : (columns : List ColumnDef) (name : Name) → used_name columns name ≡ [] → 0 < length columns
any_columns [] name e = cc
any_columns (first ∷ columns) name e = omega arith

-- a name that nothing is said against has a place
name_within : (columns : List ColumnDef) (name : Name) → used_name columns name ≡ [] → IsTrue (nat_lt (the_place columns name) (length columns))
name_within columns name e = place_within columns name (any_columns columns name e)

-- ---- items of an UPDATE

operand_within : (columns : List ColumnDef) (ty : ColType) (side : Operand) → operand_columns columns side ≡ [] → IsTrue (operand_is_within (length columns) (bound_side columns ty side))
operand_within columns ty (operand.Column name) e = name_within columns name e
operand_within columns ty (operand.Literal literal) e = refl

item_within : (columns : List ColumnDef) (ty : ColType) (item : SetItem) → item_columns columns item ≡ [] → IsTrue (item_is_within (length columns) (bound_set_item columns ty item))
item_within columns ty (One side) e = operand_within columns ty side e
item_within columns ty (Two a sign b) e =
    let sides = none_of_both (operand_columns columns a) (operand_columns columns b) e in
    and_true _ _ (operand_within columns Bigint a sides.0) (operand_within columns Bigint b sides.1)

pub sets_within : (columns : List ColumnDef) (earlier : List Name) (sets : List SetText) → set_columns columns earlier sets ≡ [] → IsTrue (are_within (length columns) (map (bound_set columns) sets))
sets_within columns earlier [] e = refl
sets_within columns earlier (set ∷ sets) e =
    let rest = none_of_both (used_name columns set.column ++ cause_if (is_among set.column earlier) _ ++ item_columns columns set.item) (set_columns columns (set.column ∷ earlier) sets) e in
    let items = none_of_both (used_name columns set.column ++ cause_if (is_among set.column earlier) _) (item_columns columns set.item) rest.0 in
    let used = none_of_both (used_name columns set.column) (cause_if (is_among set.column earlier) _) items.0 in
    and_true (is_within (length columns) (bound_set columns set)) _
    (and_true _ _ (name_within columns set.column used.0) (item_within columns (the_type columns set.column) set.item items.1))
    (sets_within columns (set.column ∷ earlier) sets rest.1)

-- ---- what is shown

-- a name that is used is a column
one_used : (columns : List ColumnDef) (name : Name) → flat_map (used_name columns) (name ∷ []) ≡ [] → IsTrue (nat_lt (the_place columns name) (length columns))
one_used columns name e = name_within columns name (none_of_each (used_name columns) name [] e).0

out_within : (columns : List ColumnDef) (shown : Out) → flat_map (used_name columns) (names_in shown) ≡ [] → IsTrue (is_out_within (length columns) (bound_out_of columns shown))
out_within columns (out.Column name) e = one_used columns name e
out_within columns out.CountAll e = refl
out_within columns (out.Count name) e = one_used columns name e
out_within columns (out.Sum name) e = one_used columns name e
out_within columns (out.Min name) e = one_used columns name e
out_within columns (out.Max name) e = one_used columns name e

outs_within : (columns : List ColumnDef) (outs : List Out) → flat_map (λ out. flat_map (used_name columns) (names_in out)) outs ≡ [] → IsTrue (are_outs_within (length columns) (map (bound_out_of columns) outs))
outs_within columns [] e = refl
outs_within columns (first ∷ outs) e =
    let parts = none_of_each (λ out. flat_map (used_name columns) (names_in out)) first outs e in
    and_true _ _ (out_within columns first parts.0) (outs_within columns outs parts.1)

names_within : (columns : List ColumnDef) (names : List Name) → 0 < length columns → IsTrue (are_outs_within (length columns) (map (λ name. bound_out.Column (the_place columns name)) names))
names_within columns [] lt = refl
names_within columns (name ∷ names) lt = and_true _ _ (place_within columns name lt) (names_within columns names lt)

all_within : (columns : List ColumnDef) → IsTrue (are_outs_within (length columns) (map (λ name. bound_out.Column (the_place columns name)) (column_names columns)))
all_within [] = refl
all_within (first ∷ columns) = names_within (first ∷ columns) (column_names (first ∷ columns)) (omega arith)

pub shown_within : (columns : List ColumnDef) (list : OutList) → shown_columns columns list ≡ [] → IsTrue (are_outs_within (length columns) (shown columns list))
shown_within columns Star e = all_within columns
shown_within columns (Outs outs) e = outs_within columns outs e
