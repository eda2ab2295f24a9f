-- A bound predicate may be judged on each row whose values are of the kinds of its columns, within their types or not.
use Rattle.std.proofs.Common.{◌≡◌, ◌≤◌, ℕ, zero, suc, List, [], ◌∷◌, map, refl, sym, ap, subst, length, arith}
use Rattle.std.specs.Prelude.{Bool, true, false, IsTrue, not, ◌&&◌, Option, Some, None, nat_le, slice_get, pos}
use Rattle.std.specs.List.{list_all}
use Rattle.std.proofs.lemmas.Bool.Decides.{nat_tests}
use Rattle.std.proofs.lemmas.List.{length-map}
use Rattle.mdc_values.specs.declared.value.ColType.{ColType}
use Rattle.mdc_values.specs.declared.value.ColType.TheVariants.{Integer, Bigint, Char, Date}
use Rattle.mdc_values.specs.declared.value.Value.{Value}
use Rattle.mdc_values.specs.declared.value.Value.TheVariants.{Null, Int, Text, Day}
use Rattle.mdc_values.specs.Order.{are_alike}
use Rattle.mdc_ast.specs.declared.definition.ColumnDef.{ColumnDef}
use Rattle.mdc_ast.specs.declared.predicate.Atom.{Atom}
use Rattle.mdc_ast.specs.declared.predicate.Pred.{Pred}
use Rattle.mdc_ast.specs.declared.predicate.Pred.TheFolds.{fold-roll-Pred, ind-Pred, map-Pred}
use Rattle.mdc_ast.specs.declared.predicate.Pred.TheOpen.{Pred-F}
use Rattle.mdc_ast.specs.declared.predicate.Pred.TheOpen as layer
use Rattle.mdc_ast.specs.declared.predicate.Pred.TheViews.{roll-Pred}
use Rattle.mdc_ast.specs.declared.predicate.PredText.{PredText}
use Rattle.mdc_ast.specs.declared.predicate.Right.TheVariants as right
use Rattle.mdc_ast.specs.declared.predicate.Test.{Test}
use Rattle.mdc_ast.specs.declared.predicate.Test.TheVariants.{Compare, Between, Within, IsNull}
use Rattle.mdc_ast.specs.Truth.{all_true, has_column, layer_may_test, may_judge, may_test, may_test_atom, value_at}
use Rattle.statement_meaning.specs.Binding.{bound_where}
use Rattle.mdc_ast.specs.Database.{fits, fits_all, is_null, is_of_type}
use Rattle.mdc_ast.specs.Kinds.{Kind, Numbers, Texts, Days, kind_of, same_kind}
use Rattle.statement_meaning.specs.Judging.{atoms_of}
use Rattle.statement_meaning.proofs.BindingLemmas.{AreBound, may_judge-bound_where}
use Rattle.mdc_ast.proofs.KindsLemmas as value
use Rattle.mdc_ast.proofs.KindsLemmas.{are_alike-same_kind, same_kind-refl}
use Rattle.mdc_ast.proofs.FitsLemmas.{fits_all-at, is_of_type-text, length-fits_all}
use Rattle.mdc_ast.proofs.TestsLemmas.{and_true, both, some_is}
use Rattle.row_checks.proofs.Changeable.{there_is}
use Rattle.row_filter.specs.Filtering.{may_filter}
use Rattle.row_checks.specs.Served.{HaveKinds, is_of_kind}

-- ---- rows that fit have the kinds

null_kind : (ty : ColType) → IsTrue (is_of_kind ty Null)
null_kind Integer = refl
null_kind Bigint = refl
null_kind (Char n) = refl
null_kind Date = refl

kind_of_fitting : (ty : ColType) (value : Value) → IsTrue (is_of_type ty value) → IsTrue (is_of_kind ty value)
kind_of_fitting ty Null h = null_kind ty
kind_of_fitting Integer (Int n) h = refl
kind_of_fitting Bigint (Int n) h = refl
kind_of_fitting (Char n) (Text text) h = refl
kind_of_fitting Date (Day day) h = refl
kind_of_fitting ty value h = cc

pub kinds_of_fitting : (columns : List ColumnDef) (values : List Value) → IsTrue (fits_all columns values) → HaveKinds columns values
kinds_of_fitting columns values fit = record {
  wide = omega (arith, length-fits_all columns values fit);
  each = λ place column at. kind_of_fitting column.ty (value_at values place) (fits_all-at columns values place column at fit);
}

-- ---- a row of samples

-- a value that fits any column of a type
abbrev sample : ColType → Value
sample Integer = Int (pos 0)
sample Bigint = Int (pos 0)
sample (Char n) = Text []
sample Date = Day 10101

abbrev samples : List ColumnDef → List Value
samples columns = map (λ column. sample column.ty) columns

sample_type : (ty : ColType) → IsTrue (is_of_type ty (sample ty))
sample_type Integer = refl
sample_type Bigint = refl
sample_type (Char n) = is_of_type-text n [] (record { short = omega arith; ends = refl; bytes = refl })
sample_type Date = refl

no_null : (ty : ColType) (not_null : Bool) → IsTrue (not (not_null && is_null (sample ty)))
no_null ty false = refl
no_null Integer true = refl
no_null Bigint true = refl
no_null (Char n) true = refl
no_null Date true = refl

samples_fit : (columns : List ColumnDef) → IsTrue (fits_all columns (samples columns))
samples_fit [] = refl
samples_fit (column ∷ columns) = and_true (fits column (sample column.ty)) _ (and_true (is_of_type column.ty (sample column.ty)) _ (sample_type column.ty) (no_null column.ty column.not_null)) (samples_fit columns)

sample_at : (columns : List ColumnDef) (place : ℕ) (column : ColumnDef) → slice_get columns place ≡ Some column → value_at (samples columns) place ≡ sample column.ty
sample_at [] place column at = absurd cc
sample_at (first ∷ columns) zero column at = ap (λ (column : ColumnDef). sample column.ty) (some_is first column at)
sample_at (first ∷ columns) (suc place) column at = sample_at columns place column at

-- ---- what may be compared with a sample

kind_meant : (ty : ColType) (v : Value) → IsTrue (is_of_kind ty v) → IsTrue (value.is_of_kind v (kind_of ty))
kind_meant ty Null h = refl
kind_meant Integer (Int n) h = refl
kind_meant Bigint (Int n) h = refl
kind_meant (Char n) (Text text) h = refl
kind_meant Date (Day day) h = refl
kind_meant ty v h = cc

kind_met : (ty : ColType) (other : Value) → IsTrue (are_alike (sample ty) other) → IsTrue (value.is_of_kind other (kind_of ty))
kind_met ty Null h = refl
kind_met Integer (Int n) h = refl
kind_met Bigint (Int n) h = refl
kind_met (Char n) (Text text) h = refl
kind_met Date (Day day) h = refl
kind_met ty other h = cc

kinds_met : (kind : Kind) (ty : ColType) → IsTrue (value.is_of_kind (sample ty) kind) → IsTrue (same_kind kind (kind_of ty))
kinds_met Numbers Integer h = refl
kinds_met Numbers Bigint h = refl
kinds_met Texts (Char n) h = refl
kinds_met Days Date h = refl
kinds_met kind ty h = cc

-- a value of the kind may be compared with it too
alike_too : (ty : ColType) (v other : Value) → IsTrue (is_of_kind ty v) → IsTrue (are_alike (sample ty) other) → IsTrue (are_alike v other)
alike_too ty v other kind h = are_alike-same_kind (kind_of ty) (kind_of ty) v other (kind_meant ty v kind) (kind_met ty other h) (same_kind-refl (kind_of ty))

each_alike_too : (ty : ColType) (v : Value) (others : List Value) → IsTrue (is_of_kind ty v) → IsTrue (list_all (are_alike (sample ty)) others) → IsTrue (list_all (are_alike v) others)
each_alike_too ty v [] kind h = refl
each_alike_too ty v (other ∷ others) kind h =
    let parts = both (are_alike (sample ty) other) (list_all (are_alike (sample ty)) others) h in
    and_true (are_alike v other) _ (alike_too ty v other kind parts.0) (each_alike_too ty v others kind parts.1)

-- and two of the kinds of two columns, if their samples may be compared
alike_both : (a b : ColType) (x y : Value) → IsTrue (is_of_kind a x) → IsTrue (is_of_kind b y) → IsTrue (are_alike (sample a) (sample b)) → IsTrue (are_alike x y)
alike_both a b x y kind_x kind_y h =
    are_alike-same_kind (kind_of a) (kind_of b) x y (kind_meant a x kind_x) (kind_meant b y kind_y) (kinds_met (kind_of a) b (kind_met a (sample b) h))

-- ---- what may be judged on the samples

-- a column is there in the one row if it is in the other
there_too : (columns : List ColumnDef) (values : List Value) (place : ℕ) → HaveKinds columns values → IsTrue (has_column (samples columns) place) → IsTrue (has_column values place)
there_too columns values place kinds h =
    let many : length (samples columns) ≤ length values = rw (length-map columns (λ (column : ColumnDef). sample column.ty)) kinds.wide in
    grind (arith, nat_tests, h, many)

-- the column at a place
column_there : (columns : List ColumnDef) (place : ℕ) → IsTrue (has_column (samples columns) place) → (column : ColumnDef) × (slice_get columns place ≡ Some column)
column_there columns place h = there_is columns place (rw (sym (length-map columns (λ (column : ColumnDef). sample column.ty))) h)

test_too : (columns : List ColumnDef) (values : List Value) (ty : ColType) (v : Value) (test : Test) → HaveKinds columns values → IsTrue (is_of_kind ty v) → IsTrue (may_test (samples columns) (sample ty) test) → IsTrue (may_test values v test)
test_too columns values ty v (Compare op (right.Value other)) kinds kind h = alike_too ty v other kind h
test_too columns values ty v (Compare op (right.Column place)) kinds kind h =
    let parts = both (has_column (samples columns) place) (are_alike (sample ty) (value_at (samples columns) place)) h in
    let found : (column : ColumnDef) × (slice_get columns place ≡ Some column) = column_there columns place parts.0 in
    and_true (has_column values place) _ (there_too columns values place kinds parts.0)
    (alike_both ty found.0.ty v (value_at values place) kind (kinds.each place found.0 found.1) (subst (λ s. IsTrue (are_alike (sample ty) s)) (sample_at columns place found.0 found.1) parts.1))
test_too columns values ty v (Between low high) kinds kind h =
    let parts = both (are_alike (sample ty) low) (are_alike (sample ty) high) h in
    and_true (are_alike v low) _ (alike_too ty v low kind parts.0) (alike_too ty v high kind parts.1)
test_too columns values ty v (Within others) kinds kind h = each_alike_too ty v others kind h
test_too columns values ty v IsNull kinds kind h = refl

atom_too : (columns : List ColumnDef) (values : List Value) (atom : Atom) → HaveKinds columns values → IsTrue (may_test_atom (samples columns) atom) → IsTrue (may_test_atom values atom)
atom_too columns values atom kinds h =
    let parts = both (has_column (samples columns) atom.column) (may_test (samples columns) (value_at (samples columns) atom.column) atom.test) h in
    let found : (column : ColumnDef) × (slice_get columns atom.column ≡ Some column) = column_there columns atom.column parts.0 in
    and_true (has_column values atom.column) _ (there_too columns values atom.column kinds parts.0)
    (test_too columns values found.0.ty (value_at values atom.column) atom.test kinds (kinds.each atom.column found.0 found.1)
    (subst (λ s. IsTrue (may_test (samples columns) s atom.test)) (sample_at columns atom.column found.0 found.1) parts.1))

-- ---- predicates

abbrev MayJudgeToo : List ColumnDef → List Value → Pred → Type 0
MayJudgeToo columns values pred = IsTrue (may_judge (samples columns) pred) → IsTrue (may_judge values pred)

each_too : (columns : List ColumnDef) (values : List Value) (parts : List ((pred : Pred) × MayJudgeToo columns values pred)) → IsTrue (all_true (map (may_judge (samples columns)) (map (λ e. e.0) parts))) → IsTrue (all_true (map (may_judge values) (map (λ e. e.0) parts)))
each_too columns values [] h = refl
each_too columns values (part ∷ parts) h =
    let both_parts = both (may_judge (samples columns) part.0) (all_true (map (may_judge (samples columns)) (map (λ e. e.0) parts))) h in
    and_true (may_judge values part.0) _ (part.1 both_parts.0) (each_too columns values parts both_parts.1)

by_layer : (columns : List ColumnDef) (values : List Value) → HaveKinds columns values → (y : Pred-F ((pred : Pred) × MayJudgeToo columns values pred)) → MayJudgeToo columns values (roll-Pred (map-Pred _ Pred (λ e. e.0) y))
by_layer columns values kinds (layer.Atom atom) h =
    rw (fold-roll-Pred Bool (layer_may_test values) (layer.Atom atom)) (atom_too columns values atom kinds (subst IsTrue (fold-roll-Pred Bool (layer_may_test (samples columns)) (layer.Atom atom)) h))
by_layer columns values kinds (layer.All parts) h =
    rw (fold-roll-Pred Bool (layer_may_test values) (layer.All (map (λ e. e.0) parts))) (each_too columns values parts (subst IsTrue (fold-roll-Pred Bool (layer_may_test (samples columns)) (layer.All (map (λ e. e.0) parts))) h))
by_layer columns values kinds (layer.Any parts) h =
    rw (fold-roll-Pred Bool (layer_may_test values) (layer.Any (map (λ e. e.0) parts))) (each_too columns values parts (subst IsTrue (fold-roll-Pred Bool (layer_may_test (samples columns)) (layer.Any (map (λ e. e.0) parts))) h))
by_layer columns values kinds (layer.Not part) h =
    rw (fold-roll-Pred Bool (layer_may_test values) (layer.Not part.0)) (part.1 (subst IsTrue (fold-roll-Pred Bool (layer_may_test (samples columns)) (layer.Not part.0)) h))

-- what may be judged on the samples may be judged on each row of the kinds
may_judge_too : (columns : List ColumnDef) (values : List Value) (pred : Pred) → HaveKinds columns values → MayJudgeToo columns values pred
may_judge_too columns values pred kinds = ind-Pred (MayJudgeToo columns values) (λ x y is. subst (λ x. MayJudgeToo columns values (roll-Pred x)) is (by_layer columns values kinds y)) pred

-- so the predicate of a statement may be, where nothing is said against its columns and types
pub may_filter-bound_where : (columns : List ColumnDef) (values : List Value) (text : Option PredText) → AreBound columns (atoms_of text) → HaveKinds columns values → IsTrue (may_filter (bound_where columns text) values)
may_filter-bound_where columns values None bound kinds = refl
may_filter-bound_where columns values (Some text) bound kinds = may_judge_too columns values _ kinds (may_judge-bound_where columns (samples columns) (Some text) (samples_fit columns) bound)
