-- Values that are made from their bases, one after the other, and what they are divided by.
use Rattle.std.proofs.Common.{◌≡◌, ◌<◌, ◌≤◌, ◌+◌, ℕ, zero, suc, Bool, true, false, List, [], ◌∷◌, Option, Some, None, refl, sym, subst, arith, length, drop, get_or, add-one}
use Rattle.std.specs.Prelude.{ℤ, ◌↔◌, ◌&&◌, IsTrue, IfSome, int_le, is_none, pos, slice_get}
use Rattle.std.specs.List.{AllByRecursion, list_all}
use Rattle.std.proofs.Math.ListN.{drop_of_length-le}
use Rattle.mdc_values.specs.declared.value.ColType.{ColType}
use Rattle.mdc_values.specs.declared.value.Value.{Value}
use Rattle.mdc_ast.specs.declared.definition.ColumnDef.{ColumnDef}
use Rattle.mdc_ast.specs.declared.definition.GenExpr.{GenExpr}
use Rattle.mdc_ast.specs.declared.definition.GenKind.{GenKind}
use Rattle.mdc_ast.specs.declared.definition.GenKind.TheVariants.{IntegerOver, Month, Over, Plus, Year}
use Rattle.mdc_ast.specs.declared.definition.TableDef.{TableDef}
use Rattle.mdc_values.specs.Fitting.{in_bigint}
use Rattle.mdc_ast.specs.Definitions.{is_good_type}
use Rattle.mdc_ast.specs.Kinds.{is_number}
use Rattle.mdc_ast.specs.FittingRows.{AreMadeFrom, IsMadeFrom}
use Rattle.mdc_ast.specs.TableLimits.{IsTableDef, accepts_base, is_base_of, is_day_type, is_given_name, is_good_column, is_good_source}
use Rattle.mdc_ast.specs.Divisors.{DoesDivide, HasDivisor}

-- ---- one after the other

-- from a place on: the value there, and those behind it
pub made_from-drop : (all : List Value) (columns : List ColumnDef) (values : List Value) (i : ℕ) (column : ColumnDef) (value : Value) → i < length columns → i < length values → column ≡ get_or columns i column → value ≡ get_or values i value
    → AreMadeFrom all (drop i columns) (drop i values) ≡ (IsMadeFrom column.made all value × AreMadeFrom all (drop (suc i) columns) (drop (suc i) values))
made_from-drop all [] values i column value low within is_column is_value = absurd (omega (arith, low))
made_from-drop all (first ∷ columns) [] i column value low within is_column is_value = absurd (omega (arith, within))
made_from-drop all (first ∷ columns) (old ∷ values) zero column value low within is_column is_value = rw (is_column, is_value) refl
made_from-drop all (first ∷ columns) (old ∷ values) (suc i) column value low within is_column is_value =
    let below : i < length columns = omega (arith, low) in
    let there : i < length values = omega (arith, within) in
    made_from-drop all columns values i column value below there is_column is_value

module _ (all : List Value) (columns : List ColumnDef) (values : List Value) (i : ℕ) (column : ColumnDef) (value : Value) (low : i < length columns) (within : i < length values) (is_column : column ≡ get_or columns i column) (is_value : value ≡ get_or values i value)
    (so_far : AreMadeFrom all columns values ↔ AreMadeFrom all (drop i columns) (drop i values)) where
  cut : AreMadeFrom all (drop i columns) (drop i values) ≡ (IsMadeFrom column.made all value × AreMadeFrom all (drop (suc i) columns) (drop (suc i) values))
  cut = made_from-drop all columns values i column value low within is_column is_value

  -- one more is
  pub made_next : IsMadeFrom column.made all value → AreMadeFrom all columns values ↔ AreMadeFrom all (drop (i + 1) columns) (drop (i + 1) values)
  made_next made = rw (add-one i) (
    λ whole. (subst (λ (T : Type 0). T) cut (so_far.0 whole)).1,
    λ rest. so_far.1 (subst (λ (T : Type 0). T) (sym cut) (made, rest)),
  )

  -- one isn't
  pub made_not : (IsMadeFrom column.made all value → ⊥) → AreMadeFrom all columns values → ⊥
  made_not other whole = other (subst (λ (T : Type 0). T) cut (so_far.0 whole)).0

-- none is left
pub made_all : (all : List Value) (columns : List ColumnDef) (values : List Value) (i : ℕ) → length columns ≤ i → AreMadeFrom all columns values ↔ AreMadeFrom all (drop i columns) (drop i values) → AreMadeFrom all columns values
made_all all columns values i past so_far = so_far.1 (subst (λ (cs : List ColumnDef). AreMadeFrom all cs (drop i values)) (sym (drop_of_length-le columns past)) tt)

-- ---- divisors

first : (a b : Bool) → IsTrue (a && b) → IsTrue a
first true b h = refl
first false b h = absurd cc

second : (a b : Bool) → IsTrue (a && b) → IsTrue b
second true b h = h
second false b h = absurd cc

accepted : (kind : GenKind) (ty : ColType) (k : ℤ) → IsTrue (accepts_base kind ty k) → DoesDivide kind → IsTrue (int_le (pos 1) k)
accepted IntegerOver ty k h divides = second (is_day_type ty) (int_le (pos 1) k) h
accepted Over ty k h divides = second (is_number ty) (int_le (pos 1) k) h
accepted Year ty k h divides = absurd divides
accepted Month ty k h divides = absurd divides
accepted Plus ty k h divides = absurd divides

divisor_of_base : (e : GenExpr) (base : Option ColumnDef) → IsTrue (is_base_of e base) → HasDivisor e
divisor_of_base e None h = absurd cc
divisor_of_base e (Some base) h = record { some = accepted e.kind base.ty e.k (second (is_none base.made) (accepts_base e.kind base.ty e.k) h) }

divisor_of_source : (columns : List ColumnDef) (ty : ColType) (made : Option GenExpr) → IsTrue (is_good_source columns ty made) → IfSome made HasDivisor
divisor_of_source columns ty None h = tt
divisor_of_source columns ty (Some e) h =
    let base = is_base_of e (slice_get columns e.base) in
    divisor_of_base e (slice_get columns e.base) (second (is_number ty && in_bigint e.k) base h)

divisors_of : (all columns : List ColumnDef) → IsTrue (list_all (is_good_column all) columns) → AllByRecursion (λ column. IfSome column.made HasDivisor) columns
divisors_of all [] h = tt
divisors_of all (column ∷ columns) h =
    let source = is_good_source all column.ty column.made in
    let good = first (is_good_column all column) (list_all (is_good_column all) columns) h in (
      divisor_of_source all column.ty column.made (second (is_given_name column.name && is_good_type column.ty) source good),
      divisors_of all columns (second (is_good_column all column) (list_all (is_good_column all) columns) h),
    )

-- in a definition each divisor is at least 1
pub defined_divisors : (def : TableDef) → IsTableDef def.number def → AllByRecursion (λ column. IfSome column.made HasDivisor) def.columns
defined_divisors def is = divisors_of def.columns def.columns is.columns.good

pub divisor_at : (columns : List ColumnDef) (i : ℕ) (column : ColumnDef) → AllByRecursion (λ c. IfSome c.made HasDivisor) columns → i < length columns → column ≡ get_or columns i column → IfSome column.made HasDivisor
divisor_at [] i column all low at = absurd (omega (arith, low))
divisor_at (first_one ∷ columns) zero column all low at = subst (λ (c : ColumnDef). IfSome c.made HasDivisor) (sym at) all.0
divisor_at (first_one ∷ columns) (suc i) column all low at = divisor_at columns i column all.1 (omega (arith, low)) at
