-- A predicate may hold in the cell of each row that its plan by cells has.
use Rattle.std.proofs.Common.{◌≡◌, ◌∙◌, ℕ, List, [], ◌∷◌, Bool, true, false, Some, None, map, not, refl, sym, ap}
use Rattle.std.specs.Prelude.{◌==◌, ◌&&◌, ◌||◌, flat_map, if◌then◌else◌}
use Rattle.std.specs.List.{list_any, position_or_len}
use Rattle.std.proofs.lemmas.Bool.{eqb-true, false≢true}
use Rattle.std.proofs.lemmas.List.Folds.{list_any-append}
use Rattle.mdc_values.specs.declared.truth.Op.{Op}
use Rattle.mdc_values.specs.declared.truth.Op.TheVariants.{Equal, AtMost, AtLeast}
use Rattle.mdc_values.specs.declared.value.Value.{Value}
use Rattle.mdc_values.specs.Order.{compared, told}
use Rattle.mdc_ast.specs.Database.{is_null}
use Rattle.mdc_ast.specs.declared.definition.TableDef.{TableDef}
use Rattle.mdc_ast.specs.declared.predicate.Atom.{Atom}
use Rattle.mdc_ast.specs.declared.predicate.Pred.{Pred}
use Rattle.mdc_ast.specs.declared.predicate.Right.TheVariants as right
use Rattle.mdc_ast.specs.declared.predicate.Test.{Test}
use Rattle.mdc_ast.specs.declared.predicate.Test.TheVariants.{Compare, Between, Within, IsNull}
use Rattle.mdc_ast.specs.declared.statement.PlanMode.{PlanMode}
use Rattle.mdc_ast.specs.declared.statement.PlanMode.TheVariants as mode
use Rattle.mdc_ast.specs.Truth.{is_true, may_judge, may_test, negated_if, test_truth, value_at}
use Rattle.predicate.specs.Pushed.{op_if}
use Rattle.predicate.proofs.OppositeLemmas.{compared-op_if}
use Rattle.cell_filter.specs.Cells.{is_against_literals, may_hold_at, may_hold_under, may_pass_in, value_in_cell}
use Rattle.cell_filter.proofs.CellsLemmas.{may_hold_under-All, may_hold_under-Any, may_hold_under-Atom, may_hold_under-Not}
use Rattle.plan_chooser.specs.declared.plan.Source.TheVariants.{Dimension}
use Rattle.plan_chooser.specs.PlanRows.{plan_row}
use Rattle.plan_chooser.specs.Rule.{goes_by_cells, is_unequal, plan_of, turned}
use Rattle.plan_chooser.specs.Sources.{dimension_of, index_of, source_at, source_of, stands_in, takes_blocks, takes_records}
use Rattle.plan_chooser.proofs.PlannedLemmas.{cover_plan_row}
use Rattle.plan_chooser.proofs.ReadingLemmas.{Reads, joined_imply, reads_imply, true_all_of, true_any_of}
use Rattle.plan_chooser.proofs.SourceLemmas.{position_there}
use Rattle.plan_chooser.proofs.ToldLemmas.{and-True, told_atom, told_by, told_comparison, told_reads, told_test, told_under, turned_truth}

-- ---- the value that a cell has

-- in the cell of a row a dimension column has the row's value
in_cell : (places : List ℕ) (values : List Value) (column : ℕ) → value_in_cell places (map (value_at values) places) column ≡ (if stands_in places column then Some (value_at values column) else None)
in_cell [] values column = refl
in_cell (place ∷ places) values column = by_place (place == column) refl (in_cell places values column) where
  by_place : (b : Bool) → (place == column) ≡ b → value_in_cell places (map (value_at values) places) column ≡ (if stands_in places column then Some (value_at values column) else None)
      → value_in_cell (place ∷ places) (map (value_at values) (place ∷ places)) column ≡ (if stands_in (place ∷ places) column then Some (value_at values column) else None)
  by_place true e rest = rw e (ap (λ p. Some (value_at values p)) (eqb-true place column e))
  by_place false e rest = rw e rest

in_dims : (dims : List (List ℕ)) (column : ℕ) → stands_in (flat_map (λ dim. dim) dims) column ≡ list_any (λ dim. stands_in dim column) dims
in_dims [] column = refl
in_dims (dim ∷ dims) column = list_any-append (λ place. place == column) dim (flat_map (λ dim. dim) dims) ∙ ap (λ b. stands_in dim column || b) (in_dims dims column)

-- a dimension column has its blocks as its source
abbrev first_dim : TableDef → ℕ → ℕ
first_dim def column = position_or_len (λ dim. stands_in dim column) def.dims

by_dimension : (def : TableDef) (m : PlanMode) (unequal : Bool) (column : ℕ) → takes_blocks m ≡ true → stands_in (flat_map (λ dim. dim) def.dims) column ≡ true
    → source_of def m unequal column ≡ Some (Dimension (first_dim def column))
by_dimension def m unequal column takes stands =
    let found = position_there (λ dim. stands_in dim column) def.dims (sym (in_dims def.dims column) ∙ stands) in
    ap (λ b. source_at (if b then dimension_of def column else None) (if takes_records m && not unequal then index_of def column else None)) takes
    ∙ ap (λ d. source_at d (if takes_records m && not unequal then index_of def column else None)) found

-- ---- tests

module _ (def : TableDef) (values : List Value) (m : PlanMode) (column : ℕ) (dim : ℕ) (sources : (unequal : Bool) → source_of def m unequal column ≡ Some (Dimension dim)) where
  comparison_few : (negated : Bool) (op : Op) (v : Value) → told_comparison def m values column (op_if negated op) v ≡ true → is_true (negated_if negated (compared op (value_at values column) v)) ≡ true
  comparison_few negated op v h =
      sym (ap is_true (compared-op_if negated op (value_at values column) v))
      ∙ sym (ap (λ s. told_by s (is_true (compared (op_if negated op) (value_at values column) v))) (sources (is_unequal (op_if negated op)))) ∙ h

  test_few : (negated : Bool) (test : Test) → is_against_literals test ≡ true → told_test def m values column negated test ≡ true → is_true (negated_if negated (test_truth [] (value_at values column) test)) ≡ true
  test_few negated (Compare op (right.Value v)) literal h = comparison_few negated op v h
  test_few negated (Compare op (right.Column other)) literal h = absurd (false≢true literal)
  test_few negated (Between low high) literal h =
      let tests : List (Op × Value) = (AtLeast, low) ∷ (AtMost, high) ∷ [] in
      ap (λ t. is_true (negated_if negated t)) (and-True (compared AtLeast (value_at values column) low) (compared AtMost (value_at values column) high))
      ∙ true_all_of (λ t. compared t.0 (value_at values column) t.1) negated tests
      ∙ joined_imply (not negated) (λ t. told_comparison def m values column (op_if negated t.0) t.1) (λ t. is_true (negated_if negated (compared t.0 (value_at values column) t.1))) tests
      (λ t. comparison_few negated t.0 t.1) h
  test_few negated (Within vs) literal h =
      true_any_of (compared Equal (value_at values column)) negated vs
      ∙ joined_imply negated (told_comparison def m values column (op_if negated Equal)) (λ v. is_true (negated_if negated (compared Equal (value_at values column) v))) vs
      (comparison_few negated Equal) h
  test_few negated IsNull literal h = sym (ap (λ s. told_by s (is_true (negated_if negated (told (is_null (value_at values column)))))) (sources false)) ∙ h

if_both : (a b c : Bool) → (a ≡ true → c ≡ true) → (if a && b then c else true) ≡ true
if_both true true c h = h refl
if_both true false c h = refl
if_both false b c h = refl

atom_few : (def : TableDef) (values : List Value) (m : PlanMode) → takes_blocks m ≡ true → (negated : Bool) (atom : Atom) → told_atom def m values negated atom ≡ true
    → may_pass_in negated atom (value_in_cell (flat_map (λ dim. dim) def.dims) (map (value_at values) (flat_map (λ dim. dim) def.dims)) atom.column) ≡ true
atom_few def values m takes negated atom h = ap (may_pass_in negated atom) (in_cell (flat_map (λ dim. dim) def.dims) values atom.column) ∙ by_cell (stands_in (flat_map (λ dim. dim) def.dims) atom.column) refl where
  by_cell : (b : Bool) → stands_in (flat_map (λ dim. dim) def.dims) atom.column ≡ b → may_pass_in negated atom (if b then Some (value_at values atom.column) else None) ≡ true
  by_cell false e = refl
  by_cell true e =
      if_both (is_against_literals atom.test) (may_test [] (value_at values atom.column) atom.test) (is_true (negated_if negated (negated_if atom.negated (test_truth [] (value_at values atom.column) atom.test))))
      (λ literal. turned_truth negated atom.negated (test_truth [] (value_at values atom.column) atom.test)
      ∙ test_few def values m atom.column (first_dim def atom.column) (λ unequal. by_dimension def m unequal atom.column takes e) (turned negated atom.negated) atom.test literal h)

-- ---- predicates

may_reads : (places : List ℕ) (values : List Value) → Reads (λ negated atom. may_pass_in negated atom (value_in_cell places values atom.column)) (may_hold_under places values)
may_reads places values = record {
  on_atom = may_hold_under-Atom places values;
  on_all = may_hold_under-All places values;
  on_any = may_hold_under-Any places values;
  on_not = may_hold_under-Not places values;
}

told_few : (def : TableDef) (values : List Value) (m : PlanMode) → takes_blocks m ≡ true → (p : Pred) → told_under def m values p false ≡ true
    → may_hold_at (flat_map (λ dim. dim) def.dims) (map (value_at values) (flat_map (λ dim. dim) def.dims)) p ≡ true
told_few def values m takes p h =
    reads_imply _ _ _ _ (told_reads def m values) (may_reads (flat_map (λ dim. dim) def.dims) (map (value_at values) (flat_map (λ dim. dim) def.dims))) (atom_few def values m takes) p false h

-- the cell of a row that a plan by cells has
pub plan_few : (def : TableDef) (m : PlanMode) (p : Pred) (values : List Value) → goes_by_cells m ≡ true → may_judge values p ≡ true → plan_row def values (plan_of def m (Some p)) ≡ true
    → may_hold_at (flat_map (λ dim. dim) def.dims) (map (value_at values) (flat_map (λ dim. dim) def.dims)) p ≡ true
plan_few def mode.Auto p values goes judged h = told_few def values mode.Auto refl p (sym (cover_plan_row def mode.Auto p values judged) ∙ h)
plan_few def mode.Block p values goes judged h = told_few def values mode.Block refl p (sym (cover_plan_row def mode.Block p values judged) ∙ h)
plan_few def mode.Scan p values goes judged h = absurd (false≢true goes)
plan_few def mode.Record p values goes judged h = absurd (false≢true goes)
