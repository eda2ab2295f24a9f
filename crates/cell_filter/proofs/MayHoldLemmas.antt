-- A predicate that is true of a row may hold in the row's cell.
use Rattle.std.proofs.Common.{◌≡◌, ◌∙◌, ◌⊎◌, inl, inr, ℕ, List, [], ◌∷◌, Bool, true, false, map, not, refl, sym, ap, subst, Some, None, if◌then◌else◌}
use Rattle.std.specs.Prelude.{◌&&◌, ◌||◌}
use Rattle.std.proofs.lemmas.Bool.{cases_eq, eq-eqb, false≢true, ne_eqb}
use Rattle.mdc_values.specs.declared.truth.Truth.{Truth}
use Rattle.mdc_values.specs.declared.truth.Truth.TheVariants.{True, False, Unknown}
use Rattle.mdc_values.specs.declared.value.Value.{Value}
use Rattle.mdc_ast.specs.declared.predicate.Atom.{Atom}
use Rattle.mdc_ast.specs.declared.predicate.Pred.{Pred}
use Rattle.mdc_ast.specs.declared.predicate.Pred.TheFolds.{fold-roll-Pred, ind-Pred, map-Pred}
use Rattle.mdc_ast.specs.declared.predicate.Pred.TheOpen.{Pred-F}
use Rattle.mdc_ast.specs.declared.predicate.Pred.TheOpen as layer
use Rattle.mdc_ast.specs.declared.predicate.Pred.TheViews.{roll-Pred}
use Rattle.mdc_ast.specs.declared.predicate.Right.TheVariants as right
use Rattle.mdc_ast.specs.declared.predicate.Test.{Test}
use Rattle.mdc_ast.specs.declared.predicate.Test.TheVariants.{Compare, Between, Within, IsNull}
use Rattle.mdc_ast.specs.Truth.{all_of, all_true, and_of, any_of, atom_truth, is_true, layer_truth, may_test, negated_if, or_of, test_truth, truth, value_at}
use Rattle.cell_filter.specs.Cells.{any_true, is_against_literals, layer_may_hold, may_hold_at, may_hold_under, may_pass_in, value_in_cell}
use Rattle.predicate.proofs.OppositeLemmas.{all_of-not_of, any_of-not_of}
use Rattle.predicate.proofs.PushedLemmas.{negated_if-not}

-- ---- tests

judged_or_not : (b : Bool) (t : Truth) → is_true t ≡ true → (if b then is_true t else true) ≡ true
judged_or_not true t h = h
judged_or_not false t h = refl

-- a test that is true of a value beside others may be true of it by itself, and so may its negation
test-passes : (negated own : Bool) (values : List Value) (value : Value) (test : Test) → is_true (negated_if negated (negated_if own (test_truth values value test))) ≡ true
    → (if is_against_literals test && may_test [] value test then is_true (negated_if negated (negated_if own (test_truth [] value test))) else true) ≡ true
test-passes negated own values value (Compare op (right.Value other)) h = judged_or_not (may_test [] value (Compare op (right.Value other))) (negated_if negated (negated_if own (test_truth [] value (Compare op (right.Value other))))) h
test-passes negated own values value (Compare op (right.Column column)) h = refl
test-passes negated own values value (Between low high) h = judged_or_not (may_test [] value (Between low high)) (negated_if negated (negated_if own (test_truth [] value (Between low high)))) h
test-passes negated own values value (Within others) h = judged_or_not (may_test [] value (Within others)) (negated_if negated (negated_if own (test_truth [] value (Within others)))) h
test-passes negated own values value IsNull h = judged_or_not (may_test [] value IsNull) (negated_if negated (negated_if own (test_truth [] value IsNull))) h

-- in the cell of a row a column has the row's value, or none
value_in_cell-row : (places : List ℕ) (values : List Value) (column : ℕ)
    → (value_in_cell places (map (value_at values) places) column ≡ None) ⊎ (value_in_cell places (map (value_at values) places) column ≡ Some (value_at values column))
value_in_cell-row [] values column = inl refl
value_in_cell-row (place ∷ places) values column = elim (cases_eq place column) [
  | inl e ↦ inr (ap (λ b. if b then Some (value_at values place) else value_in_cell places (map (value_at values) places) column) (eq-eqb place column e) ∙ ap (λ p. Some (value_at values p)) e)
  | inr n ↦ subst (λ found. (found ≡ None) ⊎ (found ≡ Some (value_at values column)))
      (sym (ap (λ b. if b then Some (value_at values place) else value_in_cell places (map (value_at values) places) column) (ne_eqb place column n)))
      (value_in_cell-row places values column)
]

atom-passes : (places : List ℕ) (values : List Value) (negated : Bool) (atom : Atom) → is_true (negated_if negated (atom_truth values atom)) ≡ true
    → may_pass_in negated atom (value_in_cell places (map (value_at values) places) atom.column) ≡ true
atom-passes places values negated atom h = elim (value_in_cell-row places values atom.column) [
  | inl none ↦ ap (may_pass_in negated atom) none
  | inr some ↦ ap (may_pass_in negated atom) some ∙ test-passes negated atom.negated values (value_at values atom.column) atom.test h
]

-- ---- predicates

true-and_of : (a b : Truth) → is_true (and_of a b) ≡ true → (is_true a ≡ true) × (is_true b ≡ true)
true-and_of True b h = (refl, h)
true-and_of False b h = absurd (false≢true h)
true-and_of Unknown True h = absurd (false≢true h)
true-and_of Unknown False h = absurd (false≢true h)
true-and_of Unknown Unknown h = absurd (false≢true h)

true-or_of : (a b : Truth) → is_true (or_of a b) ≡ true → (is_true a ≡ true) ⊎ (is_true b ≡ true)
true-or_of True b h = inl refl
true-or_of False b h = inr h
true-or_of Unknown True h = inr refl
true-or_of Unknown False h = absurd (false≢true h)
true-or_of Unknown Unknown h = absurd (false≢true h)

or-true : (a b : Bool) → b ≡ true → (a || b) ≡ true
or-true true b h = refl
or-true false b h = h

-- what is true of the row may hold in its cell, of the predicate and of its negation
abbrev MayHoldIfTrue : List ℕ → List Value → Pred → Type 0
MayHoldIfTrue places values pred = (negated : Bool) → is_true (negated_if negated (truth values pred)) ≡ true → may_hold_under places (map (value_at values) places) pred negated ≡ true

-- The parts of a predicate, each with what is known of it.
module _ (places : List ℕ) (values : List Value) (negated : Bool) where
  preds_of : List ((pred : Pred) × MayHoldIfTrue places values pred) → List Pred
  preds_of = map (λ e. e.0)

  truths_of : List ((pred : Pred) × MayHoldIfTrue places values pred) → List Truth
  truths_of parts = map (λ pred. negated_if negated (truth values pred)) (preds_of parts)

  mays_of : List ((pred : Pred) × MayHoldIfTrue places values pred) → List Bool
  mays_of parts = map (λ may. may negated) (map (may_hold_under places (map (value_at values) places)) (preds_of parts))

  all_may : (parts : List ((pred : Pred) × MayHoldIfTrue places values pred)) → is_true (all_of (truths_of parts)) ≡ true → all_true (mays_of parts) ≡ true
  unfolding preds_of truths_of mays_of
  all_may [] h = refl
  all_may (part ∷ parts) h =
      let each = true-and_of (negated_if negated (truth values part.0)) (all_of (truths_of parts)) h in
      ap (λ b. b && all_true (mays_of parts)) (part.1 negated each.0) ∙ all_may parts each.1

  any_may : (parts : List ((pred : Pred) × MayHoldIfTrue places values pred)) → is_true (any_of (truths_of parts)) ≡ true → any_true (mays_of parts) ≡ true
  unfolding preds_of truths_of mays_of
  any_may [] h = absurd (false≢true h)
  any_may (part ∷ parts) h = elim (true-or_of (negated_if negated (truth values part.0)) (any_of (truths_of parts)) h) [
    | inl here ↦ ap (λ b. b || any_true (mays_of parts)) (part.1 negated here)
    | inr behind ↦ or-true (may_hold_under places (map (value_at values) places) part.0 negated) (any_true (mays_of parts)) (any_may parts behind)
  ]

module _ (places : List ℕ) (values : List Value) where
  -- a predicate's truth, and what may be of it, by its outer layer
  true_of : (y : Pred-F Pred) (negated : Bool) → is_true (negated_if negated (truth values (roll-Pred y))) ≡ true → is_true (negated_if negated (layer_truth values (map-Pred Pred Truth (truth values) y))) ≡ true
  true_of y negated h = subst (λ t. is_true (negated_if negated t) ≡ true) (fold-roll-Pred Truth (layer_truth values) y) h

  may_of : (y : Pred-F Pred) (negated : Bool) → may_hold_under places (map (value_at values) places) (roll-Pred y) negated
      ≡ layer_may_hold places (map (value_at values) places) (map-Pred Pred (Bool → Bool) (may_hold_under places (map (value_at values) places)) y) negated
  may_of y negated = ap (λ may. may negated) (fold-roll-Pred (Bool → Bool) (layer_may_hold places (map (value_at values) places)) y)

  by_layer : (y : Pred-F ((pred : Pred) × MayHoldIfTrue places values pred)) → MayHoldIfTrue places values (roll-Pred (map-Pred _ Pred (λ e. e.0) y))
  unfolding preds_of truths_of mays_of
  by_layer (layer.Atom atom) negated h = may_of (layer.Atom atom) negated ∙ atom-passes places values negated atom (true_of (layer.Atom atom) negated h)
  by_layer (layer.All parts) false h = may_of (layer.All (preds_of places values false parts)) false ∙ all_may places values false parts (true_of (layer.All (preds_of places values false parts)) false h)
  by_layer (layer.All parts) true h =
      let preds = preds_of places values true parts in
      may_of (layer.All preds) true ∙ any_may places values true parts (ap is_true (any_of-not_of (truth values) preds) ∙ true_of (layer.All preds) true h)
  by_layer (layer.Any parts) false h = may_of (layer.Any (preds_of places values false parts)) false ∙ any_may places values false parts (true_of (layer.Any (preds_of places values false parts)) false h)
  by_layer (layer.Any parts) true h =
      let preds = preds_of places values true parts in
      may_of (layer.Any preds) true ∙ all_may places values true parts (ap is_true (all_of-not_of (truth values) preds) ∙ true_of (layer.Any preds) true h)
  by_layer (layer.Not part) negated h = may_of (layer.Not part.0) negated ∙ part.1 (not negated) (ap is_true (negated_if-not negated (truth values part.0)) ∙ true_of (layer.Not part.0) negated h)

  -- what is true of a row may hold in a cell that has the row's values
  pub may_hold_under-true : (pred : Pred) → MayHoldIfTrue places values pred
  may_hold_under-true pred = ind-Pred (MayHoldIfTrue places values) (λ x y is. subst (λ x. MayHoldIfTrue places values (roll-Pred x)) is (by_layer y)) pred

-- one that is true of a row may hold in a cell that has the row's values
pub may_hold_at-true : (places : List ℕ) (values : List Value) (pred : Pred) → is_true (truth values pred) ≡ true → may_hold_at places (map (value_at values) places) pred ≡ true
may_hold_at-true places values pred h = may_hold_under-true places values pred false h
