-- Predicates that name dimension columns alone: of what they are made, and that all rows of a cell have one truth of them.
use Rattle.std.proofs.Common.{◌≡◌, ◌∙◌, ◌⊎◌, ℕ, List, [], ◌∷◌, Bool, true, map, refl, sym, ap, subst, inl, inr}
use Rattle.std.specs.Prelude.{◌&&◌, Option, Some, None}
use Rattle.mdc_values.specs.declared.truth.Truth.{Truth}
use Rattle.mdc_values.specs.declared.value.Value.{Value}
use Rattle.mdc_ast.specs.declared.definition.TableDef.{TableDef}
use Rattle.mdc_ast.specs.declared.predicate.Atom.{Atom}
use Rattle.mdc_ast.specs.declared.predicate.Pred.{Pred}
use Rattle.mdc_ast.specs.declared.predicate.Pred.TheFolds.{fold-roll-Pred, ind-Pred, map-Pred}
use Rattle.mdc_ast.specs.declared.predicate.Pred.TheOpen.{Pred-F}
use Rattle.mdc_ast.specs.declared.predicate.Pred.TheOpen as layer
use Rattle.mdc_ast.specs.declared.predicate.Pred.TheVariants as pred
use Rattle.mdc_ast.specs.declared.predicate.Pred.TheVariants.{rolls-All, rolls-Any, rolls-Atom, rolls-Not}
use Rattle.mdc_ast.specs.declared.predicate.Pred.TheViews.{roll-Pred}
use Rattle.mdc_ast.specs.declared.predicate.Right.TheVariants as right
use Rattle.mdc_ast.specs.declared.predicate.Test.{Test}
use Rattle.mdc_ast.specs.declared.predicate.Test.TheVariants.{Compare, Between, Within, IsNull}
use Rattle.mdc_ast.specs.Truth.{all_of, all_true, any_of, atom_truth, is_true, layer_truth, negated_if, not_of, qualifies, test_truth, truth, value_at}
use Rattle.mdc_ast.proofs.TestsLemmas.{both}
use Rattle.rollout.specs.Applying.{applies_to, compares_with_dimension, is_dimension, layer_names_dimensions, names_dimensions}

-- ---- by layers

pub names_dimensions-Atom : (def : TableDef) (atom : Atom) → names_dimensions def (pred.Atom atom) ≡ (is_dimension def atom.column && compares_with_dimension def atom.test)
names_dimensions-Atom def atom = ap (names_dimensions def) (sym (rolls-Atom atom)) ∙ fold-roll-Pred Bool (layer_names_dimensions def) (layer.Atom atom)

names_dimensions-All : (def : TableDef) (parts : List Pred) → names_dimensions def (pred.All parts) ≡ all_true (map (names_dimensions def) parts)
names_dimensions-All def parts = ap (names_dimensions def) (sym (rolls-All parts)) ∙ fold-roll-Pred Bool (layer_names_dimensions def) (layer.All parts)

names_dimensions-Any : (def : TableDef) (parts : List Pred) → names_dimensions def (pred.Any parts) ≡ all_true (map (names_dimensions def) parts)
names_dimensions-Any def parts = ap (names_dimensions def) (sym (rolls-Any parts)) ∙ fold-roll-Pred Bool (layer_names_dimensions def) (layer.Any parts)

pub names_dimensions-Not : (def : TableDef) (part : Pred) → names_dimensions def (pred.Not part) ≡ names_dimensions def part
names_dimensions-Not def part = ap (names_dimensions def) (sym (rolls-Not part)) ∙ fold-roll-Pred Bool (layer_names_dimensions def) (layer.Not part)

-- parts that AND or OR joins
pub names_dimensions-joined : (def : TableDef) (whole : Pred) (parts : List Pred) → (whole ≡ pred.All parts) ⊎ (whole ≡ pred.Any parts) → names_dimensions def whole ≡ all_true (map (names_dimensions def) parts)
names_dimensions-joined def whole parts (inl by_and) = ap (names_dimensions def) by_and ∙ names_dimensions-All def parts
names_dimensions-joined def whole parts (inr by_or) = ap (names_dimensions def) by_or ∙ names_dimensions-Any def parts

-- ---- one truth

module _ (def : TableDef) (a b : List Value) (agree : (column : ℕ) → is_dimension def column ≡ true → value_at a column ≡ value_at b column) where
  test_agrees : (v : Value) (test : Test) → compares_with_dimension def test ≡ true → test_truth a v test ≡ test_truth b v test
  test_agrees v (Compare op (right.Value other)) named = refl
  test_agrees v (Compare op (right.Column column)) named = ap (λ (other : Value). test_truth a v (Compare op (right.Value other))) (agree column named)
  test_agrees v (Between low high) named = refl
  test_agrees v (Within others) named = refl
  test_agrees v IsNull named = refl

  atom_agrees : (atom : Atom) → (is_dimension def atom.column && compares_with_dimension def atom.test) ≡ true → atom_truth a atom ≡ atom_truth b atom
  atom_agrees atom named =
      let (column, test) = both (is_dimension def atom.column) (compares_with_dimension def atom.test) named in
      ap (λ (v : Value). negated_if atom.negated (test_truth a v atom.test)) (agree atom.column column) ∙ ap (negated_if atom.negated) (test_agrees (value_at b atom.column) atom.test test)

  -- the two have one truth
  abbrev AgreesOn : Pred → Type 0
  AgreesOn x = names_dimensions def x ≡ true → truth a x ≡ truth b x

  parts_of : List ((x : Pred) × AgreesOn x) → List Pred
  parts_of = map (λ e. e.0)

  each_agrees : (parts : List ((x : Pred) × AgreesOn x)) → all_true (map (names_dimensions def) (parts_of parts)) ≡ true → map (truth a) (parts_of parts) ≡ map (truth b) (parts_of parts)
  unfolding parts_of
  each_agrees [] named = refl
  each_agrees (part ∷ parts) named =
      let (here, behind) = both (names_dimensions def part.0) (all_true (map (names_dimensions def) (parts_of parts))) named in
      ap (λ (t : Truth). t ∷ map (truth a) (parts_of parts)) (part.1 here) ∙ ap (λ (ts : List Truth). truth b part.0 ∷ ts) (each_agrees parts behind)

  truth_of : (values : List Value) (y : Pred-F Pred) → truth values (roll-Pred y) ≡ layer_truth values (map-Pred Pred Truth (truth values) y)
  truth_of values y = fold-roll-Pred Truth (layer_truth values) y

  names_of : (y : Pred-F Pred) → names_dimensions def (roll-Pred y) ≡ true → layer_names_dimensions def (map-Pred Pred Bool (names_dimensions def) y) ≡ true
  names_of y named = sym (fold-roll-Pred Bool (layer_names_dimensions def) y) ∙ named

  by_layer : (y : Pred-F ((x : Pred) × AgreesOn x)) → AgreesOn (roll-Pred (map-Pred _ Pred (λ e. e.0) y))
  unfolding parts_of
  by_layer (layer.Atom atom) named = truth_of a (layer.Atom atom) ∙ atom_agrees atom (names_of (layer.Atom atom) named) ∙ sym (truth_of b (layer.Atom atom))
  by_layer (layer.All parts) named =
      truth_of a (layer.All (parts_of parts)) ∙ ap all_of (each_agrees parts (names_of (layer.All (parts_of parts)) named)) ∙ sym (truth_of b (layer.All (parts_of parts)))
  by_layer (layer.Any parts) named =
      truth_of a (layer.Any (parts_of parts)) ∙ ap any_of (each_agrees parts (names_of (layer.Any (parts_of parts)) named)) ∙ sym (truth_of b (layer.Any (parts_of parts)))
  by_layer (layer.Not part) named = truth_of a (layer.Not part.0) ∙ ap not_of (part.1 (names_of (layer.Not part.0) named)) ∙ sym (truth_of b (layer.Not part.0))

  -- rows with the same values in the dimension columns have one truth
  pub one_truth : (x : Pred) → AgreesOn x
  one_truth x = ind-Pred AgreesOn (λ x y is. subst (λ x. AgreesOn (roll-Pred x)) is (by_layer y)) x

  -- both of them qualify, or neither
  pub qualify_alike : (whole : Option Pred) → applies_to whole def ≡ true → qualifies whole a ≡ qualifies whole b
  qualify_alike None applies = refl
  qualify_alike (Some x) applies = ap is_true (one_truth x applies)
