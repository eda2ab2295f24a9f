-- The columns that a predicate names are all that its truth looks at.
use Rattle.std.proofs.Common.{◌≡◌, ◌∙◌, ◌<◌, ◌⊎◌, inl, inr, ℕ, List, [], ◌∷◌, ◌++◌, map, refl, sym, ap, subst, length, arith}
use Rattle.std.specs.Prelude.{Bool, IsTrue, ◌&&◌, nat_lt, unwrap_or}
use Rattle.std.specs.List.{All}
use Rattle.std.proofs.lemmas.Bool.Decides.{nat_tests}
use Rattle.std.proofs.lemmas.List.Elements.{All-cons, All-head, All-nil, All-tail}
use Rattle.mdc_values.specs.declared.truth.Truth.{Truth}
use Rattle.mdc_values.specs.declared.value.Value.{Value}
use Rattle.mdc_values.specs.declared.value.Value.TheVariants.{Null}
use Rattle.mdc_values.specs.Order.{are_alike, compared}
use Rattle.mdc_ast.specs.declared.predicate.Atom.{Atom}
use Rattle.mdc_ast.specs.declared.predicate.Pred.{Pred}
use Rattle.mdc_ast.specs.declared.predicate.Pred.TheFolds.{fold-roll-Pred, ind-Pred, map-Pred}
use Rattle.mdc_ast.specs.declared.predicate.Pred.TheOpen.{Pred-F}
use Rattle.mdc_ast.specs.declared.predicate.Pred.TheOpen as layer
use Rattle.mdc_ast.specs.declared.predicate.Pred.TheVariants as pred
use Rattle.mdc_ast.specs.declared.predicate.Pred.TheVariants.{rolls-All, rolls-Any}
use Rattle.mdc_ast.specs.declared.predicate.Pred.TheViews.{roll-Pred}
use Rattle.mdc_ast.specs.declared.predicate.Right.TheVariants as right
use Rattle.mdc_ast.specs.declared.predicate.Test.{Test}
use Rattle.mdc_ast.specs.declared.predicate.Test.TheVariants.{Compare, Between, Within, IsNull}
use Rattle.mdc_ast.specs.Truth.{all_of, all_true, any_of, atom_truth, has_column, layer_may_test, layer_truth, may_judge, may_test, may_test_atom, negated_if, not_of, test_truth, truth, value_at}
use Rattle.mdc_ast.proofs.PredLemmas.{may_judge-All, may_judge-Any}
use Rattle.mdc_ast.proofs.TestsLemmas.{both}
use Rattle.row_filter.specs.Naming.{IsSameAt, layer_named, named_in, named_in_atom, named_in_parts, named_in_test}

-- ---- lists of facts

-- what holds of two lists holds of each
both_lists : {X : Type 0} (P : X → Type 0) (xs ys : List X) → All P (xs ++ ys) → All P xs × All P ys
both_lists P [] ys all = (All-nil P, all)
both_lists P (x ∷ xs) ys all =
    let rest = both_lists P xs ys (All-tail P x (xs ++ ys) all) in
    (All-cons P x xs (All-head P x (xs ++ ys) all) rest.0, rest.1)

-- ---- two rows that are the same where a predicate looks

value_at-same : (values others : List Value) (place : ℕ) → IsSameAt values others place → value_at values place ≡ value_at others place
value_at-same values others place same = ap (λ found. unwrap_or found Null) same

has_column-same : (values others : List Value) (place : ℕ) → length values ≡ length others → has_column values place ≡ has_column others place
has_column-same values others place wide = ap (nat_lt place) wide

-- a test has one truth on both
pub test_truth-same : (values others : List Value) (value : Value) (test : Test) → All (IsSameAt values others) (named_in_test test) → test_truth values value test ≡ test_truth others value test
test_truth-same values others value (Compare op (right.Value other)) same = refl
test_truth-same values others value (Compare op (right.Column column)) same = ap (compared op value) (value_at-same values others column (All-head (IsSameAt values others) column [] same))
test_truth-same values others value (Between low high) same = refl
test_truth-same values others value (Within them) same = refl
test_truth-same values others value IsNull same = refl

-- and may be judged on both
pub may_test-same : (values others : List Value) (value : Value) (test : Test) → length values ≡ length others → All (IsSameAt values others) (named_in_test test) → may_test values value test ≡ may_test others value test
may_test-same values others value (Compare op (right.Value other)) wide same = refl
may_test-same values others value (Compare op (right.Column column)) wide same =
    ap (λ there. there && are_alike value (value_at values column)) (has_column-same values others column wide)
    ∙ ap (λ v. has_column others column && are_alike value v) (value_at-same values others column (All-head (IsSameAt values others) column [] same))
may_test-same values others value (Between low high) wide same = refl
may_test-same values others value (Within them) wide same = refl
may_test-same values others value IsNull wide same = refl

atom_truth-same : (values others : List Value) (atom : Atom) → All (IsSameAt values others) (named_in_atom atom) → atom_truth values atom ≡ atom_truth others atom
atom_truth-same values others atom same =
    let here = value_at-same values others atom.column (All-head (IsSameAt values others) atom.column (named_in_test atom.test) same) in
    ap (negated_if atom.negated)
    (test_truth-same values others (value_at values atom.column) atom.test (All-tail (IsSameAt values others) atom.column (named_in_test atom.test) same)
    ∙ ap (λ v. test_truth others v atom.test) here)

may_test_atom-same : (values others : List Value) (atom : Atom) → length values ≡ length others → All (IsSameAt values others) (named_in_atom atom) → may_test_atom values atom ≡ may_test_atom others atom
may_test_atom-same values others atom wide same =
    let here = value_at-same values others atom.column (All-head (IsSameAt values others) atom.column (named_in_test atom.test) same) in
    ap (λ there. there && may_test values (value_at values atom.column) atom.test) (has_column-same values others atom.column wide)
    ∙ ap (λ may. has_column others atom.column && may)
    (may_test-same values others (value_at values atom.column) atom.test wide (All-tail (IsSameAt values others) atom.column (named_in_test atom.test) same)
    ∙ ap (λ v. may_test others v atom.test) here)

-- ---- predicates

-- A predicate can't tell the two rows from one another.
pub record CantTell (values others : List Value) (pred : Pred) : Type 0 where
  pub truths : truth values pred ≡ truth others pred
  pub judged : may_judge values pred ≡ may_judge others pred

abbrev CantTellSame : List Value → List Value → Pred → Type 0
CantTellSame values others pred = length values ≡ length others → All (IsSameAt values others) (named_in pred) → CantTell values others pred

parts_same : (values others : List Value) (parts : List ((pred : Pred) × CantTellSame values others pred)) → length values ≡ length others
    → All (IsSameAt values others) (named_in_parts (map named_in (map (λ e. e.0) parts)))
    → (map (truth values) (map (λ e. e.0) parts) ≡ map (truth others) (map (λ e. e.0) parts)) × (map (may_judge values) (map (λ e. e.0) parts) ≡ map (may_judge others) (map (λ e. e.0) parts))
parts_same values others [] wide same = (refl, refl)
parts_same values others (part ∷ parts) wide same =
    let each = both_lists (IsSameAt values others) (named_in part.0) (named_in_parts (map named_in (map (λ e. e.0) parts))) same in
    let first = part.1 wide each.0 in
    let rest = parts_same values others parts wide each.1 in (
      ap (λ t. t ∷ map (truth values) (map (λ e. e.0) parts)) first.truths ∙ ap (λ ts. truth others part.0 ∷ ts) rest.0,
      ap (λ b. b ∷ map (may_judge values) (map (λ e. e.0) parts)) first.judged ∙ ap (λ bs. may_judge others part.0 ∷ bs) rest.1,
    )

by_layer : (values others : List Value) (y : Pred-F ((pred : Pred) × CantTellSame values others pred)) → CantTellSame values others (roll-Pred (map-Pred _ Pred (λ e. e.0) y))
by_layer values others (layer.Atom atom) wide same =
    let here = subst (All (IsSameAt values others)) (fold-roll-Pred (List ℕ) layer_named (layer.Atom atom)) same in
    record {
      truths = fold-roll-Pred Truth (layer_truth values) (layer.Atom atom) ∙ atom_truth-same values others atom here ∙ sym (fold-roll-Pred Truth (layer_truth others) (layer.Atom atom));
      judged = fold-roll-Pred Bool (layer_may_test values) (layer.Atom atom) ∙ may_test_atom-same values others atom wide here ∙ sym (fold-roll-Pred Bool (layer_may_test others) (layer.Atom atom));
    }
by_layer values others (layer.All parts) wide same =
    let whole = layer.All (map (λ e. e.0) parts) in
    let each = parts_same values others parts wide (subst (All (IsSameAt values others)) (fold-roll-Pred (List ℕ) layer_named whole) same) in
    record {
      truths = fold-roll-Pred Truth (layer_truth values) whole ∙ ap all_of each.0 ∙ sym (fold-roll-Pred Truth (layer_truth others) whole);
      judged = fold-roll-Pred Bool (layer_may_test values) whole ∙ ap all_true each.1 ∙ sym (fold-roll-Pred Bool (layer_may_test others) whole);
    }
by_layer values others (layer.Any parts) wide same =
    let whole = layer.Any (map (λ e. e.0) parts) in
    let each = parts_same values others parts wide (subst (All (IsSameAt values others)) (fold-roll-Pred (List ℕ) layer_named whole) same) in
    record {
      truths = fold-roll-Pred Truth (layer_truth values) whole ∙ ap any_of each.0 ∙ sym (fold-roll-Pred Truth (layer_truth others) whole);
      judged = fold-roll-Pred Bool (layer_may_test values) whole ∙ ap all_true each.1 ∙ sym (fold-roll-Pred Bool (layer_may_test others) whole);
    }
by_layer values others (layer.Not part) wide same =
    let inner = part.1 wide (subst (All (IsSameAt values others)) (fold-roll-Pred (List ℕ) layer_named (layer.Not part.0)) same) in
    record {
      truths = fold-roll-Pred Truth (layer_truth values) (layer.Not part.0) ∙ ap not_of inner.truths ∙ sym (fold-roll-Pred Truth (layer_truth others) (layer.Not part.0));
      judged = fold-roll-Pred Bool (layer_may_test values) (layer.Not part.0) ∙ inner.judged ∙ sym (fold-roll-Pred Bool (layer_may_test others) (layer.Not part.0));
    }

-- it can't tell rows that are the same at the columns that it names
pub CantTell-same : (values others : List Value) (pred : Pred) → length values ≡ length others → All (IsSameAt values others) (named_in pred) → CantTell values others pred
CantTell-same values others pred = ind-Pred (CantTellSame values others) (λ x y is. subst (λ x. CantTellSame values others (roll-Pred x)) is (by_layer values others y)) pred

-- ---- the columns are there

lt_of_true : (i n : ℕ) → IsTrue (nat_lt i n) → i < n
lt_of_true i n h = grind (arith, nat_tests, h)

test_there : (values : List Value) (value : Value) (test : Test) → IsTrue (may_test values value test) → All (λ place. place < length values) (named_in_test test)
test_there values value (Compare op (right.Value other)) may = All-nil (λ place. place < length values)
test_there values value (Compare op (right.Column column)) may =
    All-cons (λ place. place < length values) column [] (lt_of_true column (length values) (both (has_column values column) _ may).0) (All-nil (λ place. place < length values))
test_there values value (Between low high) may = All-nil (λ place. place < length values)
test_there values value (Within them) may = All-nil (λ place. place < length values)
test_there values value IsNull may = All-nil (λ place. place < length values)

-- where a test may be judged, the columns that it names are there
pub atom_there : (values : List Value) (atom : Atom) → IsTrue (may_test_atom values atom) → All (λ place. place < length values) (named_in_atom atom)
atom_there values atom may =
    let parts = both (has_column values atom.column) (may_test values (value_at values atom.column) atom.test) may in
    All-cons (λ place. place < length values) atom.column (named_in_test atom.test) (lt_of_true atom.column (length values) parts.0)
    (test_there values (value_at values atom.column) atom.test parts.1)

-- ---- parts that are joined by AND or by OR

-- a predicate names what they name
pub named_in-joined : (part : Pred) (parts : List Pred) → (part ≡ pred.All parts) ⊎ (part ≡ pred.Any parts) → named_in part ≡ named_in_parts (map named_in parts)
named_in-joined part parts (inl is) = ap named_in (is ∙ sym (rolls-All parts)) ∙ fold-roll-Pred (List ℕ) layer_named (layer.All parts)
named_in-joined part parts (inr is) = ap named_in (is ∙ sym (rolls-Any parts)) ∙ fold-roll-Pred (List ℕ) layer_named (layer.Any parts)

-- it may be judged where each part may
pub may_judge-joined : (values : List Value) (part : Pred) (parts : List Pred) → (part ≡ pred.All parts) ⊎ (part ≡ pred.Any parts) → may_judge values part ≡ all_true (map (may_judge values) parts)
may_judge-joined values part parts (inl is) = ap (may_judge values) is ∙ may_judge-All values parts
may_judge-joined values part parts (inr is) = ap (may_judge values) is ∙ may_judge-Any values parts
