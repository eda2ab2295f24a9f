-- The literals of predicates that may be judged.
use Rattle.std.proofs.Common.{◌≡◌, ◌∙◌, ℕ, zero, suc, ◌<◌, List, [], ◌∷◌, Bool, true, map, refl, sym, ap, subst, length, arith}
use Rattle.std.specs.Prelude.{◌&&◌}
use Rattle.std.specs.List.{list_all}
use Rattle.std.proofs.lemmas.Bool.{and_parts, false≢true, le-leb, ltb-true}
use Rattle.mdc_values.specs.declared.value.ColType.{ColType}
use Rattle.mdc_values.specs.declared.value.ColType.TheVariants as column
use Rattle.mdc_values.specs.declared.value.Value.{Value}
use Rattle.mdc_values.specs.declared.value.Value.TheVariants.{Null, Int, Text, Day}
use Rattle.mdc_values.specs.Order.{are_alike}
use Rattle.mdc_ast.specs.declared.definition.ColumnDef.{ColumnDef}
use Rattle.mdc_ast.specs.declared.definition.TableDef.{TableDef}
use Rattle.mdc_ast.specs.declared.predicate.Pred.{Pred}
use Rattle.mdc_ast.specs.declared.predicate.Pred.TheFolds.{fold-roll-Pred, ind-Pred, map-Pred}
use Rattle.mdc_ast.specs.declared.predicate.Pred.TheOpen.{Pred-F}
use Rattle.mdc_ast.specs.declared.predicate.Pred.TheOpen as layer
use Rattle.mdc_ast.specs.declared.predicate.Pred.TheViews.{roll-Pred}
use Rattle.mdc_ast.specs.declared.predicate.Right.TheVariants as right
use Rattle.mdc_ast.specs.declared.predicate.Test.{Test}
use Rattle.mdc_ast.specs.declared.predicate.Test.TheVariants.{Compare, Between, Within, IsNull}
use Rattle.mdc_ast.specs.Truth.{all_true, has_column, layer_may_test, may_judge, may_test, value_at}
use Rattle.key_codec.specs.Keys.{has_key, type_of_column}
use Rattle.key_codec.specs.Spans.{has_kind_of}
use Rattle.plan_chooser.specs.Kinds.{all_literals, has_kinds, layer_literals, literals_are, sample, samples}
use Rattle.plan_chooser.proofs.AllowingLemmas.{and-both}
use Rattle.plan_chooser.proofs.RowLemmas.{judged_beside}

-- ---- one predicate after another

-- what holds of the tests holds of the predicates
module _ (one two : Pred → Bool) where
  abbrev Implies : Pred → Type 0
  Implies p = one p ≡ true → two p ≡ true

  preds_of : List ((p : Pred) × Implies p) → List Pred
  preds_of = map (λ e. e.0)

  parts_imply : (parts : List ((p : Pred) × Implies p)) → all_true (map one (preds_of parts)) ≡ true → all_true (map two (preds_of parts)) ≡ true
  unfolding preds_of
  parts_imply [] h = refl
  parts_imply (part ∷ parts) h =
      let each = and_parts (one part.0) (all_true (map one (preds_of parts))) h in
      and-both (two part.0) (all_true (map two (preds_of parts))) (part.1 each.0) (parts_imply parts each.1)

-- ---- what may be judged has literals beside the values of the row

alike_all : (here : Bool) (v : Value) (vs : List Value) → here ≡ true → list_all (are_alike v) vs ≡ true → list_all (λ w. here && are_alike v w) vs ≡ true
alike_all here v [] there h = refl
alike_all here v (w ∷ vs) there h =
    let each = and_parts (are_alike v w) (list_all (are_alike v) vs) h in
    and-both (here && are_alike v w) (list_all (λ w. here && are_alike v w) vs) (and-both here (are_alike v w) there each.0) (alike_all here v vs there each.1)

module _ (values : List Value) where
  test_literals : (column : ℕ) (test : Test) → (has_column values column && may_test values (value_at values column) test) ≡ true → literals_are (judged_beside values column) test ≡ true
  test_literals column (Compare op (right.Value v)) h = h
  test_literals column (Compare op (right.Column other)) h = refl
  test_literals column (Between low high) h =
      let each = and_parts (has_column values column) (are_alike (value_at values column) low && are_alike (value_at values column) high) h in
      let both = and_parts (are_alike (value_at values column) low) (are_alike (value_at values column) high) each.1 in
      and-both (judged_beside values column low) (judged_beside values column high)
      (and-both (has_column values column) (are_alike (value_at values column) low) each.0 both.0) (and-both (has_column values column) (are_alike (value_at values column) high) each.0 both.1)
  test_literals column (Within vs) h =
      let each = and_parts (has_column values column) (list_all (are_alike (value_at values column)) vs) h in
      alike_all (has_column values column) (value_at values column) vs each.0 each.1
  test_literals column IsNull h = refl

  judged_is : (y : Pred-F Pred) → may_judge values (roll-Pred y) ≡ layer_may_test values (map-Pred Pred Bool (may_judge values) y)
  judged_is y = fold-roll-Pred Bool (layer_may_test values) y

  literals_of : (y : Pred-F Pred) → all_literals (judged_beside values) (roll-Pred y) ≡ layer_literals (judged_beside values) (map-Pred Pred Bool (all_literals (judged_beside values)) y)
  literals_of y = fold-roll-Pred Bool (layer_literals (judged_beside values)) y

  by_layer : (y : Pred-F ((p : Pred) × Implies (may_judge values) (all_literals (judged_beside values)) p)) → Implies (may_judge values) (all_literals (judged_beside values)) (roll-Pred (map-Pred _ Pred (λ e. e.0) y))
  unfolding preds_of
  by_layer (layer.Atom atom) h = literals_of (layer.Atom atom) ∙ test_literals atom.column atom.test (sym (judged_is (layer.Atom atom)) ∙ h)
  by_layer (layer.All parts) h =
      let preds = preds_of (may_judge values) (all_literals (judged_beside values)) parts in
      literals_of (layer.All preds) ∙ parts_imply (may_judge values) (all_literals (judged_beside values)) parts (sym (judged_is (layer.All preds)) ∙ h)
  by_layer (layer.Any parts) h =
      let preds = preds_of (may_judge values) (all_literals (judged_beside values)) parts in
      literals_of (layer.Any preds) ∙ parts_imply (may_judge values) (all_literals (judged_beside values)) parts (sym (judged_is (layer.Any preds)) ∙ h)
  by_layer (layer.Not part) h = literals_of (layer.Not part.0) ∙ part.1 (sym (judged_is (layer.Not part.0)) ∙ h)

  pub judged_literals : (p : Pred) → may_judge values p ≡ true → all_literals (judged_beside values) p ≡ true
  judged_literals p = ind-Pred (Implies (may_judge values) (all_literals (judged_beside values))) (λ x y is. subst (λ x. Implies (may_judge values) (all_literals (judged_beside values)) (roll-Pred x)) is (by_layer y)) p

-- ---- literals of one sort are of another

all_such : (such such' : Value → Bool) (vs : List Value) → ((v : Value) → such v ≡ true → such' v ≡ true) → list_all such vs ≡ true → list_all such' vs ≡ true
all_such such such' [] each h = refl
all_such such such' (v ∷ vs) each h =
    let parts = and_parts (such v) (list_all such vs) h in
    and-both (such' v) (list_all such' vs) (each v parts.0) (all_such such such' vs each parts.1)

module _ (such such' : ℕ → Value → Bool) (each : (column : ℕ) (v : Value) → such column v ≡ true → such' column v ≡ true) where
  test_such : (column : ℕ) (test : Test) → literals_are (such column) test ≡ true → literals_are (such' column) test ≡ true
  test_such column (Compare op (right.Value v)) h = each column v h
  test_such column (Compare op (right.Column other)) h = refl
  test_such column (Between low high) h =
      let both = and_parts (such column low) (such column high) h in
      and-both (such' column low) (such' column high) (each column low both.0) (each column high both.1)
  test_such column (Within vs) h = all_such (such column) (such' column) vs (each column) h
  test_such column IsNull h = refl

  such_is : (y : Pred-F Pred) → all_literals such (roll-Pred y) ≡ layer_literals such (map-Pred Pred Bool (all_literals such) y)
  such_is y = fold-roll-Pred Bool (layer_literals such) y

  such'_is : (y : Pred-F Pred) → all_literals such' (roll-Pred y) ≡ layer_literals such' (map-Pred Pred Bool (all_literals such') y)
  such'_is y = fold-roll-Pred Bool (layer_literals such') y

  such_by_layer : (y : Pred-F ((p : Pred) × Implies (all_literals such) (all_literals such') p)) → Implies (all_literals such) (all_literals such') (roll-Pred (map-Pred _ Pred (λ e. e.0) y))
  unfolding preds_of
  such_by_layer (layer.Atom atom) h = such'_is (layer.Atom atom) ∙ test_such atom.column atom.test (sym (such_is (layer.Atom atom)) ∙ h)
  such_by_layer (layer.All parts) h =
      let preds = preds_of (all_literals such) (all_literals such') parts in
      such'_is (layer.All preds) ∙ parts_imply (all_literals such) (all_literals such') parts (sym (such_is (layer.All preds)) ∙ h)
  such_by_layer (layer.Any parts) h =
      let preds = preds_of (all_literals such) (all_literals such') parts in
      such'_is (layer.Any preds) ∙ parts_imply (all_literals such) (all_literals such') parts (sym (such_is (layer.Any preds)) ∙ h)
  such_by_layer (layer.Not part) h = such'_is (layer.Not part.0) ∙ part.1 (sym (such_is (layer.Not part.0)) ∙ h)

  literals_such : (p : Pred) → all_literals such p ≡ true → all_literals such' p ≡ true
  literals_such p = ind-Pred (Implies (all_literals such) (all_literals such')) (λ x y is. subst (λ x. Implies (all_literals such) (all_literals such') (roll-Pred x)) is (such_by_layer y)) p

-- ---- a row of samples

sample_kind : (ty : ColType) (v : Value) → are_alike (sample ty) v ≡ true → has_kind_of ty v ≡ true
sample_kind column.Integer Null h = refl
sample_kind column.Integer (Int n) h = refl
sample_kind column.Integer (Text t) h = absurd (false≢true h)
sample_kind column.Integer (Day d) h = absurd (false≢true h)
sample_kind column.Bigint Null h = refl
sample_kind column.Bigint (Int n) h = refl
sample_kind column.Bigint (Text t) h = absurd (false≢true h)
sample_kind column.Bigint (Day d) h = absurd (false≢true h)
sample_kind (column.Char n) Null h = refl
sample_kind (column.Char n) (Int m) h = absurd (false≢true h)
sample_kind (column.Char n) (Text t) h = refl
sample_kind (column.Char n) (Day d) h = absurd (false≢true h)
sample_kind column.Date Null h = refl
sample_kind column.Date (Int n) h = absurd (false≢true h)
sample_kind column.Date (Text t) h = absurd (false≢true h)
sample_kind column.Date (Day d) h = refl

sample_key : (ty : ColType) → has_key ty (sample ty) ≡ true
sample_key column.Integer = refl
sample_key column.Bigint = refl
sample_key (column.Char n) = ap (λ b. b && true) (le-leb 0 n (omega arith))
sample_key column.Date = refl

-- the sample in a place is one of the column's type
sample_at : (columns : List ColumnDef) (place : ℕ) → place < length columns → (place < length (samples columns)) × (value_at (samples columns) place ≡ sample (type_of_column columns place))
sample_at [] place lt = absurd (omega (arith, lt))
sample_at (column ∷ columns) zero lt = (omega arith, refl)
sample_at (column ∷ columns) (suc place) lt =
    let rest = sample_at columns place (omega (arith, lt)) in
    (omega (arith, rest.0), rest.1)

samples_long : (columns : List ColumnDef) → length (samples columns) ≡ length columns
samples_long [] = refl
samples_long (column ∷ columns) = ap suc (samples_long columns)

pub samples_have_keys : (columns : List ColumnDef) (place : ℕ) → place < length columns → (place < length (samples columns)) × (has_key (type_of_column columns place) (value_at (samples columns) place) ≡ true)
samples_have_keys columns place lt =
    let here = sample_at columns place lt in
    (here.0, ap (has_key (type_of_column columns place)) here.1 ∙ sample_key (type_of_column columns place))

-- what may be judged on the samples is of the columns' kinds
pub judged_kinds : (def : TableDef) (p : Pred) → may_judge (samples def.columns) p ≡ true → has_kinds def p ≡ true
judged_kinds def p h =
    literals_such (judged_beside (samples def.columns)) (λ column. has_kind_of (type_of_column def.columns column))
    (λ column v beside.
    let each = and_parts (has_column (samples def.columns) column) (are_alike (value_at (samples def.columns) column) v) beside in
    let lt : column < length def.columns = subst (λ n. column < n) (samples_long def.columns) (ltb-true column (length (samples def.columns)) each.0) in
    sample_kind (type_of_column def.columns column) v (ap (λ w. are_alike w v) (sym (sample_at def.columns column lt).1) ∙ each.1))
    p (judged_literals (samples def.columns) p h)
