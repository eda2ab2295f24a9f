-- What the cover of a predicate tells of a row that it may be judged on: test by test, where a source lists the column.
use Rattle.std.proofs.Common.{◌≡◌, ◌∙◌, ℕ, List, [], ◌∷◌, Bool, true, false, Some, None, map, not, refl, sym, ap, subst}
use Rattle.std.specs.Prelude.{◌&&◌, ◌||◌, Option}
use Rattle.std.specs.List.{list_all}
use Rattle.std.proofs.lemmas.Bool.{and_parts}
use Rattle.mdc_values.specs.declared.truth.Op.{Op}
use Rattle.mdc_values.specs.declared.truth.Op.TheVariants.{Equal, AtMost, AtLeast}
use Rattle.mdc_values.specs.declared.truth.Truth.{Truth}
use Rattle.mdc_values.specs.declared.truth.Truth.TheVariants.{True, False, Unknown}
use Rattle.mdc_values.specs.declared.value.Value.{Value}
use Rattle.mdc_values.specs.Order.{compared, told}
use Rattle.mdc_ast.specs.Database.{is_null}
use Rattle.mdc_ast.specs.declared.definition.TableDef.{TableDef}
use Rattle.mdc_ast.specs.declared.predicate.Atom.{Atom}
use Rattle.mdc_ast.specs.declared.predicate.Pred.{Pred}
use Rattle.mdc_ast.specs.declared.predicate.Pred.TheFolds.{fold-Pred, fold-roll-Pred, ind-Pred, map-Pred}
use Rattle.mdc_ast.specs.declared.predicate.Pred.TheOpen.{Pred-F}
use Rattle.mdc_ast.specs.declared.predicate.Pred.TheOpen as layer
use Rattle.mdc_ast.specs.declared.predicate.Pred.TheVariants.{rolls-All, rolls-Any, rolls-Atom, rolls-Not}
use Rattle.mdc_ast.specs.declared.predicate.Pred.TheViews.{roll-Pred}
use Rattle.mdc_ast.specs.declared.predicate.Right.TheVariants as right
use Rattle.mdc_ast.specs.declared.predicate.Test.{Test}
use Rattle.mdc_ast.specs.declared.predicate.Test.TheVariants.{Compare, Between, Within, IsNull}
use Rattle.mdc_ast.specs.declared.span.Span.{Span}
use Rattle.mdc_ast.specs.declared.statement.PlanMode.{PlanMode}
use Rattle.mdc_ast.specs.Truth.{all_of, all_true, and_of, atom_truth, is_true, negated_if, test_truth, truth, value_at}
use Rattle.key_codec.specs.Spans.{lies_in_span}
use Rattle.predicate.specs.Pushed.{op_if}
use Rattle.predicate.proofs.OppositeLemmas.{compared-op_if}
use Rattle.cell_filter.specs.Cells.{any_true, joined_by}
use Rattle.plan_chooser.specs.declared.cover.Cover.{Cover}
use Rattle.plan_chooser.specs.declared.plan.Source.{Source}
use Rattle.plan_chooser.specs.Covers.{joined, span_cover}
use Rattle.plan_chooser.specs.Kinds.{all_literals, layer_literals, literals_are}
use Rattle.plan_chooser.specs.Rule.{comparison_cover, cover_under, is_unequal, layer_cover, spans_cover, test_cover, turned}
use Rattle.plan_chooser.specs.Sources.{source_of}
use Rattle.plan_chooser.specs.Spans.{null_span, spans_of}
use Rattle.plan_chooser.proofs.AllowingLemmas.{IsThere, between_ok, cover_under_ok, source_there, within_ok}
use Rattle.plan_chooser.proofs.ReadingLemmas.{Reads, joined_imply, reads_imply, true_all_of, true_any_of, truth_reads}
use Rattle.plan_chooser.proofs.RowLemmas.{any_covers_row, any_plan, column_in, column_there, cover_meets, cover_row, joined_row, judged_beside, meets, meets_allowed}
use Rattle.plan_chooser.proofs.SpansLemmas.{lies_as_compared, lies_as_null, lies_in_any}

pub and-True : (a b : Truth) → and_of a b ≡ all_of (a ∷ b ∷ [])
and-True a True = refl
and-True a False = refl
and-True a Unknown = refl

pub turned_truth : (negated own : Bool) (t : Truth) → is_true (negated_if negated (negated_if own t)) ≡ is_true (negated_if (turned negated own) t)
turned_truth false own t = refl
turned_truth true false t = refl
turned_truth true true True = refl
turned_truth true true False = refl
turned_truth true true Unknown = refl

-- what a test says counts where there is a source
abbrev pub told_by : Option Source → Bool → Bool
told_by None b = true
told_by (Some source) b = b

told_if : (source : Option Source) (b : Bool) → b ≡ true → told_by source b ≡ true
told_if None b h = refl
told_if (Some source) b h = h

module _ (def : TableDef) (mode : PlanMode) (values : List Value) where
  -- ---- what is told

  -- the truth of a comparison, where a source lists the column
  abbrev pub told_comparison : ℕ → Op → Value → Bool
  told_comparison column op v = told_by (source_of def mode (is_unequal op) column) (is_true (compared op (value_at values column) v))

  -- of a test or of its negation
  abbrev pub told_test : ℕ → Bool → Test → Bool
  told_test column negated (Compare op (right.Value v)) = told_comparison column (op_if negated op) v
  told_test column negated (Compare op (right.Column other)) = true
  told_test column negated (Between low high) = joined_by (not negated) (told_comparison column (op_if negated AtLeast) low ∷ told_comparison column (op_if negated AtMost) high ∷ [])
  told_test column negated (Within vs) = joined_by negated (map (told_comparison column (op_if negated Equal)) vs)
  told_test column negated IsNull = told_by (source_of def mode false column) (is_true (negated_if negated (told (is_null (value_at values column)))))

  abbrev pub told_atom : Bool → Atom → Bool
  told_atom negated atom = told_test atom.column (turned negated atom.negated) atom.test

  abbrev layer_told : Pred-F (Bool → Bool) → Bool → Bool
  layer_told (layer.Atom atom) negated = told_atom negated atom
  layer_told (layer.All parts) negated = joined_by (not negated) (map (λ part. part negated) parts)
  layer_told (layer.Any parts) negated = joined_by negated (map (λ part. part negated) parts)
  layer_told (layer.Not part) negated = part (not negated)

  -- of a predicate or of its negation
  abbrev pub told_under : Pred → Bool → Bool
  told_under = fold-Pred (Bool → Bool) layer_told

  told_is : (y : Pred-F Pred) (negated : Bool) → told_under (roll-Pred y) negated ≡ layer_told (map-Pred Pred (Bool → Bool) told_under y) negated
  told_is y negated = ap (λ c. c negated) (fold-roll-Pred (Bool → Bool) layer_told y)

  each_told : (negated : Bool) (preds : List Pred) → map (λ part. part negated) (map told_under preds) ≡ map (λ part. told_under part negated) preds
  each_told negated [] = refl
  each_told negated (p ∷ preds) = ap (λ l. told_under p negated ∷ l) (each_told negated preds)

  pub told_reads : Reads told_atom told_under
  told_reads = record {
    on_atom = λ atom negated. ap (λ p. told_under p negated) (sym (rolls-Atom atom)) ∙ told_is (layer.Atom atom) negated;
    on_all = λ parts negated. ap (λ p. told_under p negated) (sym (rolls-All parts)) ∙ told_is (layer.All parts) negated ∙ ap (joined_by (not negated)) (each_told negated parts);
    on_any = λ parts negated. ap (λ p. told_under p negated) (sym (rolls-Any parts)) ∙ told_is (layer.Any parts) negated ∙ ap (joined_by negated) (each_told negated parts);
    on_not = λ part negated. ap (λ p. told_under p negated) (sym (rolls-Not part)) ∙ told_is (layer.Not part) negated;
  }

  -- ---- what is true is told

  comparison_told : (column : ℕ) (negated : Bool) (op : Op) (v : Value) → is_true (negated_if negated (compared op (value_at values column) v)) ≡ true → told_comparison column (op_if negated op) v ≡ true
  comparison_told column negated op v h =
      told_if (source_of def mode (is_unequal (op_if negated op)) column) (is_true (compared (op_if negated op) (value_at values column) v)) (ap is_true (compared-op_if negated op (value_at values column) v) ∙ h)

  test_told : (column : ℕ) (negated : Bool) (test : Test) → is_true (negated_if negated (test_truth values (value_at values column) test)) ≡ true → told_test column negated test ≡ true
  test_told column negated (Compare op (right.Value v)) h = comparison_told column negated op v h
  test_told column negated (Compare op (right.Column other)) h = refl
  test_told column negated (Between low high) h =
      let tests : List (Op × Value) = (AtLeast, low) ∷ (AtMost, high) ∷ [] in
      joined_imply (not negated) (λ t. is_true (negated_if negated (compared t.0 (value_at values column) t.1))) (λ t. told_comparison column (op_if negated t.0) t.1) tests
      (λ t. comparison_told column negated t.0 t.1)
      (sym (true_all_of (λ t. compared t.0 (value_at values column) t.1) negated tests) ∙ sym (ap (λ t. is_true (negated_if negated t)) (and-True (compared AtLeast (value_at values column) low) (compared AtMost (value_at values column) high))) ∙ h)
  test_told column negated (Within vs) h =
      joined_imply negated (λ v. is_true (negated_if negated (compared Equal (value_at values column) v))) (told_comparison column (op_if negated Equal)) vs
      (comparison_told column negated Equal)
      (sym (true_any_of (compared Equal (value_at values column)) negated vs) ∙ h)
  test_told column negated IsNull h = told_if (source_of def mode false column) _ h

  atom_told : (negated : Bool) (atom : Atom) → is_true (negated_if negated (atom_truth values atom)) ≡ true → told_atom negated atom ≡ true
  atom_told negated atom h = test_told atom.column (turned negated atom.negated) atom.test (sym (turned_truth negated atom.negated (test_truth values (value_at values atom.column) atom.test)) ∙ h)

  pub true_is_told : (p : Pred) → is_true (truth values p) ≡ true → told_under p false ≡ true
  true_is_told p h = reads_imply _ _ _ _ (truth_reads values) told_reads atom_told p false h

  -- ---- the cover has what is told

  spans_any : (column : ℕ) (s : Source) → IsThere def column s → (spans : List Span)
      → any_true (map (cover_row def values) (map (λ span. span_cover (record { source = s; column = column; span = span })) spans)) ≡ lies_in_any spans (value_at values column)
  spans_any column s there [] = refl
  spans_any column s there (span ∷ spans) =
      ap (λ b. b || any_true (map (cover_row def values) (map (λ span. span_cover (record { source = s; column = column; span = span })) spans)))
      (alone (lies_in_span span (value_at values (column_in def s column))) ∙ ap (λ n. lies_in_span span (value_at values n)) (column_there def column s there))
      ∙ ap (λ b. lies_in_span span (value_at values column) || b) (spans_any column s there spans)
    where
      alone : (b : Bool) → ((b && true) && true) ≡ b
      alone true = refl
      alone false = refl

  spans_row : (column : ℕ) (source : Option Source) → ((s : Source) → source ≡ Some s → IsThere def column s) → (spans : List Span)
      → cover_row def values (spans_cover source column spans) ≡ told_by source (lies_in_any spans (value_at values column))
  spans_row column None there spans = refl
  spans_row column (Some s) there spans = any_covers_row def values (map (λ span. span_cover (record { source = s; column = column; span = span })) spans) ∙ spans_any column s (there s refl) spans

  comparison_row : (column : ℕ) (op : Op) (v : Value) → cover_row def values (comparison_cover def mode column op v) ≡ told_comparison column op v
  comparison_row column op v =
      spans_row column (source_of def mode (is_unequal op) column) (source_there def mode (is_unequal op) column) (spans_of op v)
      ∙ ap (told_by (source_of def mode (is_unequal op) column)) (lies_as_compared op (value_at values column) v)

  comparisons_row : (column : ℕ) (op : Op) (vs : List Value) → map (cover_row def values) (map (comparison_cover def mode column op) vs) ≡ map (told_comparison column op) vs
  comparisons_row column op [] = refl
  comparisons_row column op (v ∷ vs) = ap (λ b. b ∷ map (cover_row def values) (map (comparison_cover def mode column op) vs)) (comparison_row column op v) ∙ ap (λ l. told_comparison column op v ∷ l) (comparisons_row column op vs)

  test_row : (column : ℕ) (negated : Bool) (test : Test) → literals_are (judged_beside values column) test ≡ true → cover_row def values (test_cover def mode column negated test) ≡ told_test column negated test
  test_row column negated (Compare op (right.Value v)) h = comparison_row column (op_if negated op) v
  test_row column negated (Compare op (right.Column other)) h = refl
  test_row column negated (Between low high) h =
      joined_row def values (not negated) (comparison_cover def mode column (op_if negated AtLeast) low ∷ comparison_cover def mode column (op_if negated AtMost) high ∷ [])
      (between_ok def (judged_beside values) (meets def values) (any_plan def values) (meets_allowed def values) mode column (op_if negated AtLeast) (op_if negated AtMost) low high h)
      ∙ ap (λ b. joined_by (not negated) (b ∷ cover_row def values (comparison_cover def mode column (op_if negated AtMost) high) ∷ [])) (comparison_row column (op_if negated AtLeast) low)
      ∙ ap (λ b. joined_by (not negated) (told_comparison column (op_if negated AtLeast) low ∷ b ∷ [])) (comparison_row column (op_if negated AtMost) high)
  test_row column negated (Within vs) h =
      joined_row def values negated (map (comparison_cover def mode column (op_if negated Equal)) vs)
      (within_ok def (judged_beside values) (meets def values) (any_plan def values) (meets_allowed def values) mode column (op_if negated Equal) vs h)
      ∙ ap (joined_by negated) (comparisons_row column (op_if negated Equal) vs)
  test_row column negated IsNull h =
      spans_row column (source_of def mode false column) (source_there def mode false column) (null_span negated ∷ [])
      ∙ ap (told_by (source_of def mode false column)) (lies_as_null negated (value_at values column))

  abbrev HasTold : Pred → Type 0
  HasTold p = (negated : Bool) → all_literals (judged_beside values) p ≡ true → cover_row def values (cover_under def mode p negated) ≡ told_under p negated

  preds_of : List ((p : Pred) × HasTold p) → List Pred
  preds_of = map (λ e. e.0)

  -- the covers of parts, each with what is known of it
  abbrev covers_of : Bool → List Pred → List Cover
  covers_of negated preds = map (λ part. part negated) (map (cover_under def mode) preds)

  parts_meet : (negated : Bool) (preds : List Pred) → all_true (map (all_literals (judged_beside values)) preds) ≡ true → list_all (cover_meets def values) (covers_of negated preds) ≡ true
  parts_meet negated [] h = refl
  parts_meet negated (p ∷ preds) h =
      let each = and_parts (all_literals (judged_beside values) p) (all_true (map (all_literals (judged_beside values)) preds)) h in
      ap (λ b. b && list_all (cover_meets def values) (covers_of negated preds))
      (cover_under_ok def (judged_beside values) (meets def values) (any_plan def values) (meets_allowed def values) mode p negated each.0)
      ∙ parts_meet negated preds each.1

  parts_row : (negated : Bool) (parts : List ((p : Pred) × HasTold p)) → all_true (map (all_literals (judged_beside values)) (preds_of parts)) ≡ true
      → map (cover_row def values) (covers_of negated (preds_of parts)) ≡ map (λ part. part negated) (map told_under (preds_of parts))
  unfolding preds_of
  parts_row negated [] h = refl
  parts_row negated (part ∷ parts) h =
      let each = and_parts (all_literals (judged_beside values) part.0) (all_true (map (all_literals (judged_beside values)) (preds_of parts))) h in
      ap (λ b. b ∷ map (cover_row def values) (covers_of negated (preds_of parts))) (part.1 negated each.0) ∙ ap (λ l. told_under part.0 negated ∷ l) (parts_row negated parts each.1)

  joined_parts : (by_and negated : Bool) (parts : List ((p : Pred) × HasTold p)) → all_true (map (all_literals (judged_beside values)) (preds_of parts)) ≡ true
      → cover_row def values (joined by_and (covers_of negated (preds_of parts))) ≡ joined_by by_and (map (λ part. part negated) (map told_under (preds_of parts)))
  joined_parts by_and negated parts h = joined_row def values by_and (covers_of negated (preds_of parts)) (parts_meet negated (preds_of parts) h) ∙ ap (joined_by by_and) (parts_row negated parts h)

  cover_is : (y : Pred-F Pred) (negated : Bool) → cover_under def mode (roll-Pred y) negated ≡ layer_cover def mode (map-Pred Pred (Bool → Cover) (cover_under def mode) y) negated
  cover_is y negated = ap (λ c. c negated) (fold-roll-Pred (Bool → Cover) (layer_cover def mode) y)

  literals_of : (y : Pred-F Pred) → all_literals (judged_beside values) (roll-Pred y) ≡ layer_literals (judged_beside values) (map-Pred Pred Bool (all_literals (judged_beside values)) y)
  literals_of y = fold-roll-Pred Bool (layer_literals (judged_beside values)) y

  by_layer : (y : Pred-F ((p : Pred) × HasTold p)) → HasTold (roll-Pred (map-Pred _ Pred (λ e. e.0) y))
  unfolding preds_of
  by_layer (layer.Atom atom) negated h =
      ap (cover_row def values) (cover_is (layer.Atom atom) negated)
      ∙ test_row atom.column (turned negated atom.negated) atom.test (sym (literals_of (layer.Atom atom)) ∙ h) ∙ sym (told_is (layer.Atom atom) negated)
  by_layer (layer.All parts) negated h =
      ap (cover_row def values) (cover_is (layer.All (preds_of parts)) negated)
      ∙ joined_parts (not negated) negated parts (sym (literals_of (layer.All (preds_of parts))) ∙ h) ∙ sym (told_is (layer.All (preds_of parts)) negated)
  by_layer (layer.Any parts) negated h =
      ap (cover_row def values) (cover_is (layer.Any (preds_of parts)) negated)
      ∙ joined_parts negated negated parts (sym (literals_of (layer.Any (preds_of parts))) ∙ h) ∙ sym (told_is (layer.Any (preds_of parts)) negated)
  by_layer (layer.Not part) negated h =
      ap (cover_row def values) (cover_is (layer.Not part.0) negated) ∙ part.1 (not negated) (sym (literals_of (layer.Not part.0)) ∙ h) ∙ sym (told_is (layer.Not part.0) negated)

  -- of a predicate that may be judged on the row
  pub cover_told : (p : Pred) (negated : Bool) → all_literals (judged_beside values) p ≡ true → cover_row def values (cover_under def mode p negated) ≡ told_under p negated
  cover_told p = ind-Pred HasTold (λ x y is. subst (λ x. HasTold (roll-Pred x)) is (by_layer y)) p
