-- The plan rule looks at no root: a definition without roots has the plans of the one with them.
use Rattle.std.proofs.Common.{◌≡◌, ◌∙◌, ◌+◌, ℕ, Bool, false, List, [], ◌∷◌, length, map, refl, sym, ap, subst, cond, Option, Some, None}
use Rattle.std.specs.Prelude.{nat_lt, not, ◌&&◌, if◌then◌else◌, position}
use Rattle.std.specs.List.{position_or_len}
use Rattle.std.proofs.lemmas.List.{length-map}
use Rattle.mdc_values.specs.declared.truth.Op.{Op}
use Rattle.mdc_values.specs.declared.truth.Op.TheVariants.{AtLeast, AtMost, Equal}
use Rattle.mdc_values.specs.declared.value.Value.{Value}
use Rattle.mdc_ast.specs.declared.definition.IndexDef.{IndexDef}
use Rattle.mdc_ast.specs.declared.definition.TableDef.{TableDef}
use Rattle.mdc_ast.specs.declared.predicate.Pred.{Pred}
use Rattle.mdc_ast.specs.declared.predicate.Pred.TheFolds.{fold-roll-Pred, ind-Pred, map-Pred}
use Rattle.mdc_ast.specs.declared.predicate.Pred.TheOpen.{Pred-F}
use Rattle.mdc_ast.specs.declared.predicate.Pred.TheOpen as layer
use Rattle.mdc_ast.specs.declared.predicate.Pred.TheViews.{roll-Pred}
use Rattle.mdc_ast.specs.declared.predicate.Right.TheVariants as right
use Rattle.mdc_ast.specs.declared.predicate.Test.{Test}
use Rattle.mdc_ast.specs.declared.predicate.Test.TheVariants.{Compare, Between, Within, IsNull}
use Rattle.mdc_ast.specs.declared.statement.PlanMode.{PlanMode}
use Rattle.mdc_ast.specs.declared.statement.PlanMode.TheVariants as mode
use Rattle.mdc_sound.specs.StandsForDatabase.{rootless, rootless_index}
use Rattle.predicate.specs.Pushed.{op_if}
use Rattle.plan_chooser.specs.declared.cover.Cover.{Cover}
use Rattle.plan_chooser.specs.Covers.{joined, plan_of_cover}
use Rattle.plan_chooser.specs.Rule.{comparison_cover, cover_under, is_unequal, layer_cover, plan_of, spans_cover, test_cover, turned}
use Rattle.plan_chooser.specs.Sources.{begins_with, dimension_of, source_at, source_of, takes_blocks, takes_records}
use Rattle.plan_chooser.specs.Spans.{null_span, spans_of}

-- the earliest record index that begins with a column
place_or_len : (column : ℕ) (indexes : List IndexDef) → position_or_len (λ index. begins_with index.parts column) (map rootless_index indexes) ≡ position_or_len (λ index. begins_with index.parts column) indexes
place_or_len column [] = refl
place_or_len column (index ∷ indexes) = ap (λ n. cond (not (begins_with index.parts column)) (1 + n) 0) (place_or_len column indexes)

place_same : (column : ℕ) (indexes : List IndexDef) → position (λ index. begins_with index.parts column) (map rootless_index indexes) ≡ position (λ index. begins_with index.parts column) indexes
place_same column indexes =
    let place : ℕ = position_or_len (λ (index : IndexDef). begins_with index.parts column) indexes in
    ap (λ n. cond (nat_lt n (length (map rootless_index indexes))) (Some n) None) (place_or_len column indexes)
    ∙ ap (λ n. cond (nat_lt place n) (Some place) None) (length-map indexes rootless_index)

module _ (def : TableDef) (mode : PlanMode) where
  -- where a column's values are listed
  source_same : (unequal : Bool) (column : ℕ) → source_of (rootless def) mode unequal column ≡ source_of def mode unequal column
  source_same unequal column =
      ap (λ (index : Option ℕ). source_at (if takes_blocks mode then dimension_of def column else None) (if takes_records mode && not unequal then index else None)) (place_same column def.indexes)

  -- ---- tests

  comparison_same : (column : ℕ) (op : Op) (value : Value) → comparison_cover (rootless def) mode column op value ≡ comparison_cover def mode column op value
  comparison_same column op value = ap (λ source. spans_cover source column (spans_of op value)) (source_same (is_unequal op) column)

  each_same : (column : ℕ) (op : Op) (values : List Value) → map (comparison_cover (rootless def) mode column op) values ≡ map (comparison_cover def mode column op) values
  each_same column op [] = refl
  each_same column op (value ∷ values) =
      ap (λ c. c ∷ map (comparison_cover (rootless def) mode column op) values) (comparison_same column op value)
      ∙ ap (λ l. comparison_cover def mode column op value ∷ l) (each_same column op values)

  test_same : (column : ℕ) (negated : Bool) (test : Test) → test_cover (rootless def) mode column negated test ≡ test_cover def mode column negated test
  test_same column negated (Compare op (right.Value value)) = comparison_same column (op_if negated op) value
  test_same column negated (Compare op (right.Column other)) = refl
  test_same column negated (Between low high) =
      ap (joined (not negated))
      (ap (λ c. c ∷ comparison_cover (rootless def) mode column (op_if negated AtMost) high ∷ []) (comparison_same column (op_if negated AtLeast) low)
      ∙ ap (λ c. comparison_cover def mode column (op_if negated AtLeast) low ∷ c ∷ []) (comparison_same column (op_if negated AtMost) high))
  test_same column negated (Within values) = ap (joined negated) (each_same column (op_if negated Equal) values)
  test_same column negated IsNull = ap (λ source. spans_cover source column (null_span negated ∷ [])) (source_same false column)

  -- ---- predicates

  -- the covers of a predicate and of its negation
  abbrev pub HasSame : Pred → Type 0
  HasSame p = (negated : Bool) → cover_under (rootless def) mode p negated ≡ cover_under def mode p negated

  cover_is : (d : TableDef) (y : Pred-F Pred) (negated : Bool) → cover_under d mode (roll-Pred y) negated ≡ layer_cover d mode (map-Pred Pred (Bool → Cover) (cover_under d mode) y) negated
  cover_is d y negated = ap (λ c. c negated) (fold-roll-Pred (Bool → Cover) (layer_cover d mode) y)

  parts_same : (negated : Bool) (parts : List ((p : Pred) × HasSame p))
      → map (λ part. part negated) (map (cover_under (rootless def) mode) (map (λ e. e.0) parts)) ≡ map (λ part. part negated) (map (cover_under def mode) (map (λ e. e.0) parts))
  parts_same negated [] = refl
  parts_same negated (part ∷ parts) =
      ap (λ c. c ∷ map (λ part. part negated) (map (cover_under (rootless def) mode) (map (λ e. e.0) parts))) (part.1 negated)
      ∙ ap (λ l. cover_under def mode part.0 negated ∷ l) (parts_same negated parts)

  by_layer : (y : Pred-F ((p : Pred) × HasSame p)) → HasSame (roll-Pred (map-Pred _ Pred (λ e. e.0) y))
  by_layer (layer.Atom atom) negated =
      cover_is (rootless def) (layer.Atom atom) negated ∙ (test_same atom.column (turned negated atom.negated) atom.test ∙ sym (cover_is def (layer.Atom atom) negated))
  by_layer (layer.All parts) negated =
      cover_is (rootless def) (layer.All (map (λ e. e.0) parts)) negated ∙ (ap (joined (not negated)) (parts_same negated parts) ∙ sym (cover_is def (layer.All (map (λ e. e.0) parts)) negated))
  by_layer (layer.Any parts) negated =
      cover_is (rootless def) (layer.Any (map (λ e. e.0) parts)) negated ∙ (ap (joined negated) (parts_same negated parts) ∙ sym (cover_is def (layer.Any (map (λ e. e.0) parts)) negated))
  by_layer (layer.Not part) negated =
      cover_is (rootless def) (layer.Not part.0) negated ∙ (part.1 (not negated) ∙ sym (cover_is def (layer.Not part.0) negated))

  cover_same : (p : Pred) (negated : Bool) → cover_under (rootless def) mode p negated ≡ cover_under def mode p negated
  cover_same p = ind-Pred HasSame (λ x y is. subst (λ x. HasSame (roll-Pred x)) is (by_layer y)) p

-- the plan of a predicate
pub plan_rootless : (def : TableDef) (mode : PlanMode) (pred : Option Pred) → plan_of (rootless def) mode pred ≡ plan_of def mode pred
plan_rootless def mode None = refl
plan_rootless def mode.Scan (Some pred) = refl
plan_rootless def mode.Auto (Some pred) = ap plan_of_cover (cover_same def mode.Auto pred false)
plan_rootless def mode.Block (Some pred) = ap plan_of_cover (cover_same def mode.Block pred false)
plan_rootless def mode.Record (Some pred) = ap plan_of_cover (cover_same def mode.Record pred false)
