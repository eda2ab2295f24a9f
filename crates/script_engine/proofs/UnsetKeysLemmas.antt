-- Rows of which no column of a UNIQUE index is set keep their keys, so that nothing is said of these where nothing was.
use Rattle.std.proofs.Common.{◌≡◌, ◌∙◌, ◌++◌, ℕ, zero, suc, Bool, true, false, List, [], ◌∷◌, map, refl, sym, ap, arith, Option, if◌then◌else◌}
use Rattle.std.specs.Prelude.{◌&&◌, ◌||◌, ◌==◌, flat_map, slice_set}
use Rattle.std.proofs.lemmas.Bool.Decides.{nat_tests}
use Rattle.mdc_values.specs.declared.value.Value.{Value}
use Rattle.mdc_ast.specs.declared.bound.BoundSet.{BoundSet}
use Rattle.mdc_ast.specs.declared.definition.IndexDef.{IndexDef}
use Rattle.mdc_ast.specs.declared.definition.KeyPart.{KeyPart}
use Rattle.mdc_ast.specs.declared.predicate.Pred.{Pred}
use Rattle.mdc_ast.specs.declared.row.Row.{Row}
use Rattle.mdc_ast.specs.Truth.{qualifies, value_at}
use Rattle.mdc_ast.proofs.DefinitionsLemmas.{neither}
use Rattle.row_groups.specs.Numbers.{values_of}
use Rattle.row_groups.specs.Values.{belong_together}
use Rattle.statement_meaning.specs.Cause.{DuplicateKey, cause_if}
use Rattle.statement_meaning.specs.Doing.{changed_row, item_on, set_on, twin_causes}
use Rattle.statement_meaning.specs.Keys.{are_twins, has_twin, have_twins}
use Rattle.statement_meaning.proofs.CausesLemmas.{none_of_each}
use Rattle.mdc_sound.specs.StandsForDatabase.{rootless_index}
use Rattle.script_engine.specs.SetKeys.{is_set, sets_key, sets_unique}

-- ---- values

lower : (a b : ℕ) → (suc a == suc b) ≡ false → (a == b) ≡ false
lower a b apart = grind (arith, nat_tests, apart)

-- a value in another place stays
elsewhere : (values : List Value) (place : ℕ) (value : Value) (column : ℕ) → (place == column) ≡ false → value_at (slice_set values place value) column ≡ value_at values column
elsewhere [] place value column apart = refl
elsewhere (first ∷ values) zero value zero apart = absurd cc
elsewhere (first ∷ values) zero value (suc column) apart = refl
elsewhere (first ∷ values) (suc place) value zero apart = refl
elsewhere (first ∷ values) (suc place) value (suc column) apart = elsewhere values place value column (lower place column apart)

-- so does one that isn't set
unset_value : (was : List Value) (sets : List BoundSet) (values : List Value) (column : ℕ) → is_set sets column ≡ false → value_at (set_on was sets values) column ≡ value_at values column
unset_value was [] values column unset = refl
unset_value was (set ∷ sets) values column unset =
    let each = neither (set.column == column) (is_set sets column) unset in
    unset_value was sets (slice_set values set.column (item_on was set.item)) column each.1 ∙ elsewhere values set.column (item_on was set.item) column each.0

-- ---- rows

module _ (sets : List BoundSet) (pred : Option Pred) where
  changed_value : (row : Row) (column : ℕ) → is_set sets column ≡ false → value_at (changed_row sets pred row).values column ≡ value_at row.values column
  changed_value row column unset = by_test (qualifies pred row.values)
    where
      by_test : (b : Bool) → value_at (if b then record row { values = set_on row.values sets row.values } else row).values column ≡ value_at row.values column
      by_test true = unset_value row.values sets row.values column unset
      by_test false = refl

  module _ (parts : List KeyPart) (unset : sets_key sets parts ≡ false) where
    -- two of them have equal keys as they had
    same_twins : (a b : Row) → are_twins parts (changed_row sets pred a).values (changed_row sets pred b).values ≡ are_twins parts a.values b.values
    same_twins a b = go parts unset
      where
        go : (some : List KeyPart) → sets_key sets some ≡ false → are_twins some (changed_row sets pred a).values (changed_row sets pred b).values ≡ are_twins some a.values b.values
        go [] none = refl
        go (part ∷ some) none =
            let each = neither (is_set sets part.column) (sets_key sets some) none in
            let new_a : List Value = (changed_row sets pred a).values in
            let new_b : List Value = (changed_row sets pred b).values in
            ap (λ value. belong_together value (value_at new_b part.column) && are_twins some new_a new_b) (changed_value a part.column each.0)
            ∙ ap (λ value. belong_together (value_at a.values part.column) value && are_twins some new_a new_b) (changed_value b part.column each.0)
            ∙ ap (λ rest. belong_together (value_at a.values part.column) (value_at b.values part.column) && rest) (go some each.1)

    same_twin : (row : Row) (rows : List Row) → has_twin parts (values_of (map (changed_row sets pred) rows)) (changed_row sets pred row).values ≡ has_twin parts (values_of rows) row.values
    same_twin row [] = refl
    same_twin row (other ∷ rows) =
        ap (λ first. first || has_twin parts (values_of (map (changed_row sets pred) rows)) (changed_row sets pred row).values) (same_twins row other)
        ∙ ap (λ rest. are_twins parts row.values other.values || rest) (same_twin row rows)

    have_same : (rows : List Row) → have_twins parts (values_of (map (changed_row sets pred) rows)) ≡ have_twins parts (values_of rows)
    have_same [] = refl
    have_same (row ∷ rows) =
        ap (λ first. first || have_twins parts (values_of (map (changed_row sets pred) rows))) (same_twin row rows)
        ∙ ap (λ rest. has_twin parts (values_of rows) row.values || rest) (have_same rows)

  -- ---- what is said

  one_says : (rows : List Row) (index : IndexDef) → (index.unique && sets_key sets index.parts) ≡ false → twin_causes (values_of (map (changed_row sets pred) rows)) index ≡ twin_causes (values_of rows) index
  one_says rows index unset = by_test index.unique refl
    where
      by_test : (b : Bool) → index.unique ≡ b → twin_causes (values_of (map (changed_row sets pred) rows)) index ≡ twin_causes (values_of rows) index
      by_test true is = ap (λ twins. cause_if (index.unique && twins) (DuplicateKey index.name)) (have_same index.parts (sym (ap (λ b. b && sets_key sets index.parts) is) ∙ unset) rows)
      by_test false is =
          ap (λ b. cause_if (b && have_twins index.parts (values_of (map (changed_row sets pred) rows))) (DuplicateKey index.name)) is
          ∙ sym (ap (λ b. cause_if (b && have_twins index.parts (values_of rows)) (DuplicateKey index.name)) is)

  pub unset_says_nothing : (rows : List Row) (indexes : List IndexDef) → sets_unique sets indexes ≡ false → flat_map (twin_causes (values_of rows)) indexes ≡ []
      → flat_map (twin_causes (values_of (map (changed_row sets pred) rows))) indexes ≡ []
  unset_says_nothing rows [] unset silent = refl
  unset_says_nothing rows (index ∷ indexes) unset silent =
      let each = neither (index.unique && sets_key sets index.parts) (sets_unique sets indexes) unset in
      let said = none_of_each (twin_causes (values_of rows)) index indexes silent in
      ap (λ front. front ++ flat_map (twin_causes (values_of (map (changed_row sets pred) rows))) indexes) (one_says rows index each.0 ∙ said.0) ∙ unset_says_nothing rows indexes each.1 said.1

  -- nothing of it looks at roots
  pub rootless_unset : (indexes : List IndexDef) → sets_unique sets (map rootless_index indexes) ≡ sets_unique sets indexes
  rootless_unset [] = refl
  rootless_unset (index ∷ indexes) = ap (λ rest. (index.unique && sets_key sets index.parts) || rest) (rootless_unset indexes)
