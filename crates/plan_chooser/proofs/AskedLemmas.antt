-- What a plan that may be asked for asks, part by part, in the words of the calls on indexes.
use Rattle.std.proofs.Common.{inl, inr, ◌≡◌, ◌∙◌, ℕ, suc, ◌<◌, List, [], ◌∷◌, Bool, true, false, Some, map, refl, sym, ap, subst, get_or, length, arith}
use Rattle.std.specs.Prelude.{◌==◌, ◌&&◌, ◌||◌, Contains, IsTrue, nat_lt, slice_get, slice_index_or, unwrap_or}
use Rattle.std.specs.List.{list_any}
use Rattle.std.proofs.lemmas.Bool.{and_parts, cases_eq, false≢true, ltb-true, ne_eqb}
use Rattle.std.proofs.lemmas.List.{get_or-map}
use Rattle.std.proofs.lemmas.Option.{slice_get-get_or}
use Rattle.mdc_ast.specs.declared.definition.IndexDef.{IndexDef}
use Rattle.mdc_ast.specs.declared.definition.TableDef.{TableDef}
use Rattle.mdc_ast.specs.declared.span.Span.{Span}
use Rattle.mdc_ast.specs.Truth.{all_true}
use Rattle.key_codec.specs.Keys.{type_of_column}
use Rattle.key_codec.specs.Spans.{first_column, span_has_kind_of}
use Rattle.plan_chooser.specs.declared.plan.Plan.{Plan}
use Rattle.plan_chooser.specs.declared.plan.Plan.TheVariants as plan
use Rattle.plan_chooser.specs.PlanRows.{column_of, fits_plan, index_column}
use Rattle.plan_chooser.proofs.AllowingLemmas.{no_index}
use Rattle.plan_chooser.proofs.PlanLemmas.{fits_plan-Blocks, fits_plan-Rids}

contains_more : (n x : ℕ) (xs : List ℕ) → Contains xs n → Contains (x ∷ xs) n
contains_more n x xs (k, lt, e) = (suc k, omega (arith, lt), e)

found_in : (xs : List ℕ) (n : ℕ) → list_any (λ x. x == n) xs ≡ true → Contains xs n
found_in [] n h = absurd (false≢true h)
found_in (x ∷ xs) n h = elim (cases_eq x n) [
  | inl same ↦ (0, omega arith, same)
  | inr other ↦ contains_more n x xs (found_in xs n (sym (ap (λ b. b || list_any (λ x. x == n) xs) (ne_eqb x n other)) ∙ h))
]

-- The dimension is there and has the column, and the span is of the column's kind.
pub record AsksDimension (def : TableDef) (dim column : ℕ) (span : Span) : Type 0 where
  pub there : dim < length def.dims
  pub has : Contains (slice_index_or def.dims dim []) column
  pub kind : IsTrue (span_has_kind_of (type_of_column def.columns column) span)

-- The record index is there, and the span is of the kind of its first column, at which the rows of the plan are looked.
pub record AsksIndex (def : TableDef) (index : ℕ) (span : Span) : Type 0 where
  pub there : index < length def.indexes
  pub kind : IsTrue (span_has_kind_of (type_of_column def.columns (first_column (slice_index_or (map (λ which. which.parts) def.indexes) index []))) span)
  pub column : index_column def index ≡ first_column (slice_index_or (map (λ which. which.parts) def.indexes) index [])

module _ (def : TableDef) where
  pub asks_dimension : (dim column : ℕ) (span : Span) → fits_plan def (plan.Blocks dim column span) ≡ true → AsksDimension def dim column span
  asks_dimension dim column span h =
      let places = unwrap_or (slice_get def.dims dim) [] in
      let kind = and_parts (nat_lt dim (length def.dims) && list_any (λ place. place == column) places) (span_has_kind_of (type_of_column def.columns column) span) (sym (fits_plan-Blocks def dim column span) ∙ h) in
      let each = and_parts (nat_lt dim (length def.dims)) (list_any (λ place. place == column) places) kind.0 in
      let lt = ltb-true dim (length def.dims) each.0 in
      record {
        there = lt;
        has = found_in (slice_index_or def.dims dim []) column (sym (ap (λ o. list_any (λ place. place == column) (unwrap_or o [])) (slice_get-get_or def.dims dim [] lt)) ∙ each.1);
        kind = kind.1;
      }

  pub asks_index : (index : ℕ) (span : Span) → fits_plan def (plan.Rids index span) ≡ true → AsksIndex def index span
  asks_index index span h =
      let each = and_parts (nat_lt index (length def.indexes)) (span_has_kind_of (type_of_column def.columns (index_column def index)) span) (sym (fits_plan-Rids def index span) ∙ h) in
      let lt = ltb-true index (length def.indexes) each.0 in
      let column : index_column def index ≡ first_column (slice_index_or (map (λ which. which.parts) def.indexes) index []) =
      ap column_of (slice_get-get_or def.indexes index no_index lt) ∙ ap first_column (sym (get_or-map (λ which. which.parts) def.indexes index no_index [] lt)) in
      record {
        there = lt;
        kind = ap (λ n. span_has_kind_of (type_of_column def.columns n) span) (sym column) ∙ each.1;
        column = column;
      }
