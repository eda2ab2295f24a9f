-- What a plan's part that fits a table says: its dimension or record index is there, and the span is of its column's kind.
use Rattle.std.proofs.Common.{◌≡◌, ◌<◌, ℕ, [], true, ap, refl, sym, ◌∙◌, subst, length}
use Rattle.std.specs.Prelude.{◌&&◌, ◌==◌, Contains, IsTrue, nat_lt, slice_get, unwrap_or}
use Rattle.std.specs.List.{list_any}
use Rattle.std.proofs.lemmas.Bool.{and_parts, ltb-true}
use Rattle.mdc_ast.specs.declared.definition.TableDef.{TableDef}
use Rattle.mdc_ast.specs.declared.span.Span.{Span}
use Rattle.key_codec.specs.Keys.{type_of_column}
use Rattle.key_codec.specs.Spans.{first_column, span_has_kind_of}
use Rattle.table_trees.specs.TableTrees.{places_of_dimension}
use Rattle.record_index.specs.RecordIndexes.{parts_of_record_index}
use Rattle.record_index.proofs.IndexesLemmas.{parts_are}
use Rattle.live_rows.proofs.StandingTwinsLemmas.{index_there}
use Rattle.plan_chooser.specs.PlanRows.{column_of, fits_dimension, fits_index, index_column}
use Rattle.plan_lists.proofs.ListedLemmas.{get_at, number_in}

pub record FitsDimension (def : TableDef) (dim column : ℕ) (span : Span) : Type 0 where
  pub low : dim < length def.dims
  pub there : Contains (places_of_dimension def dim) column
  pub kind : IsTrue (span_has_kind_of (type_of_column def.columns column) span)

pub dimension_fits : (def : TableDef) (dim column : ℕ) (span : Span) → IsTrue (fits_dimension def dim column span) → FitsDimension def dim column span
dimension_fits def dim column span h =
    let places = unwrap_or (slice_get def.dims dim) [] in
    let last = and_parts (nat_lt dim (length def.dims) && list_any (λ place. place == column) places) (span_has_kind_of (type_of_column def.columns column) span) h in
    let first = and_parts (nat_lt dim (length def.dims)) (list_any (λ place. place == column) places) last.0 in
    let low = ltb-true dim (length def.dims) first.0 in
    record {
      low = low;
      there = number_in (places_of_dimension def dim) column (subst (λ ps. list_any (λ place. place == column) ps ≡ true) (ap (λ o. unwrap_or o []) (get_at def.dims dim [] low)) first.1);
      kind = last.1;
    }

pub record FitsIndex (def : TableDef) (index : ℕ) (span : Span) : Type 0 where
  pub low : index < length def.indexes
  pub kind : IsTrue (span_has_kind_of (type_of_column def.columns (first_column (parts_of_record_index def index))) span)

pub index_fits : (def : TableDef) (index : ℕ) (span : Span) → IsTrue (fits_index def index span) → FitsIndex def index span
index_fits def index span h =
    let both = and_parts (nat_lt index (length def.indexes)) (span_has_kind_of (type_of_column def.columns (index_column def index)) span) h in
    let low = ltb-true index (length def.indexes) both.0 in
    let which = index_there def index low in
    let column : index_column def index ≡ first_column (parts_of_record_index def index) = ap column_of which.1 ∙ ap first_column (sym (parts_are def index index which.0 refl which.1)) in
    record { low = low; kind = subst (λ n. IsTrue (span_has_kind_of (type_of_column def.columns n) span)) column both.1 }
