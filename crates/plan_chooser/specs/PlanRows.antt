-- The rows of a plan, and what a plan may be asked of.
use Rattle.std.specs.Prelude.{ℕ, ◌==◌, List, [], Bool, true, Option, Some, None, length, slice_get, ◌&&◌, nat_lt, unwrap_or}
use Rattle.std.specs.List.{list_any}
use Rattle.mdc_values.specs.declared.value.Value.{Value}
use Rattle.mdc_ast.specs.declared.definition.IndexDef.{IndexDef}
use Rattle.mdc_ast.specs.declared.definition.TableDef.{TableDef}
use Rattle.mdc_ast.specs.declared.span.Span.{Span}
use Rattle.mdc_ast.specs.Truth.{all_true, value_at}
use Rattle.key_codec.specs.Keys.{type_of_column}
use Rattle.key_codec.specs.Spans.{first_column, lies_in_span, span_has_kind_of}
use Rattle.cell_filter.specs.Cells.{any_true}
use Rattle.plan_chooser.specs.declared.plan.Plan.{Plan}
use Rattle.plan_chooser.specs.declared.plan.Plan.TheFolds.{fold-Plan}
use Rattle.plan_chooser.specs.declared.plan.Plan.TheOpen.{Plan-F}
use Rattle.plan_chooser.specs.declared.plan.Plan.TheOpen as layer

-- the first column of a record index, if it is there
abbrev pub column_of : Option IndexDef → ℕ
column_of None = 0
column_of (Some index) = first_column index.parts

-- the first column of the record index in a place
abbrev pub index_column : TableDef → ℕ → ℕ
index_column def index = column_of (slice_get def.indexes index)

-- one layer of a plan, told of each of its parts whether it has the row of these values
abbrev pub layer_row : TableDef → List Value → Plan-F Bool → Bool
layer_row def values layer.Scan = true
layer_row def values (layer.Blocks dim column span) = lies_in_span span (value_at values column)
layer_row def values (layer.Rids index span) = lies_in_span span (value_at values (index_column def index))
layer_row def values (layer.All parts) = all_true parts
layer_row def values (layer.Any parts) = any_true parts

-- a plan has a row of these values
abbrev pub plan_row : TableDef → List Value → Plan → Bool
plan_row def values = fold-Plan Bool (layer_row def values)

-- ---- what a plan may be asked of

-- the dimension is there and has the column, and the span is of the column's kind
abbrev pub fits_dimension : TableDef → ℕ → ℕ → Span → Bool
fits_dimension def dim column span =
    nat_lt dim (length def.dims) && list_any (λ place. place == column) (unwrap_or (slice_get def.dims dim) []) && span_has_kind_of (type_of_column def.columns column) span

-- the record index is there, and the span is of the kind of its first column
abbrev pub fits_index : TableDef → ℕ → Span → Bool
fits_index def index span = nat_lt index (length def.indexes) && span_has_kind_of (type_of_column def.columns (index_column def index)) span

-- one layer of a plan may be asked for, told so of each of its parts
abbrev pub layer_fits : TableDef → Plan-F Bool → Bool
layer_fits def layer.Scan = true
layer_fits def (layer.Blocks dim column span) = fits_dimension def dim column span
layer_fits def (layer.Rids index span) = fits_index def index span
layer_fits def (layer.All parts) = all_true parts
layer_fits def (layer.Any parts) = all_true parts

-- each part names a dimension or a record index that is there, and a span of its column's kind
abbrev pub fits_plan : TableDef → Plan → Bool
fits_plan def = fold-Plan Bool (layer_fits def)
